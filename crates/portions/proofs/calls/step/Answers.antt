use mathlib.Core.Bool.{true, false}
use mathlib.Core.Path.{sym, ◌∙◌}
use borrow.Author.Tests.{eq-eqb, ne_eqb}
use Rattle.session.specs.Words.{session_in}
use Rattle.session.proofs.StepLaws.{step-as, step-stay, step-fresh, step-large, ran-small}
use Rattle.session.proofs.StepLaws.{ran-in, ran-short, ran-large, allowed-by, fresh-by, kept_by}
use Rattle.portions.proofs.calls.step.Goals as goal

pub returns-then-out-lt84 : goal.returns-then-out-lt84
returns-then-out-lt84 c = let a = c.args in let t = a.t.now in let w = a.rec.now in let s = session_in t w a.mark in let l = a.s.now in let o = a.out.now in step-stay _ t w a.mark l o true (ran-small o s l c.if-out-lt84.true) c.stay.ensures

pub returns-then-s-lt32 : goal.returns-then-s-lt32
returns-then-s-lt32 c = let a = c.args in let t = a.t.now in let w = a.rec.now in let s = session_in t w a.mark in let l = a.s.now in let o = a.out.now in step-stay _ t w a.mark l o false (ran-short o s l c.if-out-lt84.false c.in-Settings.is c.if-s-lt32.true) c.stay-then-s-lt32.ensures

pub returns-then-number_of-eq0 : goal.returns-then-number_of-eq0
returns-then-number_of-eq0 c = let a = c.args in let t = a.t.now in let w = a.rec.now in let s = session_in t w a.mark in let l = a.s.now in let o = a.out.now in let y = sym (allowed-by l c.settings_from.ensures c.new-reply.ensures.0 c.number_of.ensures) ∙ eq-eqb _ _ c.if-number_of-eq0.true in step-fresh t w o s l c.if-out-lt84.false c.in-Settings.is c.if-s-lt32.false y (fresh-by l t w c.settings_from.ensures y c.new-reply.ensures.1 c.new-reply.ensures.2) c.run.ensures

pub returns-else-number_of-eq0 : goal.returns-else-number_of-eq0
returns-else-number_of-eq0 c = let a = c.args in let t = a.t.now in let w = a.rec.now in let s = session_in t w a.mark in let l = a.s.now in let o = a.out.now in let y = sym (allowed-by l c.settings_from.ensures c.new-reply.ensures.0 c.number_of.ensures) ∙ ne_eqb _ _ c.if-number_of-eq0.false in let q = kept_by l t w c.settings_from.ensures y c.new-reply.ensures.1 c.new-reply.ensures.2 in step-large t w a.mark l o c.if-out-lt84.false (ran-large o s l c.if-out-lt84.false c.in-Settings.is c.if-s-lt32.false y) q.0 q.1 c.put_line-wrote.ensures.0 c.put_line-wrote.ensures.2

pub returns-in-Running : goal.returns-in-Running
returns-in-Running c = let a = c.args in let t = a.t.now in let w = a.rec.now in let s = session_in t w a.mark in let l = a.s.now in let o = a.out.now in step-as _ s l (ran-in o s l c.if-out-lt84.false c.in-Running.is) c.run-in-Running.ensures

pub returns-in-Over : goal.returns-in-Over
returns-in-Over c = let a = c.args in let t = a.t.now in let w = a.rec.now in let s = session_in t w a.mark in let l = a.s.now in let o = a.out.now in step-stay _ t w a.mark l o false (ran-in o s l c.if-out-lt84.false c.in-Over.is) c.stay-in-Over.ensures
