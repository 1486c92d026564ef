use Rattle.std.proofs.Common.{ap}
use borrow.Author.Tests.{ne_eqb}
use Rattle.seek.specs.Rules.{known_of}
use Rattle.seek.proofs.SearchLaws.{judge-loses}
use Rattle.seeking.proofs.seek_judge.Goals as goal

pub returns-in_default-proven : goal.returns-in_default-proven
returns-in_default-proven c =
    let a = c.args in
    judge-loses a.s a.answered a.now a.timeout a.gap c.in-Some.is c.is_lost.ensures
    (rw (ne_eqb _ _ c.if-s-eq0.false, c.if-not-is_lost.false)) (ap (known_of 27) c.in_default-proven.is) c.drop_out.ensures

pub returns : goal.returns
returns c =
    let a = c.args in
    judge-loses a.s a.answered a.now a.timeout a.gap c.in-Some.is c.is_lost.ensures
    (rw (ne_eqb _ _ c.if-s-eq0.false, c.if-not-is_lost.false)) (ap (known_of 27) c.in-Some-proven.is) c.drop_out-2.ensures
