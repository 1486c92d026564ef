use borrow.Author.Rules.{rules}
use Rattle.session.proofs.WholeLaws.{ended, place_in, wrote-in, file-done, file-lent}
use Rattle.portions.proofs.whole.lines_of_file.Goals as goal

pub returns-then-out-s : goal.returns-then-out-s
returns-then-out-s c = file-lent c.args.s.now c.args.out.now c.if-out-s.true

pub slice_bounds-finish-count : goal.slice_bounds-finish-count
slice_bounds-finish-count c = let h = place_in (ended c.args.s.now c.args.out.now c.if-out-s.false c.begin-mark.ensures c.step-r.ensures) in search rules

pub slice_bounds-finish-start : goal.slice_bounds-finish-start
slice_bounds-finish-start c = let h = place_in (ended c.args.s.now c.args.out.now c.if-out-s.false c.begin-mark.ensures c.step-r.ensures) in search rules

pub slice_bounds-finish-count-2 : goal.slice_bounds-finish-count-2
slice_bounds-finish-count-2 c = let h = wrote-in (ended c.args.s.now c.args.out.now c.if-out-s.false c.begin-mark.ensures c.step-r.ensures) in search rules

pub slice_bounds-finish-start-2 : goal.slice_bounds-finish-start-2
slice_bounds-finish-start-2 c = let h = wrote-in (ended c.args.s.now c.args.out.now c.if-out-s.false c.begin-mark.ensures c.step-r.ensures) in search rules

pub returns : goal.returns
returns c = file-done (ended c.args.s.now c.args.out.now c.if-out-s.false c.begin-mark.ensures c.step-r.ensures) c.finish-k.ensures
