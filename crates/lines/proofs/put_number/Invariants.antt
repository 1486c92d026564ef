-- `lines::put_number` meets its contract: the digits are written from the last to the first.
use Rattle.lines.proofs.TextLaws.{Spelt}
use Rattle.lines.proofs.put_number.Given as goal

abbrev pub invariant-loop-i : goal.invariant-loop-i
invariant-loop-i l = Spelt l.initial.out l.x l.k l.out l.i l.rest
