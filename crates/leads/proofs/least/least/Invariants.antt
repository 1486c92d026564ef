-- `leads::least::least` meets its contract: of the keys seen the least is held, with its place.
use Rattle.leads.proofs.LoopLaws.{Leading}
use Rattle.leads.proofs.least.least.Given as goal

abbrev pub invariant-loop-i : goal.invariant-loop-i
invariant-loop-i l = Leading l.fn.keys l.key l.at l.i
