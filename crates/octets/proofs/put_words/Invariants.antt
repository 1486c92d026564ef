use mathlib.Core.List.{[]}
use lib.ListN.{length}
use Rattle.octets.specs.Octets.{le}
use Rattle.octets.proofs.Fill.{Filling}
use Rattle.octets.proofs.put_words.Given as goal

abbrev pub invariant-loop-w : goal.invariant-loop-w
invariant-loop-w l = Filling (le 8) 8 l.words (length l.words) l.initial.out [] l.out l.at l.w-index
