use Prim.Native.Nat.{◌*◌}
use Rattle.image.proofs.PartLaws.{Putting}
use Rattle.image.proofs.parts.write_all.Given as goal

abbrev pub invariant-loop-x : goal.invariant-loop-x
invariant-loop-x g l = Putting g.T.Element.words (8 * g.row.W) l.items g.row.N l.initial.out l.out l.at l.x-index
