use Rattle.ring.specs.Ring.{no_sent}
use Rattle.ring.specs.declared.types.Sent.{Sent}
use Rattle.base.proofs.SeqLaws.{Packing}
use Rattle.ring.proofs.ring.compact.Given as goal

abbrev pub invariant-loop-s : goal.invariant-loop-s
invariant-loop-s l = Packing (λ (s : Sent). s.used) no_sent l.fn.ring 8 l.out l.w l.s-index
