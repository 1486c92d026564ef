use mathlib.Core.Bool.{false}
use Rattle.rows.specs.View.{path_in}
use Rattle.waiting.proofs.SoughtLaws.{Sought}
use Rattle.ring.specs.Lapse.{is_passed}
use Rattle.probe_events.proofs.lapse.first_due.Given as goal

abbrev pub invariant-loop-i : goal.invariant-loop-i
invariant-loop-i l = Sought (is_passed l.last false) (path_in l.p).ring 8 l.i
