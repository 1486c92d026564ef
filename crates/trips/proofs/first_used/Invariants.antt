-- `trips::first_used` meets its contract.
use Rattle.base.proofs.SeqLaws.{Searched}
use Rattle.rows.specs.View.{path_in}
use Rattle.rtt.specs.Samples.{is_sample}
use Rattle.trips.proofs.first_used.Given as goal

abbrev pub invariant-loop-i : goal.invariant-loop-i
invariant-loop-i l = Searched is_sample (path_in l.p).rtts.samples 32 l.i
