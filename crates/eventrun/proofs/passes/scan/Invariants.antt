use Prim.Native.Nat.{◌-◌}
use lib.ListN.{length}
use Rattle.eventrun.proofs.ScanLaws.{Scanning}
use Rattle.eventrun.proofs.passes.scan.Given as goal

abbrev pub invariant-records : goal.invariant-records
invariant-records l = Scanning l.file l.t l.initial.rec l.rec l.count l.at

abbrev pub decreases-records : goal.decreases-records
decreases-records l = length l.file - l.at
