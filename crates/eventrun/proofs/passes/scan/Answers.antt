use borrow.Author.Rules.{rules}
use native.Mathlib.Omega.{arith}
use Prim.Native.Nat.{◌<◌, ◌^◌}
use lib.ListN.{length}
use mathlib.Core.Path.{sym, ◌∙◌}
use Rattle.eventrun.proofs.ScanLaws.{scanning-start, scanning-end, scanning-refused, scanning-next, next-after}
use Rattle.eventrun.proofs.passes.scan.Goals as goal

pub records-init : goal.records-init
records-init c = scanning-start _ _ _

pub returns-in-End : goal.returns-in-End
returns-in-End c = scanning-end c.records.invariant c.record_at.ensures c.in-End.is

pub returns-in-Refused : goal.returns-in-Refused
returns-in-Refused c = scanning-refused c.records.invariant c.record_at.ensures c.in-Refused.is

pub overflow_add-count : goal.overflow_add-count
overflow_add-count c =
    let h : length c.args.file.now < 2 ^ 64 = search rules in
    let n = next-after _ _ (sym c.record_at.ensures ∙ c.in-Event.is) in
    omega (arith, h, n.0, n.1, c.records.invariant.few)

pub records-smaller : goal.records-smaller
records-smaller c =
    let n = next-after _ _ (sym c.record_at.ensures ∙ c.in-Event.is) in
    omega (arith, n.0, n.1)

pub records-preserved : goal.records-preserved
records-preserved c =
    scanning-next c.records.invariant c.tell.result c.record_at.ensures c.in-Event.is c.event_row.ensures.1 c.tell.ensures
