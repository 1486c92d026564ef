-- `spans::span` meets its contract: the two ways of SpanLaws.
use Rattle.rtt.proofs.SpanLaws.{span-joins, span-opens, joins-none}
use borrow.Author.Rules.{rules}
use lib.ListN.{length}
use mathlib.Core.Path.{◌≡◌, sym, ◌∙◌}
use native.Mathlib.Omega.{arith}
use Rattle.spans.proofs.span.Goals as goal
use Rattle.spans.proofs.span.Goals.{else-slot-lt-SPANS-via-then-slot-lt-SPANS+else-joins, else-slot-lt-SPANS-via-else-slot-lt-SPANS}

pub returns-then-joins : goal.returns-then-joins
returns-then-joins c =
    span-joins _ _ _ _ c.drop_past.ensures c.newest-slot.ensures (sym c.joins.ensures ∙ c.if-joins.true) c.joined.ensures

pub returns : goal.returns
returns c =
    let l = c.drop_past.new.spans in
    let h : length l ≡ 8 = search rules in
    span-opens _ _ _ _ c.drop_past.ensures c.newest-slot.ensures
    (elim c.else-slot-lt-SPANS.branch [
      | else-slot-lt-SPANS-via-then-slot-lt-SPANS+else-joins w ↦ sym w.joins.ensures ∙ w.if-joins.false
      | else-slot-lt-SPANS-via-else-slot-lt-SPANS w ↦ joins-none _ _ l c.newest-slot.result (omega (arith, w.if-slot-lt-SPANS.false))
    ])
    c.opened.ensures
