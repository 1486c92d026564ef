use Rattle.std.proofs.Common.{sym, ◌∙◌, rules}
use Rattle.rows.proofs.ViewLaws.{spans-length}
use Rattle.time_events.proofs.StoreLaws.{spans-part, dropping-start, dropping-take, dropping-skip}
use Rattle.time_events.proofs.horizon.forget.Goals as goal
use Rattle.time_events.proofs.horizon.forget.Goals.{then-is_past, else-is_past}

pub loop-i-init : goal.loop-i-init
loop-i-init c = dropping-start spans-part (spans-length _ (search rules))

pub loop-i-preserved : goal.loop-i-preserved
loop-i-preserved c =
    elim c.if-is_past.branch [
      | then-is_past w ↦ rw w.p-is
          (dropping-take spans-part _ c.loop-i.invariant (search rules) c.span.ensures (sym c.is_past.ensures ∙ w.if-is_past.true) w.none.ensures w.set_span.ensures)
      | else-is_past w ↦ rw w.p-is
          (dropping-skip spans-part _ c.loop-i.invariant (search rules) c.span.ensures (sym c.is_past.ensures ∙ w.if-is_past.false))
    ]
