use mathlib.Core.Path.{sym, ◌∙◌}
use native.Mathlib.Omega.{arith}
use borrow.Author.Rules.{rules}
use Rattle.ring.specs.Ring.{is_free}
use Rattle.ring.proofs.PlaceLaws.{place_none, place_some}
use Rattle.rows.specs.View.{path_in}
use Rattle.rows.proofs.ViewLaws.{ring-length}
use Rattle.probe_events.proofs.EventLaws.{send-long, send-full, send-made}
use Rattle.probe_events.proofs.events.probe.Goals as goal

pub returns-then-e-gt-MAX_LEN : goal.returns-then-e-gt-MAX_LEN
returns-then-e-gt-MAX_LEN c = send-long c.args.p.now _ _ _ _ c.if-e-gt-MAX_LEN.true

pub returns-in_default : goal.returns-in_default
returns-in_default c =
    let f = place_none is_free (path_in c.args.p.now).ring (ring-length _ (search rules)) (sym c.in_default.is ∙ c.first_free-place.ensures) in
    send-full c.args.p.now _ _ _ _ c.if-e-gt-MAX_LEN.false f (omega arith)

pub returns : goal.returns
returns c =
    let f = place_some is_free (path_in c.args.p.now).ring (ring-length _ (search rules)) (sym c.in-Some.is ∙ c.first_free-place.ensures) in
    send-made c.args.p.now _ _ _ _ c.if-e-gt-MAX_LEN.false f.0 f.1 c.drop_since.ensures c.ids-kept.ensures c.taken-id.ensures c.next_ids-after.ensures c.quiet.ensures c.from.ensures c.ladder.ensures c.set_sent.ensures c.set_id.ensures c.set_quiet.ensures c.set_ladder.ensures
