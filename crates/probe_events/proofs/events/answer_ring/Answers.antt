use mathlib.Core.Path.{sym, ◌∙◌}
use native.Mathlib.Omega.{arith}
use borrow.Author.Rules.{rules}
use Rattle.ring.specs.Ring.{is_probe}
use Rattle.ring.proofs.PlaceLaws.{place_none, place_some}
use Rattle.rows.specs.View.{path_in}
use Rattle.rows.proofs.ViewLaws.{ring-length, late-length}
use Rattle.probe_events.proofs.EventLaws.{answer-in-time, answer-late, answer-unknown}
use Rattle.probe_events.proofs.events.answer_ring.Goals as goal

pub returns-in-Some : goal.returns-in-Some
returns-in-Some c =
    let f = place_some (is_probe c.args.id) (path_in c.args.p.now).ring (ring-length _ (search rules)) (sym c.in-Some.is ∙ c.find-place.ensures) in
    answer-in-time c.args.p.now _ f.0 f.1 c.ids.ensures c.answered_ids-after.ensures c.take_out.ensures c.set_id.ensures c.set_misses.ensures

pub returns-in-Some-find_late : goal.returns-in-Some-find_late
returns-in-Some-find_late c =
    let f = place_none (is_probe c.args.id) (path_in c.args.p.now).ring (ring-length _ (search rules)) (sym c.in_default.is ∙ c.find-place.ensures) in
    let g = place_some (is_probe c.args.id) (path_in c.args.p.now).late (late-length _ (search rules)) (sym c.in-Some-find_late.is ∙ c.find_late.ensures) in
    answer-late c.args.p.now _ f (omega arith) g.0 g.1 c.none.ensures c.set_late.ensures

pub returns : goal.returns
returns c =
    let f = place_none (is_probe c.args.id) (path_in c.args.p.now).ring (ring-length _ (search rules)) (sym c.in_default.is ∙ c.find-place.ensures) in
    let g = place_none (is_probe c.args.id) (path_in c.args.p.now).late (late-length _ (search rules)) (sym c.in_default-find_late.is ∙ c.find_late.ensures) in
    answer-unknown c.args.p.now _ f (omega arith) g (omega arith)
