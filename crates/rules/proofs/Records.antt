-- On every record that a list of events makes its rings are closed up, with no premise at all; under demand 3's premises
-- no identifier stands twice in one. Two slots can be put in either order.
-- Assumes nothing.
use Prim.Native.Nat.{ℕ, ◌≤◌}
use mathlib.Core.Bool.{true}
use mathlib.Core.Path.{◌≡◌, refl, ap, ◌∙◌}
use mathlib.Core.List.{List, map, map-map}
use native.Mathlib.Omega.{arith}
use lib.Seq.{set_comm}
use Rattle.base.proofs.BookLaws.{holds_kept}
use Rattle.ring.specs.Ring as ring
use Rattle.ring.specs.Ring.{no_sent, is_used, Closed}
use Rattle.ring.specs.declared.types.Sent.{Sent}
use Rattle.rules.specs.Step.{allowed, put}
use Rattle.rules.specs.Demand3.{FewDraws, slot_after, book_after}
use Rattle.rules.specs.declared.types.Settings.{Settings}
use Rattle.rules.specs.declared.types.Event.{Event}
use Rattle.rules.specs.declared.types.Slot.{Slot}
use Rattle.rules.specs.declared.types.Record.{Record}
use Rattle.rules.specs.declared.types.Turn.{Turn}
use Rattle.rules.proofs.Laws.{occ}
use Rattle.rules.proofs.Line.{probe_of, id_of}
use Rattle.rules.proofs.Whole.{good-after}
use Rattle.rules.proofs.Measures.{path-after}

-- "the ring closes up in its order"
pub ring-closed : (t : Settings) (es : List Event) (j : ℕ) → Closed (slot_after t es j).path.ring
ring-closed t es j = (path-after t es j).closed

abbrev ids_of : List Sent → List ℕ
ids_of l = map (λ s. s.probe_id) (ring.waiting l)

module _ (t : Settings) (es : List Event) (small : allowed t ≡ true) (few : FewDraws t es) (j : ℕ) where
  abbrev ring_after : List Sent
  ring_after = (slot_after t es j).path.ring

  abbrev waiting_after : List Sent
  waiting_after = map probe_of (book_after t es j).probes.waiting

  kept : ring.waiting ring_after ≡ waiting_after
  kept = holds_kept is_used no_sent refl ((good-after t small es few).slots j).line.ring

  -- no two waiting probes have one identifier
  pub ring-distinct : (id : ℕ) → occ id (ids_of ring_after) ≤ 1
  ring-distinct id =
      let same : ids_of ring_after ≡ map id_of (book_after t es j).probes.waiting =
      ap (map (λ (s : Sent). s.probe_id)) kept
      ∙ map-map (λ (s : Sent). s.probe_id) probe_of (book_after t es j).probes.waiting in
      omega (arith, ap (occ id) same, ((good-after t small es few).slots j).line.one id)

-- two slots that differ can be put in either order
pub puts-commute : (r : Record) (i j : ℕ) (u v : Turn) → (i ≡ j → ⊥)
    → (put (put r i u).next j v).next ≡ (put (put r j v).next i u).next
puts-commute r i j u v h = ap (λ (l : List Slot). record { settings = r.settings; slots = l })
    (set_comm r.slots i j u.slot v.slot h)
