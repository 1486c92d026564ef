-- A slot stored whole, an answer by its two parts, and a refusal before the work.
-- Assumes nothing.
use Rattle.std.specs.Prelude.{Result, Ok, Err}
use Prim.Native.Nat.{ℕ}
use mathlib.Core.Path.{◌≡◌, refl, ap, sym, subst, ◌∙◌}
use mathlib.Core.Bool.{Bool, true, false, ◌||◌}
use mathlib.Core.List.{List}
use lib.Dec.{eqb, ltb}
use Rattle.base.specs.declared.types.Refusal.{Refusal}
use Rattle.base.specs.declared.types.Refusal.TheVariants as refusal
use Rattle.base.proofs.Cases.{never, on-flag}
use Rattle.live.specs.Probe.{answer_of}
use Rattle.live.specs.declared.types.Outcome.{Outcome}
use Rattle.rules.specs.Rules.{turn, turn_by, answered, refusals, on_slot}
use Rattle.rules.specs.declared.types.Turn.{Turn}
use Rattle.rules.specs.declared.types.Event.{Event}
use Rattle.rules.specs.declared.types.Reply.{Reply}
use Rattle.rules.specs.declared.types.Reply.TheVariants as reply
use Rattle.rules.specs.declared.types.Settings.{Settings}
use Rattle.rules.specs.declared.types.Slot.{Slot}
use Rattle.turns.proofs.SlotLaws.{slot-refused, slot-open, slot-work}
use Rattle.refusals.specs.Refusals.{verdict_of, at_kind}
use Rattle.refusals.proofs.RefuseLaws.{pass-refuses}
use Rattle.refusals.proofs.KindLaws.{kind-numbered, kind-event, kind-there, kind-other}
use Rattle.rules.specs.Event.{kind_number, kind_of}
use Rattle.rules.specs.declared.types.Kind.{Kind}
use Rattle.rules.specs.declared.types.Kind.TheVariants.{Open}
use Rattle.cells.specs.Cells.{label_from}
use Rattle.rows.specs.View.{path_in, slot_in}
use Rattle.rows.specs.Encode.{slot_rows}
use Rattle.rows.specs.Says.{Turns, is_refused}
use Rattle.rows.proofs.NewLaws.{new_slot}
use Rattle.rows.proofs.SaysLaws.{turns-by, turns-none, turns_as}
use Rattle.size_events.specs.Settles.{Settles}
use Rattle.turns.specs.Work.{work_by}

-- a slot stored whole by the encoder's rows
pub turns-whole : {a p : List (List ℕ)} {s : Slot} {x y : Result Reply Refusal} → (p ≡ slot_rows s) × (slot_in p ≡ s) → x ≡ y
    → is_refused x ≡ false → Turns a p x (record { slot = s; reply = y })
turns-whole {a} {p} {s} {x} {y} h e f =
    record { answer = e; slot = h.1; coded = λ c. ap slot_rows h.1 ∙ sym h.0; left = λ g. never g f }

-- an answer that the search probe's part took, and one that it left to the ring
module _ (e : Event) {a b : List (List ℕ)} {d : Outcome} {r : Bool} (h : Settles a b r d e.acked e.now) where
  pub answer-search : r ≡ true → Turns a b (Ok reply.Search) (answered d (slot_in a) e)
  answer-search q = turns_as (turns-by (h.proved q) refl refl) (sym (rw (sym h.named ∙ q)))

  pub answer-left : {c : List (List ℕ)} {x : Result Reply Refusal} → r ≡ false → Turns b c x (turn_by (slot_in b) (answer_of (path_in b) e.id))
      → Turns a c x (answered d (slot_in a) e)
  answer-left {c} {x} q t =
      turns_as (subst (λ (z : List (List ℕ)). Turns z c x (turn_by (slot_in z) (answer_of (path_in z) e.id))) (h.left q) t)
      (sym (rw (sym h.named ∙ q)))

-- the first refusal by settings and a mark that were read
pub tried : (e : Event) {v : Result Unit Refusal} {s t : Settings} {u w : Bool} → v ≡ verdict_of (refusals s u e) → s ≡ t → u ≡ w
    → v ≡ verdict_of (refusals t w e)
tried e h f g = h ∙ (λ j. verdict_of (refusals (f j) (g j) e))

module _ (t : Settings) (a : List (List ℕ)) (e : Event) {v : Result Unit Refusal} (w : v ≡ verdict_of (refusals t (slot_in a).used e)) where
  -- a refusal leaves every word
  pub rows-refused : {why : Refusal} → v ≡ Err why → Turns a a (Err why) (on_slot t (slot_in a) e)
  rows-refused {why} q = turns_as (turns-none refl refl) (slot-refused t (slot_in a) e w q refl)

  -- an event that no refusal stops has a kind
  pub rows-kind : {why : Refusal} → v ≡ Ok tt → kind_of e.kind ≡ Err why → ⊥
  rows-kind q h =
      on-flag (ltb e.kind 1 || ltb 15 e.kind)
      (λ z. pass-refuses {why = refusal.Kind} (sym q ∙ w ∙ rw z refl))
      (λ z. kind-there e.kind z h)

  module _ {k : Kind} (q : v ≡ Ok tt) (h : kind_of e.kind ≡ Ok k) where
    pub rows-open : {b : List (List ℕ)} {x : Result Reply Refusal} → k ≡ Open
        → Turns a b x (record { slot = new_slot true (label_from e.len e.flags); reply = (Ok reply.Nothing) }) → Turns a b x (on_slot t (slot_in a) e)
    rows-open o u = turns_as u (slot-open t (slot_in a) e w q (kind-numbered e.kind h ∙ ap kind_number o) refl)

    pub rows-work : {b : List (List ℕ)} {x : Result Reply Refusal} → (k ≡ Open → ⊥) → Turns a b x (work_by t (slot_in a) (at_kind k e))
        → Turns a b x (on_slot t (slot_in a) e)
    rows-work o u =
        turns_as u
        (slot-work t (slot_in a) e w q (ap (λ n. eqb n 1) (kind-numbered e.kind h) ∙ kind-other k o)
        (ap (λ (x : Event). work_by t (slot_in a) x) (kind-event e h)))

-- a kind that has no work
pub work_none : (t : Settings) (s : Slot) (e : Event) (r : Turn) → eqb e.kind 2 ≡ false → eqb e.kind 3 ≡ false → eqb e.kind 4 ≡ false
    → eqb e.kind 5 ≡ false → eqb e.kind 6 ≡ false → eqb e.kind 7 ≡ false → eqb e.kind 8 ≡ false
    → eqb e.kind 9 ≡ false → eqb e.kind 10 ≡ false → eqb e.kind 11 ≡ false → eqb e.kind 12 ≡ false
    → eqb e.kind 13 ≡ false → eqb e.kind 14 ≡ false
    → r ≡ turn s s.path (Err refusal.Kind) → r ≡ work_by t s e
unfolding work_by
work_none t s e r a b c d f g h i j k l m n q = q ∙ rw (a, b, c, d, f, g, h, i, j, k, l, m, n)
