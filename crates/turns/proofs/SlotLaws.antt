-- One event on its slot, from the first refusal and the work.
-- Assumes nothing.
use Rattle.std.specs.Prelude.{Result, Ok, Err}
use Prim.Native.Nat.{◌%◌, ◌≤◌}
use mathlib.Core.Path.{◌≡◌, refl, sym, ◌∙◌}
use mathlib.Core.Bool.{Bool, true, false, ◌||◌, cond}
use mathlib.Core.List.{List, [], ◌∷◌}
use native.Mathlib.Omega.{arith}
use borrow.Author.Tests.{lt-ltb}
use lib.Dec.{eqb, ltb, leb}
use Rattle.base.proofs.Cases.{on-flag, on-order}
use Rattle.base.specs.declared.types.Refusal.{Refusal}
use Rattle.base.specs.declared.types.Refusal.TheVariants as refusal
use Rattle.rules.specs.Rules.{turn, refusals, refused_or, on_slot}
use Rattle.rules.specs.declared.types.Settings.{Settings}
use Rattle.rules.specs.declared.types.Event.{Event}
use Rattle.rules.specs.declared.types.Slot.{Slot}
use Rattle.rules.specs.declared.types.Turn.{Turn}
use Rattle.rules.specs.declared.types.Reply.TheVariants as reply
use Rattle.refusals.proofs.RefuseLaws.{pass-refuses}
use Rattle.refusals.specs.Refusals.{verdict_of}
use Rattle.cells.specs.Cells.{label_from}
use Rattle.rows.proofs.NewLaws.{new_slot}
use Rattle.turns.specs.Work.{work_by}

-- a turn by the verdict
by_verdict : Result Unit Refusal → Slot → Turn → Turn
by_verdict (Ok tt) s x = x
by_verdict (Err why) s x = turn s s.path (Err why)

slot-by : (l : List (Refusal × Bool)) (s : Slot) (x : Turn) → refused_or l s x ≡ by_verdict (verdict_of l) s x
unfolding by_verdict
slot-by [] s x = refl
slot-by (y ∷ l) s x = on-flag y.1 (λ e. rw e) (λ e. rw e (slot-by l s x))

never-pass : (a b c : Bool)
    → ◌≡◌ {A = Result Unit Refusal} (cond a (Err refusal.Slot) (cond b (Err refusal.Held) (cond c (Err refusal.Flag) (Err refusal.Length)))) (Ok tt)
    → ⊥
never-pass true b c h = pass-refuses (sym h)
never-pass false true c h = pass-refuses (sym h)
never-pass false false true h = pass-refuses (sym h)
never-pass false false false h = pass-refuses (sym h)

-- an open that no refusal stops has a length of at most 65,535
open-len : (t : Settings) (used : Bool) (e : Event) → e.kind ≡ 1 → verdict_of (refusals t used e) ≡ Ok tt → e.len ≤ 65535
open-len t used e k v =
    on-order 65535 e.len
    (λ h.
    let q : verdict_of (refusals t used e)
    ≡ cond (ltb 7 e.slot) (Err refusal.Slot)
    (cond used (Err refusal.Held)
    (cond (leb 128 e.flags || false) (Err refusal.Flag) (Err refusal.Length))) =
    simp (k, lt-ltb _ _ h) in
    absurd (never-pass (ltb 7 e.slot) used (leb 128 e.flags || false) (sym q ∙ v)))
    (λ h. h)

module _ (t : Settings) (s : Slot) (e : Event) where
  pub slot-refused : {why : Refusal} {r : Turn} {v : Result Unit Refusal} → v ≡ verdict_of (refusals t s.used e) → v ≡ Err why
      → r ≡ turn s s.path (Err why) → r ≡ on_slot t s e
  unfolding on_slot by_verdict
  slot-refused a b q = q ∙ sym (slot-by (refusals t s.used e) s _ ∙ rw (sym a ∙ b))

  pub slot-open : {r : Slot} {v : Result Unit Refusal} → v ≡ verdict_of (refusals t s.used e) → v ≡ Ok tt → e.kind ≡ 1
      → r ≡ new_slot true (label_from e.len e.flags) → record { slot = r; reply = (Ok reply.Nothing) } ≡ on_slot t s e
  unfolding on_slot by_verdict label_from
  slot-open a b k q =
      let m : e.len ≤ 65535 = open-len t s.used e k (sym a ∙ b) in
      let z : e.len % 65536 ≡ e.len = omega arith in
      rw (q, z) (sym (slot-by (refusals t s.used e) s _ ∙ rw (sym a ∙ b, k)))

  pub slot-work : {r : Turn} {v : Result Unit Refusal} → v ≡ verdict_of (refusals t s.used e) → v ≡ Ok tt → eqb e.kind 1 ≡ false
      → r ≡ work_by t s e → r ≡ on_slot t s e
  unfolding on_slot by_verdict work_by
  slot-work a b k q = q ∙ sym (slot-by (refusals t s.used e) s _ ∙ rw (sym a ∙ b, k))
