-- A maker's contract from what its words are: the row is the code's, and it says the value.
-- Assumes nothing.
use Rattle.std.specs.Prelude.{Option, Some}
use Prim.Native.Nat.{ℕ, ◌+◌, ◌*◌, ◌<◌, ◌≤◌, ◌^◌}
use mathlib.Core.Path.{◌≡◌, ap, sym, ◌∙◌}
use mathlib.Core.List.{[], ◌∷◌}
use mathlib.Core.Bool.{cond}
use native.Mathlib.Omega.{arith}
use Rattle.base.specs.Seq.{flag_of}
use Rattle.ring.specs.declared.types.Sent.{Sent}
use Rattle.ring.specs.declared.types.Ids.{Ids}
use Rattle.rtt.specs.declared.types.Span.{Span}
use Rattle.stop.specs.declared.types.Stop.{Stop}
use Rattle.base.specs.Missing.{tag}
use Rattle.cells.specs.Cells.{id_in, length_in, sent_in, ids_in, span_in}
use Rattle.cells.specs.Code.{id_word, len_word, sent_row, ids_row, span_row, stop_row}
use Rattle.cells.proofs.RowLaws.{id-some, len-some, sent-says, ids-same, span-says}

-- what equals a number below a bound is below it
pub under : {x y n : ℕ} → (x ≡ y) × (x < n) → y < n
under {x} {y} {n} p =
    let e : x ≡ y = p.0 in
    let h : x < n = p.1 in
    omega arith

-- a probe's row
pub sent-made : (s : Sent) {x n e : ℕ} → (x ≡ s.probe_id) × (x < 2 ^ 32) → (n ≡ s.len) × (n < 65536)
    → e ≡ n + cond s.used 65536 0
    → (s.at ∷ s.due ∷ x ∷ e ∷ [] ≡ sent_row s) × (sent_in (s.at ∷ s.due ∷ x ∷ e ∷ []) ≡ s)
unfolding sent_row
sent-made s {x} {n} {e} a b q =
    let z : e ≡ s.len + cond s.used 65536 0 = q ∙ ap (λ (y : ℕ). y + cond s.used 65536 0) b.0 in
    let r : s.at ∷ s.due ∷ x ∷ e ∷ [] ≡ sent_row s = λ k. s.at ∷ s.due ∷ a.0 k ∷ z k ∷ [] in
    (r, ap sent_in r ∙ sent-says s (under a) (under b))

-- the identifiers' row
pub ids-made : (m : Ids) {a b c d : ℕ} → (a ≡ id_word m.next_id) × (id_in a ≡ m.next_id)
    → (b ≡ id_word m.answered) × (id_in b ≡ m.answered) → (c ≡ id_word m.epoch) × (id_in c ≡ m.epoch)
    → (d ≡ id_word m.since) × (id_in d ≡ m.since)
    → (a ∷ b ∷ c ∷ d ∷ [] ≡ ids_row m) × (ids_in (a ∷ b ∷ c ∷ d ∷ []) ≡ m)
unfolding ids_row
ids-made m {a} {b} {c} {d} e f g h =
    let r : a ∷ b ∷ c ∷ d ∷ [] ≡ ids_row m = λ k. e.0 k ∷ f.0 k ∷ g.0 k ∷ h.0 k ∷ [] in
    let same = ids-same m (ap id_in (sym e.0) ∙ e.1) (ap id_in (sym f.0) ∙ f.1) (ap id_in (sym g.0) ∙ g.1)
    (ap id_in (sym h.0) ∙ h.1) in
    (r, ap ids_in r ∙ same)

-- a span's row
pub span-made : (s : Span) {f : ℕ} → f ≡ flag_of s.used
    → (s.from ∷ s.to ∷ s.rtt ∷ f ∷ [] ≡ span_row s) × (span_in (s.from ∷ s.to ∷ s.rtt ∷ f ∷ []) ≡ s)
unfolding span_row
span-made s {f} e =
    let r : s.from ∷ s.to ∷ s.rtt ∷ f ∷ [] ≡ span_row s = λ k. s.from ∷ s.to ∷ s.rtt ∷ e k ∷ [] in
    (r, ap span_in r ∙ span-says s)

-- the row of a stop
pub stop-made : {m : Option Stop} {s : Stop} {k t : ℕ} → m ≡ Some s → k ≡ 1 + flag_of s.owed → t ≡ 2 * tag s.until
    → (k + t) ∷ s.free ∷ s.gap ∷ s.used ∷ [] ≡ stop_row m
unfolding stop_row
stop-made {m} {s} {k} {t} e f g = (λ j. (f j + g j) ∷ s.free ∷ s.gap ∷ s.used ∷ []) ∙ ap stop_row (sym e)
