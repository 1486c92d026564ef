-- The best score as numbers over the front of lent bytes; the choice from bytes as that on their words.
-- Assumes nothing.
use Rattle.std.specs.Prelude.{Option, None, Some, Result, Ok, Err, is_some}
use Rattle.std.specs.Option.{MatchOption}
use Rattle.base.specs.Seq.{flag_of}
use Prim.Native.Nat.{ℕ}
use mathlib.Core.Path.{◌≡◌, refl, sym, ap, ◌∙◌}
use mathlib.Core.Bool.{Bool, true, false}
use lib.Dec.{leb}
use lib.Ieee.{Float, is_nan, of_bits, to_bits}
use mathlib.Core.List.{List, [], ◌∷◌}
use borrow.Author.Tests.{eq-eqb, ne_eqb}
use lib.ListN.{length}
use Rattle.base.specs.Refusals.{refusal_number}
use Rattle.base.specs.declared.types.Refusal.{Refusal}
use Rattle.base.specs.declared.types.Refusal.TheVariants.{Cut, Lent}
use Rattle.base.proofs.RefusalLaws.{number-some}
use Rattle.total.specs.Patterns.{etx_bits}
use Rattle.octets.specs.Octets.{le, words_of, over}
use Rattle.octets.proofs.Fill.{flat-length, le-length}
use Rattle.select.specs.Answers.{best_number}
use Rattle.select.specs.Choice.{choose_of, best_of}
use Rattle.select.specs.declared.types.Rival.{Rival}
use Rattle.rivalrows.specs.Rows.{field_in}
use Rattle.fields.specs.Fields.{field_len, rows_of, field_of}
use Rattle.c_reply.specs.declared.Reply.{Reply}
use Rattle.c_choice.specs.Choice.{chosen_reply, words_reply, choose_reply, best_words, lent_number, best_reply, best_out}

module _ (s l : List ℕ) where
  pub best-cut : {n : ℕ} → (length s ≡ field_len → ⊥) → n ≡ refusal_number Cut
      → (n ≡ best_reply s (length l)) × (l ≡ best_out s l)
  unfolding best_reply best_out
  best-cut h q = let e = ne_eqb (length s) field_len h in (rw e q, rw e)

  -- the answer a, accepted, its number n, and the bytes after it
  pub best-done : {a : Result (Option Float) Refusal} {n : ℕ} {m w : List ℕ} → length s ≡ field_len → a ≡ best_of (field_of s)
      → best_number a ≡ 0
      → n ≡ lent_number (length l) → w ≡ best_words a → m ≡ over (words_of w) l
      → (n ≡ best_reply s (length l)) × (m ≡ best_out s l)
  unfolding best_reply best_out
  best-done {a} {n} {m} {w} h q z b c d =
      let e = eq-eqb (length s) field_len h in
      (rw (e, sym q, z) b, rw (e, sym q, z, sym c) d)

  -- the answer a, refused
  pub best-not : {a : Result (Option Float) Refusal} {why : Refusal} {n : ℕ} → length s ≡ field_len → a ≡ best_of (field_of s)
      → a ≡ Err why
      → n ≡ refusal_number why → (n ≡ best_reply s (length l)) × (l ≡ best_out s l)
  unfolding best_reply best_out
  best-not {a} {why} {n} h q z b =
      let e = eq-eqb (length s) field_len h in
      let k : best_of (field_of s) ≡ Err why = sym q ∙ z in
      (rw (e, k, number-some why) b, rw (e, k, number-some why))

-- an answer is no refusal
pub no-refusal : {a : Result (Option Float) Refusal} {found : Option Float} → a ≡ Ok found → best_number a ≡ 0
no-refusal {found = None} e = ap best_number e
no-refusal {found = Some x} e = ap best_number e

-- whether there is a score, and its bits, or 0
pub found-words : {a : Result (Option Float) Refusal} {found : Option Float} {t n : ℕ} {P : Float → Type 0} → a ≡ Ok found
    → t ≡ flag_of (is_some found) → MatchOption found (n ≡ 0) P → ((x : Float) → P x → n ≡ etx_bits x)
    → (t ∷ n ∷ []) ≡ best_words a
unfolding is_nan of_bits to_bits
found-words {found = None} e f g h = (λ i. f i ∷ g i ∷ []) ∙ ap best_words (sym e)
found-words {found = Some x} e f g h = (λ i. f i ∷ h x g i ∷ []) ∙ ap best_words (sym e)

-- two numbers are 16 bytes
pub two-words : (a b : ℕ) → length (words_of (a ∷ b ∷ [])) ≡ 16
two-words a b = flat-length (le 8) 8 (le-length 8) (a ∷ b ∷ [])

-- whether two numbers fit says which number is given
module _ (a b n : ℕ) {t : Bool} (e : t ≡ leb (length (words_of (a ∷ b ∷ []))) n) where
  sixteen : leb 16 n ≡ t
  sixteen = ap (λ (z : ℕ). leb z n) (sym (two-words a b)) ∙ sym e

  pub lent-yes : t ≡ true → 0 ≡ lent_number n
  lent-yes f = let k : leb 16 n ≡ true = sixteen ∙ f in rw k

  pub lent-no : t ≡ false → refusal_number Lent ≡ lent_number n
  lent-no f = let k : leb 16 n ≡ false = sixteen ∙ f in rw k

-- ---- the words of the bytes

-- the field of the bytes is that of their words
pub field-rows : (s : List ℕ) {rows : List (List ℕ)} → rows ≡ rows_of s → field_in rows ≡ field_of s
unfolding field_of
field-rows s e = ap field_in e

-- the choice from bytes is the choice on the words of the bytes
pub choose-words : (s : List ℕ) (margin : Float) → length s ≡ field_len → choose_reply s margin ≡ words_reply (rows_of s) margin
unfolding choose_reply words_reply
choose-words s margin e =
    rw (eq-eqb (length s) field_len e) (ap (λ (l : List Rival). chosen_reply (choose_of l margin)) (sym (field-rows s refl)))

-- as the code finds it
pub choose-rows : (s : List ℕ) (margin : Float) {rows : List (List ℕ)} {k : Result ℕ Refusal} {r : Reply} → length s ≡ field_len
    → rows ≡ rows_of s → k ≡ choose_of (field_in rows) margin → r ≡ chosen_reply k → r ≡ choose_reply s margin
unfolding words_reply
choose-rows s margin e f g h =
    h ∙ ap chosen_reply (g ∙ ap (λ (w : List (List ℕ)). choose_of (field_in w) margin) f) ∙ sym (choose-words s margin e)
