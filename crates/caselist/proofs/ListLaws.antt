-- Laws of a list in words: one call, the loop over the calls, and the whole list.
-- Assumes nothing.
use Rattle.std.specs.Prelude.{Result}
use Rattle.base.specs.declared.types.Refusal.{Refusal}
use Prim.Native.Nat.{ℕ, suc, ◌+◌, ◌-◌, ◌*◌, ◌/◌, ◌^◌, ◌<◌, ◌≤◌}
use mathlib.Core.Path.{◌≡◌, sym, subst, ◌∙◌}
use mathlib.Core.Bool.{Bool, true, false, ◌&&◌, and_assoc, and-true}
use mathlib.Core.List.{List, [], ◌∷◌, map}
use native.Mathlib.Omega.{arith}
use borrow.Author.Tests.{le-leb, lt-leb}
use lib.Dec.{eqb}
use lib.ListN.{length, take, drop}
use lib.Seq.{drop-drop}
use Rattle.rules.specs.Event.{number_of, value_of}
use Rattle.rules.specs.Step.{allowed, fresh_record, step, run}
use Rattle.rules.specs.declared.types.Event.{Event}
use Rattle.rules.specs.declared.types.Reply.{Reply}
use Rattle.rows.specs.View.{slot_in}
use Rattle.eventfile.specs.File.{settings_of}
use Rattle.peer.specs.Record.{record_in, AreCoded, Steps, Tells}
use Rattle.caselist.specs.Lists.{call_event, given_of, calls_from, whole_calls, answers_agree, standings_agree, list_agrees}

-- ---- one call

-- the word of an answer is its number and its value
pub call-told : (t : List ℕ) (a b : List (List (List ℕ))) (l : List ℕ) {e : Event} (w : ℕ) {g : ℕ} → e ≡ call_event l
    → g ≡ given_of l → Tells t a b w e
    → (eqb w g ≡ answers_agree (record_in t a) (l ∷ [])) × Steps t a b (step (record_in t a) (call_event l)).reply (call_event l)
call-told t a b l {e} w {g} p q h =
    let x : Result Reply Refusal = (step (record_in t a) e).reply in
    let d : w ≡ number_of x * 2 ^ 32 + value_of x = omega (arith, h.0, h.1) in (
      (λ j. eqb (d j) (q j))
          ∙ (λ j. eqb (number_of (step (record_in t a) (p j)).reply * 2 ^ 32 + value_of (step (record_in t a) (p j)).reply)
          (given_of l)) ∙ sym (and-true _),
      subst (λ (f : Event). Steps t a b (step (record_in t a) f).reply f) p h.2,
    )

-- ---- the calls

-- the rest of n calls after i of them, and the bytes that are lent for the next
abbrev pub rest_of : ℕ → ℕ → List ℕ → List (List ℕ)
rest_of n i l = calls_from (n - i) (drop (40 * i) l)

abbrev pub lent_at : ℕ → List ℕ → List ℕ
lent_at i l = take (40 * i + 40 - 40 * i) (drop (40 * i) l)

-- of n calls from the words a₀ on i are done, with the words a after them
pub record Going (t l : List ℕ) (a₀ : List (List (List ℕ))) (n : ℕ) (a : List (List (List ℕ))) (same : Bool) (i : ℕ)
    : Type 0 where
  pub upto : i ≤ n
  pub room : 40 * n ≤ length l
  pub wide : length l < 2 ^ 64
  pub answers : (same && answers_agree (record_in t a) (rest_of n i l)) ≡ answers_agree (record_in t a₀) (calls_from n l)
  pub says : run (record_in t a) (map call_event (rest_of n i l)) ≡ run (record_in t a₀) (map call_event (calls_from n l))
  pub coded : AreCoded a₀ → AreCoded a

pub going_start : (t l : List ℕ) (a : List (List (List ℕ))) → length l < 2 ^ 64
    → Going t l a (length l / 40) a true 0
going_start t l a w =
    let n : ℕ = length l / 40 in
    let z : n - 0 ≡ n = omega arith in
    let y : 40 * 0 ≡ 0 = omega arith in
    record {
      upto = omega arith;
      room = omega arith;
      wide = w;
      answers = λ j. answers_agree (record_in t a) (calls_from (z j) (drop (y j) l));
      says = λ j. run (record_in t a) (map call_event (calls_from (z j) (drop (y j) l)));
      coded = λ c. c;
    }

module _ {t l : List ℕ} {a₀ a : List (List (List ℕ))} {n i : ℕ} {same : Bool} (g : Going t l a₀ n a same i) where
  -- the next call lies within the bytes
  pub going-in : i < n → 40 * i + 40 ≤ length l
  going-in h = omega (arith, g.room)

  -- it is the first of the rest
  opened : i < n → rest_of n i l ≡ take 40 (drop (40 * i) l) ∷ rest_of n (i + 1) l
  opened h =
      let k : n - i ≡ suc (n - (i + 1)) = omega arith in
      let d : 40 * i + 40 ≡ 40 * (i + 1) = omega arith in
      (λ j. calls_from (k j) (drop (40 * i) l))
      ∙ (λ j. take 40 (drop (40 * i) l) ∷ calls_from (n - (i + 1)) ((drop-drop 40 (40 * i) l ∙ (λ m. drop (d m) l)) j))

  pub going_next : {b : List (List (List ℕ))} {one : Bool} → i < n
      → (one ≡ answers_agree (record_in t a) (lent_at i l ∷ []))
      × Steps t a b (step (record_in t a) (call_event (lent_at i l))).reply (call_event (lent_at i l))
      → Going t l a₀ n b (same && one) (i + 1)
  going_next {b} {one} h c =
      let z : 40 * i + 40 - 40 * i ≡ 40 = omega arith in
      let q : List ℕ = take 40 (drop (40 * i) l) in
      let r : List (List ℕ) = rest_of n (i + 1) l in
      let x : Result Reply Refusal = (step (record_in t a) (call_event q)).reply in
      let d : (one ≡ answers_agree (record_in t a) (q ∷ []))
      × Steps t a b (step (record_in t a) (call_event q)).reply (call_event q) =
      subst
      (λ (z : List ℕ). (one ≡ answers_agree (record_in t a) (z ∷ []))
      × Steps t a b (step (record_in t a) (call_event z)).reply (call_event z))
      (λ j. take (z j) (drop (40 * i) l)) c in
      record {
        upto = omega arith;
        room = g.room;
        wide = g.wide;
        answers =
            and_assoc same one (answers_agree (record_in t b) r)
            ∙ (λ j. same && (d.0 j && answers_agree (d.1.next j) r))
            ∙ (λ j. same && (and-true (eqb (number_of x * 2 ^ 32 + value_of x) (given_of q)) j
            && answers_agree (step (record_in t a) (call_event q)).next r))
            ∙ (λ j. same && answers_agree (record_in t a) (sym (opened h) j))
            ∙ g.answers;
        says =
            (λ j. run (d.1.next j) (map call_event r))
            ∙ (λ j. run (record_in t a) (map call_event (sym (opened h) j)))
            ∙ g.says;
        coded = λ e. d.1.coded (g.coded e);
      }

  pub going_end : n ≤ i → n ≡ length l / 40
      → (same ≡ answers_agree (record_in t a₀) (whole_calls l)) × (record_in t a ≡ run (record_in t a₀) (map call_event (whole_calls l)))
      × (AreCoded a₀ → AreCoded a)
  going_end h e =
      let z : n - i ≡ 0 = omega arith in (
        sym (and-true same) ∙ (λ j. same && answers_agree (record_in t a) (calls_from (sym z j) (drop (40 * i) l))) ∙ g.answers
            ∙ (λ j. answers_agree (record_in t a₀) (calls_from (e j) l)),
        (λ j. run (record_in t a) (map call_event (calls_from (sym z j) (drop (40 * i) l)))) ∙ g.says
            ∙ (λ j. run (record_in t a₀) (map call_event (calls_from (e j) l))),
        g.coded,
      )

-- ---- the whole list

module _ (told given : List ℕ) where
  -- settings that are cut short, or not allowed
  pub list-cut : length told < 32 → false ≡ list_agrees told given
  unfolding list_agrees
  list-cut h = rw (lt-leb 32 (length told) h)

  pub list-refused : 32 ≤ length told → allowed (settings_of told) ≡ false → false ≡ list_agrees told given
  unfolding list_agrees
  list-refused h y = rw (le-leb 32 (length told) h, y)

  -- the calls from a new record on, and the standings after them
  pub list-told : (t : List ℕ) (a b : List (List (List ℕ))) {l : List ℕ} {one two : Bool} → 32 ≤ length told
      → allowed (settings_of told) ≡ true → record_in t a ≡ fresh_record (settings_of told) → l ≡ drop 32 told
      → (one ≡ answers_agree (record_in t a) (whole_calls l)) × (record_in t b ≡ run (record_in t a) (map call_event (whole_calls l)))
      × (AreCoded a → AreCoded b)
      → two ≡ standings_agree (map slot_in b) given
      → (one && two) ≡ list_agrees told given
  unfolding list_agrees
  list-told t a b {l} {one} {two} h y f e c d =
      let k : (one && two)
      ≡ (answers_agree (fresh_record (settings_of told)) (whole_calls (drop 32 told))
      && standings_agree (run (fresh_record (settings_of told)) (map call_event (whole_calls (drop 32 told)))).slots given) =
      (λ j. c.0 j && (d ∙ (λ i. standings_agree (c.1 i).slots given)) j)
      ∙ (λ j. answers_agree (f j) (whole_calls (e j)) && standings_agree (run (f j) (map call_event (whole_calls (e j)))).slots given) in
      rw (le-leb 32 (length told) h, y) k
