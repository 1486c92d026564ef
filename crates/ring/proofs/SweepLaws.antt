-- The sweep of the ring into the late list, one place after the other.
-- Assumes nothing.
use Prim.Native.Nat.{ℕ, suc, ◌+◌, ◌<◌, ◌≤◌}
use mathlib.Core.Path.{◌≡◌, sym, ap, ◌∙◌}
use mathlib.Core.List.{List, [], ◌∷◌, ◌++◌, append-nil, append_assoc}
use mathlib.Core.Bool.{true, false}
use native.Mathlib.Numerals.{add-one}
use native.Mathlib.Omega.{arith}
use lib.ListN.{length, get_or, take, drop, drop_of_length-le, length-append, length-drop}
use lib.Seq.{drop-cons, take-suc, take_all, drop-append-le, drop-drop}
use Rattle.std.specs.List.{filter}
use Rattle.base.proofs.SeqLaws.{keep_append}
use Rattle.ring.specs.declared.types.Sent.{Sent}
use Rattle.ring.specs.Ring.{is_used, waiting, remembered, swept}

-- of a ring of n places those before i have entered the late list, which has m places
pub record Sweeping (late : List Sent) (m : ℕ) (ring : List Sent) (n : ℕ) (out : List Sent) (i : ℕ) : Type 0 where
  pub long : length ring ≡ n
  pub some : length late ≡ suc m
  pub upto : i ≤ n
  pub same : length out ≡ suc m
  pub done : out ≡ swept late (take i ring)

-- one more enters a list that is as long as it was before
one_more : (late w out : List Sent) (m : ℕ) (s : Sent) → length late ≡ suc m → out ≡ drop (length w) (late ++ w)
    → remembered out s ≡ drop (length (w ++ (s ∷ []))) (late ++ (w ++ (s ∷ [])))
one_more late w out m s h e =
    let k : length (w ++ (s ∷ [])) ≡ length w + 1 = length-append w (s ∷ []) in
    let j : length (late ++ w) ≡ length late + length w = length-append late w in
    rw (e, k, sym (append_assoc late w (s ∷ [])), drop-append-le (length w + 1) (late ++ w) (s ∷ []) (omega arith), drop-drop 1 (length w) (late ++ w))

module _ {late : List Sent} {m : ℕ} {ring : List Sent} {n : ℕ} where
  pub sweeping-start : length ring ≡ n → length late ≡ suc m → Sweeping late m ring n late 0
  sweeping-start h k = record { long = h; some = k; upto = omega arith; same = k; done = sym (append-nil late) }

  module _ {out : List Sent} {i : ℕ} (d : Sent) (s : Sweeping late m ring n out i) (h : i < n) where
    split : waiting (take (suc i) ring) ≡ waiting (take i ring) ++ filter is_used (get_or ring i d ∷ [])
    split = let k : i < length ring = omega arith in rw (take-suc ring i d, keep_append)

    pub sweeping-skip : is_used (get_or ring i d) ≡ false → Sweeping late m ring n out (i + 1)
    sweeping-skip e =
        let q : waiting (take (suc i) ring) ≡ waiting (take i ring) = split ∙ simp (e, append-nil) in
        rw add-one (record { long = s.long; some = s.some; upto = h; same = s.same; done = rw q s.done })

    pub sweeping-store : {next : List Sent} → is_used (get_or ring i d) ≡ true → next ≡ remembered out (get_or ring i d) → Sweeping late m ring n next (i + 1)
    sweeping-store {next} e f =
        let q : waiting (take (suc i) ring) ≡ waiting (take i ring) ++ (get_or ring i d ∷ []) = split ∙ simp e in
        let k : length next ≡ suc m = ap length f ∙ length-append (drop 1 out) (get_or ring i d ∷ []) ∙ omega (arith, length-drop 1 out, s.same) in
        rw add-one
        (record {
          long = s.long;
          some = s.some;
          upto = h;
          same = k;
          done = rw q (f ∙ one_more late (waiting (take i ring)) out m (get_or ring i d) s.some s.done);
        })

  pub sweeping-end : {out : List Sent} {i : ℕ} → Sweeping late m ring n out i → n ≤ i → out ≡ swept late ring
  sweeping-end {out} {i} s h = let q : take i ring ≡ ring = take_all i ring (omega arith) in rw q at s.done

-- the late list's four places, shifted one to the front with one more at the end
pub shifted : {A : Type 0} (l : List A) (d x : A) → length l ≡ 4 → get_or l 1 d ∷ get_or l 2 d ∷ get_or l 3 d ∷ x ∷ [] ≡ drop 1 l ++ (x ∷ [])
shifted l d x h =
    let k : length l ≤ 4 = omega arith in
    let e : drop 4 l ≡ [] = drop_of_length-le l k in
    simp (drop-cons l 1 d (omega arith), drop-cons l 2 d (omega arith), drop-cons l 3 d (omega arith), e)

-- a late list with places stays as long as it was: after a lapse, and after a sweep
pub remember-long : (l : List Sent) (s : Sent) → 0 < length l → length (remembered l s) ≡ length l
remember-long l s h = length-append (drop 1 l) (s ∷ []) ∙ omega (arith, length-drop 1 l)

pub sweep-long : (late ring : List Sent) → length (swept late ring) ≡ length late
sweep-long late ring =
    length-drop (length (waiting ring)) (late ++ waiting ring) ∙ omega (arith, length-append late (waiting ring))
