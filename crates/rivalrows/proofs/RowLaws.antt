-- A rival and its row: the row says the rival, where its tier is a byte and its scores are floats of 64 bits, as all of
-- the machine are.
-- Assumes nothing.
use Prim.Native.Nat.{ℕ, ◌+◌, ◌*◌, ◌/◌, ◌%◌, ◌<◌}
use mathlib.Core.Path.{◌≡◌, refl, ap, ◌∙◌}
use mathlib.Core.Bool.{Bool}
use mathlib.Core.List.{List, [], ◌∷◌, map}
use native.Mathlib.Omega.{arith}
use lib.Dec.{T}
use lib.Ieee.{Float, binary64, fits}
use lib.ListN.{length, get_or}
use Rattle.base.specs.Seq.{flag_of}
use Rattle.base.proofs.Cases.{flag_small, flag-bit}
use Rattle.total.specs.Patterns.{float_of, etx_bits}
use Rattle.total.proofs.PlaceLaws.{float-again}
use Rattle.select.specs.Media.{medium_of}
use Rattle.select.specs.declared.types.Medium.{Medium}
use Rattle.select.specs.declared.types.Rival.{Rival}
use Rattle.select.proofs.MediaLaws.{medium-small, medium-same}
use Rattle.rivalrows.specs.Rows.{bit_of, rival_in, field_in, marks_word, row_of}

-- the parts of the marks
record Parts (x a b c m : ℕ) : Type 0 where
  pub preferred : x % 2 ≡ a
  pub pinned : x / 2 % 2 ≡ b
  pub fits : x / 4 % 2 ≡ c
  pub medium : x / 16 % 4 ≡ m

parts : (x a b c m : ℕ) → x ≡ a + 2 * b + 4 * c + 16 * m → a < 2 → b < 2 → c < 2 → m < 4 → Parts x a b c m
parts x a b c m e p q r s =
    record {
      preferred = omega arith;
      pinned = omega arith;
      fits = omega arith;
      medium = omega arith;
    }

-- the row says the rival
pub row-says : (r : Rival) → T (fits binary64 r.score) → T (fits binary64 r.steady) → r.tier < 256
    → rival_in (row_of r) ≡ r
unfolding rival_in row_of
row-says r s t n =
    let p = parts (marks_word r) _ _ _ _ refl (flag_small r.preferred) (flag_small r.pinned) (flag_small r.fits)
    (medium-small r.medium) in
    let tier : r.tier % 256 ≡ r.tier = omega arith in
    let one : (b : Bool) → bit_of (flag_of b) ≡ b =
    λ b. let z : flag_of b % 2 ≡ flag_of b = omega (arith, flag_small b) in flag-bit b _ z in
    let held = one r.held in
    let scored = one r.scored in
    let steadied = one r.steadied in
    let timed = one r.timed in
    let based = one r.based in
    let preferred = flag-bit r.preferred _ p.preferred in
    let pinned = flag-bit r.pinned _ p.pinned in
    let fit = flag-bit r.fits _ p.fits in
    let medium = medium-same r.medium (marks_word r / 16) p.medium in
    let score = float-again r.score s in
    let steady = float-again r.steady t in
    λ i. record {
      score = score i;
      steady = steady i;
      rtt = r.rtt;
      base = r.base;
      index = r.index;
      tier = tier i;
      held = held i;
      scored = scored i;
      steadied = steadied i;
      timed = timed i;
      based = based i;
      preferred = preferred i;
      pinned = pinned i;
      fits = fit i;
      medium = medium i;
    }

-- a row made of a rival's parts
pub row_made : (r : Rival) {w : List ℕ} → T (fits binary64 r.score) → T (fits binary64 r.steady) → r.tier < 256
    → w ≡ row_of r → (w ≡ row_of r) × (rival_in w ≡ r)
row_made r s t n e = (e, ap rival_in e ∙ row-says r s t n)

-- a row from its numbers
pub row-built : (r : Rival) {a b c d e f g h k : ℕ} → a ≡ flag_of r.held → b ≡ flag_of r.scored → c ≡ etx_bits r.score
    → d ≡ flag_of r.timed → e ≡ flag_of r.steadied → f ≡ etx_bits r.steady → g ≡ flag_of r.based → k ≡ r.tier → h ≡ marks_word r
    → (a ∷ r.index ∷ b ∷ c ∷ d ∷ r.rtt ∷ e ∷ f ∷ g ∷ r.base ∷ k ∷ h ∷ []) ≡ row_of r
unfolding row_of
row-built r p q s t u v x z y =
    λ i. p i ∷ r.index ∷ q i ∷ s i ∷ t i ∷ r.rtt ∷ u i ∷ v i ∷ x i ∷ r.base ∷ z i ∷ y i ∷ []

-- a list of eight, written out
pub eight : {A : Type 0} (l : List A) (d : A) → length l ≡ 8
    → (get_or l 0 d ∷ get_or l 1 d ∷ get_or l 2 d ∷ get_or l 3 d ∷ get_or l 4 d ∷ get_or l 5 d ∷ get_or l 6 d ∷ get_or l 7 d ∷ []) ≡ l
eight (a ∷ b ∷ c ∷ e ∷ f ∷ g ∷ h ∷ i ∷ []) d n = refl
eight [] d n = absurd (omega (arith, n))
eight (a ∷ []) d n = absurd (omega (arith, n))
eight (a ∷ b ∷ []) d n = absurd (omega (arith, n))
eight (a ∷ b ∷ c ∷ []) d n = absurd (omega (arith, n))
eight (a ∷ b ∷ c ∷ e ∷ []) d n = absurd (omega (arith, n))
eight (a ∷ b ∷ c ∷ e ∷ f ∷ []) d n = absurd (omega (arith, n))
eight (a ∷ b ∷ c ∷ e ∷ f ∷ g ∷ []) d n = absurd (omega (arith, n))
eight (a ∷ b ∷ c ∷ e ∷ f ∷ g ∷ h ∷ []) d n = absurd (omega (arith, n))
eight (a ∷ b ∷ c ∷ e ∷ f ∷ g ∷ h ∷ i ∷ j ∷ l) d n = absurd (omega (arith, n))

-- a row that says a rival
abbrev pub Said : Rival → List ℕ → Type 0
Said r w = (w ≡ row_of r) × (rival_in w ≡ r)

-- the rows that say a field
pub rows_made : (l : List Rival) (d : Rival) → length l ≡ 8 → {p q s t u v x y : List ℕ} → Said (get_or l 0 d) p
    → Said (get_or l 1 d) q → Said (get_or l 2 d) s → Said (get_or l 3 d) t → Said (get_or l 4 d) u → Said (get_or l 5 d) v
    → Said (get_or l 6 d) x → Said (get_or l 7 d) y
    → ((p ∷ q ∷ s ∷ t ∷ u ∷ v ∷ x ∷ y ∷ []) ≡ map row_of l) × (field_in (p ∷ q ∷ s ∷ t ∷ u ∷ v ∷ x ∷ y ∷ []) ≡ l)
rows_made l d n a b c e f g h k = (
  (λ i. a.0 i ∷ b.0 i ∷ c.0 i ∷ e.0 i ∷ f.0 i ∷ g.0 i ∷ h.0 i ∷ k.0 i ∷ []) ∙ ap (map row_of) (eight l d n),
  (λ i. a.1 i ∷ b.1 i ∷ c.1 i ∷ e.1 i ∷ f.1 i ∷ g.1 i ∷ h.1 i ∷ k.1 i ∷ []) ∙ eight l d n,
)
