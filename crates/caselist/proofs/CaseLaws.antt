-- Laws of the case at a place: whether it is whole, where its parts lie, and where it ends.
-- Assumes nothing.
use Prim.Native.Nat.{ℕ, ◌+◌, ◌-◌, ◌<◌, ◌≤◌}
use mathlib.Core.Path.{◌≡◌, sym, ◌∙◌}
use mathlib.Core.List.{List}
use mathlib.Core.Bool.{Bool, true, false, cond}
use native.Mathlib.Omega.{arith}
use borrow.Author.Tests.{leb-true, le-leb, lt-leb}
use lib.Dec.{leb}
use lib.ListN.{length, take, drop}
use Rattle.base.proofs.Cases.{on-order}
use Rattle.octets.specs.Octets.{read_at}
use Rattle.caselist.specs.Cases.{part_text, part_end, is_whole, file_agrees, parts_agree, case_agrees, case_end}
use Rattle.caselist.specs.Lists.{list_agrees}

-- two parts, by what they are
module _ (told given : List ℕ) {listed r : Bool} where
  pub parts-listed : listed ≡ true → r ≡ list_agrees told given → r ≡ parts_agree listed told given
  parts-listed q e = e ∙ sym (λ j. cond (q j) (list_agrees told given) (file_agrees told given))

  pub parts-filed : listed ≡ false → r ≡ file_agrees told given → r ≡ parts_agree listed told given
  parts-filed q e = e ∙ sym (λ j. cond (q j) (list_agrees told given) (file_agrees told given))

-- a sum compared with all bytes, or its last terms with the bytes from p on
leb-shift : (p m b : ℕ) → p ≤ b → leb (4 + m) (b - p) ≡ leb (p + 4 + m) b
leb-shift p m b h =
    on-order b (p + 4 + m)
    (λ k. lt-leb (4 + m) (b - p) (omega (arith, h, k)) ∙ sym (lt-leb (p + 4 + m) b k))
    (λ k. le-leb (4 + m) (b - p) (omega (arith, h, k)) ∙ sym (le-leb (p + 4 + m) b k))

-- a case that begins past the bytes, or whose file is cut short, is not whole
pub cut-start : (s : List ℕ) (at : ℕ) → length s < at → false ≡ is_whole s at
cut-start s at h = sym (lt-leb (part_end s (part_end s at)) (length s) (omega (arith, h)))

pub cut-file : (s : List ℕ) (at : ℕ) {n : ℕ} → n ≡ read_at at 4 s → length s - at < 4 + n → false ≡ is_whole s at
cut-file s at e h = sym (lt-leb (part_end s (part_end s at)) (length s) (omega (arith, h, e)))

module _ (s : List ℕ) (at : ℕ) {n m : ℕ} (e : n ≡ read_at at 4 s) (f : m ≡ read_at (at + 4 + n) 4 s) where
  -- the place after both parts
  sums : at + 4 + n + 4 + m ≡ part_end s (part_end s at)
  sums = (λ j. at + 4 + n + 4 + f j) ∙ (λ j. at + 4 + e j + 4 + read_at (at + 4 + e j) 4 s)

  -- the rest tells whether the lines are whole
  pub whole-told : at + 4 + n ≤ length s → leb (4 + m) (length s - (at + 4 + n)) ≡ is_whole s at
  whole-told h = leb-shift (at + 4 + n) m (length s) h ∙ (λ j. leb (sums j) (length s))

  module _ {w : Bool} (i : w ≡ is_whole s at) (t : w ≡ true) where
    -- a whole case ends within the bytes
    pub both-in : at + 4 + n + 4 + m ≤ length s
    both-in = omega (arith, sums, leb-true (part_end s (part_end s at)) (length s) (sym i ∙ t))

    pub end_whole : at + 4 + n + 4 + m ≡ case_end s at
    unfolding case_end
    end_whole = sums ∙ sym (λ j. cond ((sym i ∙ t) j) (part_end s (part_end s at)) (length s))

    -- its parts are what is told and what is given
    pub case-told : (listed : Bool) {r : Bool}
        → r
        ≡ parts_agree listed (take (at + 4 + n - (at + 4)) (drop (at + 4) s))
        (take (at + 4 + n + 4 + m - (at + 4 + n + 4)) (drop (at + 4 + n + 4) s))
        → r ≡ case_agrees listed s at
    unfolding case_agrees
    case-told listed g =
        let a : at + 4 + n - (at + 4) ≡ n = omega arith in
        let b : at + 4 + n + 4 + m - (at + 4 + n + 4) ≡ m = omega arith in
        g ∙ (λ j. parts_agree listed (take (a j) (drop (at + 4) s)) (take ((b ∙ f) j) (drop (at + 4 + n + 4) s)))
        ∙ (λ j. parts_agree listed (take (e j) (drop (at + 4) s)) (take (read_at (at + 4 + e j) 4 s) (drop (at + 4 + e j + 4) s)))
        ∙ sym (λ j. cond ((sym i ∙ t) j) (parts_agree listed (part_text s at) (part_text s (part_end s at))) false)

-- the file of a whole case ends within the bytes
pub file-in : (s : List ℕ) (at : ℕ) {n : ℕ} {w : Bool} → n ≡ read_at at 4 s → w ≡ is_whole s at → w ≡ true
    → at + 4 + n + 4 ≤ length s
file-in s at e i t = omega (arith, e, leb-true (part_end s (part_end s at)) (length s) (sym i ∙ t))

-- a case that is not whole
pub end-cut : (s : List ℕ) (at : ℕ) {w : Bool} → w ≡ is_whole s at → w ≡ false → length s ≡ case_end s at
unfolding case_end
end-cut s at i t = sym (λ j. cond ((sym i ∙ t) j) (part_end s (part_end s at)) (length s))

pub case-cut : (listed : Bool) (s : List ℕ) (at : ℕ) {w : Bool} → w ≡ is_whole s at → w ≡ false
    → false ≡ case_agrees listed s at
unfolding case_agrees
case-cut listed s at i t =
    sym (λ j. cond ((sym i ∙ t) j) (parts_agree listed (part_text s at) (part_text s (part_end s at))) false)
