-- How many bytes a standing has, and what its map says of them.
-- Assumes nothing.
use Rattle.std.specs.Prelude.{Option, None, Some, is_some, unwrap_or}
use Prim.Native.Nat.{ℕ, zero, suc, ◌+◌, ◌*◌, ◌/◌, ◌%◌, ◌^◌, ◌≤◌, ◌<◌}
use native.Mathlib.Nat.{pow-suc}
use native.Mathlib.Omega.{arith}
use mathlib.Core.Bool.{Bool, true, false}
use mathlib.Core.Path.{◌≡◌, refl, ap, ◌∙◌}
use mathlib.Core.List.{List, [], ◌∷◌, ◌++◌, map}
use lib.Dec.{eqb}
use lib.ListN.{length, length-append}
use Rattle.std.specs.List.{filter}
use Rattle.octets.specs.Octets.{le, flat}
use Rattle.octets.proofs.Fill.{le-length, flat_append}
use Rattle.total.specs.Patterns.{etx_bits}
use Rattle.standing.specs.Standing.{whole_field, time_field, id_field, len_field, fields_of, map_of, parts_of, width_of}
use Rattle.standing.specs.Standing.{bytes_in, standing_bytes}
use Rattle.standing.specs.declared.types.Standing.{Standing}
use Rattle.standing.specs.declared.types.Field.{Field}

-- ---- how many

-- the widths of the fields that are there
abbrev pub widths : List Field → ℕ
widths [] = 0
widths (f ∷ l) = width_of f + widths l

pub flat-widths : (l : List Field) → length (flat bytes_in l) ≡ widths l
unfolding flat
flat-widths [] = refl
flat-widths (f ∷ l) =
    length-append (bytes_in f) (flat bytes_in l)
    ∙ (λ i. le-length (width_of f) (unwrap_or f.value 0) i + flat-widths l i)

-- 13 for the map, the ETX and the misses, and the widths of the bits that stand
pub size_is : (s : Standing) → length (standing_bytes s) ≡ 13 + widths (fields_of s)
unfolding standing_bytes
size_is s = flat-widths (parts_of s) ∙ omega arith

time-width : (x : Option ℕ) → width_of (time_field x) ≤ 8
time-width None = omega arith
time-width (Some t) = omega arith

id-width : (x : Option ℕ) → width_of (id_field x) ≤ 4
id-width None = omega arith
id-width (Some n) = omega arith

len-width : (x : Option ℕ) → width_of (len_field x) ≤ 2
len-width None = omega arith
len-width (Some n) = omega arith

pub size-least : (s : Standing) → 13 ≤ length (standing_bytes s)
size-least s = omega (arith, size_is s)

pub size-most : (s : Standing) → length (standing_bytes s) ≤ 51
size-most s =
    omega (
      arith,
      size_is s,
      time-width s.last,
      time-width s.least,
      time-width s.base,
      len-width s.proven,
      id-width s.answered,
      time-width s.quiet,
    )

-- ---- the map

-- the lowest n bits of a number, the lowest first
abbrev pub bits : ℕ → ℕ → List Bool
bits zero m = []
bits (suc n) m = eqb (m % 2) 1 ∷ bits n (m / 2)

-- a reader of the map's bits learns which fields follow
pub map-bits : (l : List Bool) → bits (length l) (map_of l) ≡ l
map-bits [] = refl
map-bits (true ∷ l) =
    let a : (1 + 2 * map_of l) % 2 ≡ 1 = omega arith in
    let b : (1 + 2 * map_of l) / 2 ≡ map_of l = omega arith in
    (λ i. eqb (a i) 1 ∷ bits (length l) (b i)) ∙ ap (λ (r : List Bool). true ∷ r) (map-bits l)
map-bits (false ∷ l) =
    let a : (0 + 2 * map_of l) % 2 ≡ 0 = omega arith in
    let b : (0 + 2 * map_of l) / 2 ≡ map_of l = omega arith in
    (λ i. eqb (a i) 1 ∷ bits (length l) (b i)) ∙ ap (λ (r : List Bool). false ∷ r) (map-bits l)

-- and no other bit stands
pub map_below : (l : List Bool) → map_of l < 2 ^ length l
map_below [] = omega arith
map_below (true ∷ l) = omega (arith, map_below l, pow-suc 2 (length l))
map_below (false ∷ l) = omega (arith, map_below l, pow-suc 2 (length l))

-- ---- the bytes

-- what is missing brings none
kept : (l : List Field) → flat bytes_in l ≡ flat (λ (f : Field). le f.width (unwrap_or f.value 0)) (filter (λ f. is_some f.value) l)
unfolding flat le
kept [] = refl
kept (f ∷ l) = go (is_some f.value) refl (kept l)
  where
    go : (on : Bool) → is_some f.value ≡ on
        → flat bytes_in l ≡ flat (λ (f : Field). le f.width (unwrap_or f.value 0)) (filter (λ f. is_some f.value) l)
        → flat bytes_in (f ∷ l) ≡ flat (λ (f : Field). le f.width (unwrap_or f.value 0)) (filter (λ f. is_some f.value) (f ∷ l))
    go true e k = rw e (ap (λ (r : List ℕ). le f.width (unwrap_or f.value 0) ++ r) k)
    go false e k = rw e k

-- the map in one byte, the fields whose bits stand, then the ETX and the misses
pub bytes-are : (s : Standing) → standing_bytes s ≡ map_of (map (λ f. is_some f.value) (fields_of s))
    ∷ (flat (λ (f : Field). le f.width (unwrap_or f.value 0)) (filter (λ f. is_some f.value) (fields_of s))
    ++ (le 8 (etx_bits s.etx) ++ le 4 s.misses))
unfolding standing_bytes flat le
bytes-are s =
    let m = map_of (map (λ f. is_some f.value) (fields_of s)) in
    let a : m % 256 ≡ m = omega (arith, map_below (map (λ f. is_some f.value) (fields_of s))) in
    (λ i. a i ∷ (flat_append bytes_in (fields_of s) (whole_field 8 (etx_bits s.etx) ∷ whole_field 4 s.misses ∷ []) i))
    ∙ (λ i. m ∷ (kept (fields_of s) i ++ (le 8 (etx_bits s.etx) ++ le 4 s.misses)))
