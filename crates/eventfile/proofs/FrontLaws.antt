-- What bytes begin with, by the tests that a reader makes one after the other.
-- Assumes nothing.
use Prim.Native.Nat.{ℕ, ◌+◌, ◌<◌, ◌≤◌}
use mathlib.Core.Path.{◌≡◌, refl, ◌∙◌}
use mathlib.Core.Bool.{Bool, true, false, ◌||◌}
use mathlib.Core.List.{List, [], ◌∷◌}
use native.Mathlib.Omega.{arith}
use borrow.Author.Tests.{lt-ltb, le-ltb}
use lib.ListN.{length, get_or}
use Rattle.base.specs.declared.types.Refusal.TheVariants as refusal
use Rattle.base.proofs.Cases.{on-order}
use Rattle.rules.specs.declared.types.Event.{Event}
use Rattle.eventfile.specs.File.{bytes, layout_of, record_size, field, event_of, is_kindless, is_stray, front_by, front_of}
use Rattle.eventfile.specs.declared.types.Layout.{Layout}
use Rattle.eventfile.specs.declared.types.Parse.TheVariants as parse

-- the end of a list of tests, one of which is to hold
pub or-none : (b : Bool) → (b || false) ≡ b
or-none true = refl
or-none false = refl

-- ---- the record by its map and kind

module _ (map kind : ℕ) (l : List ℕ) where
  pub by-cut : length l < record_size map → parse.Refused refusal.Cut kind ≡ front_by map kind l
  unfolding front_by
  by-cut h = rw (lt-ltb (length l) (record_size map) h)

  pub by_kind : record_size map ≤ length l → is_kindless kind ≡ true → parse.Refused refusal.Kind kind ≡ front_by map kind l
  unfolding front_by
  by_kind h a = rw (le-ltb (length l) (record_size map) h, a)

  pub by_map : record_size map ≤ length l → is_kindless kind ≡ false → is_stray map kind ≡ true
      → parse.Refused refusal.Map kind ≡ front_by map kind l
  unfolding front_by
  by_map h a b = rw (le-ltb (length l) (record_size map) h, a, b)

  pub by-event : record_size map ≤ length l → is_kindless kind ≡ false → is_stray map kind ≡ false
      → parse.Event (event_of map kind l) (record_size map) ≡ front_by map kind l
  unfolding front_by
  by-event h a b = rw (le-ltb (length l) (record_size map) h, a, b)

-- ---- the record that bytes begin with

pub front-none : (l : List ℕ) → length l ≡ 0 → parse.End ≡ front_of l
unfolding front_of
front-none [] h = refl
front-none (x ∷ l) h = absurd (omega (arith, h))

pub front-some : (l : List ℕ) → 0 < length l → front_by (get_or l 0 0) (get_or l 1 0) l ≡ front_of l
unfolding front_of
front-some [] h = absurd (omega arith)
front-some (x ∷ l) h = refl

-- what a reader knows once map and kind are read, and the fields laid out
pub record Head (l : List ℕ) (map kind : ℕ) (at : Layout) : Type 0 where
  pub some : 0 < length l
  pub map_is : map ≡ get_or l 0 0
  pub kind-is : kind ≡ get_or l 1 0
  pub at-is : at ≡ layout_of map

pub head : {l : List ℕ} {map kind : ℕ} {at : Layout} → (length l ≡ 0 → ⊥) → map ≡ get_or l 0 0 → kind ≡ get_or l 1 0
    → at ≡ layout_of map → Head l map kind at
head n m k a = record { some = pos n; map_is = m; kind-is = k; at-is = a }
  where
    pos : {n : ℕ} → (n ≡ 0 → ⊥) → 0 < n
    pos {n} f = on-order 0 n (λ h. h) (λ h. absurd (f (omega arith)))

module _ {l : List ℕ} {map kind : ℕ} {at : Layout} (h : Head l map kind at) where
  opened : front_by map kind l ≡ front_of l
  opened = (λ i. front_by (h.map_is i) (h.kind-is i) l) ∙ front-some l h.some

  size_is : at.size ≡ record_size map
  size_is = λ i. (h.at-is i).size

  pub front_cut : length l < at.size → parse.Refused refusal.Cut kind ≡ front_of l
  front_cut g = by-cut map kind l (omega (arith, g, size_is)) ∙ opened

  pub front-kind : at.size ≤ length l → is_kindless kind ≡ true → parse.Refused refusal.Kind kind ≡ front_of l
  front-kind g a = by_kind map kind l (omega (arith, g, size_is)) a ∙ opened

  pub front-map : at.size ≤ length l → is_kindless kind ≡ false → is_stray map kind ≡ true
      → parse.Refused refusal.Map kind ≡ front_of l
  front-map g a b = by_map map kind l (omega (arith, g, size_is)) a b ∙ opened

  pub front-event : {e : Event} → at.size ≤ length l → is_kindless kind ≡ false → is_stray map kind ≡ false
      → e ≡ event_of map kind l → parse.Event e at.size ≡ front_of l
  front-event g a b e =
      (λ i. parse.Event (e i) (size_is i)) ∙ by-event map kind l (omega (arith, g, size_is)) a b ∙ opened

-- ---- fields

-- the places of the fields from the bytes of each
pub laid : (map : ℕ) {w₀ w₁ w₂ w₃ w₄ w₅ : ℕ} → w₀ ≡ bytes 0 8 map → w₁ ≡ bytes 1 8 map → w₂ ≡ bytes 2 4 map
    → w₃ ≡ bytes 3 2 map → w₄ ≡ bytes 4 2 map → w₅ ≡ bytes 5 1 map
    → ◌≡◌ {A = Layout}
    (record {
      span = 3 + w₀;
      id = 3 + w₀ + w₁;
      len = 3 + w₀ + w₁ + w₂;
      acked = 3 + w₀ + w₁ + w₂ + w₃;
      flags = 3 + w₀ + w₁ + w₂ + w₃ + w₄;
      size = 3 + w₀ + w₁ + w₂ + w₃ + w₄ + w₅;
    })
    (layout_of map)
laid map e₀ e₁ e₂ e₃ e₄ e₅ i =
    record {
      span = 3 + e₀ i;
      id = 3 + e₀ i + e₁ i;
      len = 3 + e₀ i + e₁ i + e₂ i;
      acked = 3 + e₀ i + e₁ i + e₂ i + e₃ i;
      flags = 3 + e₀ i + e₁ i + e₂ i + e₃ i + e₄ i;
      size = 3 + e₀ i + e₁ i + e₂ i + e₃ i + e₄ i + e₅ i;
    }

-- the event from its fields
pub event-is : (map kind : ℕ) (l : List ℕ) {at : Layout} {now span id len acked slot flags : ℕ}
    → at ≡ layout_of map → now ≡ field 0 8 map 3 l → span ≡ field 1 8 map at.span l → id ≡ field 2 4 map at.id l
    → len ≡ field 3 2 map at.len l → acked ≡ field 4 2 map at.acked l → slot ≡ get_or l 2 0
    → flags ≡ field 5 1 map at.flags l
    → ◌≡◌ {A = Event}
    (record { now = now; span = span; id = id; len = len; acked = acked; kind = kind; slot = slot; flags = flags })
    (event_of map kind l)
event-is map kind l q e₀ e₁ e₂ e₃ e₄ s e₅ =
    let p₁ = e₁ ∙ (λ i. field 1 8 map (q i).span l) in
    let p₂ = e₂ ∙ (λ i. field 2 4 map (q i).id l) in
    let p₃ = e₃ ∙ (λ i. field 3 2 map (q i).len l) in
    let p₄ = e₄ ∙ (λ i. field 4 2 map (q i).acked l) in
    let p₅ = e₅ ∙ (λ i. field 5 1 map (q i).flags l) in
    λ i. record {
      now = e₀ i;
      span = p₁ i;
      id = p₂ i;
      len = p₃ i;
      acked = p₄ i;
      kind = kind;
      slot = s i;
      flags = p₅ i;
    }
