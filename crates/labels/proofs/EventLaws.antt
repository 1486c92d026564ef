-- An event in four words: what the words say, and the words that say it.
-- Assumes nothing.
use Prim.Native.Nat.{ℕ, ◌+◌, ◌*◌, ◌/◌, ◌%◌, ◌<◌, ◌^◌}
use mathlib.Core.Path.{◌≡◌, refl, ap, ◌∙◌}
use mathlib.Core.List.{[], ◌∷◌}
use native.Mathlib.Omega.{arith}
use Rattle.rules.specs.declared.types.Event.{Event}
use Rattle.cells.specs.Cells.{event_in}
use Rattle.cells.specs.Code.{event_row}
use Rattle.cells.proofs.MakerLaws.{under}

-- the parts of a word that has half a word and three bytes
record Parts (x a k s f : ℕ) : Type 0 where
  pub half : x % 2 ^ 32 ≡ a
  pub first : x / 2 ^ 32 % 256 ≡ k
  pub second : x / 2 ^ 40 % 256 ≡ s
  pub third : x / 2 ^ 48 % 256 ≡ f

-- by their widths
parts : (x a k s f : ℕ) → x ≡ a + k * 2 ^ 32 + s * 2 ^ 40 + f * 2 ^ 48 → a < 2 ^ 32 → k < 256 → s < 256 → f < 256
    → Parts x a k s f
parts x a k s f e h i j l = record { half = omega arith; first = omega arith; second = omega arith; third = omega arith }

-- a word of two halves
halves : (x a b : ℕ) → x ≡ a + b * 2 ^ 32 → a < 2 ^ 32 → b < 2 ^ 32 → (x % 2 ^ 32 ≡ a) × (x / 2 ^ 32 % 2 ^ 32 ≡ b)
halves x a b e h i = (omega arith, omega arith)

-- numbers as wide as an event's
record Fits (e : Event) : Type 0 where
  pub id : e.id < 2 ^ 32
  pub len : e.len < 2 ^ 32
  pub acked : e.acked < 2 ^ 32
  pub kind : e.kind < 256
  pub slot : e.slot < 256
  pub flags : e.flags < 256

-- the words of an event say it
event-says : (e : Event) → Fits e → event_in (event_row e) ≡ e
unfolding event_in event_row
event-says e w =
    let p = halves (e.id + e.len * 2 ^ 32) _ _ refl w.id w.len in
    let q = parts (e.acked + e.kind * 2 ^ 32 + e.slot * 2 ^ 40 + e.flags * 2 ^ 48) _ _ _ _ refl w.acked w.kind
    w.slot w.flags in
    λ j. record {
      now = e.now;
      span = e.span;
      id = p.0 j;
      len = p.1 j;
      acked = q.half j;
      kind = q.first j;
      slot = q.second j;
      flags = q.third j;
    }

-- the words of an event, from its numbers with their widths
pub event-made : (e : Event) {i n a k s f : ℕ} → (i ≡ e.id) × (i < 2 ^ 32) → (n ≡ e.len) × (n < 2 ^ 32)
    → (a ≡ e.acked) × (a < 2 ^ 32) → (k ≡ e.kind) × (k < 256) → (s ≡ e.slot) × (s < 256)
    → (f ≡ e.flags) × (f < 256)
    → let r = e.now ∷ e.span ∷ (i + n * 2 ^ 32) ∷ (a + k * 2 ^ 32 + s * 2 ^ 40 + f * 2 ^ 48) ∷ [] in
    (r ≡ event_row e) × (event_in r ≡ e)
unfolding event_row
event-made e {i} {n} {a} {k} {s} {f} p q t u v w =
    let r : e.now ∷ e.span ∷ (i + n * 2 ^ 32) ∷ (a + k * 2 ^ 32 + s * 2 ^ 40 + f * 2 ^ 48) ∷ [] ≡ event_row e =
    λ j. e.now ∷ e.span ∷ (p.0 j + q.0 j * 2 ^ 32)
    ∷ (t.0 j + u.0 j * 2 ^ 32 + v.0 j * 2 ^ 40 + w.0 j * 2 ^ 48) ∷ [] in
    let fits : Fits e = record {
      id = under p;
      len = under q;
      acked = under t;
      kind = under u;
      slot = under v;
      flags = under w;
    } in
    (r, ap event_in r ∙ event-says e fits)
