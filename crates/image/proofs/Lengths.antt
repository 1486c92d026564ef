-- How many bytes each part of the image has. Assumes nothing.
use Rattle.stop.specs.declared.types.Stop.{Stop}
use Rattle.std.specs.Prelude.{Option, None, Some}
use mathlib.Core.Path.{◌≡◌, refl, ap, ◌∙◌}
use mathlib.Core.List.{List, [], ◌∷◌, ◌++◌}
use Prim.Native.Nat.{ℕ, ◌*◌}
use native.Mathlib.Omega.{arith}
use lib.ListN.{length, length-append}
use Rattle.ring.specs.declared.types.Sent.{Sent}
use Rattle.ring.specs.declared.types.Ids.{Ids}
use Rattle.rtt.specs.declared.types.Sample.{Sample}
use Rattle.rtt.specs.declared.types.Span.{Span}
use Rattle.rtt.specs.declared.types.Rtts.{Rtts}
use Rattle.stop.specs.declared.types.Silence.{Silence}
use Rattle.seek.specs.declared.types.Sizes.{Sizes}
use Rattle.seek.specs.declared.types.Ladder.{Ladder}
use Rattle.live.specs.declared.types.Traffic.{Traffic}
use Rattle.live.specs.declared.types.Liveness.{Liveness}
use Rattle.octets.specs.Octets.{flat}
use Rattle.octets.proofs.Fill.{flat-length}
use Rattle.total.specs.Patterns.{etx_bits}
use Rattle.image.specs.Image.{time_words, ids_words, stop_words, sent_words, sample_words, span_words, marks_words, counts_words, rtts_words, front_words, image_words, image_of}
use Rattle.image.proofs.PartLaws.{words-length}

-- n elements of k words each
sum : {A : Type 0} (g : A → List ℕ) (k : ℕ) → ((x : A) → length (g x) ≡ k) → (l : List A) {n : ℕ} → length l ≡ n → length (flat g l) ≡ k * n
sum g k each l e = flat-length g k each l ∙ ap (λ (z : ℕ). k * z) e

pub sents-length : (l : List Sent) {n : ℕ} → length l ≡ n → length (flat sent_words l) ≡ 5 * n
sents-length l e = sum sent_words 5 (λ x. refl) l e

pub samples-length : (l : List Sample) {n : ℕ} → length l ≡ n → length (flat sample_words l) ≡ 3 * n
samples-length l e = sum sample_words 3 (λ x. refl) l e

pub spans-length : (l : List Span) {n : ℕ} → length l ≡ n → length (flat span_words l) ≡ 4 * n
spans-length l e = sum span_words 4 (λ x. refl) l e

pub stop-length : (x : Option Stop) → length (stop_words x) ≡ 7
stop-length None = refl
stop-length (Some s) = refl

of-stop : (ids : Ids) (quiet : Option ℕ) (x : Option Stop) → length (ids_words ids ++ time_words quiet ++ stop_words x) ≡ 17
of-stop ids quiet None = refl
of-stop ids quiet (Some s) = refl

pub marks-length : (ids : Ids) (s : Silence) → length (marks_words ids s) ≡ 17
unfolding marks_words
marks-length ids s = of-stop ids s.quiet s.stop

pub counts-length : (misses : ℕ) (ladder : Ladder) (sizes : Sizes) (traffic : Traffic) → length (counts_words misses ladder sizes traffic) ≡ 17
unfolding counts_words
counts-length misses ladder sizes traffic = refl

pub rtts-length : (r : Rtts) → length r.samples ≡ 32 → length r.spans ≡ 8 → length (rtts_words r) ≡ 130
unfolding rtts_words
rtts-length r m n =
    omega (arith, length-append (flat sample_words r.samples) (flat span_words r.spans), samples-length r.samples m, spans-length r.spans n)

pub front_length : (p : Liveness) → length p.ring ≡ 8 → length p.late ≡ 4 → length (front_words p) ≡ 94
unfolding front_words
front_length p m n =
    let a = flat sent_words p.ring in
    let b = flat sent_words p.late in
    let c = marks_words p.ids p.silence in
    let d = counts_words p.misses p.ladder p.sizes p.traffic in
    omega (
      arith,
      length-append a b,
      length-append (a ++ b) c,
      length-append (a ++ b ++ c) d,
      sents-length p.ring m,
      sents-length p.late n,
      marks-length p.ids p.silence,
      counts-length p.misses p.ladder p.sizes p.traffic,
    )

pub image-length : (p : Liveness) → length p.ring ≡ 8 → length p.late ≡ 4 → length p.rtts.samples ≡ 32 → length p.rtts.spans ≡ 8 → length (image_words p) ≡ 225
unfolding image_words
image-length p a b m n =
    omega (
      arith,
      length-append (front_words p) (rtts_words p.rtts),
      length-append (front_words p ++ rtts_words p.rtts) (etx_bits p.etx ∷ []),
      front_length p a b,
      rtts-length p.rtts m n,
    )

-- the image has 1,800 bytes
pub image-bytes : (p : Liveness) → length p.ring ≡ 8 → length p.late ≡ 4 → length p.rtts.samples ≡ 32 → length p.rtts.spans ≡ 8 → length (image_of p) ≡ 1800
unfolding image_of
image-bytes p a b m n = words-length (image_words p) ∙ ap (λ (z : ℕ). 8 * z) (image-length p a b m n)
