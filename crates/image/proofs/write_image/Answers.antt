use mathlib.Core.Path.{◌≡◌, refl, ap}
use lib.ListN.{length}
use borrow.Author.Rules.{rules}
use mathlib.Core.List.{[], ◌∷◌, ◌++◌}
use Prim.Native.Nat.{ℕ}
use Rattle.total.specs.Patterns.{etx_bits}
use Rattle.image.specs.Image.{rtts_words, front_words, image_words, image_of}
use Rattle.image.proofs.Lengths.{rtts-length, front_length, image-length, image-bytes}
use Rattle.image.proofs.PartLaws.{refused, first, part, written}
use Rattle.image.proofs.write_image.Goals as goal

pub returns-then-out-lt1800 : goal.returns-then-out-lt1800
unfolding image_of
returns-then-out-lt1800 c =
    let a = c in
    let p = a.args.path in
    let x : length p.ring ≡ 8 = search rules in
    let y : length p.late ≡ 4 = search rules in
    let m : length p.rtts.samples ≡ 32 = search rules in
    let n : length p.rtts.spans ≡ 8 = search rules in
    let k = refused _ (image-length p x y m n) c.if-out-lt1800.true in
    (k.0, (k.1, image-bytes p x y m n))

pub returns : goal.returns
unfolding image_words image_of
returns c =
    let a = c in
    let h = c.if-out-lt1800.false in
    let p = a.args.path in
    let x : length p.ring ≡ 8 = search rules in
    let y : length p.late ≡ 4 = search rules in
    let m : length p.rtts.samples ≡ 32 = search rules in
    let n : length p.rtts.spans ≡ 8 = search rules in
    let w₁ = front_words p in
    let w₂ = rtts_words p.rtts in
    let w₃ = etx_bits p.etx ∷ [] in
    let f₁ = first w₁ h refl (front_length p x y) tt c.write_front.ensures.1 in
    let f₂ = part w₁ w₂ h f₁ refl (rtts-length p.rtts m n) tt c.write_rtts.ensures.1 in
    let k = written (w₁ ++ w₂ ++ w₃) (part (w₁ ++ w₂) w₃ h f₂ (ap (λ (z : ℕ). z ∷ []) c.etx_bits.ensures) refl tt c.put_words.ensures.1) in
    (k.0, (k.1, image-bytes p x y m n))
