use mathlib.Core.Path.{◌≡◌, refl}
use lib.ListN.{length}
use borrow.Author.Rules.{rules}
use mathlib.Core.List.{◌++◌}
use Rattle.octets.specs.Octets.{flat}
use Rattle.image.specs.Image.{time_words, sample_words, span_words, rtts_words}
use Rattle.image.proofs.Lengths.{samples-length, spans-length, rtts-length}
use Rattle.image.proofs.PartLaws.{refused, first, part, written}
use Rattle.image.proofs.parts.write_rtts.Goals as goal

pub returns-then-out-lt1040 : goal.returns-then-out-lt1040
returns-then-out-lt1040 c =
    let a = c in
    let r = a.args.r in
    let m : length r.samples ≡ 32 = search rules in
    let n : length r.spans ≡ 8 = search rules in
    refused _ (rtts-length r m n) c.if-out-lt1040.true

pub returns : goal.returns
unfolding rtts_words
returns c =
    let a = c in
    let h = c.if-out-lt1040.false in
    let r = a.args.r in
    let m : length r.samples ≡ 32 = search rules in
    let n : length r.spans ≡ 8 = search rules in
    let w₁ = time_words r.rtt in
    let w₂ = flat sample_words r.samples in
    let w₃ = flat span_words r.spans in
    let f₁ = first w₁ h c.time_words.ensures refl tt c.put_words.ensures.1 in
    let f₂ = part w₁ w₂ h f₁ refl (samples-length r.samples m) tt c.write_all.ensures.1 in
    written (w₁ ++ w₂ ++ w₃) (part (w₁ ++ w₂) w₃ h f₂ refl (spans-length r.spans n) tt c.write_all-2.ensures.1)
