use mathlib.Core.Path.{◌≡◌, refl}
use mathlib.Core.List.{◌++◌}
use lib.ListN.{length}
use borrow.Author.Rules.{rules}
use Rattle.octets.specs.Octets.{flat}
use Rattle.image.specs.Image.{sent_words, marks_words, counts_words, front_words}
use Rattle.image.proofs.Lengths.{sents-length, marks-length, counts-length, front_length}
use Rattle.image.proofs.PartLaws.{refused, first, part, written}
use Rattle.image.proofs.parts.write_front.Goals as goal

pub returns-then-out-lt752 : goal.returns-then-out-lt752
returns-then-out-lt752 c =
    let a = c in
    let p = a.args.path in
    let x : length p.ring ≡ 8 = search rules in
    let y : length p.late ≡ 4 = search rules in
    refused _ (front_length p x y) c.if-out-lt752.true

pub returns : goal.returns
unfolding front_words
returns c =
    let a = c in
    let h = c.if-out-lt752.false in
    let p = a.args.path in
    let x : length p.ring ≡ 8 = search rules in
    let y : length p.late ≡ 4 = search rules in
    let w₁ = flat sent_words p.ring in
    let w₂ = flat sent_words p.late in
    let w₃ = marks_words p.ids p.silence in
    let w₄ = counts_words p.misses p.ladder p.sizes p.traffic in
    let f₁ = first w₁ h refl (sents-length p.ring x) tt c.write_all.ensures.1 in
    let f₂ = part w₁ w₂ h f₁ refl (sents-length p.late y) tt c.write_all-2.ensures.1 in
    let f₃ = part (w₁ ++ w₂) w₃ h f₂ refl (marks-length p.ids p.silence) tt c.write_marks.ensures.1 in
    written (w₁ ++ w₂ ++ w₃ ++ w₄) (part (w₁ ++ w₂ ++ w₃) w₄ h f₃ refl (counts-length p.misses p.ladder p.sizes p.traffic) tt c.write_counts.ensures.1)
