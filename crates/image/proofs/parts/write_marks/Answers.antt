use mathlib.Core.Path.{refl}
use mathlib.Core.List.{◌++◌}
use Rattle.image.specs.Image.{ids_words, time_words, stop_words, marks_words}
use Rattle.image.proofs.Lengths.{marks-length, stop-length}
use Rattle.image.proofs.PartLaws.{refused, first, part, written}
use Rattle.image.proofs.parts.write_marks.Goals as goal

pub returns-then-out-lt136 : goal.returns-then-out-lt136
returns-then-out-lt136 c = let a = c.args in refused _ (marks-length a.ids a.silence) c.if-out-lt136.true

pub returns : goal.returns
unfolding marks_words
returns c =
    let h = c.if-out-lt136.false in
    let a = c.args in
    let x = a.silence.stop in
    let w₁ = ids_words a.ids in
    let w₂ = time_words a.silence.quiet in
    let f₁ = first w₁ h c.ids_words.ensures refl tt c.put_words.ensures.1 in
    let f₂ = part w₁ w₂ h f₁ c.time_words.ensures refl tt c.put_words-2.ensures.1 in
    written (w₁ ++ w₂ ++ stop_words x) (part (w₁ ++ w₂) (stop_words x) h f₂ c.stop_words.ensures (stop-length x) tt c.put_words-3.ensures.1)
