use mathlib.Core.Path.{refl}
use Rattle.image.specs.Image.{counts_words}
use Rattle.image.proofs.Lengths.{counts-length}
use Rattle.image.proofs.PartLaws.{refused, first, part, written}
use Rattle.image.proofs.parts.write_counts.Goals as goal

pub returns-then-out-lt136 : goal.returns-then-out-lt136
returns-then-out-lt136 c = let a = c.args in refused _ (counts-length a.misses a.ladder a.sizes a.traffic) c.if-out-lt136.true

pub returns : goal.returns
unfolding counts_words
returns c =
    let h = c.if-out-lt136.false in
    let f₁ = first _ h c.size_words.ensures refl tt c.put_words.ensures.1 in
    written _ (part _ _ h f₁ c.traffic_words.ensures refl tt c.put_words-2.ensures.1)
