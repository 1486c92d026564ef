use borrow.Author.Rules.{rules}
use mathlib.Core.Path.{ap, ◌∙◌}
use mathlib.Core.Bool.{Bool}
use Rattle.cells.specs.Cells.{sample_in}
use Rattle.cells.proofs.SampleLaws.{is_last}
use Rattle.rows.specs.Places.{samples_at}
use Rattle.rows.specs.View.{row}
use Prim.Native.Nat.{◌+◌, ◌/◌}
use Rattle.rows.proofs.ViewLaws.{sample-past, sample-at}
use Rattle.rowmeasures.proofs.sample.Goals as goal

pub returns-then-i-ge-SAMPLES : goal.returns-then-i-ge-SAMPLES
returns-then-i-ge-SAMPLES c = sample-past _ (search rules) c.if-i-ge-SAMPLES.true c.none.ensures

pub returns : goal.returns
returns c = c.sample_in.ensures
    ∙ ap (λ (b : Bool). sample_in (row c.args.p.now (samples_at + c.args.i / 2)) (is_last c.args.i) b) c.bit_in.ensures
    ∙ sample-at _ (search rules) _ c.if-i-ge-SAMPLES.false
