use mathlib.Core.Path.{refl}
use Rattle.cells.specs.Code.{settings_row}
use Rattle.cells.proofs.RowLaws.{settings-says}
use Rattle.labels.proofs.marks.settings_row.Goals as goal

pub returns : goal.returns
unfolding settings_row
returns c = (refl, settings-says _)
