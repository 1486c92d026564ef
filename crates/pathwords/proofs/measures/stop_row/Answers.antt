use mathlib.Core.Path.{ap, sym}
use Rattle.cells.specs.Code.{stop_row}
use Rattle.cells.proofs.MakerLaws.{stop-made}
use Rattle.pathwords.proofs.measures.stop_row.Goals as goal

pub returns-in_default : goal.returns-in_default
unfolding stop_row
returns-in_default c = ap stop_row (sym c.in_default.is)

pub returns : goal.returns
returns c = stop-made c.in-Some.is c.stop_mark.ensures.0 c.until_mark.ensures.0
