use Rattle.figures.proofs.Computed.{computed}
use Rattle.figures.proofs.twelve_figures.Goals as goal

pub returns : goal.returns
returns c = computed
