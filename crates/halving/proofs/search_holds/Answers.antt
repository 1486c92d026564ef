use Rattle.halving.proofs.Moves.{search-holds}
use Rattle.halving.proofs.search_holds.Goals as goal

pub returns : goal.returns
returns c = search-holds
