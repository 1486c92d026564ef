use Rattle.eventfile.specs.File.{is_stray}
use Rattle.eventfile.proofs.FrontLaws.{or-none}
use Rattle.eventfile.proofs.is_stray.Goals as goal

pub returns : goal.returns
unfolding is_stray
returns c = simp or-none
