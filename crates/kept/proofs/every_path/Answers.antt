use Rattle.kept.proofs.KeptLaws.{kept-all}
use Rattle.kept.proofs.every_path.Goals as goal

pub returns : goal.returns
returns c = kept-all
