use Rattle.peer.proofs.CallLaws.{calls-hold}
use Rattle.peer.proofs.calls.Goals as goal

pub returns : goal.returns
returns c = calls-hold
