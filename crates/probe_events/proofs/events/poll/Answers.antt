use Rattle.probe_events.proofs.ScanLaws.{poll-start}
use Rattle.probe_events.proofs.events.poll.Goals as goal

pub loop-n-init : goal.loop-n-init
loop-n-init c = poll-start _ _ _ _
