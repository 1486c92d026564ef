use Rattle.std.proofs.Common.{rules}
use Rattle.peer.proofs.StepLaws.{tells, tells_as}
use Rattle.peer.proofs.record.tell.Goals as goal

pub returns : goal.returns
returns c =
    tells_as _ _ _ _ c.event_in.ensures
    (tells _ c.event.ensures (search rules) c.word_of.ensures)
