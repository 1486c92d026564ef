use borrow.Author.Rules.{rules}
use Rattle.labels.proofs.EventLaws.{event-made}
use Rattle.labels.proofs.events.event_row.Goals as goal

pub returns : goal.returns
returns c =
    event-made _ (c.from.ensures, search rules) (c.from-2.ensures, search rules) (c.from-3.ensures, search rules)
    (c.from-kind.ensures, search rules) (c.from-slot.ensures, search rules) (c.from-flags.ensures, search rules)
