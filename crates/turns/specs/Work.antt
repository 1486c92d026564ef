-- The work of an event's kind.
use Rattle.base.specs.declared.types.Refusal.TheVariants as refusal
use Rattle.std.specs.Prelude.{drop, Err}
use Rattle.rules.specs.Rules.{turn, works, work_of}
use Rattle.rules.specs.declared.types.Settings.{Settings}
use Rattle.rules.specs.declared.types.Event.{Event}
use Rattle.rules.specs.declared.types.Slot.{Slot}
use Rattle.rules.specs.declared.types.Turn.{Turn}
use Rattle.rules.specs.declared.types.Reply.TheVariants as reply

-- the work of the event's kind, but for an open; 15 for a kind that has none
unfoldable pub work_by : Settings → Slot → Event → Turn
work_by t s e = work_of (drop 1 (works t s e)) e (turn s s.path (Err refusal.Kind))
