-- The answers to a list of events from a fresh record, with every definition open: for lists that are computed.
use Rattle.std.specs.Prelude.{ℕ, List, [], ◌∷◌, ◌≡◌}
use Rattle.std.specs.Float.Ieee.{of_bits, le, is_nan, mul, add, sub, div, of_int}
use Rattle.total.specs.Values.{negative, total_of}
use Rattle.etx.specs.Etx.{fold_of, score_of, quality_of}
use Rattle.rtt.specs.Samples.{min_rtt, with_sample}
use Rattle.rtt.specs.Spans.{base_rtt, span_of}
use Rattle.ring.specs.Ring.{outstanding_of}
use Rattle.live.specs.Probe.{send_of, answer_of, expire_of}
use Rattle.live.specs.Search.{prove_of, seek_size_of, seek_send_of, seek_answer_of, seek_proved_of, seek_judge_of}
use Rattle.live.specs.Times.{sample_of, heard_of}
use Rattle.seek.specs.Rules.{proposal_of}
use Rattle.seek.specs.Search as search
use Rattle.select.specs.Choice.{ranked_of, picked_of}
use Rattle.rules.specs.Rules.{on_slot}
use Rattle.rules.specs.Step.{Entry, fresh_record, step, choice_of, trace}
use Rattle.rules.specs.declared.types.Settings.{Settings}
use Rattle.rules.specs.declared.types.Event.{Event}

-- an event with the fields of a file's record, in the file's order: kind, slot, now, span, draw or identifier, length,
-- acked, flags
abbrev pub event : ℕ → ℕ → ℕ → ℕ → ℕ → ℕ → ℕ → ℕ → Event
event kind slot now span id len acked flags =
    record { now = now; span = span; id = id; len = len; acked = acked; kind = kind; slot = slot; flags = flags }

-- settings, in the file's order
abbrev pub settings : ℕ → ℕ → ℕ → ℕ → Settings
settings cap gap window horizon = record { cap = cap; gap = gap; window = window; horizon = horizon }

-- the refusal number and the value of each
abbrev pub numbers : List Entry → List (ℕ × ℕ)
numbers [] = []
numbers (x ∷ l) = (x.number, x.value) ∷ numbers l

unfoldable pub answers : Settings → List Event → List (ℕ × ℕ)
unfolding of_bits le is_nan mul add sub div of_int negative total_of fold_of score_of quality_of min_rtt with_sample base_rtt
    span_of outstanding_of send_of answer_of expire_of prove_of seek_size_of seek_send_of seek_answer_of seek_proved_of
    seek_judge_of sample_of heard_of proposal_of search.search_size search.sent_search search.settled_search
    search.acked_search search.judged_search ranked_of picked_of on_slot choice_of step
answers t es = numbers (trace (fresh_record t) es)

-- a list with the answers that it should get, and that it gets them
pub record Sample : Type 0 where
  pub settings : Settings
  pub events : List Event
  pub given : List (ℕ × ℕ)

abbrev pub Right : Sample → Type 0
Right s = answers s.settings s.events ≡ s.given

abbrev pub AllRight : List Sample → Type 0
AllRight [] = Unit {0}
AllRight (s ∷ l) = Right s × AllRight l
