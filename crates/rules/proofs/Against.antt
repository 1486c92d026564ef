-- The smallest lists on which a clause of demand 3 could break, computed: each is named for the edit in must-fail/ that
-- breaks it. This file is checked first, from its top down, and a list stands above those that its edit breaks too: so what
-- is refused first of an edit is the list of its name. once-draws, twelve-eleven and dues-after have none: they change the
-- claim itself, and are refused where the theorem needs it.
-- Assumes nothing.
use Rattle.std.specs.Prelude.{Some}
use Prim.Native.Nat.{ℕ, zero, suc, ◌≤◌, ◌^◌}
use mathlib.Core.Bool.{Bool, false}
use mathlib.Core.Path.{◌≡◌, refl}
use mathlib.Core.List.{List, [], ◌∷◌, ◌++◌, map}
use mathlib.Core.Logic.{inl, inr}
use native.Mathlib.Omega.{arith}
use lib.Dec.{eqb}
use lib.ListN.{length}
use Rattle.std.specs.List.{filter}
use Rattle.base.proofs.Cases.{never}
use Rattle.base.specs.Refusals.{refusal_number}
use Rattle.ring.specs.Ring.{waiting}
use Rattle.rules.specs.Answers.{event, settings, answers}
use Rattle.rules.specs.Event.{number_of, value_of}
use Rattle.rules.specs.Rules.{refusals}
use Rattle.rules.specs.Step.{Entry, fresh_record, run, step}
use Rattle.rules.specs.Book.{Proved, Lost, answer_says, judge_says, noted}
use Rattle.rules.specs.Demand3.{Every, Sum, Stays, Sought, Carries, Rest, Near, marks_of, search_of, slot_after, book_after}
use Rattle.rules.specs.declared.types.Settings.{Settings}
use Rattle.rules.specs.declared.types.Event.{Event}

-- ---- events on slot 0, and settings

abbrev opens : ℕ → ℕ → Event
opens full flags = event 1 0 0 0 0 full 0 flags

abbrev probe : Event
probe = event 2 0 0 0 7 0 0 0

abbrev answer : ℕ → Event
answer id = event 3 0 0 0 id 0 0 0

abbrev poll : Event
poll = event 4 0 0 0 0 0 0 0

abbrev prove : ℕ → Event
prove size = event 7 0 0 0 0 size 0 0

abbrev search : ℕ → Event
search now = event 8 0 now 0 0 0 0 0

abbrev judge : ℕ → Event
judge timeout = event 9 0 0 timeout 0 0 0 0

abbrev heard : Event
heard = event 10 0 1 0 0 0 0 0

-- cap 2, gap 3
abbrev t : Settings
t = settings 2 3 1 1

-- ---- the clauses after a list

abbrev Rings : List Event → Type 0
Rings es = waiting (slot_after t es 0).path.ring ≡ map (λ w. w.probe) (book_after t es 0).probes.waiting

abbrev Marked : List Event → Type 0
Marked es = marks_of (slot_after t es 0).used (slot_after t es 0).label ≡ (book_after t es 0).marks

abbrev Searched : List Event → Type 0
Searched es = search_of (slot_after t es 0).path.sizes ≡ (book_after t es 0).sizing.tally.search

-- the refusal number and the value of one more event
abbrev refuses : List Event → Event → ℕ
refuses es e = number_of (step (run (fresh_record t) es) e).reply

abbrev says : List Event → Event → ℕ
says es e = value_of (step (run (fresh_record t) es) e).reply

-- ---- nothing: an open leaves a path

nothing-changed : Marked (opens 27 0 ∷ [])
unfolding answers noted
nothing-changed = refl

-- ---- order: the refusals are tried in the table's order, 15 first and 23 last, which stands before 8; a probe may be due
-- at its now; one that is refused takes no identifier

-- a probe of so many bytes, due before its now
abbrev behind : ℕ → Event
behind len = event 2 0 1 0 7 len 0 0

abbrev probes : ℕ → List Event
probes zero = []
probes (suc n) = probe ∷ probes n

order-due : refuses (opens 27 0 ∷ []) (behind 65536) ≡ 5
unfolding answers noted
order-due = refl

order-full : refuses (opens 27 0 ∷ probes 8) (behind 0) ≡ 23
unfolding answers noted
order-full = refl

order-equal : refuses (opens 27 0 ∷ []) probe ≡ 0
unfolding answers noted
order-equal = refl

order-taken : says (opens 27 0 ∷ behind 0 ∷ []) probe ≡ 7
unfolding answers noted
order-taken = refl

order-kind : (t : Settings) (used : Bool) (e : Event)
    → map (λ x. refusal_number x.0) (refusals t used e) ≡ 15 ∷ 1 ∷ 2 ∷ 3 ∷ 4 ∷ 5 ∷ 6 ∷ 23 ∷ []
order-kind t used e = refl

-- ---- rings: a probe; its answer; two lapses; one that is not due; a deferral

rings-probe : Rings (opens 27 0 ∷ probe ∷ [])
unfolding answers noted
rings-probe = refl

rings-answer : Rings (opens 27 0 ∷ probe ∷ answer 7 ∷ [])
unfolding answers noted
rings-answer = refl

rings-once : Rings (opens 27 0 ∷ probe ∷ probe ∷ poll ∷ [])
unfolding answers noted
rings-once = refl

rings-early : Rings (opens 27 0 ∷ event 2 0 0 1 7 0 0 0 ∷ poll ∷ [])
unfolding answers noted
rings-early = refl

rings-cap : Rings (opens 27 0 ∷ probe ∷ heard ∷ poll ∷ [])
unfolding answers noted
rings-cap = refl

-- ---- polls: what is deferred waits with a due that has passed, until its cap deadline

polls-due : Every (Stays t 0 false) (book_after t (opens 27 0 ∷ probe ∷ heard ∷ poll ∷ []) 0).probes.waiting
unfolding answers noted
polls-due = (refl, tt)

polls-gap : Every (Stays t 2 false)
    (book_after t (opens 27 0 ∷ probe ∷ heard ∷ poll ∷ event 4 0 2 0 0 0 0 0 ∷ []) 0).probes.waiting
unfolding answers noted
polls-gap = tt

-- ---- once: the second probe is not the first one

once-anew : length
    (filter (eqb 7) (book_after t (opens 27 0 ∷ probe ∷ answer 7 ∷ probe ∷ answer 7 ∷ []) 0).probes.timely) ≡ 1
unfolding answers noted
once-anew = refl

-- ---- sums: a poll of nothing; a sweep of one

sums-poll : Sum (book_after t (opens 27 0 ∷ poll ∷ []) 0)
unfolding answers noted
sums-poll = refl

sums-sweep : Sum (book_after t (opens 27 0 ∷ probe ∷ event 13 0 0 0 0 0 0 0 ∷ []) 0)
unfolding answers noted
sums-sweep = refl

-- ---- settled: a late answer; a judge with no later answer; a judge before the timeout

settled-late : says (opens 27 0 ∷ probe ∷ poll ∷ []) (answer 7) ≡ answer_says
    (book_after t (opens 27 0 ∷ probe ∷ poll ∷ []) 0) (answer 7)
unfolding answers noted
settled-late = refl

abbrev out : List Event
out = opens 60 0 ∷ prove 27 ∷ search 0 ∷ []

settled-judge : says out (judge 0) ≡ judge_says (book_after t out 0) (judge 0)
unfolding answers noted
settled-judge = refl

abbrev sought : List Event
sought = opens 60 0 ∷ prove 27 ∷ search 0 ∷ probe ∷ answer 1 ∷ []

settled-early : says sought (judge 1) ≡ judge_says (book_after t sought 0) (judge 1)
unfolding answers noted
settled-early = refl

-- ---- settings: one of 2^62 or more that an event reads gives 6: poll the cap; answer and judge the gap; sample window and
-- horizon. No other event reads one

abbrev long : ℕ
long = 2 ^ 62

settings-cap : answers (settings long 1 1 1) (opens 27 0 ∷ poll ∷ []) ≡ (0, 0) ∷ (6, 0) ∷ []
unfolding answers
settings-cap = refl

settings-gap : answers (settings 1 long 1 1) (opens 27 0 ∷ poll ∷ answer 7 ∷ judge 0 ∷ [])
    ≡ (0, 0) ∷ (0, 0) ∷ (6, 0) ∷ (6, 0) ∷ []
unfolding answers
settings-gap = refl

abbrev sample : Event
sample = event 5 0 0 0 0 0 0 0

settings-window : answers (settings 1 1 long 1) (opens 27 0 ∷ poll ∷ sample ∷ []) ≡ (0, 0) ∷ (0, 0) ∷ (6, 0) ∷ []
unfolding answers
settings-window = refl

settings-horizon : answers (settings 1 1 1 long) (opens 27 0 ∷ judge 0 ∷ sample ∷ []) ≡ (0, 0) ∷ (0, 0) ∷ (6, 0) ∷ []
unfolding answers
settings-horizon = refl

-- ---- agrees: an open's flags; fresh; when a search probe was sent, and what size; the next try after a judge

agrees-fits : Marked (opens 27 32 ∷ [])
unfolding answers noted
agrees-fits = refl

abbrev fresh : Event
fresh = event 11 0 0 0 0 0 0 0

agrees-fresh : Searched (opens 27 0 ∷ prove 27 ∷ fresh ∷ [])
unfolding answers noted
agrees-fresh = refl

agrees-seek : Searched (opens 60 0 ∷ prove 27 ∷ search 0 ∷ fresh ∷ [])
unfolding answers noted
agrees-seek = refl

agrees_at : (slot_after t out 0).path.sizes.seek.at ≡ Some (book_after t out 0).sizing.probe_at
unfolding answers noted
agrees_at = refl

-- 60 is lost
abbrev missed : List Event
missed = opens 60 0 ∷ prove 27 ∷ search 0 ∷ probe ∷ answer 1 ∷ judge 0 ∷ []

agrees-next : (slot_after t missed 0).path.sizes.seek.at ≡ (book_after t missed 0).sizing.next
unfolding answers noted
agrees-next = refl

agrees-full : Searched (missed ++ search 3 ∷ [])
unfolding answers noted
agrees-full = refl

-- ---- sought: with nothing proven nothing is proposed, nor before the next try. twelve: with a search probe out none
-- either

-- the entry of one more event
abbrev gives : List Event → Event → Entry
gives es e =
    record { event = e; number = number_of (step (run (fresh_record t) es) e).reply; value = says es e }

sought-none : Sought (book_after t (opens 27 0 ∷ [])) (gives (opens 27 0 ∷ []) (search 0))
    (book_after t (opens 27 0 ∷ search 0 ∷ []))
unfolding answers noted
sought-none j a = absurd (omega (arith, a.0))

-- the next try is 3
sought-early : Sought (book_after t missed) (gives missed (search 2)) (book_after t (missed ++ search 2 ∷ []))
unfolding answers noted
sought-early j a = absurd (omega (arith, a.0))

abbrev searches : ℕ → List Event
searches zero = []
searches (suc n) = search 0 ∷ searches n

twelve-again : (book_after t (opens 28 0 ∷ prove 27 ∷ searches 13) 0).sizing.tally.count ≤ 12
unfolding answers noted
twelve-again = omega arith

-- ---- chosen: margin 1 is allowed; tier 0 takes part; not slot 0, if it is not open; a pinned one before a higher tier

abbrev opens_at : ℕ → ℕ → Event
opens_at slot flags = event 1 slot 0 0 0 27 0 flags

-- with margin 1
abbrev choose : Event
choose = event 15 0 0 0x3ff0_0000_0000_0000 0 0 0 0

-- a path of tier 2
chosen-margin : refuses (opens_at 0 8 ∷ []) choose ≡ 0
unfolding answers noted
chosen-margin = refl

chosen-tier : refuses (opens_at 0 0 ∷ []) choose ≡ 0
unfolding answers noted
chosen-tier = refl

chosen-zero : says (opens_at 1 0 ∷ []) choose ≡ 1
unfolding answers noted
chosen-zero = refl

chosen-pins : says (opens_at 0 8 ∷ opens_at 1 16 ∷ []) choose ≡ 1
unfolding answers noted
chosen-pins = refl

-- ---- rests: what is said of sizes, and since the open; a lost size of proven + 33 makes none; with full 132 and 100 proven a
-- link that carries just the sizes up to 131

-- full 1,000 is lost
abbrev lost : List Event
lost = opens 1000 0 ∷ prove 27 ∷ search 0 ∷ probe ∷ answer 1 ∷ judge 0 ∷ []

-- 59 is lost and cleared: that was said
rests-said : Every (Carries 59)
    (book_after t (opens 59 0 ∷ prove 27 ∷ search 0 ∷ probe ∷ answer 1 ∷ judge 0 ∷ []) 0).sizing.words → Near 59 59 27
unfolding answers noted
rests-said w = absurd (omega (arith, w.0))

rests-open : (book_after t (lost ++ prove 968 ∷ []) 0).sizing.words ≡ Proved 968 ∷ Lost 1000 ∷ Proved 27 ∷ []
unfolding answers noted
rests-open = refl

rests-prove : Rest 0 (book_after t lost 0) (record { event = prove 967; number = 0; value = 0 })
    (book_after t (lost ++ prove 967 ∷ []) 0) 967 → ⊥
unfolding answers noted
rests-prove (inl h) = absurd (omega (arith, h.1))
rests-prove (inr (inl h)) = never h.2 refl
rests-prove (inr (inr h)) = never h.1 refl

rests-thirty : Near 131 132 100
rests-thirty = (omega arith, inr (omega arith))
