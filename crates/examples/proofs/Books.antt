-- What the books hold after some of the examples; and that demand 3 holds of each of them.
-- Assumes nothing.
use Rattle.std.specs.Prelude.{Some, Err}
use Prim.Native.Nat.{◌<◌, ◌^◌}
use mathlib.Core.Bool.{true}
use mathlib.Core.Path.{◌≡◌, refl}
use mathlib.Core.List.{List, [], ◌∷◌}
use native.Mathlib.Omega.{arith}
use lib.ListN.{length}
use Rattle.base.specs.declared.types.Refusal.TheVariants as refusal
use Rattle.rules.specs.Answers.{Sample, answers}
use Rattle.rules.specs.Step.{allowed, record_of}
use Rattle.rules.specs.Book.{Book, Lost, Proved, noted}
use Rattle.rules.specs.Demand3.{Every, Carries, FewDraws, book_after, Demand3}
use Rattle.rules.specs.declared.types.Reply.TheVariants as reply
use Rattle.rules.proofs.Premise.{few-draws}
use Rattle.rules.proofs.Whole.{demand3}
use Rattle.examples.specs.Lists.{first, each_refused, eight, ordered, defers, last_data, overdue, thawed, late_hole}
use Rattle.examples.specs.Lists.{reopened, proposals, acknowledged, twelve, up_to131, seven_eight, judges, tiers}
use Rattle.examples.specs.Lists.{lowest, by_scores, equal, examples}
use Rattle.examples.specs.Changes.{due_before, changes}

abbrev book_of : Sample → Book
book_of s = book_after s.settings s.events 0

-- twelve search probes since the start, and what was lost last is cleared
twelve-counted : (book_of twelve).sizing.tally ≡ record
    { search = record { proven = Some 27; lost = 0; out = 0 }; cleared = true; count = 12 }
unfolding answers noted twelve
twelve-counted = refl

-- a rest: 100 is proven, and what is lost is cleared
rest-cleared : (book_of up_to131).sizing.tally ≡ record
    { search = record { proven = Some 100; lost = 0; out = 0 }; cleared = true; count = 1 }
unfolding answers noted up_to131
rest-cleared = refl

-- a link that carries just the sizes up to 131 says so: 131 = 100 + 31
rest-words : (book_of up_to131).sizing.words ≡ Lost 132 ∷ Proved 100 ∷ []
unfolding answers noted up_to131
rest-words = refl

rest-carried : Every (Carries 131) (Lost 132 ∷ Proved 100 ∷ [])
rest-carried = (omega arith, (omega arith, tt))

-- eight sent, none in time, eight lapsed, none waiting
eight-summed : (book_of eight).probes.sent ∷ length
    (book_of eight).probes.timely ∷ (book_of eight).probes.lapsed ∷ length
    (book_of eight).probes.waiting ∷ [] ≡ 8 ∷ 0 ∷ 8 ∷ 0 ∷ []
unfolding answers noted eight
eight-summed = refl

-- settings of 2^62 or more: no record is made
endless : (record_of (record { cap = 2 ^ 62; gap = 0; window = 0; horizon = 0 })).reply ≡ Err refusal.Duration
unfolding record_of
endless = refl

-- ---- the premises hold of each example, and so demand 3 does

abbrev Short : Sample → Type 0
Short s = (length s.events < 2 ^ 32) × (allowed s.settings ≡ true)

abbrev Holds : Sample → Type 0
Holds s = FewDraws s.settings s.events × Demand3 s.settings s.events

holds : (s : Sample) → Short s → Holds s
holds s h =
    let few : FewDraws s.settings s.events = few-draws s.settings s.events h.0 in
    (few, demand3 s.settings s.events h.1 few)

every_holds : (l : List Sample) → Every Short l → Every Holds l
every_holds [] h = tt
every_holds (s ∷ l) h = (holds s h.0, every_holds l h.1)

short : Every Short examples
unfolding first each_refused eight ordered defers last_data overdue thawed late_hole reopened proposals
    acknowledged twelve up_to131 seven_eight judges tiers lowest by_scores equal
short = ((omega arith, refl), ((omega arith, refl), ((omega arith, refl), ((omega arith, refl), ((omega arith, refl), ((omega arith, refl), ((omega arith, refl), ((omega arith, refl), ((omega arith, refl), ((omega arith, refl), ((omega arith, refl), ((omega arith, refl), ((omega arith, refl), ((omega arith, refl), ((omega arith, refl), ((omega arith, refl), ((omega arith, refl), ((omega arith, refl), ((omega arith, refl), ((omega arith, refl), tt))))))))))))))))))))

pub all_hold : Every Holds examples
all_hold = every_holds examples short

short-changes : Every Short changes
unfolding due_before
short-changes = ((omega arith, refl), tt)

pub changes-hold : Every Holds changes
changes-hold = every_holds changes short-changes
