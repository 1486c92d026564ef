-- The marked figures, computed: the definitions unfold to the expected numbers. Entry by entry, since a comparison of
-- two whole lists costs twice as much with each entry, and so that an entry that differs is named.
-- Assumes nothing.
use mathlib.Core.Path.{◌≡◌, refl}
use mathlib.Core.List.{List, [], ◌∷◌}
use Prim.Native.Nat.{ℕ}
use Rattle.rtt.specs.Samples.{with_sample, max_rtt}
use Rattle.rtt.specs.Spans.{span_of}
use Rattle.seek.specs.Ladder.{rung_of}
use Rattle.seek.specs.Ladder as ladder
use Rattle.seek.specs.Rules.{proposal_of}
use Rattle.seek.specs.Search as search
use Rattle.live.specs.Probe.{send_of, answer_of, expire_of}
use Rattle.live.specs.Search.{size_of, prove_of, seek_size_of, seek_send_of, seek_answer_of, seek_proved_of, seek_judge_of}
use Rattle.live.specs.Times.{sample_of, timeout_of}
use Rattle.figures.specs.Figures.{figures, expected}

-- that two lists are equal, entry by entry
abbrev Agree : List (List ℕ) → List (List ℕ) → Type 0
Agree [] [] = Unit {0}
Agree [] (y ∷ ys) = ⊥
Agree (x ∷ xs) [] = ⊥
Agree (x ∷ xs) (y ∷ ys) = (x ≡ y) × Agree xs ys

-- lists that agree are equal
agreed : (l m : List (List ℕ)) → Agree l m → l ≡ m
agreed [] [] a = refl
agreed [] (y ∷ ys) a = absurd a
agreed (x ∷ xs) [] a = absurd a
agreed (x ∷ xs) (y ∷ ys) a = λ i. a.0 i ∷ agreed xs ys a.1 i

-- each of the twelve entries computes to the expected one
pub computed : figures ≡ expected
unfolding figures expected with_sample max_rtt span_of rung_of ladder.ladder_size proposal_of search.search_size search.sent_search search.settled_search search.acked_search search.judged_search send_of answer_of expire_of size_of prove_of seek_size_of seek_send_of seek_answer_of seek_proved_of seek_judge_of sample_of timeout_of
computed = agreed figures expected (refl, (refl, (refl, (refl, (refl, (refl, (refl, (refl, (refl, (refl, (refl, (refl, tt))))))))))))
