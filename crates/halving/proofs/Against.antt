-- The smallest moves on which the claim could break, computed: each is named for the edit in must-fail/ that breaks it,
-- and stands above those that its edit breaks too, so that it is refused first.
-- Assumes nothing.
use Rattle.std.specs.Prelude.{None, Some}
use mathlib.Core.List.{[], ◌∷◌}
use mathlib.Core.Path.{◌≡◌, refl}
use Rattle.seek.specs.Rules.{proposal_of}
use Rattle.halving.specs.Need.{need, left}
use Rattle.halving.specs.Moves.{Send, Judge, Prove, opened, moves, MoveSends}

-- full 60, 27 proven, none lost: 60 itself, and 43 after its loss
left-first : left 60 27 0 ≡ 2
unfolding need
left-first = refl

-- a distance of 32 needs none
need-31 : need 32 ≡ 0
unfolding need
need-31 = refl

-- 60 is 27 + 33, and stays lost
limited-33 : (moves 60 opened (Prove 27 ∷ Send ∷ Judge ∷ [])).search.lost ≡ 60
unfolding proposal_of
limited-33 = refl

-- 60 is lost: the half of the way is next
twelve-full : (moves 60 opened (Prove 27 ∷ Send ∷ Judge ∷ Send ∷ [])).search.out ≡ 43
unfolding proposal_of
twelve-full = refl

-- 28 is lost and cleared each time: the next probe is a start
few-cleared : (moves 28 opened (Prove 27 ∷ Send ∷ Judge ∷ Send ∷ Judge ∷ Send ∷ [])).count ≡ 1
unfolding proposal_of
few-cleared = refl

-- with nothing proven nothing is proposed: each probe is counted all the same, so that the premise must leave it out
few-counted : (moves 27 opened (Send ∷ Send ∷ [])).count ≡ 2
few-counted = refl

few-none : (w : MoveSends 27 opened.search Send) → None ≡ Some w.0
few-none w = w.1
