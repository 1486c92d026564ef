-- The examples, computed.
-- Assumes nothing.
use mathlib.Core.Path.{refl}
use Rattle.rules.specs.Answers.{Right, AllRight, answers}
use Rattle.examples.specs.Lists.{first, each_refused, eight, ordered, defers, last_data, overdue, thawed, late_hole}
use Rattle.examples.specs.Lists.{reopened, proposals, acknowledged, twelve, up_to131, seven_eight, judges, tiers}
use Rattle.examples.specs.Lists.{lowest, by_scores, equal, examples}

right-first : Right first
unfolding answers first
right-first = refl

right-refused : Right each_refused
unfolding answers each_refused
right-refused = refl

right-eight : Right eight
unfolding answers eight
right-eight = refl

right-ordered : Right ordered
unfolding answers ordered
right-ordered = refl

right-defers : Right defers
unfolding answers defers
right-defers = refl

right-last_data : Right last_data
unfolding answers last_data
right-last_data = refl

right-overdue : Right overdue
unfolding answers overdue
right-overdue = refl

right-thawed : Right thawed
unfolding answers thawed
right-thawed = refl

right-hole : Right late_hole
unfolding answers late_hole
right-hole = refl

right-reopened : Right reopened
unfolding answers reopened
right-reopened = refl

right-proposals : Right proposals
unfolding answers proposals
right-proposals = refl

right-acknowledged : Right acknowledged
unfolding answers acknowledged
right-acknowledged = refl

right-twelve : Right twelve
unfolding answers twelve
right-twelve = refl

right-up_to131 : Right up_to131
unfolding answers up_to131
right-up_to131 = refl

right-figures : Right seven_eight
unfolding answers seven_eight
right-figures = refl

right-judges : Right judges
unfolding answers judges
right-judges = refl

right-tiers : Right tiers
unfolding answers tiers
right-tiers = refl

right-lowest : Right lowest
unfolding answers lowest
right-lowest = refl

right-scored : Right by_scores
unfolding answers by_scores
right-scored = refl

right-equal : Right equal
unfolding answers equal
right-equal = refl

pub all_right : AllRight examples
all_right = (right-first, (right-refused, (right-eight, (right-ordered, (right-defers, (right-last_data, (right-overdue, (right-thawed, (right-hole, (right-reopened, (right-proposals, (right-acknowledged, (right-twelve, (right-up_to131, (right-figures, (right-judges, (right-tiers, (right-lowest, (right-scored, (right-equal, tt))))))))))))))))))))
