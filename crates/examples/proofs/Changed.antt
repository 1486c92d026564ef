-- The examples of document 02's requests, computed.
-- Assumes nothing.
use mathlib.Core.Path.{refl}
use Rattle.rules.specs.Answers.{Right, AllRight, answers}
use Rattle.examples.specs.Changes.{due_before, changes}

right-due_before : Right due_before
unfolding answers due_before
right-due_before = refl

pub all_right : AllRight changes
all_right = (right-due_before, tt)
