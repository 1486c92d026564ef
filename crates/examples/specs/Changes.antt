-- Small lists of events for document 02's requests, with the answers that they name.
use Rattle.std.specs.Prelude.{List, [], ◌∷◌, ◌++◌}
use Rattle.rules.specs.Answers.{Sample, event}
use Rattle.examples.specs.Lists.{opens, probe, poll, second, some_probes}

-- ---- T-09, due before sent

-- 23: a probe that is due before its now, with no due at all (0) and with eight waiting too (8), but for a slot that is none
-- (1) or empty (2) or a length that is refused (5); due at its now it is sent, with the first draw: none was taken
unfoldable pub due_before : Sample
due_before =
    record {
      settings = second;
      events =
          opens 0 100 0 ∷ event 2 8 5 4 7 0 0 0 ∷ event 2 1 5 4 7 0 0 0 ∷ event 2 0 5 4 7 65536 0 0 ∷ probe 5 4 7 ∷
          probe 5 0 7 ∷ probe 5 5 7 ∷ some_probes 7 ++ (probe 5 4 7 ∷ probe 5 5 7 ∷ poll 5 0 ∷ []);
      given =
          (0, 0) ∷ (1, 0) ∷ (2, 0) ∷ (5, 0) ∷ (23, 0) ∷
          (23, 0) ∷ (0, 7) ∷ (0, 8) ∷ (0, 9) ∷ (0, 10) ∷ (0, 11) ∷ (0, 12) ∷ (0, 13) ∷ (0, 14) ∷ (23, 0) ∷ (8, 0) ∷ (0, 8)
          ∷ [];
    }

abbrev pub changes : List Sample
changes = due_before ∷ []
