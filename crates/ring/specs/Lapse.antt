-- Which probe lapses, and which are deferred on the way to it (document 01, "Ring (8) and late list (4)", `expire` and
-- `fallen`).
use Rattle.std.specs.Prelude.{ℕ, suc, List, [], ◌∷◌, Bool, false, cond, ◌&&◌, leb, ltb, Option, None, Some}
use Rattle.base.specs.Limits.{min_len}
use Rattle.base.specs.Time.{deadline_of}
use Rattle.ring.specs.Ids.{counts_of}
use Rattle.ring.specs.declared.types.Sent.{Sent}
use Rattle.ring.specs.declared.types.Ids.{Ids}
use Rattle.ring.specs.declared.types.Scanned.{Scanned}

-- due < now, or due = now unless overdue
abbrev pub passed_at : ℕ → Bool → ℕ → Bool
passed_at now overdue due = cond overdue (ltb due now) (leb due now)

-- a waiting probe whose due has passed
abbrev pub is_passed : ℕ → Bool → Sent → Bool
is_passed now overdue s = cond s.used (passed_at now overdue s.due) false

-- if the last data instant is above its sent one, and its cap deadline, deadline(sent, cap), hasn't passed, its due
-- becomes that
abbrev pub defer_of : Option ℕ → ℕ → ℕ → Bool → Sent → Option ℕ
defer_of None cap now overdue s = None
defer_of (Some t) cap now overdue s =
    cond (ltb s.at t)
    (cond (passed_at now overdue (deadline_of 64 s.at cap)) None (Some (deadline_of 64 s.at cap)))
    None

-- the probe with another due
abbrev pub with_due : Sent → ℕ → Sent
with_due s u = record { at = s.at; due = u; probe_id = s.probe_id; len = s.len; used = s.used }

-- what the scan makes of the places behind s, with s before them
abbrev pub behind : Sent → Scanned → Scanned
behind s r = record { ring = s ∷ r.ring; slot = suc r.slot }

-- the first entry of a list, which has passed: it lapses, or is deferred and the scan goes on behind it
abbrev pub lapse_or : Option ℕ → Sent → List Sent → Scanned → Scanned
lapse_or None s ss r = record { ring = s ∷ ss; slot = 0 }
lapse_or (Some u) s ss r = behind (with_due s u) r

-- the entries as the scan leaves them, and the place of the one that lapses, or the length. A deferred entry has not
-- passed any more, so that a scan that starts over comes to the entry behind it.
abbrev pub scan_of : (Sent → Bool) → (Sent → Option ℕ) → List Sent → Scanned
scan_of p defer [] = record { ring = []; slot = 0 }
scan_of p defer (s ∷ ss) = cond (p s) (lapse_or (defer s) s ss (scan_of p defer ss)) (behind s (scan_of p defer ss))

-- `fallen` is set by a lapse above 27 bytes whose identifier the epoch is not after
abbrev pub is_padded : Ids → Sent → Bool
is_padded m s = ltb min_len s.len && counts_of m.epoch s.probe_id
