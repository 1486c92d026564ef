-- The size search of a path (document 01, "Size search"): the rules of specs/Rules.antt with the clock and the
-- identifiers.
use Rattle.std.specs.Prelude.{Bool, true, false, not, cond, ◌&&◌, ℕ, min, leb, eqb, Option, None, Some}
use Rattle.base.specs.Limits.{min_len}
use Rattle.base.specs.Serial.{after_of}
use Rattle.base.specs.Time.{deadline_of}
use Rattle.seek.specs.Rules.{proposal_of, rises_of, raised_of, lost_with, acked_of, known_of, close_of, cleared_of}
use Rattle.seek.specs.declared.types.Seek.{Seek}
use Rattle.seek.specs.declared.types.Sizes.{Sizes}
use Rattle.seek.specs.declared.types.Settled.{Settled}
use Rattle.seek.specs.declared.types.Proved.{Proved}
use Rattle.seek.specs.declared.types.Judged.{Judged}
use Rattle.seek.specs.declared.types.Proving.{Proving}

-- a search not started: none out, none lost, the next try at once
abbrev pub new_seek : Seek
new_seek = record { at = None; probe_id = 0; len = 0; lost = 0 }

-- the search as it is, with another instant, length out and lost size
abbrev pub with_seek : Seek → Option ℕ → ℕ → ℕ → Seek
with_seek s at len lost = record { at = at; probe_id = s.probe_id; len = len; lost = lost }

-- the sizes with another search
abbrev pub with_search : Sizes → Seek → Sizes
with_search s seek = record { seek = seek; proven = s.proven }

-- ---- the proposal

-- "now not before the next try"; with no next try set, at once
abbrev pub may_try : Option ℕ → ℕ → Bool
may_try None now = true
may_try (Some at) now = leb at now

-- with nothing proven none
abbrev pub propose_of : ℕ → Option ℕ → ℕ → Option ℕ
propose_of lost None full = None
propose_of lost (Some proven) full = proposal_of lost proven full

-- "A proposal needs no search probe out, now not before the next try, and proven < full."
unfoldable pub search_size : Sizes → ℕ → ℕ → Option ℕ
search_size s full now =
    cond (eqb s.seek.len 0 && may_try s.seek.at now) (propose_of s.seek.lost s.proven full) None

-- ---- sending

-- a search probe of so many bytes is out, sent at this instant under this identifier
unfoldable pub sent_search : Sizes → ℕ → ℕ → ℕ → Sizes
sent_search s at n probe =
    with_search s (record { at = Some at; probe_id = probe; len = n; lost = s.seek.lost })

-- a search probe that is held in the ring: only the next try moves, to `deadline`(at, gap)
unfoldable pub next_search : Sizes → ℕ → ℕ → Sizes
next_search s at gap = with_search s (with_seek s.seek (Some (deadline_of 64 at gap)) s.seek.len s.seek.lost)

-- ---- an acknowledgement

-- "next try = `deadline`(sent, gap), as after judging"
abbrev pub later_of : Option ℕ → ℕ → Option ℕ
later_of None gap = None
later_of (Some at) gap = Some (deadline_of 64 at gap)

-- "settles the probe": none is out
abbrev pub settled_of : Seek → ℕ → Seek
settled_of s gap = with_seek s (later_of s.at gap) 0 s.lost

-- "An acknowledgement settles the probe", if a search probe is out and has this identifier
unfoldable pub settled_search : Sizes → ℕ → ℕ → Settled
settled_search s probe gap =
    cond (not (eqb s.seek.len 0) && eqb s.seek.probe_id probe)
    (record { sizes = with_search s (settled_of s.seek gap); len = Some s.seek.len })
    (record { sizes = s; len = None })

-- SEEK_RAISE: 600 s in nanoseconds
abbrev pub raise_gap : ℕ
raise_gap = 600000000000

-- "After either, if lost is held and lost <= proven + 32 it is cleared and the next try is now + 600 s."
abbrev pub end_of : Seek → ℕ → ℕ → Seek
end_of s proven now =
    with_seek s (cond (close_of s.lost proven) (Some (deadline_of 64 now raise_gap)) s.at) s.len (cleared_of s.lost proven)

-- "Lost keeps the smaller size. After either, .."
abbrev pub lose_of : Seek → ℕ → ℕ → ℕ → Seek
lose_of s proven n now = end_of (with_seek s s.at s.len (lost_with s.lost n)) proven now

-- "proven rises to the smaller of sent and acked if that is above 27 and above proven. Acked < sent also loses the sent
-- size." After it the clearing, with the new proven size
unfoldable pub acked_search : Sizes → ℕ → ℕ → ℕ → Proved
acked_search s sent acked now =
    let proven = raised_of min_len s.proven (min sent acked) in
    record {
      raised = rises_of min_len s.proven (min sent acked);
      sizes = record {
        seek = end_of (with_seek s.seek s.seek.at s.seek.len (acked_of s.seek.lost sent acked)) (known_of min_len proven) now;
        proven = proven;
      };
    }

-- ---- judging

-- "once now reaches `deadline`(sent, timeout) and `answered` is after its identifier"
abbrev pub lost_now : ℕ → ℕ → Option ℕ → ℕ → ℕ → Bool
lost_now at probe None now timeout = false
lost_now at probe (Some a) now timeout = leb (deadline_of 64 at timeout) now && after_of 32 a probe

-- of a search probe that is out
abbrev pub judges_of : Seek → Option ℕ → Option ℕ → ℕ → ℕ → Bool
judges_of s None answered now timeout = false
judges_of s (Some at) answered now timeout = not (eqb s.len 0) && lost_now at s.probe_id answered now timeout

-- the probe that is out is settled and its size lost, with this size for the proven one
abbrev pub drop_of : Sizes → ℕ → ℕ → ℕ → Judged
drop_of s proven now gap =
    record { lost = true; sizes = with_search s (lose_of (settled_of s.seek gap) proven s.seek.len now) }

-- "Judging loses it once .."; else nothing changes
unfoldable pub judged_search : Sizes → Option ℕ → ℕ → ℕ → ℕ → Judged
judged_search s answered now timeout gap =
    cond (judges_of s.seek s.seek.at answered now timeout)
    (drop_of s (known_of min_len s.proven) now gap)
    (record { lost = false; sizes = s })

-- ---- the proven size

-- whether what is proven is another size
abbrev pub differs : Option ℕ → ℕ → Bool
differs None n = true
differs (Some m) n = not (eqb m n)

-- the Rust's `prove`: the size is proven, all else stays
abbrev pub proven_sizes : Sizes → ℕ → Proving
proven_sizes s n = record { changed = differs s.proven n; sizes = record { seek = s.seek; proven = Some n } }

-- "`fresh` .. clears seek .., not the proven size"
abbrev pub fresh_sizes : Sizes → Sizes
fresh_sizes s = with_search s new_seek
