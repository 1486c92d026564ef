-- The size search on sizes alone, with no clock and no identifiers (document 01, "Size search"). A lost size of 0 is
-- none; the least provable size, 27, is an argument.
use Rattle.std.specs.Prelude.{Bool, true, not, cond, ◌&&◌, ℕ, ◌+◌, ◌-◌, ◌/◌, min, ltb, leb, eqb, Option, None, Some}
use Rattle.base.specs.Limits.{is_overlong, is_undersize}

-- "A proposal needs .. proven < full. With no lost size: full. With lost > proven + 32: proven + (lost - proven)/2,
-- rounded down. Otherwise none."
unfoldable pub proposal_of : ℕ → ℕ → ℕ → Option ℕ
proposal_of lost proven full =
    cond (ltb proven full)
    (cond (eqb lost 0)
    (Some full)
    (cond (ltb (proven + 32) lost) (Some (proven + (lost - proven) / 2)) None))
    None

-- "proven rises to the smaller of sent and acked if that is above 27 and above proven": whether a size is so
abbrev pub rises_of : ℕ → Option ℕ → ℕ → Bool
rises_of least None size = ltb least size
rises_of least (Some proven) size = ltb least size && ltb proven size

-- and proven after it
abbrev pub raised_of : ℕ → Option ℕ → ℕ → Option ℕ
raised_of least proven size = cond (rises_of least proven size) (Some size) proven

-- a proven size is at least 27 and at most 65,535: `raised-within` of proofs/ProvenLaws.antt keeps it
abbrev pub is_provable : Option ℕ → Bool
is_provable None = true
is_provable (Some proven) = not (is_undersize proven) && not (is_overlong proven)

-- "Lost keeps the smaller size."
abbrev pub lost_with : ℕ → ℕ → ℕ
lost_with lost len = cond (eqb lost 0) len (min lost len)

-- "Acked < sent also loses the sent size": lost after an acknowledgement
abbrev pub acked_of : ℕ → ℕ → ℕ → ℕ
acked_of lost sent acked = cond (ltb acked sent) (lost_with lost sent) lost

-- nothing proven counts as the least size
abbrev pub known_of : ℕ → Option ℕ → ℕ
known_of least None = least
known_of least (Some proven) = proven

-- "if lost is held and lost <= proven + 32"
abbrev pub close_of : ℕ → ℕ → Bool
close_of lost proven = not (eqb lost 0) && leb lost (proven + 32)

-- "it is cleared"
abbrev pub cleared_of : ℕ → ℕ → ℕ
cleared_of lost proven = cond (close_of lost proven) 0 lost
