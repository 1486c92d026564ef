-- The largest frame that a path carries (the Rust's `carried` and `heeded`, whose bodies are the definition), with the
-- refusal 5.
use Rattle.base.specs.declared.types.Refusal.{Refusal}
use Rattle.std.specs.Prelude.{ℕ, ◌+◌, ◌-◌, min, Bool, not, cond, Option, None, Some, Result, Ok, Err}
use Rattle.base.specs.Limits.{is_overlong}
use Rattle.base.specs.declared.types.Refusal.TheVariants.{Length}

-- the Rust's ESTABLISHED_HEADER_SIZE and INNER_HEADER_SIZE (fmp/wire.rs) and TAG_SIZE (fsp/wire.rs)
abbrev pub outer_header : ℕ
outer_header = 16

abbrev pub inner_header : ℕ
inner_header = 5

abbrev pub seal_tag : ℕ
seal_tag = 16

-- the bytes of a frame around a path message, `FRAME_OVERHEAD`: the message's type byte is the inner header's too
abbrev pub frame_overhead : ℕ
frame_overhead = outer_header + (inner_header - 1) + seal_tag

-- the proven size bounds the frames on a connectionless transport only
abbrev pub heeded_of : Bool → Bool
heeded_of oriented = not oriented

-- the link's frame, or that of the proven size where it is smaller and heeded
abbrev pub frame_of : ℕ → ℕ → Bool → ℕ
frame_of link len oriented = cond (heeded_of oriented) (min link (len + frame_overhead)) link

-- by what the path has proven
abbrev pub bounded_by : ℕ → Option ℕ → Bool → ℕ
bounded_by link None oriented = link
bounded_by link (Some len) oriented = frame_of link len oriented

-- `carried`: 5 for a link's frame above 65,535
unfoldable pub carried_frame : ℕ → Option ℕ → Bool → Result ℕ Refusal
carried_frame link proven oriented = cond (is_overlong link) (Err Length)
    (Ok (bounded_by link proven oriented))
