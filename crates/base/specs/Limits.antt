-- Document 01's limits on numbers, each once ("Peer record", the table, numbers 5 and 6).
use Rattle.std.specs.Prelude.{ℕ, ◌^◌, Bool, nat_le, nat_lt}

-- the longest length
abbrev pub max_len : ℕ
max_len = 65535

-- the smallest size of a probe, `PATH_PROBE_MIN_SIZE`
abbrev pub min_len : ℕ
min_len = 27

-- the first duration that is too long
abbrev pub duration_end : ℕ
duration_end = 2 ^ 62

-- 5: "length or acked above 65,535"
abbrev pub is_overlong : ℕ → Bool
is_overlong n = nat_lt max_len n

-- 5: "full or proved below 27"
abbrev pub is_undersize : ℕ → Bool
is_undersize n = nat_lt n min_len

-- 6: "duration 2^62 or more"
abbrev pub is_endless : ℕ → Bool
is_endless d = nat_le duration_end d
