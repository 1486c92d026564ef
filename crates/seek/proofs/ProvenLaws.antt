-- The proven size stays within 27 and 65,535 bytes.
-- Assumes nothing.
use Rattle.std.specs.Prelude.{Option, None, Some}
use Prim.Native.Nat.{ℕ, ◌<◌, ◌≤◌, min}
use mathlib.Core.Path.{◌≡◌}
use mathlib.Core.Bool.{true, ◌&&◌}
use native.Mathlib.Omega.{arith}
use borrow.Author.Tests.{ltb-true, le-ltb}
use lib.Dec.{ltb}
use Rattle.base.specs.Limits.{max_len, min_len}
use Rattle.base.proofs.Cases.{on-flag, never}
use Rattle.seek.specs.Rules.{rises_of, raised_of, is_provable}
use Rattle.seek.specs.Search.{acked_search}
use Rattle.seek.specs.declared.types.Sizes.{Sizes}

-- a size within the limits
pub size-within : (n : ℕ) → min_len ≤ n → n ≤ max_len → is_provable (Some n) ≡ true
size-within n h k = simp (le-ltb n min_len h, le-ltb max_len n k)

-- a size that raises the proven one is above 27
rise-above : (proven : Option ℕ) (size : ℕ) → rises_of min_len proven size ≡ true → min_len < size
rise-above None size e = ltb-true min_len size e
rise-above (Some p) size e =
    on-flag (ltb min_len size) (λ q. ltb-true min_len size q) (λ q. never {t = ltb min_len size && ltb p size} e (rw q))

pub raised-within : (proven : Option ℕ) (size : ℕ) → is_provable proven ≡ true → size ≤ max_len → is_provable (raised_of min_len proven size) ≡ true
raised-within proven size h k =
    on-flag (rises_of min_len proven size)
    (λ e. rw e (size-within size (omega (arith, rise-above proven size e)) k))
    (λ e. rw e h)

-- an acknowledgement keeps it
pub acked-within : (s : Sizes) (sent acked now : ℕ) → is_provable s.proven ≡ true → sent ≤ max_len
    → is_provable (acked_search s sent acked now).sizes.proven ≡ true
unfolding acked_search
acked-within s sent acked now h k = raised-within s.proven (min sent acked) h (omega arith)
