-- One turn of a poll's loop.
-- Assumes nothing.
use Prim.Native.Nat.{ℕ, suc, ◌+◌, ◌-◌, ◌<◌, ◌≤◌}
use mathlib.Core.Path.{◌≡◌, sym, ◌∙◌}
use mathlib.Core.Bool.{Bool, true, false}
use native.Mathlib.Omega.{arith}
use native.Mathlib.Nat.{zero-add}
use Rattle.live.specs.Answers.{has_lapsed}
use Rattle.live.specs.Probe.{expire_of}
use Rattle.live.specs.declared.types.Liveness.{Liveness}
use Rattle.live.specs.declared.types.Outcome.{Outcome}
use Rattle.rules.specs.Rules.{lapsed, poll_of}
use Rattle.rules.specs.declared.types.Polling.{Polling}
use Rattle.probe_events.specs.Poll.{whole_poll}

-- n lapses more
abbrev more : ℕ → Polling → Polling
more n r = record { path = r.path; lapses = n + r.lapses }

-- of a poll of the path n lapses are done, and left p
pub record Polled (path : Liveness) (now : ℕ) (overdue : Bool) (cap : ℕ) (p : Liveness) (n : ℕ) : Type 0 where
  pub upto : n ≤ 9
  pub done : whole_poll path now overdue cap ≡ more n (poll_of (9 - n) p now overdue cap)

pub polled-start : (path : Liveness) (now : ℕ) (overdue : Bool) (cap : ℕ) → Polled path now overdue cap path 0
unfolding whole_poll
polled-start path now overdue cap = record { upto = omega arith; done = simp zero-add }

-- one `expire`, and the rest of the poll
one_more : (p : Liveness) (now : ℕ) (overdue : Bool) (cap n : ℕ) {x : Outcome} → n < 9 → x ≡ expire_of p now overdue cap
    → poll_of (9 - n) p now overdue cap ≡ lapsed x (poll_of (9 - (n + 1)) x.path now overdue cap)
one_more p now overdue cap n {x} h e =
    let k : 9 - n ≡ suc (9 - (n + 1)) = omega arith in
    rw (k, sym e)

module _ {path : Liveness} {now : ℕ} {overdue : Bool} {cap : ℕ} {p : Liveness} {n : ℕ} where
  pub polled-none : {x : Outcome} → Polled path now overdue cap p n → n < 9 → x ≡ expire_of p now overdue cap
      → has_lapsed x.answer ≡ false → record { path = x.path; lapses = n } ≡ whole_poll path now overdue cap
  polled-none {x} s h e f =
      let z : n + 0 ≡ n = omega arith in
      sym (s.done ∙ rw (one_more p now overdue cap n h e, f, z))

  pub polled-next : {x : Outcome} → Polled path now overdue cap p n → n < 9 → x ≡ expire_of p now overdue cap
      → has_lapsed x.answer ≡ true → Polled path now overdue cap x.path (n + 1)
  polled-next {x} s h e f =
      let m : ℕ = (poll_of (9 - (n + 1)) x.path now overdue cap).lapses in
      let z : n + suc m ≡ n + 1 + m = omega arith in
      record {
        upto = omega arith;
        done =
            s.done ∙ rw (one_more p now overdue cap n h e, f)
            (λ i. record { path = (poll_of (9 - (n + 1)) x.path now overdue cap).path; lapses = z i });
      }

  pub polled-end : Polled path now overdue cap p n → 9 ≤ n
      → record { path = p; lapses = n } ≡ whole_poll path now overdue cap
  polled-end s h =
      let k : 9 - n ≡ 0 = omega arith in
      let z : n + 0 ≡ n = omega arith in
      sym (s.done ∙ rw (k, z))
