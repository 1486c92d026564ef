use native.Mathlib.Omega.{arith}
use Prim.Native.Nat.{ℕ, ◌+◌, ◌-◌}
use mathlib.Core.List.{List}
use mathlib.Core.Path.{◌≡◌, subst}
use Rattle.session.proofs.HeldLaws.{Moving, moving-start, moving-next, moving-done}
use Rattle.portions.proofs.held.shift.Goals as goal

-- the same place by an equal count
placed : (l₀ : List ℕ) (from to : ℕ) (l : List ℕ) {a b : ℕ} (j : ℕ) → a ≡ b → Moving l₀ from to l a j → Moving l₀ from to l b j
placed l₀ from to l j e m = subst (λ (i : ℕ). Moving l₀ from to l i j) e m

pub loop-j-init : goal.loop-j-init
loop-j-init c = let z : 0 ≡ c.args.from - c.args.from = omega arith in placed _ _ _ _ _ z moving-start

pub loop-j-preserved : goal.loop-j-preserved
loop-j-preserved c =
    let e : c.loop-j.j - c.args.from + 1 ≡ c.loop-j.j + 1 - c.args.from = omega (arith, c.loop-j.auto.j) in
    placed _ _ _ _ _ e
    (moving-next c.loop-j.invariant _ (omega (arith, c.loop-j-test.true, c.min-end.ensures)) (omega (arith, c.loop-j-test.true, c.min-end.ensures, c.loop-j.auto.buf)))

pub returns : goal.returns
returns c =
    let e : c.saturating_sub.result ≡ c.loop-j.j - c.args.from =
    omega (arith, c.saturating_sub.ensures, c.min-end.ensures, c.loop-j-test.false, c.loop-j.invariant.few, c.loop-j.invariant.there, c.loop-j.auto.j, c.loop-j.auto.j-end) in
    moving-done c.loop-j.invariant (omega (arith, c.min-end.ensures, c.loop-j-test.false, c.loop-j.auto.buf)) e
