use Prim.Native.Nat.{ℕ, suc, ◌<◌}
use Rattle.base.proofs.ScanLaws.{Mapping, mapping-next}
use lib.ListN.{length, get_or, take, drop, length-map}
use lib.Seq.{drop-cons, length-take-le, get_or-append_seam}
use mathlib.Core.List.{List, ◌∷◌, ◌++◌, map}
use mathlib.Core.Path.{◌≡◌, sym, ap, ◌∙◌}
use native.Mathlib.Omega.{arith}
use Rattle.rtt.specs.Spans.{no_span, kept_span}
use Rattle.spans.proofs.drop_past.Goals as goal

-- a place that the loop has not reached is as it was
unreached : {A : Type 0} {f : A → A} {l : List A} {n : ℕ} {out : List A} {i : ℕ} (d : A) → Mapping f l n out i → i < n
    → get_or out i d ≡ get_or l i d
unreached {f = f} {l = l} {i = i} d s h =
    let k : i < length l = omega (arith, s.long) in
    let m : length (map f (take i l)) ≡ i = rw (length-map, length-take-le i l (omega (arith, s.long))) in
    rw (s.done, drop-cons l i d k)
    (ap (λ j. get_or (map f (take i l) ++ (get_or l i d ∷ drop (suc i) l)) j d) (sym m)
    ∙ get_or-append_seam (map f (take i l)) (get_or l i d) (drop (suc i) l) d)

pub loop-i-preserved : goal.loop-i-preserved
loop-i-preserved c =
    let h = c.loop-i-test.true in
    mapping-next no_span c.loop-i.invariant h
    (c.kept.ensures ∙ ap (kept_span c.args.now c.args.horizon) (unreached no_span c.loop-i.invariant h))
