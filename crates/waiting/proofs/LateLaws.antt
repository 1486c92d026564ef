-- The late list of a slot's rows stored place by place.
-- Assumes nothing.
use Prim.Native.Nat.{ℕ}
use mathlib.Core.Path.{◌≡◌, refl, ap, ◌∙◌}
use mathlib.Core.Bool.{false}
use mathlib.Core.List.{List, [], ◌∷◌}
use borrow.Author.Tests.{eqb-false}
use lib.Dec.{eqb}
use lib.ListN.{length, get_or, set}
use lib.Seq.{get_or-set_other}
use Rattle.ring.specs.Ring.{no_sent, remembered}
use Rattle.ring.specs.declared.types.Sent.{Sent}
use Rattle.ring.proofs.SweepLaws.{shifted}
use Rattle.live.specs.Path.{with_late}
use Rattle.live.specs.declared.types.Liveness.{Liveness}
use Rattle.rows.specs.Places.{row_count}
use Rattle.rows.specs.Parts.{moved}
use Rattle.rows.specs.View.{path_in}
use Rattle.rows.specs.Says.{Says}
use Rattle.rows.proofs.BlockLaws.{four, refill4}
use Rattle.rows.proofs.SaysLaws.{says-as}
use Rattle.rows.proofs.ViewLaws.{late-length}
use Rattle.waiting.proofs.ShutLaws.{says_on}

-- one more place
late-next : {a b c : List (List ℕ)} (l : List Sent) (i : ℕ) (x : Sent) → Says a b (with_late (path_in a) l)
    → Says b c (with_late (path_in b) (set (path_in b).late i x)) → Says a c (with_late (path_in a) (set l i x))
late-next l i x s t = says_on (λ (v : Liveness). with_late v (set v.late i x)) s t

module _ (a : List (List ℕ)) (n : length a ≡ row_count) {b c d e : List (List ℕ)} {x y z : Sent} (s : Sent)
    (f : Says a b (with_late (path_in a) (set (path_in a).late 0 x)))
    (g : Says b c (with_late (path_in b) (set (path_in b).late 1 y)))
    (h : Says c d (with_late (path_in c) (set (path_in c).late 2 z)))
    (k : Says d e (with_late (path_in d) (set (path_in d).late 3 s))) where
  -- all four places
  stored : Says a e (with_late (path_in a) (x ∷ y ∷ z ∷ s ∷ []))
  stored =
      says-as (late-next _ 3 s (late-next _ 2 z (late-next _ 1 y f g) h) k)
      (ap (λ (l : List Sent). with_late (path_in a) l) (refill4 (path_in a).late x y z s no_sent (late-length a n)))

  -- a list of four
  pub late-stored : (l : List Sent) → length l ≡ 4 → x ≡ get_or l 0 no_sent → y ≡ get_or l 1 no_sent → z ≡ get_or l 2 no_sent → s ≡ get_or l 3 no_sent
      → Says a e (with_late (path_in a) l)
  late-stored l m i j o p =
      says-as stored (ap (λ (t : List Sent). with_late (path_in a) t) ((λ q. i q ∷ j q ∷ o q ∷ p q ∷ []) ∙ four l no_sent m))

-- a place that was not stored to
other : {a b : List (List ℕ)} (i k : ℕ) (x : Sent) → Says a b (with_late (path_in a) (set (path_in a).late i x)) → eqb k i ≡ false
    → get_or (path_in b).late k no_sent ≡ get_or (path_in a).late k no_sent
other {a} i k x s h =
    ap (λ (v : Liveness). get_or v.late k no_sent) s.path ∙ get_or-set_other (path_in a).late i k x no_sent (eqb-false k i h)

-- one more, everything moved one place
pub late-shifted : (a : List (List ℕ)) (n : length a ≡ row_count) {b c d e : List (List ℕ)} (s : Sent)
    → Says a b (with_late (path_in a) (moved (path_in a).late 1 0)) → Says b c (with_late (path_in b) (moved (path_in b).late 2 1))
    → Says c d (with_late (path_in c) (moved (path_in c).late 3 2)) → Says d e (with_late (path_in d) (set (path_in d).late 3 s))
    → Says a e (with_late (path_in a) (remembered (path_in a).late s))
late-shifted a n s f g h k =
    let j = other 0 2 _ f refl in
    let o = other 1 3 _ g refl ∙ other 0 3 _ f refl in
    says-as (stored a n s f g h k)
    (ap (λ (t : List Sent). with_late (path_in a) t)
    ((λ q. get_or (path_in a).late 1 no_sent ∷ j q ∷ o q ∷ s ∷ []) ∙ shifted (path_in a).late no_sent s (late-length a n)))
