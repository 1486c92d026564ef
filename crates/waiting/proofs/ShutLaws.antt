-- The ring of a slot's rows closed up in place; all else stays.
-- Assumes nothing.
use Rattle.std.specs.Prelude.{Option, None, Some}
use Prim.Native.Nat.{ℕ, ◌+◌, ◌-◌, ◌<◌, ◌≤◌, min, max}
use mathlib.Core.Path.{◌≡◌, refl, ap, sym, ◌∙◌}
use mathlib.Core.List.{List, ◌++◌}
use mathlib.Core.Bool.{Bool, true, false, not, cond, ◌&&◌, and-true, and-false}
use native.Mathlib.Omega.{arith}
use borrow.Author.Tests.{eqb-true, eqb-false}
use lib.Dec.{eqb}
use lib.ListN.{length, get_or, set, take, drop, replicate, length-set}
use lib.Seq.{length-take-le, take_all, take-append_seam, get_or-set_same, get_or-set_other}
use Rattle.base.proofs.Cases.{on-flag, on-order, cond_same, never}
use Rattle.ring.specs.Ring.{is_used, no_sent, taken_out, all_count, drop_since}
use Rattle.ring.specs.declared.types.Ids.{Ids}
use Rattle.ring.specs.declared.types.Sent.{Sent}
use Rattle.live.specs.Path.{with_ring, with_ids}
use Rattle.live.specs.declared.types.Liveness.{Liveness}
use Rattle.cells.specs.Cells.{with_id}
use Rattle.rows.specs.Places.{row_count}
use Rattle.rows.specs.Parts.{moved}
use Rattle.rows.specs.View.{path_in}
use Rattle.rows.specs.Says.{Says}
use Rattle.rows.proofs.CloseLaws.{Clearing, clearing-start, clearing-next, clearing-end}
use Rattle.rows.proofs.SaysLaws.{says_none, says_then, says-as}
use Rattle.rows.proofs.ViewLaws.{ring-length}
use Rattle.waiting.specs.Steps.{is_dropped, others, pressed, freed_from}
use Rattle.waiting.proofs.CloseLaws.{Closing, closing-start, closing_at, closing-skip, closing-move, closing_end}

-- a part stored after others
pub says_on : {a b c : List (List ℕ)} {q : Liveness} (f : Liveness → Liveness) → Says a b q → Says b c (f (path_in b)) → Says a c (f q)
says_on f s t = says-as (says_then s t) (ap f s.path)

-- the ring that was stored
pub ring-is : {a b : List (List ℕ)} {l : List Sent} → Says a b (with_ring (path_in a) l) → (path_in b).ring ≡ l
ring-is s = ap (λ (v : Liveness). v.ring) s.path

-- another ring, twice
pub again : {a b c : List (List ℕ)} {l : List Sent} → Says a b (with_ring (path_in a) (path_in b).ring) → Says b c (with_ring (path_in b) l)
    → Says a c (with_ring (path_in a) (path_in c).ring)
again {a} {b} {c} {l} s t =
    says-as (says_on (λ (v : Liveness). with_ring v l) s t) (ap (λ (x : List Sent). with_ring (path_in a) x) (sym (ring-is t)))

-- place r of a ring with the place `slot` freed, where the ring has x
module _ (l : List Sent) (slot : ℕ) {r : ℕ} (h : r < length l) {x : Sent} (e : x ≡ get_or l r no_sent) where
  -- a probe waits there if x does and it is not the one freed
  left-used : is_used (get_or (set l slot no_sent) r no_sent) ≡ (x.used && not (eqb r slot))
  left-used =
      on-flag (eqb r slot)
      (λ f. ap (λ (i : ℕ). is_used (get_or (set l i no_sent) r no_sent)) (sym (eqb-true r slot f))
      ∙ ap is_used (get_or-set_same l r no_sent no_sent h)
      ∙ sym (ap (λ (t : Bool). x.used && not t) f ∙ and-false x.used))
      (λ f. ap is_used (get_or-set_other l slot r no_sent no_sent (eqb-false r slot f) ∙ sym e)
      ∙ sym (ap (λ (t : Bool). x.used && not t) f ∙ and-true x.used))

  -- where one does it is x
  left-same : (x.used && not (eqb r slot)) ≡ true → get_or (set l slot no_sent) r no_sent ≡ x
  left-same g =
      on-flag (eqb r slot)
      (λ f. never g (ap (λ (t : Bool). x.used && not t) f ∙ and-false x.used))
      (λ f. get_or-set_other l slot r no_sent no_sent (eqb-false r slot f) ∙ sym e)

-- of a's first r places the waiting probes but the one at `slot` stand at the front of b's, w of them; the rest is a's
pub record Shut (a : List (List ℕ)) (slot : ℕ) (b : List (List ℕ)) (w r : ℕ) : Type 0 where
  pub says : Says a b (with_ring (path_in a) (path_in b).ring)
  pub ring : Closing is_used (set (path_in a).ring slot no_sent) (path_in a).ring 8 (path_in b).ring w r

-- nothing is moved yet
pub shut-start : {a : List (List ℕ)} {slot : ℕ} → length a ≡ row_count → Shut a slot a 0 0
shut-start {a} {slot} h =
    let n = ring-length a h in
    record { says = says_none refl; ring = closing-start (length-set (path_in a).ring slot no_sent ∙ n) n }

module _ {a b : List (List ℕ)} {slot w r : ℕ} (s : Shut a slot b w r) where
  module _ (h : r < 8) {x : Sent} (e : x ≡ get_or (path_in b).ring r no_sent) where
    -- the place is there
    within : r < length (path_in a).ring
    within = omega (arith, s.ring.same)

    -- what is read is a's still
    stood : x ≡ get_or (path_in a).ring r no_sent
    stood = e ∙ closing_at no_sent s.ring

    -- a free place is passed by, and so is the one at `slot`
    pub shut-skip : (x.used && not (eqb r slot)) ≡ false → Shut a slot b w (r + 1)
    shut-skip f =
        record { says = s.says; ring = closing-skip no_sent s.ring h (left-used (path_in a).ring slot within stood ∙ f) }

    -- a waiting probe moves to the front
    pub shut-move : {c : List (List ℕ)} → (x.used && not (eqb r slot)) ≡ true
        → Says b c (with_ring (path_in b) (moved (path_in b).ring r w)) → Shut a slot c (w + 1) (r + 1)
    shut-move {c} f g =
        let l = (path_in a).ring in
        let q : (path_in c).ring ≡ set (path_in b).ring w (get_or (path_in b).ring r no_sent) = ring-is g in
        let u = left-used l slot within stood ∙ f in
        record { says = again s.says g; ring = rw q (closing-move no_sent s.ring h u (left-same l slot within stood f ∙ e)) }

  -- all places are seen
  pub shut-end : 8 ≤ r → (w ≡ length (others slot (path_in a).ring)) × Says a b (with_ring (path_in a) (pressed slot (path_in a).ring))
  shut-end h =
      let k = closing_end s.ring h in
      (k.0, says-as s.says (ap (λ (y : List Sent). with_ring (path_in a) y) k.1))

-- of b's first k places those behind the first n are free, and all others are a's
pub record Freed (a : List (List ℕ)) (n : ℕ) (b : List (List ℕ)) (k : ℕ) : Type 0 where
  pub same : length (path_in a).ring ≡ 8
  pub says : Says a b (with_ring (path_in a) (path_in b).ring)
  pub ring : Clearing no_sent (take (min n 8) (path_in a).ring) 8 (path_in b).ring (min (max n k) 8)

-- no place is freed yet
pub freed-start : {a : List (List ℕ)} {n : ℕ} → length a ≡ row_count → Freed a n a 0
freed-start {a} {n} h =
    let l = ring-length a h in
    let m : min (max n 0) 8 ≡ min n 8 = omega arith in
    record { same = l; says = says_none refl; ring = rw m (clearing-start no_sent {w = min n 8} l (omega arith)) }

module _ {a b : List (List ℕ)} {n k : ℕ} (s : Freed a n b k) where
  -- a place before the first n stays
  pub freed-skip : k < n → Freed a n b (k + 1)
  freed-skip h =
      let m : min (max n (k + 1)) 8 ≡ min (max n k) 8 = omega arith in
      record { same = s.same; says = s.says; ring = rw m s.ring }

  -- one more is freed
  pub freed-next : {c : List (List ℕ)} {free : Sent} → k < 8 → n ≤ k → free ≡ no_sent
      → Says b c (with_ring (path_in b) (set (path_in b).ring k free)) → Freed a n c (k + 1)
  freed-next {c} {free} h o e g =
      let m : min (max n k) 8 ≡ k = omega arith in
      let m' : min (max n (k + 1)) 8 ≡ k + 1 = omega arith in
      let q : (path_in c).ring ≡ set (path_in b).ring k no_sent = ring-is g ∙ ap (λ (y : Sent). set (path_in b).ring k y) e in
      let t : Clearing no_sent (take (min n 8) (path_in a).ring) 8 (path_in b).ring k = rw m at s.ring in
      record { same = s.same; says = again s.says g; ring = rw (q, m') (clearing-next no_sent t h) }

  -- all places are seen
  pub freed-end : 8 ≤ k → Says a b (with_ring (path_in a) (freed_from n (path_in a).ring))
  freed-end h =
      let l = (path_in a).ring in
      let m : 8 ≤ min (max n k) 8 = omega arith in
      let i : length (take (min n 8) l) ≡ min n 8 = length-take-le (min n 8) l (omega (arith, s.same)) in
      let j : 8 - length (take (min n 8) l) ≡ 8 - n = omega (arith, i) in
      let f : take (min n 8) l ≡ take n l =
      on-order n 8
      (λ o. let z : min n 8 ≡ n = omega arith in ap (λ (y : ℕ). take y l) z)
      (λ o. take_all (min n 8) l (omega (arith, s.same)) ∙ sym (take_all n l (omega (arith, s.same)))) in
      let q : (path_in b).ring ≡ freed_from n l = clearing-end no_sent s.ring m ∙ (λ o. f o ++ replicate (j o) no_sent) in
      says-as s.says (ap (λ (y : List Sent). with_ring (path_in a) y) q)

-- pressed, and freed behind: closed up
pub taken_out_lem : {a b c : List (List ℕ)} (slot : ℕ) {w : ℕ}
    → (w ≡ length (others slot (path_in a).ring)) × Says a b (with_ring (path_in a) (pressed slot (path_in a).ring))
    → Says b c (with_ring (path_in b) (freed_from w (path_in b).ring))
    → Says a c (with_ring (path_in a) (taken_out 8 (path_in a).ring slot))
taken_out_lem {a} {b} {c} slot {w} f g =
    let l = (path_in a).ring in
    let k = others slot l in
    let j : take (length k) (pressed slot l) ≡ k = take-append_seam k (drop (length k) l) in
    let m : freed_from w (path_in b).ring ≡ taken_out 8 l slot =
    (λ o. freed_from (f.0 o) (ring-is f.1 o)) ∙ ap (λ (y : List Sent). y ++ replicate (8 - length k) no_sent) j in
    says-as (says_on (λ (v : Liveness). with_ring v (freed_from w (path_in b).ring)) f.1 g)
    (ap (λ (y : List Sent). with_ring (path_in a) y) m)

-- whether there is a since to be dropped, where there is one
pub dropped-some : (l : List Sent) {m : Option ℕ} {x : ℕ} {t : Bool} → m ≡ Some x → t ≡ all_count (Some x) l → t ≡ is_dropped m l
dropped-some l {m} {x} {t} e f = f ∙ sym (ap (λ (y : Option ℕ). is_dropped y l) e)

-- the identifiers with `since` dropped where there is one to be dropped, else as they are
module _ (m : Ids) (l : List Sent) where
  -- where one is to be dropped every waiting probe counts
  by-since : (x : Option ℕ) → m.since ≡ x → {t : Bool} → t ≡ is_dropped x l → (t ≡ true → all_count m.since l ≡ true)
  by-since None e {t} f g = let y : true ≡ false = sym g ∙ f in cc
  by-since (Some x) e {t} f g = rw e (sym f ∙ g)

  -- `since` is dropped
  drop-some : {t : Bool} → t ≡ is_dropped m.since l → t ≡ true
      → record { next_id = m.next_id; answered = m.answered; epoch = m.epoch; since = None } ≡ drop_since m l
  drop-some f g = rw (by-since m.since refl f g)

  -- where none is to be dropped the rule leaves the identifiers
  kept : (x : Option ℕ) → m.since ≡ x → {t : Bool} → t ≡ is_dropped x l → t ≡ false → m ≡ drop_since m l
  kept None e {t} f g =
      let z : m ≡ record { next_id = m.next_id; answered = m.answered; epoch = m.epoch; since = None } =
      λ o. record { next_id = m.next_id; answered = m.answered; epoch = m.epoch; since = e o } in
      sym (cond_same (all_count m.since l) m) ∙ (λ o. cond (all_count m.since l) (z o) m)
  kept (Some x) e {t} f g =
      let y : all_count m.since l ≡ false = rw e (sym f ∙ g) in
      rw y

  -- `since` stays
  drop-none : {t : Bool} → t ≡ is_dropped m.since l → t ≡ false → m ≡ drop_since m l
  drop-none f g = kept m.since refl f g

module _ (a : List (List ℕ)) {m : Ids} {t : Bool} (o : m ≡ (path_in a).ids) (f : t ≡ is_dropped m.since (path_in a).ring) where
  -- whether there is a since to be dropped, by the rows
  there : t ≡ is_dropped (path_in a).ids.since (path_in a).ring
  there = f ∙ ap (λ (z : Ids). is_dropped z.since (path_in a).ring) o

  -- none is stored for it
  pub since-dropped : {b : List (List ℕ)} → t ≡ true → Says a b (with_ids (path_in a) (with_id (path_in a).ids 3 None))
      → Says a b (with_ids (path_in a) (drop_since (path_in a).ids (path_in a).ring))
  since-dropped g s = says-as s (ap (λ (z : Ids). with_ids (path_in a) z) (drop-some (path_in a).ids (path_in a).ring there g))

  -- or nothing is stored
  pub since-left : t ≡ false → Says a a (with_ids (path_in a) (drop_since (path_in a).ids (path_in a).ring))
  since-left g = says_none (ap (λ (z : Ids). with_ids (path_in a) z) (drop-none (path_in a).ids (path_in a).ring there g))
