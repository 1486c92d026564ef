-- Parts stored one after the other, and a slot stored whole.
-- Assumes nothing.
use Prim.Native.Nat.{ℕ, suc, ◌+◌, ◌<◌, ◌≤◌}
use mathlib.Core.Path.{◌≡◌, refl, ap, sym, ◌∙◌}
use mathlib.Core.List.{List, [], ◌∷◌, ◌++◌, map}
use native.Mathlib.Omega.{arith}
use native.Mathlib.Numerals.{add-one}
use lib.ListN.{length, take, get_or, set}
use lib.Seq.{take-suc, take_all}
use Rattle.base.proofs.ScanLaws.{map-append}
use Rattle.live.specs.Path.{with_ring, with_late, with_ids, with_ladder, with_misses, with_rtts, with_sizes, with_traffic, with_etx}
use Rattle.live.specs.declared.types.Liveness.{Liveness}
use Rattle.rtt.specs.declared.types.Rtts.{Rtts}
use Rattle.rules.specs.declared.types.Record.{Record}
use Rattle.rules.specs.declared.types.Slot.{Slot}
use Rattle.cells.specs.Code.{settings_row}
use Rattle.cells.proofs.RowLaws.{settings-says}
use Rattle.rows.specs.Parts.{with_quiet, with_stop, with_samples, with_spans, with_trip}
use Rattle.rows.specs.View.{path_in, slot_in}
use Rattle.rows.specs.Encode.{slot_rows}
use Rattle.rows.specs.Says.{Says}
use Rattle.rows.proofs.NewLaws.{new_slot}
use Rattle.rows.proofs.SaysLaws.{says_none, says_then, says-as}
use Rattle.peer.specs.Record.{record_in, record_rows}
use Rattle.encoded.specs.Probed.{probed_with, measured_with}
use Rattle.time_events.proofs.StoreLaws.{Part, Filling, filling-start, filling-next, filling-end}

-- the ring is a part of a path
pub ring-part : Part (λ v. v.ring) with_ring
ring-part = record { same = λ v. refl; new = λ v x. refl; last = λ v x y. refl }

-- from rows a to rows b the first i of n places of the part have become those of l, and nothing else has changed
pub record Storing {A : Type 0} (get : Liveness → List A) (put : Liveness → List A → Liveness) (l : List A) (n : ℕ)
    (a b : List (List ℕ)) (i : ℕ) : Type 0 where
  pub says : Says a b (put (path_in a) (get (path_in b)))
  pub fill : Filling l n (get (path_in b)) i

module _ {A : Type 0} {get : Liveness → List A} {put : Liveness → List A → Liveness} {l : List A} {n : ℕ}
    {a : List (List ℕ)} (part : Part get put) where
  -- before the first
  pub storing-start : length l ≡ n → length (get (path_in a)) ≡ n → Storing get put l n a a 0
  storing-start h k = record { says = says_none (part.same (path_in a)); fill = filling-start h k }

  -- one more
  pub storing-next : {b c : List (List ℕ)} {i : ℕ} (d : A) → Storing get put l n a b i → i < n
      → Says b c (put (path_in b) (set (get (path_in b)) i (get_or l i d))) → Storing get put l n a c (i + 1)
  storing-next {b} {c} {i} d s h w =
      let x : List A = set (get (path_in b)) i (get_or l i d) in
      let q : get (path_in c) ≡ x = ap get w.path ∙ part.new (path_in b) x in
      record {
        says =
            says-as (says_then s.says w)
            (ap (λ (v : Liveness). put v x) s.says.path
            ∙ part.last (path_in a) (get (path_in b)) x
            ∙ ap (put (path_in a)) (sym q));
        fill = rw q (filling-next d s.fill h refl);
      }

  -- all of them
  pub storing-end : {b : List (List ℕ)} {i : ℕ} → Storing get put l n a b i → n ≤ i → Says a b (put (path_in a) l)
  storing-end s h = says-as s.says (ap (put (path_in a)) (filling-end s.fill h))

-- the rows after each store are told by its contract
module _ {a b c d e f : List (List ℕ)} (q : Liveness) where
  pub probes-saved : Says a b (with_ring (path_in a) q.ring) → Says b c (with_late (path_in b) q.late)
      → Says c d (with_ids (path_in c) q.ids) → Says d e (with_ladder (path_in d) q.ladder)
      → Says e f (with_misses (path_in e) q.misses) → Says a f (probed_with (path_in a) q)
  probes-saved s t u v w =
      says-as (says_then (says_then (says_then (says_then s t) u) v) w)
      (λ i. with_misses (chain i) q.misses)
    where
      first : path_in c ≡ with_late (with_ring (path_in a) q.ring) q.late
      first = t.path ∙ ap (λ (x : Liveness). with_late x q.late) s.path

      chain : path_in e ≡ with_ladder (with_ids (with_late (with_ring (path_in a) q.ring) q.late) q.ids) q.ladder
      chain =
          v.path ∙ ap (λ (x : Liveness). with_ladder x q.ladder)
          (u.path ∙ ap (λ (x : Liveness). with_ids x q.ids) first)

-- the round trips are samples, spans and the latest
pub rtts-saved : {a b c d : List (List ℕ)} (r : Rtts) → Says a b (with_samples (path_in a) r.samples)
    → Says b c (with_spans (path_in b) r.spans) → Says c d (with_trip (path_in c) r.rtt) → Says a d (with_rtts (path_in a) r)
rtts-saved r s t u =
    says-as (says_then (says_then s t) u)
    (ap (λ (x : Liveness). with_trip x r.rtt) (t.path ∙ ap (λ (x : Liveness). with_spans x r.spans) s.path))

module _ {a b c d e f g : List (List ℕ)} (q : Liveness) where
  pub measures-saved : Says a b (with_rtts (path_in a) q.rtts) → Says b c (with_sizes (path_in b) q.sizes)
      → Says c d (with_traffic (path_in c) q.traffic) → Says d e (with_etx (path_in d) q.etx)
      → Says e f (with_quiet (path_in e) q.silence.quiet) → Says f g (with_stop (path_in f) q.silence.stop)
      → Says a g (measured_with (path_in a) q)
  measures-saved s t u v w x =
      says-as (says_then (says_then (says_then (says_then (says_then s t) u) v) w) x)
      (ap (λ (y : Liveness). with_stop y q.silence.stop)
      (w.path ∙ ap (λ (y : Liveness). with_quiet y q.silence.quiet) chain))
    where
      first : path_in c ≡ with_sizes (with_rtts (path_in a) q.rtts) q.sizes
      first = t.path ∙ ap (λ (y : Liveness). with_sizes y q.sizes) s.path

      chain : path_in e ≡ with_etx (with_traffic (with_sizes (with_rtts (path_in a) q.rtts) q.sizes) q.traffic) q.etx
      chain =
          v.path ∙ ap (λ (y : Liveness). with_etx y q.etx)
          (u.path ∙ ap (λ (y : Liveness). with_traffic y q.traffic) first)

-- a new slot, then the path's probes and its measures
pub slot-saved : (s : Slot) {b c d : List (List ℕ)}
    → (b ≡ slot_rows (new_slot s.used s.label)) × (slot_in b ≡ new_slot s.used s.label)
    → Says b c (probed_with (path_in b) s.path) → Says c d (measured_with (path_in c) s.path)
    → (d ≡ slot_rows s) × (slot_in d ≡ s)
slot-saved s {b} {c} {d} n t u =
    let w = says_then t u in
    let p : path_in d ≡ s.path = u.path ∙ ap (λ (x : Liveness). measured_with x s.path) t.path in
    let l : slot_in d ≡ record { path = s.path; label = (slot_in b).label; used = (slot_in b).used } =
    λ k. record { path = p k; label = (w.marks k).1; used = (w.marks k).0 } in
    let m : slot_in d ≡ s =
    l ∙ (λ k. record { path = s.path; label = (n.1 k).label; used = (n.1 k).used }) in
    let o : slot_rows (slot_in d) ≡ d = w.coded (ap slot_rows n.1 ∙ sym n.0) in
    (sym o ∙ ap slot_rows m, m)

-- the first i slots of l are said by their rows
pub record Said (l : List Slot) (i : ℕ) : Type 0 where
  pub eight : length l ≡ 8
  pub some : map slot_in (map slot_rows (take i l)) ≡ take i l

pub said-start : {l : List Slot} → length l ≡ 8 → Said l 0
said-start h = record { eight = h; some = refl }

pub said-next : {l : List Slot} {i : ℕ} (d : Slot) → Said l i → i < 8 → slot_in (slot_rows (get_or l i d)) ≡ get_or l i d
    → Said l (i + 1)
said-next {l} {i} d s h e =
    let t : take (suc i) l ≡ take i l ++ (get_or l i d ∷ []) = take-suc l i d (omega (arith, s.eight)) in
    rw add-one
    (record {
      eight = s.eight;
      some =
          ap (λ (z : List Slot). map slot_in (map slot_rows z)) t
          ∙ ap (map slot_in) (map-append slot_rows (take i l) (get_or l i d ∷ []))
          ∙ map-append slot_in (map slot_rows (take i l)) (slot_rows (get_or l i d) ∷ [])
          ∙ (λ k. s.some k ++ (e k ∷ []))
          ∙ sym t;
    })

-- all eight, and the settings
pub record-saved : (r : Record) {i : ℕ} → Said r.slots i → 8 ≤ i
    → record_in (settings_row r.settings) (record_rows r) ≡ r
record-saved r {i} s h =
    let t : take i r.slots ≡ r.slots = take_all i r.slots (omega (arith, s.eight)) in
    let e : map slot_in (map slot_rows r.slots) ≡ r.slots =
    ap (λ (z : List Slot). map slot_in (map slot_rows z)) (sym t) ∙ s.some ∙ t in
    λ k. record { settings = settings-says r.settings k; slots = e k }
