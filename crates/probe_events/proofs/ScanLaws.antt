-- A scan that defers in place, what `expire` makes, and a poll one `expire` after the other.
-- Assumes nothing.
use Rattle.std.specs.Prelude.{Option, None, Some, Ok}
use Prim.Native.Nat.{ℕ, ◌+◌, ◌-◌, ◌<◌, ◌≤◌}
use mathlib.Core.Path.{◌≡◌, refl, ap, sym, ◌∙◌}
use mathlib.Core.Bool.{Bool, true, false, cond, ◌||◌}
use mathlib.Core.List.{List, [], ◌∷◌}
use native.Mathlib.Omega.{arith}
use borrow.Author.Tests.{lt-leb, le-leb, lt-ltb, le-ltb}
use lib.Dec.{leb, ltb}
use lib.ListN.{length, set, get_or}
use Rattle.base.specs.Limits.{duration_end}
use Rattle.std.specs.List.{filter, position_from}
use Rattle.base.proofs.Cases.{on-order, cond_same}
use Rattle.ring.specs.Ids.{is_counted, missed_by}
use Rattle.ring.specs.Ring.{max_waiting, taken_out, remembered, no_sent}
use Rattle.ring.specs.Lapse.{is_passed, defer_of, scan_of, is_padded, with_due}
use Rattle.ring.specs.declared.types.Ids.{Ids}
use Rattle.ring.specs.declared.types.Sent.{Sent}
use Rattle.ring.specs.declared.types.Scanned.{Scanned}
use Rattle.lapses.proofs.LapseLaws.{Scanning, scanning-defers, scanning-less, scanning-lapses, scanning-none, not-passed}
use Rattle.seek.specs.declared.types.Ladder.{Ladder}
use Rattle.live.specs.Answers.{has_lapsed}
use Rattle.live.specs.Path.{with_ring, with_late, with_ladder, with_misses}
use Rattle.live.specs.Probe.{expire_of, lapsed_path}
use Rattle.live.specs.declared.types.Liveness.{Liveness}
use Rattle.rules.specs.Rules.{polled}
use Rattle.rules.specs.declared.types.Polling.{Polling}
use Rattle.rules.specs.declared.types.Reply.TheVariants as reply
use Rattle.probe_events.specs.Poll.{whole_poll}
use Rattle.probe_events.proofs.PollLaws.{Polled, polled-start, polled-none, polled-next, polled-end}
use Rattle.rows.specs.Places.{row_count}
use Rattle.rows.specs.View.{path_in, slot_in}
use Rattle.rows.specs.Says.{Says, Turns}
use Rattle.rows.proofs.SaysLaws.{says_none, says_then, says-as, turns-by, turns_as}
use Rattle.rows.proofs.ViewLaws.{ring-length}
use Rattle.waiting.proofs.ShutLaws.{says_on, ring-is, again}
use Rattle.probe_events.specs.Scan.{scan_in, lapsed_in}

-- ---- the scan

-- b's ring is what is left of a's; all else is a's
pub record ScanTo (p : Sent → Bool) (f : Sent → Option ℕ) (a b : List (List ℕ)) : Type 0 where
  pub says : Says a b (with_ring (path_in a) (path_in b).ring)
  pub ring : Scanning p f (path_in a).ring 8 (path_in b).ring

-- nothing is deferred yet
pub scan-start : (cap at : ℕ) (overdue : Bool) (t : Option ℕ) (a : List (List ℕ)) → length a ≡ row_count
    → ScanTo (is_passed at overdue) (defer_of t cap at overdue) a a
scan-start cap at overdue t a h =
    record { says = says_none refl; ring = record { sound = not-passed cap at overdue t; long = ring-length a h; same = refl } }

module _ {p : Sent → Bool} {f : Sent → Option ℕ} {a b : List (List ℕ)} {i : ℕ} (s : ScanTo p f a b) where
  -- the scan ends at i
  done_at : {l : Scanned} → record { ring = (path_in b).ring; slot = i } ≡ l → (i ≡ l.slot) × Says a b (with_ring (path_in a) l.ring)
  done_at q = (ap (λ (x : Scanned). x.slot) q, says-as s.says (ap (λ (x : Scanned). with_ring (path_in a) x.ring) q))

  module _ (e : Some i ≡ position_from p 0 (path_in b).ring) {x : Sent} (g : x ≡ get_or (path_in b).ring i no_sent) where
    -- one has passed that is not deferred: it lapses
    pub scan-stop : f x ≡ None → (i ≡ (scan_of p f (path_in a).ring).slot) × Says a b (with_ring (path_in a) (scan_of p f (path_in a).ring).ring)
    scan-stop d = done_at (scanning-lapses s.ring e no_sent (ap f (sym g) ∙ d))

    module _ (u : ℕ) (d : f x ≡ Some u) {c : List (List ℕ)} (k : Says b c (with_ring (path_in b) (set (path_in b).ring i (with_due x u)))) where
      -- the ring after it is deferred
      deferred : (path_in c).ring ≡ set (path_in b).ring i (with_due (get_or (path_in b).ring i no_sent) u)
      deferred = ring-is k ∙ ap (λ (y : Sent). set (path_in b).ring i (with_due y u)) g

      -- one is deferred, and the scan goes on
      pub scan-next : ScanTo p f a c
      scan-next = record { says = again s.says k; ring = rw deferred (scanning-defers s.ring e no_sent (ap f (sym g) ∙ d)) }

      -- and fewer have passed
      pub scan-less : length (filter p (path_in c).ring) < length (filter p (path_in b).ring)
      scan-less = rw deferred (scanning-less s.ring e no_sent (ap f (sym g) ∙ d))

-- none has passed
pub scan-none : {p : Sent → Bool} {f : Sent → Option ℕ} {a b : List (List ℕ)} → ScanTo p f a b → None ≡ position_from p 0 (path_in b).ring
    → (8 ≡ (scan_of p f (path_in a).ring).slot) × Says a b (with_ring (path_in a) (scan_of p f (path_in a).ring).ring)
scan-none s e = done_at s (scanning-none s.ring e)

-- ---- the lapse

-- the probe taken out and remembered, with the ladder and the misses
pub lapse-made : (a : List (List ℕ)) (slot : ℕ) {b c d e : List (List ℕ)} {s : Sent} {m : Ids} {miss fall : Bool} {l : Ladder} {before after : ℕ}
    → s ≡ get_or (path_in a).ring slot no_sent
    → m ≡ (path_in a).ids
    → miss ≡ is_counted m s.probe_id
    → fall ≡ is_padded m s
    → l ≡ (path_in a).ladder
    → before ≡ (path_in a).misses
    → after ≡ missed_by before miss
    → Says a b (with_ring (path_in a) (taken_out max_waiting (path_in a).ring slot))
    → Says b c (with_late (path_in b) (remembered (path_in b).late s))
    → Says c d (with_ladder (path_in c) (record { last = l.last; fallen = fall || l.fallen }))
    → Says d e (with_misses (path_in d) after)
    → Says a e (lapsed_in a slot)
lapse-made a slot {b} {c} {d} {e} {s} {m} {miss} {fall} {l} {before} {after} q i j k n o p s₁ s₂ s₃ s₄ =
    let v = path_in a in
    let x = get_or v.ring slot no_sent in
    let j' : miss ≡ is_counted v.ids x.probe_id = j ∙ (λ z. is_counted (i z) (q z).probe_id) in
    let k' : fall ≡ is_padded v.ids x = k ∙ (λ z. is_padded (i z) (q z)) in
    let p' : after ≡ missed_by v.misses (is_counted v.ids x.probe_id) = p ∙ (λ z. missed_by (o z) (j' z)) in
    let y =
    says_on (λ (t : Liveness). with_misses t after)
    (says_on (λ (t : Liveness). with_ladder t (record { last = l.last; fallen = fall || l.fallen }))
    (says_on (λ (t : Liveness). with_late t (remembered t.late s)) s₁ s₂) s₃) s₄ in
    says-as y
    (λ z. with_misses
    (with_ladder
    (with_late (with_ring v (taken_out max_waiting v.ring slot)) (remembered v.late (q z)))
    (record { last = (n z).last; fallen = k' z || (n z).fallen }))
    (p' z))

-- ---- expire

module _ (a : List (List ℕ)) (at : ℕ) (overdue : Bool) (cap : ℕ) where
  -- 6: the cap is too long
  pub expire-long : duration_end ≤ cap
      → (false ≡ has_lapsed (expire_of (path_in a) at overdue cap).answer) × Says a a (expire_of (path_in a) at overdue cap).path
  unfolding expire_of
  expire-long h = rw (le-leb duration_end cap h) (refl, says_none refl)

  module _ (h : cap < duration_end) {t : Option ℕ} {slot : ℕ} {b : List (List ℕ)} (f : t ≡ (path_in a).traffic.data_at)
      (g : (slot ≡ (scan_in a t cap at overdue).slot) × Says a b (with_ring (path_in a) (scan_in a t cap at overdue).ring)) where
    -- what the scan left
    scanned : record { ring = (path_in b).ring; slot = slot }
        ≡ scan_of (is_passed at overdue) (defer_of (path_in a).traffic.data_at cap at overdue) (path_in a).ring
    scanned =
        (λ k. record { ring = ring-is g.1 k; slot = g.0 k })
        ∙ ap (λ (x : Option ℕ). scan_of (is_passed at overdue) (defer_of x cap at overdue) (path_in a).ring) f

    -- all else stayed
    kept : Says a b (with_ring (path_in a) (path_in b).ring)
    kept = says-as g.1 (ap (λ (x : List Sent). with_ring (path_in a) x) (sym (ring-is g.1)))

    -- none lapses
    pub expire-none : max_waiting ≤ slot
        → (false ≡ has_lapsed (expire_of (path_in a) at overdue cap).answer) × Says a b (expire_of (path_in a) at overdue cap).path
    unfolding expire_of
    expire-none k = rw (lt-leb duration_end cap h, sym scanned, le-leb max_waiting slot k) (refl, kept)

    -- one lapses
    pub expire-made : {c : List (List ℕ)} → slot < max_waiting
        → Says b c (lapsed_in b slot)
        → (true ≡ has_lapsed (expire_of (path_in a) at overdue cap).answer) × Says a c (expire_of (path_in a) at overdue cap).path
    unfolding expire_of
    expire-made {c} k s =
        let l = (path_in b).ring in
        let y = says_on (λ (v : Liveness). lapsed_path v l slot (get_or l slot no_sent)) kept s in
        rw (lt-leb duration_end cap h, sym scanned, lt-leb max_waiting slot k) (refl, y)

-- ---- poll

-- of a poll of a's path n lapses are done, and left b
pub record PollTo (a : List (List ℕ)) (at : ℕ) (overdue : Bool) (cap : ℕ) (b : List (List ℕ)) (n : ℕ) : Type 0 where
  pub says : Says a b (path_in b)
  pub done : Polled (path_in a) at overdue cap (path_in b) n

-- nothing has lapsed yet
pub poll-start : (a : List (List ℕ)) (at : ℕ) (overdue : Bool) (cap : ℕ) → PollTo a at overdue cap a 0
poll-start a at overdue cap = record { says = says_none refl; done = polled-start (path_in a) at overdue cap }

module _ {a : List (List ℕ)} {at : ℕ} {overdue : Bool} {cap : ℕ} {b : List (List ℕ)} {n : ℕ} (s : PollTo a at overdue cap b n) where
  -- the poll ends with the rows c
  ended : {c : List (List ℕ)} → Says a c (path_in c) → record { path = path_in c; lapses = n } ≡ whole_poll (path_in a) at overdue cap
      → Turns a c (Ok (reply.Count n)) (polled (slot_in a) (whole_poll (path_in a) at overdue cap))
  ended k e = turns_as (turns-by k refl refl) (ap (λ (x : Polling). polled (slot_in a) x) e)

  -- nine have lapsed
  pub poll-end : 9 ≤ n → Turns a b (Ok (reply.Count n)) (polled (slot_in a) (whole_poll (path_in a) at overdue cap))
  poll-end h = ended s.says (polled-end s.done h)

  module _ (h : n < 9) {t : Bool} {c : List (List ℕ)}
      (g : (t ≡ has_lapsed (expire_of (path_in b) at overdue cap).answer) × Says b c (expire_of (path_in b) at overdue cap).path) where
    -- the rows after one more `expire`
    after : Says a c (path_in c)
    after = says-as (says_then s.says g.1) (sym g.1.path)

    -- one more lapsed
    pub poll-next : t ≡ true → PollTo a at overdue cap c (n + 1)
    poll-next e = record { says = after; done = rw g.1.path (polled-next s.done h refl (sym g.0 ∙ e)) }

    -- none lapsed
    pub poll-none : t ≡ false → Turns a c (Ok (reply.Count n)) (polled (slot_in a) (whole_poll (path_in a) at overdue cap))
    poll-none e =
        ended after ((λ k. record { path = g.1.path k; lapses = n }) ∙ polled-none s.done h refl (sym g.0 ∙ e))

-- ---- the first whose due has passed

-- where overdue no due has passed at instant 0
pub none_before : (l : List Sent) (i : ℕ) {k : ℕ} → k ≡ 0 → None ≡ position_from (is_passed k true) i l
none_before [] i e = refl
none_before (s ∷ l) i {k} e =
    let q : is_passed k true s ≡ false = rw (le-ltb s.due k (omega arith)) (cond_same s.used false) in
    rw q (none_before l (i + 1) e)

-- and at any other one has passed if it is not after the instant before
pub due-before : (l : List Sent) (k : ℕ) → (k ≡ 0 → ⊥) → position_from (is_passed (k - 1) false) 0 l ≡ position_from (is_passed k true) 0 l
due-before l k h = λ i. position_from (λ (s : Sent). cond s.used (before s.due i) false) 0 l
  where
    before : (due : ℕ) → leb due (k - 1) ≡ ltb due k
    before due =
        on-order due k
        (λ o. le-leb due (k - 1) (omega arith) ∙ sym (lt-ltb due k o))
        (λ o. lt-leb due (k - 1) (omega arith) ∙ sym (le-ltb due k o))
