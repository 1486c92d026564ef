-- A sweep: the ring's places one after the other, each waiting probe into the late list.
-- Assumes nothing.
use Prim.Native.Nat.{ℕ, ◌+◌, ◌<◌, ◌≤◌}
use Rattle.std.specs.Prelude.{Ok}
use mathlib.Core.Path.{◌≡◌, refl, ap, sym, ◌∙◌}
use mathlib.Core.Bool.{true, false}
use mathlib.Core.List.{List}
use lib.ListN.{length, get_or}
use Rattle.base.proofs.ScanLaws.{Counting, counting-start, counting-take, counting-skip, counting-end}
use Rattle.ring.specs.Ring.{is_used, remembered, no_sent, outstanding_of}
use Rattle.ring.specs.declared.types.Sent.{Sent}
use Rattle.ring.proofs.SweepLaws.{Sweeping, sweeping-start, sweeping-store, sweeping-skip, sweeping-end}
use Rattle.live.specs.Path.{with_ring, with_late}
use Rattle.live.specs.Probe.{clear_of}
use Rattle.rules.specs.Rules.{turn}
use Rattle.rules.specs.declared.types.Reply.TheVariants as reply
use Rattle.rows.specs.Places.{row_count}
use Rattle.rows.specs.View.{path_in, slot_in}
use Rattle.rows.specs.Says.{Says, Turns}
use Rattle.rows.proofs.ViewLaws.{ring-length, late-length}
use Rattle.waiting.specs.Steps.{freed_from}
use Rattle.probe_events.proofs.EventLaws.{sweep-made}

-- of a's ring the waiting probes before place i, n of them, have entered the late list, which is now `out`
pub record SweptTo (a : List (List ℕ)) (out : List Sent) (n i : ℕ) : Type 0 where
  pub late : Sweeping (path_in a).late 3 (path_in a).ring 8 out i
  pub count : Counting is_used (path_in a).ring 8 n i

-- none has
pub swept-start : {a : List (List ℕ)} {out : List Sent} → length a ≡ row_count → out ≡ (path_in a).late → SweptTo a out 0 0
swept-start {a} h e =
    let l = ring-length a h in
    rw e (record { late = sweeping-start l (late-length a h); count = counting-start l })

module _ {a : List (List ℕ)} {out : List Sent} {n i : ℕ} (s : SweptTo a out n i) where
  module _ (h : i < 8) {x : Sent} (e : x ≡ get_or (path_in a).ring i no_sent) where
    -- a free place is passed by
    pub swept-skip : x.used ≡ false → SweptTo a out n (i + 1)
    swept-skip f =
        let g : is_used (get_or (path_in a).ring i no_sent) ≡ false = sym (ap is_used e) ∙ f in
        record { late = sweeping-skip no_sent s.late h g; count = counting-skip no_sent s.count h g }

    -- a waiting probe enters the late list
    pub swept-store : {next : List Sent} → x.used ≡ true → next ≡ remembered out x → SweptTo a next (n + 1) (i + 1)
    swept-store {next} f q =
        let g : is_used (get_or (path_in a).ring i no_sent) ≡ true = sym (ap is_used e) ∙ f in
        record { late = sweeping-store no_sent s.late h g (q ∙ ap (remembered out) e); count = counting-take no_sent s.count h g }

  -- all places are seen; the late list is stored, and the ring freed
  pub swept-end : {b c : List (List ℕ)} → 8 ≤ i → Says a b (with_late (path_in a) out)
      → Says b c (with_ring (path_in b) (freed_from 0 (path_in b).ring))
      → Turns a c (Ok (reply.Count n)) (turn (slot_in a) (clear_of (path_in a)) (Ok (reply.Count (outstanding_of (path_in a).ring))))
  unfolding outstanding_of
  swept-end h t u = sweep-made refl refl (counting-end s.count h) (sweeping-end s.late h) t u
