-- What an event on rows leaves, from what its stores say: the rows after each store are a variable here.
-- Assumes nothing.
use Rattle.std.specs.Prelude.{Option, Some, Ok, Err}
use Prim.Native.Nat.{ℕ, ◌<◌, ◌≤◌}
use mathlib.Core.Path.{◌≡◌, refl, ap, sym, ◌∙◌}
use mathlib.Core.List.{List}
use native.Mathlib.Omega.{arith}
use borrow.Author.Tests.{lt-leb, le-leb, lt-ltb, le-ltb}
use lib.ListN.{length, set, replicate}
use Rattle.base.specs.Limits.{max_len}
use Rattle.base.specs.declared.types.Refusal.TheVariants.{Length, Full, Unknown}
use Rattle.base.proofs.SeqLaws.{length-keep}
use Rattle.ring.specs.Ids.{taken_of, next_ids, answered_ids, thawed_ids}
use Rattle.ring.specs.Ring.{is_used, max_waiting, max_late, first_free, drop_since, found, taken_out, no_sent, swept, outstanding_of}
use Rattle.ring.specs.declared.types.Ids.{Ids}
use Rattle.ring.specs.declared.types.Sent.{Sent}
use Rattle.seek.specs.declared.types.Ladder.{Ladder}
use Rattle.stop.specs.Silence.{from_of}
use Rattle.live.specs.Path.{with_ring, with_late, with_ids, with_ladder, with_misses}
use Rattle.live.specs.Probe.{new_sent, sent_path, send_of, answer_of, clear_of, thaw_of}
use Rattle.live.specs.declared.types.Liveness.{Liveness}
use Rattle.rules.specs.Rules.{turn, turn_by}
use Rattle.rules.specs.declared.types.Reply.TheVariants as reply
use Rattle.cells.specs.Cells.{with_id}
use Rattle.rows.specs.Parts.{with_quiet}
use Rattle.rows.specs.View.{path_in, slot_in}
use Rattle.rows.specs.Says.{Says, Turns}
use Rattle.rows.proofs.SaysLaws.{says-as, says-after, turns-by, turns-none, turns_as}
use Rattle.waiting.specs.Steps.{freed_from}
use Rattle.waiting.proofs.ShutLaws.{says_on}

-- ---- probe

module _ (a : List (List ℕ)) (at due n draw : ℕ) where
  -- 5: too long
  pub send-long : max_len < n → Turns a a (Err Length) (turn_by (slot_in a) (send_of (path_in a) at due n draw))
  unfolding send_of
  send-long h = rw (lt-ltb max_len n h) (turns-none refl refl)

  module _ (h : n ≤ max_len) {slot : ℕ} (f : slot ≡ first_free (path_in a).ring) where
    -- 8: eight wait
    pub send-full : max_waiting ≤ slot → Turns a a (Err Full) (turn_by (slot_in a) (send_of (path_in a) at due n draw))
    unfolding send_of
    send-full k = rw (le-ltb max_len n h, sym f, le-leb max_waiting slot k) (turns-none refl refl)

    -- what it is where a place is free
    send-free : slot < max_waiting → {id : ℕ} → id ≡ taken_of (drop_since (path_in a).ids (path_in a).ring).next_id draw
        → turn (slot_in a) (sent_path (path_in a) (new_sent id at due n)) (Ok (reply.Id id)) ≡ turn_by (slot_in a) (send_of (path_in a) at due n draw)
    unfolding send_of
    send-free k {id} e = rw (e, le-ltb max_len n h, sym f, lt-leb max_waiting slot k)

    -- the probe stored, with the identifiers, the silence clock and the ladder
    pub send-made : {o b c d e : List (List ℕ)} {kept after : Ids} {id t : ℕ} {before : Option ℕ} {l : Ladder}
        → slot < max_waiting
        → Says a o (with_ids (path_in a) (drop_since (path_in a).ids (path_in a).ring))
        → kept ≡ (path_in o).ids
        → id ≡ taken_of kept.next_id draw
        → after ≡ next_ids kept id
        → before ≡ (path_in o).silence.quiet
        → t ≡ from_of before at
        → l ≡ (path_in o).ladder
        → Says o b (with_ring (path_in o) (set (path_in o).ring slot (new_sent id at due n)))
        → Says b c (with_ids (path_in b) (with_id (path_in b).ids 0 after.next_id))
        → Says c d (with_quiet (path_in c) (Some t))
        → Says d e (with_ladder (path_in d) (record { last = Some n; fallen = l.fallen }))
        → Turns a e (Ok (reply.Id id)) (turn_by (slot_in a) (send_of (path_in a) at due n draw))
    send-made {o} {b} {c} {d} {e} {kept} {after} {id} {t} {before} {l} k s₀ i j m q u y s₁ s₂ s₃ s₄ =
        let i' : kept ≡ drop_since (path_in a).ids (path_in a).ring = i ∙ ap (λ (v : Liveness). v.ids) s₀.path in
        let q' : before ≡ (path_in a).silence.quiet = q ∙ ap (λ (v : Liveness). v.silence.quiet) s₀.path in
        let y' : l ≡ (path_in a).ladder = y ∙ ap (λ (v : Liveness). v.ladder) s₀.path in
        let s₁' = says_on (λ (v : Liveness). with_ring v (set v.ring slot (new_sent id at due n))) s₀ s₁ in
        let s₂' : Says b c (with_ids (path_in b) after) =
        says-after 0 (λ (z : Ids). z.next_id)
        (m ∙ ap (λ (z : Ids). next_ids z id) (i' ∙ sym (ap (λ (v : Liveness). v.ids) s₁'.path))) refl s₂ in
        let m' : after ≡ next_ids (drop_since (path_in a).ids (path_in a).ring) id = m ∙ ap (λ (z : Ids). next_ids z id) i' in
        let u' : t ≡ from_of (path_in a).silence.quiet at = u ∙ ap (λ (z : Option ℕ). from_of z at) q' in
        let s =
        says_on (λ (v : Liveness). with_ladder v (record { last = Some n; fallen = l.fallen }))
        (says_on (λ (v : Liveness). with_quiet v (Some t)) (says_on (λ (v : Liveness). with_ids v after) s₁' s₂') s₃) s₄ in
        let e' : with_ladder
        (with_quiet (with_ids (with_ring (path_in a) (set (path_in a).ring slot (new_sent id at due n))) after) (Some t))
        (record { last = Some n; fallen = l.fallen })
        ≡ sent_path (path_in a) (new_sent id at due n) =
        λ z. with_ladder
        (with_quiet (with_ids (with_ring (path_in a) (set (path_in a).ring (f z) (new_sent id at due n))) (m' z)) (Some (u' z)))
        (record { last = Some n; fallen = (y' z).fallen }) in
        turns_as (turns-by (says-as s e') refl refl)
        (send-free k (j ∙ ap (λ (z : Ids). taken_of z.next_id draw) i'))

-- ---- answer

module _ (a : List (List ℕ)) (id : ℕ) {slot : ℕ} (f : slot ≡ found id (path_in a).ring) where
  -- in the ring: taken out, with the identifiers and the misses
  pub answer-in-time : {b c d : List (List ℕ)} {old after : Ids}
      → slot < max_waiting
      → old ≡ (path_in a).ids
      → after ≡ answered_ids old id
      → Says a b (with_ring (path_in a) (taken_out max_waiting (path_in a).ring slot))
      → Says b c (with_ids (path_in b) (with_id (path_in b).ids 1 after.answered))
      → Says c d (with_misses (path_in c) 0)
      → Turns a d (Ok reply.InTime) (turn_by (slot_in a) (answer_of (path_in a) id))
  unfolding answer_of
  answer-in-time {b} {c} {d} {old} {after} h o m s₁ s₂ s₃ =
      let m' : after ≡ answered_ids (path_in a).ids id = m ∙ ap (λ (z : Ids). answered_ids z id) o in
      let s₂' : Says b c (with_ids (path_in b) after) =
      says-after 1 (λ (z : Ids). z.answered) (m' ∙ sym (ap (λ (v : Liveness). answered_ids v.ids id) s₁.path)) refl s₂ in
      let s = says_on (λ (v : Liveness). with_misses v 0) (says_on (λ (v : Liveness). with_ids v after) s₁ s₂') s₃ in
      rw (sym f, lt-ltb slot max_waiting h, sym m') (turns-by s refl refl)

  module _ (h : max_waiting ≤ slot) {place : ℕ} (g : place ≡ found id (path_in a).late) where
    -- in the late list: taken out
    pub answer-late : {b : List (List ℕ)} {free : Sent} → place < max_late → free ≡ no_sent
        → Says a b (with_late (path_in a) (set (path_in a).late place free))
        → Turns a b (Ok reply.Late) (turn_by (slot_in a) (answer_of (path_in a) id))
    unfolding answer_of
    answer-late {b} {free} k e s =
        rw (sym f, le-ltb slot max_waiting h, sym g, lt-ltb place max_late k, sym e) (turns-by s refl refl)

    -- 9: in neither
    pub answer-unknown : max_late ≤ place → Turns a a (Err Unknown) (turn_by (slot_in a) (answer_of (path_in a) id))
    unfolding answer_of
    answer-unknown k = rw (sym f, le-ltb slot max_waiting h, sym g, le-ltb place max_late k) (turns-none refl refl)

-- ---- thaw and sweep

-- the identifiers stored
pub thaw-made : {a b : List (List ℕ)} {old after : Ids} → old ≡ (path_in a).ids → after ≡ thawed_ids old
    → Says a b (with_ids (path_in a) (with_id (path_in a).ids 3 after.since))
    → Turns a b (Ok reply.Nothing) (turn (slot_in a) (thaw_of (path_in a)) (Ok reply.Nothing))
thaw-made {a} {b} {old} {after} o m s =
    let m' : after ≡ thawed_ids (path_in a).ids = m ∙ ap (λ (z : Ids). thawed_ids z) o in
    turns-by (says-as (says-after 3 (λ (z : Ids). z.since) m' refl s) (ap (λ (z : Ids). with_ids (path_in a) z) m')) refl refl

-- no more wait than a ring holds
pub outstanding-few : (l : List Sent) → length l ≡ 8 → outstanding_of l ≤ 8
unfolding outstanding_of
outstanding-few l h = omega (arith, h, length-keep is_used l)

-- the late list stored, and the ring freed
pub sweep-made : {a b c : List (List ℕ)} {ring old after : List Sent} {n : ℕ}
    → ring ≡ (path_in a).ring
    → old ≡ (path_in a).late
    → n ≡ outstanding_of ring
    → after ≡ swept old ring
    → Says a b (with_late (path_in a) after)
    → Says b c (with_ring (path_in b) (freed_from 0 (path_in b).ring))
    → Turns a c (Ok (reply.Count n)) (turn (slot_in a) (clear_of (path_in a)) (Ok (reply.Count (outstanding_of (path_in a).ring))))
sweep-made {a} {b} {c} {ring} {old} {after} {n} r o m i s₁ s₂ =
    let i' : after ≡ swept (path_in a).late (path_in a).ring = i ∙ (λ z. swept (o z) (r z)) in
    let s = says_on (λ (v : Liveness). with_ring v (replicate max_waiting no_sent)) s₁ s₂ in
    turns-by (says-as s (ap (λ (z : List Sent). with_ring (with_late (path_in a) z) (replicate max_waiting no_sent)) i'))
    (λ z. Ok (reply.Count ((m ∙ ap outstanding_of r) z))) refl
