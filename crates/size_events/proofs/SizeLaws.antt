-- What the stores of each event on sizes leave.
-- Assumes nothing.
use Rattle.std.specs.Prelude.{Option, None, Some, Result, Ok, Err}
use Rattle.base.specs.declared.types.Refusal.{Refusal}
use Prim.Native.Nat.{ℕ, ◌<◌, ◌≤◌, ◌^◌}
use mathlib.Core.Path.{◌≡◌, refl, ap, sym, ◌∙◌}
use mathlib.Core.Bool.{Bool, true, false, cond}
use mathlib.Core.List.{List}
use native.Mathlib.Omega.{arith}
use borrow.Author.Tests.{lt-ltb, le-ltb, le-leb, lt-leb}
use Rattle.base.specs.declared.types.Refusal.TheVariants as refusal
use Rattle.base.proofs.Cases.{never}
use Rattle.ring.specs.Ids.{taken_of, next_ids, fresh_ids}
use Rattle.ring.specs.declared.types.Ids.{Ids}
use Rattle.seek.specs.Rules.{known_of}
use Rattle.seek.specs.Search.{search_size, sent_search, settled_search, acked_search, judges_of, drop_of, judged_search}
use Rattle.seek.specs.Search.{proven_sizes, fresh_sizes}
use Rattle.seek.specs.declared.types.Ladder.{Ladder}
use Rattle.seek.specs.declared.types.Sizes.{Sizes}
use Rattle.seek.specs.declared.types.Settled.{Settled}
use Rattle.seek.specs.declared.types.Proved.{Proved}
use Rattle.seek.specs.declared.types.Judged.{Judged}
use Rattle.seek.specs.declared.types.Proving.{Proving}
use Rattle.seek.proofs.SearchLaws.{judge-drops, judge-keeps}
use Rattle.live.specs.Answers.{answer_value, is_accepted}
use Rattle.live.specs.Path.{with_ids, with_sizes, with_ladder, with_misses}
use Rattle.live.specs.Search.{len_or, settled_by, judged_by, prove_of, fresh_of, seek_size_of, seek_send_of, seek_answer_of}
use Rattle.live.specs.Search.{seek_proved_of, seek_judge_of}
use Rattle.live.specs.declared.types.Liveness.{Liveness}
use Rattle.live.specs.declared.types.Outcome.{Outcome}
use Rattle.live.specs.declared.types.Answer.{Answer}
use Rattle.live.specs.declared.types.Answer.TheVariants as answer
use Rattle.rules.specs.Rules.{turn, turn_by, searched}
use Rattle.rules.specs.declared.types.Event.{Event}
use Rattle.rules.specs.declared.types.Label.{Label}
use Rattle.rules.specs.declared.types.Reply.TheVariants as reply
use Rattle.rules.specs.declared.types.Turn.{Turn}
use Rattle.cells.specs.Cells.{label_from, with_id}
use Rattle.rows.specs.Parts.{with_proven, with_seek_in}
use Rattle.rows.specs.View.{path_in, slot_in}
use Rattle.rows.specs.Says.{Says, Turns}
use Rattle.rows.proofs.SaysLaws.{says_then, says-as, says-after, turns-by, turns-none, turns_as}
use Rattle.size_events.specs.Settles.{Settles}

-- ---- prove

module _ (a : List (List ℕ)) {n : ℕ} where
  -- a length above 65,535
  pub prove-over : 65535 < n → Turns a a (Ok reply.Nothing) (turn (slot_in a) (prove_of (path_in a) n).path (Ok reply.Nothing))
  unfolding prove_of
  prove-over h = turns-none refl (rw (lt-ltb 65535 n h) refl)

  -- a length below 27
  pub prove-under : n ≤ 65535 → n < 27
      → Turns a a (Ok reply.Nothing) (turn (slot_in a) (prove_of (path_in a) n).path (Ok reply.Nothing))
  unfolding prove_of
  prove-under h k = turns-none refl (rw (le-ltb 65535 n h, lt-ltb n 27 k) refl)

  -- a length that is proven
  pub prove-made : {b : List (List ℕ)} {s : Sizes} {d : Proving} → n ≤ 65535 → 27 ≤ n → s ≡ (path_in a).sizes
      → d ≡ proven_sizes s n → Says a b (with_proven (path_in a) d.sizes.proven)
      → Turns a b (Ok reply.Nothing) (turn (slot_in a) (prove_of (path_in a) n).path (Ok reply.Nothing))
  unfolding prove_of
  prove-made {b} {s} {d} h k e f w =
      let z : d ≡ proven_sizes (path_in a).sizes n = f ∙ ap (λ (x : Sizes). proven_sizes x n) e in
      turns-by
      (says-as w (rw (le-ltb 65535 n h, le-ltb n 27 k) (ap (λ (x : Proving). with_proven (path_in a) x.sizes.proven) z)))
      refl refl

-- ---- search

-- what is proposed for a full size that is one
proposed : (p : Liveness) (full now : ℕ) → full ≤ 65535 → 27 ≤ full
    → seek_size_of p full now ≡ len_or refusal.NoSize (search_size p.sizes full now)
unfolding seek_size_of
proposed p full now h k = rw (le-ltb 65535 full h, le-ltb full 27 k)

-- and for one that is too small
unproposed : (p : Liveness) (full now : ℕ) → full < 27 → seek_size_of p full now ≡ Err refusal.Length
unfolding seek_size_of
unproposed p full now h = rw (le-ltb 65535 full (omega arith), lt-ltb full 27 h)

-- what is sent
sent : (p : Liveness) (at n draw : ℕ) → n ≤ 65535
    → record {
      path =
          with_sizes (with_ids p (next_ids p.ids (taken_of p.ids.next_id draw)))
          (sent_search p.sizes at n (taken_of p.ids.next_id draw));
      answer = Ok (answer.Id (taken_of p.ids.next_id draw));
    }
    ≡ seek_send_of p at n draw
unfolding seek_send_of
sent p at n draw h = rw (le-ltb 65535 n h)

-- a full size has 16 bits
full-bits : (a : List (List ℕ)) → (slot_in a).label.full ≤ 65535
unfolding label_from
full-bits a = omega arith

module _ (a : List (List ℕ)) (e : Event) {l : Label} (f : l ≡ (slot_in a).label) where
  -- the turn of a search, by what is proposed
  abbrev sought : Result Answer Refusal → Turn
  sought x = searched x (slot_in a) e

  -- and by what the label read says
  named : {x : Result Answer Refusal} → seek_size_of (path_in a) l.full e.now ≡ x
      → sought x ≡ sought (seek_size_of (path_in a) (slot_in a).label.full e.now)
  named z = ap sought (sym z ∙ ap (λ (y : Label). seek_size_of (path_in a) y.full e.now) f)

  -- a full size below 27
  pub search-small : l.full < 27
      → Turns a a (Err refusal.Length) (sought (seek_size_of (path_in a) (slot_in a).label.full e.now))
  search-small h = turns_as (turns-none refl refl) (named (unproposed (path_in a) l.full e.now h))

  module _ {s : Sizes} {m : Option ℕ} (k : 27 ≤ l.full) (g : s ≡ (path_in a).sizes)
      (i : m ≡ search_size s l.full e.now) where
    -- what is proposed
    here : {y : Option ℕ} → m ≡ y → seek_size_of (path_in a) l.full e.now ≡ len_or refusal.NoSize y
    here z =
        proposed (path_in a) l.full e.now (rw f (full-bits a)) k
        ∙ ap (len_or refusal.NoSize) (ap (λ (x : Sizes). search_size x l.full e.now) (sym g) ∙ sym i ∙ z)

    -- no size is proposed
    pub search-none : m ≡ None
        → Turns a a (Err refusal.NoSize) (sought (seek_size_of (path_in a) (slot_in a).label.full e.now))
    search-none z = turns_as (turns-none refl refl) (named (here z))

    -- the size that is proposed is sent
    pub search-sent : {b c : List (List ℕ)} {n id : ℕ} {o i : Ids} {t : Sizes} → m ≡ Some n → n ≤ 65535
        → o ≡ (path_in a).ids → id ≡ taken_of o.next_id e.id → i ≡ next_ids o id
        → t ≡ sent_search s e.now n id → Says a b (with_ids (path_in a) (with_id (path_in a).ids 0 i.next_id))
        → Says b c (with_seek_in (path_in b) t.seek)
        → Turns a c (Ok (reply.Id id)) (sought (seek_size_of (path_in a) (slot_in a).label.full e.now))
    unfolding sent_search
    search-sent {b} {c} {n} {id} {o} {i} {t} z v q r w x y₀ u =
        let y : Says a b (with_ids (path_in a) i) =
        says-after 0 (λ (k : Ids). k.next_id) (w ∙ ap (λ (k : Ids). next_ids k id) q) refl y₀ in
        let r' : id ≡ taken_of (path_in a).ids.next_id e.id =
        r ∙ ap (λ (j : Ids). taken_of j.next_id e.id) q in
        let w' : i ≡ next_ids (path_in a).ids (taken_of (path_in a).ids.next_id e.id) =
        w ∙ (λ j. next_ids (q j) (r' j)) in
        let x' : t ≡ sent_search (path_in a).sizes e.now n (taken_of (path_in a).ids.next_id e.id) =
        x ∙ (λ j. sent_search (g j) e.now n (r' j)) in
        turns_as
        (turns-by
        (says-as (says_then y u)
        (ap (λ (p : Liveness). with_seek_in p t.seek) y.path
        ∙ (λ j. with_seek_in (with_ids (path_in a) (w' j)) (x' j).seek)))
        (λ j. Ok (reply.Id (r' j)))
        refl)
        (ap (turn_by (slot_in a)) (sent (path_in a) e.now n e.id v) ∙ named (here z))

-- ---- judge

module _ (a : List (List ℕ)) (now timeout gap : ℕ) where
  -- the turn of a judge
  abbrev judging : Turn
  judging = turn_by (slot_in a) (seek_judge_of (path_in a) now timeout gap)

  -- an endless timeout
  pub judge-endless : 2 ^ 62 ≤ timeout → Turns a a (Err refusal.Duration) judging
  unfolding seek_judge_of
  judge-endless h = rw (le-leb (2 ^ 62) timeout h) (turns-none refl refl)

  -- an endless gap
  pub judge-gap : timeout < 2 ^ 62 → 2 ^ 62 ≤ gap → Turns a a (Err refusal.Duration) judging
  unfolding seek_judge_of
  judge-gap h k = rw (lt-leb (2 ^ 62) timeout h, le-leb (2 ^ 62) gap k) (turns-none refl refl)

  module _ {s : Sizes} {i : Ids} {t : Bool} (h : timeout < 2 ^ 62) (k : gap < 2 ^ 62) (g : s ≡ (path_in a).sizes)
      (f : i ≡ (path_in a).ids) (e : t ≡ judges_of s.seek s.seek.at i.answered now timeout) where
    -- what is judged
    judged : {d : Judged} → d ≡ judged_search s i.answered now timeout gap
        → turn_by (slot_in a) (judged_by (path_in a) d) ≡ judging
    unfolding seek_judge_of
    judged u =
        rw (lt-leb (2 ^ 62) timeout h, lt-leb (2 ^ 62) gap k)
        (ap (λ (x : Judged). turn_by (slot_in a) (judged_by (path_in a) x))
        (u ∙ (λ j. judged_search (g j) (f j).answered now timeout gap)))

    -- the probe is lost: the search is stored
    pub judge-lost : {b : List (List ℕ)} {n : ℕ} {d : Judged} → t ≡ true → n ≡ known_of 27 s.proven
        → d ≡ drop_of s n now gap → Says a b (with_seek_in (path_in a) d.sizes.seek) → Turns a b (Ok reply.Lost) judging
    judge-lost {b} {n} {d} q o r w =
        let u : d ≡ judged_search s i.answered now timeout gap =
        r ∙ ap (λ (x : ℕ). drop_of s x now gap) o ∙ judge-drops s i.answered now timeout gap (sym e ∙ q) in
        let v : (path_in a).sizes.proven ≡ d.sizes.proven =
        ap (λ (x : Sizes). x.proven) (sym g) ∙ ap (λ (x : Judged). x.sizes.proven) (sym r) in
        let z : d.lost ≡ true = ap (λ (x : Judged). x.lost) r in
        turns_as
        (turns-by (says-as w (λ j. with_sizes (path_in a) (record { seek = d.sizes.seek; proven = v j }))) refl refl)
        (ap (λ (x : Bool). turn (slot_in a) (with_sizes (path_in a) d.sizes) (cond x (Ok reply.Lost) (Ok reply.Waits))) (sym z) ∙ judged u)

    -- it waits
    pub judge-waits : t ≡ false → Turns a a (Ok reply.Waits) judging
    judge-waits q =
        turns_as (turns-none refl refl)
        (ap (λ (x : Sizes). turn (slot_in a) (with_sizes (path_in a) x) (Ok reply.Waits)) (sym g)
        ∙ judged (judge-keeps s i.answered now timeout gap (sym e ∙ q)))

-- ---- fresh

-- the four parts stored
pub fresh-made : {a b c d f : List (List ℕ)} {s t : Sizes} {o i : Ids} → s ≡ (path_in a).sizes → o ≡ (path_in a).ids
    → i ≡ fresh_ids o → t ≡ fresh_sizes s → Says a b (with_ids (path_in a) (with_id (path_in a).ids 2 i.epoch))
    → Says b c (with_misses (path_in b) 0)
    → Says c d (with_seek_in (path_in c) t.seek)
    → Says d f (with_ladder (path_in d) (record { last = None; fallen = false }))
    → Turns a f (Ok reply.Nothing) (turn (slot_in a) (fresh_of (path_in a)) (Ok reply.Nothing))
fresh-made {a} {b} {c} {d} {f} {s} {t} {o} {i} g q r w x₀ y u v =
    let x : Says a b (with_ids (path_in a) i) = says-after 2 (λ (k : Ids). k.epoch) (r ∙ ap fresh_ids q) refl x₀ in
    let none : Ladder = record { last = None; fallen = false } in
    let e : path_in d ≡ with_seek_in (with_misses (with_ids (path_in a) i) 0) t.seek =
    u.path ∙ ap (λ (p : Liveness). with_seek_in p t.seek) (y.path ∙ ap (λ (p : Liveness). with_misses p 0) x.path) in
    turns-by
    (says-as (says_then (says_then (says_then x y) u) v)
    (ap (λ (p : Liveness). with_ladder p none) e
    ∙ (λ j.
    with_ladder (with_seek_in (with_misses (with_ids (path_in a) ((r ∙ ap fresh_ids q) j)) 0) ((w ∙ ap fresh_sizes g) j).seek) none)))
    refl
    refl

-- ---- the search probe's part of an answer

-- what `seek_proved` leaves where the acknowledged length is too long, and where it is not
module _ (p : Liveness) (n acked now : ℕ) where
  proved-over : n ≤ 65535 → 65535 < acked → p ≡ (seek_proved_of p n acked now).path
  unfolding seek_proved_of
  proved-over h k = rw (le-ltb 65535 n h, lt-ltb 65535 acked k) refl

  proved-made : n ≤ 65535 → acked ≤ 65535
      → with_sizes p (acked_search p.sizes n acked now).sizes ≡ (seek_proved_of p n acked now).path
  unfolding seek_proved_of
  proved-made h k = rw (le-ltb 65535 n h, le-ltb 65535 acked k) refl

module _ (a : List (List ℕ)) (id gap acked now : ℕ) where
  -- an endless gap
  pub settle-endless : 2 ^ 62 ≤ gap → Settles a a false (seek_answer_of (path_in a) id gap) acked now
  unfolding seek_answer_of
  settle-endless h =
      rw (le-leb (2 ^ 62) gap h) (record { named = refl; proved = λ z. never z refl; left = λ z. refl })

  module _ {s : Sizes} {d : Settled} (h : gap < 2 ^ 62) (g : s ≡ (path_in a).sizes) (e : d ≡ settled_search s id gap)
    where
      -- what is settled
      settled : {m : Option ℕ} → d.len ≡ m → settled_by (path_in a) m d ≡ seek_answer_of (path_in a) id gap
      unfolding seek_answer_of
      settled z =
          ap (λ (m : Option ℕ). settled_by (path_in a) m d) (sym z)
          ∙ rw (lt-leb (2 ^ 62) gap h)
          (ap (λ (x : Settled). settled_by (path_in a) x.len x) (e ∙ ap (λ (x : Sizes). settled_search x id gap) g))

      -- the outcome by another name
      settles : {b : List (List ℕ)} {r : Bool} {x y : Outcome} → Settles a b r x acked now → x ≡ y
          → Settles a b r y acked now
      settles w z =
          record {
            named = w.named ∙ ap (λ (o : Outcome). is_accepted o.answer) z;
            proved = λ q. says-as (w.proved q)
                (ap (λ (o : Outcome). (seek_proved_of o.path (answer_value o.answer) acked now).path) z);
            left = w.left;
          }

      -- another identifier
      pub settle-none : d.len ≡ None → Settles a a false (seek_answer_of (path_in a) id gap) acked now
      settle-none z = settles (record { named = refl; proved = λ q. never q refl; left = λ q. refl }) (settled z)

      module _ {b : List (List ℕ)} {n : ℕ} (z : d.len ≡ Some n) where
        -- what is acknowledged is too long to be proven
        pub settle-over : n ≤ 65535 → 65535 < acked → Says a b (with_sizes (path_in a) d.sizes)
            → Settles a b true (seek_answer_of (path_in a) id gap) acked now
        settle-over k m w = settles (record { named = refl; proved = λ q. says-as w over; left = λ q. never refl q }) (settled z)
          where
            over : with_sizes (path_in a) d.sizes ≡ (seek_proved_of (with_sizes (path_in a) d.sizes) n acked now).path
            over = proved-over (with_sizes (path_in a) d.sizes) n acked now k m

        -- what is acknowledged is proven or lost
        pub settle-made : {y : Proved} → n ≤ 65535 → acked ≤ 65535 → y ≡ acked_search d.sizes n acked now
            → Says a b (with_sizes (path_in a) y.sizes) → Settles a b true (seek_answer_of (path_in a) id gap) acked now
        settle-made {y} k m f w = settles (record { named = refl; proved = λ q. says-as w made; left = λ q. never refl q }) (settled z)
          where
            made : with_sizes (path_in a) y.sizes ≡ (seek_proved_of (with_sizes (path_in a) d.sizes) n acked now).path
            made = ap (λ (x : Proved). with_sizes (path_in a) x.sizes) f ∙ proved-made (with_sizes (path_in a) d.sizes) n acked now k m
