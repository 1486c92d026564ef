-- Each method keeps what is kept of a path, whatever its numbers; and so do any calls one after the other.
-- Assumes nothing.
use Rattle.std.specs.Prelude.{Option, None, Some}
use Prim.Native.Nat.{ℕ}
use mathlib.Core.Path.{◌≡◌, refl, ◌∙◌}
use mathlib.Core.Bool.{Bool, true, not, ◌&&◌}
use mathlib.Core.List.{List, [], ◌∷◌, foldl}
use native.Mathlib.Omega.{arith}
use borrow.Author.Tests.{ltb-false, leb-false}
use lib.Dec.{leb, ltb, eqb}
use lib.ListN.{length, length-set}
use Rattle.base.specs.Limits.{max_len, min_len, is_overlong, is_undersize, is_endless}
use Rattle.base.proofs.Cases.{on-flag, cond_cases}
use Rattle.ring.specs.Ring.{max_waiting, max_late, no_sent, first_free, found, Closed}
use Rattle.ring.specs.Lapse.{is_passed, defer_of, scan_of}
use Rattle.ring.specs.declared.types.Sent.{Sent}
use Rattle.ring.specs.declared.types.Scanned.{Scanned}
use Rattle.ring.proofs.ClosedLaws.{closed-new, closed-long, closed-more, closed-out, closed-scan}
use Rattle.ring.proofs.SweepLaws.{remember-long, sweep-long}
use Rattle.rtt.proofs.RttLaws.{new-trips, sample-trips}
use Rattle.seek.specs.Rules.{is_provable}
use Rattle.seek.specs.Search as seek
use Rattle.seek.specs.declared.types.Sizes.{Sizes}
use Rattle.seek.proofs.ProvenLaws.{size-within, acked-within}
use Rattle.etx.proofs.WithinLaws.{one-within, fold-within}
use Rattle.live.specs.New.{new_liveness}
use Rattle.live.specs.Answers.{is_accepted}
use Rattle.live.specs.Path.{with_ring, with_late, with_sizes}
use Rattle.live.specs.Probe.{send_of, answer_of, expire_of, lapse_of, clear_of}
use Rattle.live.specs.Search.{prove_of, seek_send_of, seek_ring_of, seek_answer_of, settled_by, seek_proved_of, seek_judge_of}
use Rattle.live.specs.Times.{sample_of, folded_of, heard_of, shed_of}
use Rattle.live.specs.declared.types.Liveness.{Liveness}
use Rattle.live.specs.declared.types.Outcome.{Outcome}
use Rattle.kept.specs.Kept as kept
use Rattle.kept.specs.Kept.{Kept, Call, after, path_after}

-- ---- the parts

-- a new path
pub kept_new : Kept new_liveness
kept_new = record { within = one-within; provable = refl; closed = closed-new; four = refl; trips = new-trips }

module _ {p : Liveness} (k : Kept p) where
  -- a path that differs in none of what is kept
  unmoved : (q : Liveness) → q.etx ≡ p.etx → q.sizes.proven ≡ p.sizes.proven → q.ring ≡ p.ring → q.late ≡ p.late
      → q.rtts ≡ p.rtts → Kept q
  unmoved q a b c d e =
      record {
        within = rw a k.within;
        provable = rw b k.provable;
        closed = rw c k.closed;
        four = rw d k.four;
        trips = rw e k.trips;
      }

  -- another ring, another late list, other sizes
  in-ring : (l : List Sent) → Closed l → Kept (with_ring p l)
  in-ring l c = record { within = k.within; provable = k.provable; closed = c; four = k.four; trips = k.trips }

  in-late : (l : List Sent) → length l ≡ max_late → Kept (with_late p l)
  in-late l h = record { within = k.within; provable = k.provable; closed = k.closed; four = h; trips = k.trips }

  in-sizes : (s : Sizes) → is_provable s.proven ≡ true → Kept (with_sizes p s)
  in-sizes s h = record { within = k.within; provable = h; closed = k.closed; four = k.four; trips = k.trips }

-- an answer and a judgement leave the proven size
settled-proven : (s : Sizes) (id gap : ℕ) → (seek.settled_search s id gap).sizes.proven ≡ s.proven
unfolding seek.settled_search
settled-proven s id gap =
    on-flag (not (eqb s.seek.len 0) && eqb s.seek.probe_id id) (λ e. rw e) (λ e. rw e)

judged-proven : (s : Sizes) (answered : Option ℕ) (now timeout gap : ℕ)
    → (seek.judged_search s answered now timeout gap).sizes.proven ≡ s.proven
unfolding seek.judged_search
judged-proven s answered now timeout gap =
    on-flag (seek.judges_of s.seek s.seek.at answered now timeout) (λ e. rw e) (λ e. rw e)

-- a call that is refused or carried out
abbrev Keeps : Outcome → Type 0
Keeps o = Kept o.path

-- ---- each method

module _ {p : Liveness} (k : Kept p) where
  pub kept_send : (at due n draw : ℕ) → Kept (send_of p at due n draw).path
  unfolding send_of
  kept_send at due n draw =
      cond_cases Keeps (is_overlong n) _ _ (λ e. k)
      (λ e.
      cond_cases Keeps (leb max_waiting (first_free p.ring)) _ _ (λ f. k)
      (λ f.
      in-ring (unmoved k _ refl refl refl refl refl) _
      (closed-more _ k.closed (leb-false max_waiting (first_free p.ring) f) refl)))

  pub kept-answer : (id : ℕ) → Kept (answer_of p id).path
  unfolding answer_of
  kept-answer id =
      cond_cases Keeps (ltb (found id p.ring) max_waiting) _ _
      (λ e. in-ring (unmoved k _ refl refl refl refl refl) _ (closed-out p.ring (found id p.ring) (closed-long k.closed)))
      (λ e.
      cond_cases Keeps (ltb (found id p.late) max_late) _ _
      (λ f. in-late k _ (length-set p.late (found id p.late) no_sent ∙ k.four))
      (λ f. k))

  pub kept-expire : (now : ℕ) (overdue : Bool) (cap : ℕ) → Kept (expire_of p now overdue cap).path
  unfolding expire_of
  kept-expire now overdue cap =
      let c : Scanned = scan_of (is_passed now overdue) (defer_of p.traffic.data_at cap now overdue) p.ring in
      let h : Closed c.ring = closed-scan (is_passed now overdue) (defer_of p.traffic.data_at cap now overdue) refl k.closed in
      cond_cases Keeps (is_endless cap) _ _ (λ e. k)
      (λ e.
      cond_cases Keeps (leb max_waiting c.slot) _ _
      (λ f. in-ring k c.ring h)
      (λ f.
      in-ring (in-late (unmoved k _ refl refl refl refl refl) _ (remember-long p.late _ (omega (arith, k.four)) ∙ k.four)) _
      (closed-out c.ring c.slot (closed-long h))))

  pub kept-lapse : (s : Sent) → Kept (lapse_of p s)
  kept-lapse s = in-late k _ (remember-long p.late s (omega (arith, k.four)) ∙ k.four)

  pub kept-clear : Kept (clear_of p)
  kept-clear = in-ring (in-late k _ (sweep-long p.late p.ring ∙ k.four)) _ closed-new

  pub kept-prove : (n : ℕ) → Kept (prove_of p n).path
  unfolding prove_of
  kept-prove n =
      cond_cases Keeps (is_overlong n) _ _ (λ e. k)
      (λ e.
      cond_cases Keeps (is_undersize n) _ _ (λ f. k)
      (λ f. in-sizes k _ (size-within n (ltb-false n min_len f) (ltb-false max_len n e))))

  pub kept-seek-send : (at n draw : ℕ) → Kept (seek_send_of p at n draw).path
  unfolding seek_send_of seek.sent_search
  kept-seek-send at n draw =
      cond_cases Keeps (is_overlong n) _ _ (λ e. k) (λ e. unmoved k _ refl refl refl refl refl)

  pub kept-seek-ring : (at due gap n draw : ℕ) → Kept (seek_ring_of p at due gap n draw).path
  unfolding seek_ring_of seek.next_search
  kept-seek-ring at due gap n draw =
      cond_cases Keeps (is_overlong n) _ _ (λ e. k)
      (λ e.
      cond_cases Keeps (is_endless gap) _ _ (λ f. k)
      (λ f.
      let s : Outcome = send_of p at due n draw in
      cond_cases Keeps (is_accepted s.answer) _ _
      (λ g. unmoved (kept_send at due n draw) _ refl refl refl refl refl)
      (λ g. kept_send at due n draw)))

  pub kept-seek-answer : (id gap : ℕ) → Kept (seek_answer_of p id gap).path
  unfolding seek_answer_of
  kept-seek-answer id gap = cond_cases Keeps (is_endless gap) _ _ (λ e. k) (λ e. by-len (seek.settled_search p.sizes id gap).len)
    where
      by-len : (n : Option ℕ) → Kept (settled_by p n (seek.settled_search p.sizes id gap)).path
      by-len None = k
      by-len (Some n) = in-sizes k _ (rw (settled-proven p.sizes id gap) k.provable)

  pub kept-seek-proved : (sent acked now : ℕ) → Kept (seek_proved_of p sent acked now).path
  unfolding seek_proved_of
  kept-seek-proved sent acked now =
      cond_cases Keeps (is_overlong sent) _ _ (λ e. k)
      (λ e.
      cond_cases Keeps (is_overlong acked) _ _ (λ f. k)
      (λ f. in-sizes k _ (acked-within p.sizes sent acked now k.provable (ltb-false max_len sent e))))

  pub kept-seek-judge : (now timeout gap : ℕ) → Kept (seek_judge_of p now timeout gap).path
  unfolding seek_judge_of
  kept-seek-judge now timeout gap =
      cond_cases Keeps (is_endless timeout) _ _ (λ e. k)
      (λ e.
      cond_cases Keeps (is_endless gap) _ _ (λ f. k)
      (λ f. in-sizes k _ (rw (judged-proven p.sizes p.ids.answered now timeout gap) k.provable)))

  pub kept-sample : (now x window horizon : ℕ) → Kept (sample_of p now x window horizon).path
  unfolding sample_of
  kept-sample now x window horizon =
      cond_cases Keeps (is_endless x) _ _ (λ e. k)
      (λ e.
      cond_cases Keeps (is_endless window) _ _ (λ f. k)
      (λ f.
      cond_cases Keeps (is_endless horizon) _ _ (λ g. k)
      (λ g.
      record {
        within = k.within;
        provable = k.provable;
        closed = k.closed;
        four = k.four;
        trips = sample-trips p.rtts now x window horizon k.trips;
      })))

  pub kept-fold : (delivered : Bool) → Kept (folded_of p delivered)
  kept-fold delivered =
      record {
        within = fold-within p.etx delivered;
        provable = k.provable;
        closed = k.closed;
        four = k.four;
        trips = k.trips;
      }

  pub kept-heard : (n now : ℕ) → Kept (heard_of p n now).path
  unfolding heard_of
  kept-heard n now = cond_cases Keeps (is_overlong n) _ _ (λ e. k) (λ e. unmoved k _ refl refl refl refl refl)

  pub kept-shed : (n : ℕ) → Kept (shed_of p n).path
  unfolding shed_of
  kept-shed n = cond_cases Keeps (is_overlong n) _ _ (λ e. k) (λ e. unmoved k _ refl refl refl refl refl)

-- ---- any of them, and any calls one after the other

pub kept-after : {p : Liveness} → Kept p → (c : Call) → Kept (after p c)
kept-after k (kept.TakeId draw) = unmoved k _ refl refl refl refl refl
kept-after k kept.Thaw = unmoved k _ refl refl refl refl refl
kept-after k (kept.Send at due n draw) = kept_send k at due n draw
kept-after k (kept.Answer id) = kept-answer k id
kept-after k (kept.Expire now overdue cap) = kept-expire k now overdue cap
kept-after k (kept.Lapse s) = kept-lapse k s
kept-after k kept.Clear = kept-clear k
kept-after k kept.Fresh = unmoved k _ refl refl refl refl refl
kept-after k (kept.Prove n) = kept-prove k n
kept-after k (kept.SeekSend at n draw) = kept-seek-send k at n draw
kept-after k (kept.SeekRing at due gap n draw) = kept-seek-ring k at due gap n draw
kept-after k (kept.SeekAnswer id gap) = kept-seek-answer k id gap
kept-after k (kept.SeekProved sent acked now) = kept-seek-proved k sent acked now
kept-after k (kept.SeekJudge now timeout gap) = kept-seek-judge k now timeout gap
kept-after k (kept.Sample now x window horizon) = kept-sample k now x window horizon
kept-after k (kept.Fold delivered) = kept-fold k delivered
kept-after k (kept.Heard n now) = kept-heard k n now
kept-after k (kept.Carried now) = unmoved k _ refl refl refl refl refl
kept-after k (kept.Shed n) = kept-shed k n
kept-after k (kept.Halt at active) = unmoved k _ refl refl refl refl refl
kept-after k (kept.Spend at) = unmoved k _ refl refl refl refl refl
kept-after k kept.Owe = unmoved k _ refl refl refl refl refl
kept-after k (kept.Rebase at ok) = unmoved k _ refl refl refl refl refl

kept_from : (p : Liveness) (calls : List Call) → Kept p → Kept (foldl after p calls)
kept_from p [] k = k
kept_from p (c ∷ calls) k = kept_from (after p c) calls (kept-after k c)

pub kept-all : (calls : List Call) → Kept (path_after calls)
kept-all calls = kept_from new_liveness calls kept_new
