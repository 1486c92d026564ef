-- The events that leave the size search: open, probe, sample, fold, data, thaw, sweep and close.
-- Assumes nothing.
use Rattle.std.specs.Prelude.{Option, None, Ok, Err}
use Prim.Native.Nat.{ℕ, ◌+◌}
use mathlib.Core.Bool.{false, ◌||◌}
use mathlib.Core.Path.{◌≡◌, refl, ap, ◌∙◌}
use native.Mathlib.Omega.{arith}
use lib.Dec.{leb}
use lib.ListN.{length, set, length-map}
use borrow.Author.Tests.{ltb-false}
use Rattle.base.proofs.Cases.{cond_cases}
use Rattle.base.specs.Limits.{is_overlong, is_undersize, is_endless}
use Rattle.base.specs.declared.types.Refusal.{Refusal}
use Rattle.base.specs.declared.types.Refusal.TheVariants as refusal
use Rattle.base.proofs.BookLaws.{holds_kept}
use Rattle.ring.specs.Ring.{no_sent, is_used, outstanding_of, first_free, all_count}
use Rattle.ring.specs.Ids.{taken_of, next_ids}
use Rattle.ring.specs.declared.types.Ids.{Ids}
use Rattle.seek.specs.declared.types.Sizes.{Sizes}
use Rattle.stop.specs.Silence.{quiet_from}
use Rattle.live.specs.Path.{with_ring, with_silence, with_ids, with_ladder, with_traffic}
use Rattle.live.specs.Probe.{new_sent, sent_ladder, send_of}
use Rattle.live.specs.Times as times
use Rattle.live.specs.declared.types.Traffic.{Traffic}
use Rattle.live.specs.declared.types.Outcome.{Outcome}
use Rattle.live.specs.declared.types.Answer.TheVariants as answer
use Rattle.live.specs.declared.types.Liveness.{Liveness}
use Rattle.rules.specs.Rules.{empty_slot, turn, turn_by}
use Rattle.rules.specs.Book.{Book, no_marks, marks_by, noted}
use Rattle.rules.specs.declared.types.Settings.{Settings}
use Rattle.rules.specs.declared.types.Event.{Event}
use Rattle.rules.specs.declared.types.Reply.TheVariants as reply
use Rattle.rules.specs.declared.types.Slot.{Slot}
use Rattle.rules.specs.declared.types.Turn.{Turn}
use Rattle.rules.proofs.Laws.{or-false, occ}
use Rattle.rules.proofs.Ids.{known-less}
use Rattle.rules.proofs.Turns.{Next, refused, with_kind, Work}
use Rattle.rules.proofs.Line.{lane_of, probe_of, out_count, in_hand, line-send}
use Rattle.rules.proofs.Agree.{Inv, new-inv, align, same}

module _ (t : Settings) (s : Slot) (b₀ : Book) where
  abbrev b : Book
  b = align s b₀

  abbrev p : Liveness
  p = s.path

  abbrev z : Sizes
  z = s.path.sizes

  module _ (h : Inv t s b) (e₀ : Event) where
    abbrev now : ℕ
    now = e₀.now

    abbrev size : ℕ
    size = e₀.len

    abbrev e : ℕ → Event
    e = with_kind e₀

    abbrev N : ℕ → Turn → Type 0
    N k u = Next (Inv t) t b (e k) u

    no : (k : ℕ) (why : Refusal) → N k (turn s p (Err why))
    no k why = refused (Inv t) t s b h (e k) why

    -- ---- open and close

    pub by-open : Work t s e₀ N 1
    unfolding noted
    by-open ok few =
        let r = or-false (is_overlong size || false) (is_undersize size) ok.1.1.1.1.1.0 in
        new-inv t _ (marks_by (e 1)) refl refl (ltb-false 65535 size (or-false (is_overlong size) false r.0).0)

    pub by-close : Work t s e₀ N 14
    unfolding noted
    by-close ok few = new-inv t empty_slot no_marks refl refl (omega arith)

    -- ---- events that the book does not know

    pub by-sample : Work t s e₀ N 5
    unfolding noted times.sample_of
    by-sample ok =
        cond_cases (λ (x : Outcome). N 5 (turn s x.path (Ok reply.Nothing))) (is_endless e₀.span) _ _
        (λ f few. same t s b₀ h p refl refl)
        (λ f. cond_cases (λ (x : Outcome). N 5 (turn s x.path (Ok reply.Nothing))) (is_endless t.window) _ _
        (λ f few. same t s b₀ h p refl refl)
        (λ f. cond_cases (λ (x : Outcome). N 5 (turn s x.path (Ok reply.Nothing))) (is_endless t.horizon) _ _
        (λ f few. same t s b₀ h p refl refl)
        (λ f few. same t s b₀ h _ refl refl)))

    pub by-fold : Work t s e₀ N 6
    unfolding noted
    by-fold ok few = same t s b₀ h _ refl refl

    pub by-thaw : Work t s e₀ N 12
    unfolding noted
    by-thaw ok few = same t s b₀ h _ refl refl

    -- ---- data

    data-kept : (f : Traffic) → N 10 (turn s (times.carried_of (with_traffic p f) now) (Ok reply.Nothing))
    unfolding noted
    data-kept f few =
        record {
          agrees = record { marks = refl; search = refl; probe = h.agrees.probe; probe_at = h.agrees.probe_at; next = h.agrees.next };
          line = record {
            ring = h.line.ring;
            heard = refl;
            answered = refl;
            sum = h.line.sum;
            dues = h.line.dues;
            one = h.line.one;
            old = h.line.old;
          };
          whole = h.whole;
          sizing = h.sizing;
          limit = h.limit;
        }

    pub by-data : Work t s e₀ N 10
    unfolding times.heard_of
    by-data ok =
        cond_cases (λ (x : Outcome). N 10 (turn s (times.carried_of x.path now) (Ok reply.Nothing))) (is_overlong size) _ _
        (λ f. data-kept p.traffic) (λ f. data-kept (times.heard_traffic p.traffic size now))

    -- ---- sweep

    pub by-sweep : Work t s e₀ N 13
    unfolding noted outstanding_of
    by-sweep ok few =
        let n : outstanding_of p.ring ≡ length b.probes.waiting =
        ap length (holds_kept is_used no_sent refl h.line.ring) ∙ length-map b.probes.waiting probe_of in
        record {
          agrees = record { marks = refl; search = refl; probe = h.agrees.probe; probe_at = h.agrees.probe_at; next = h.agrees.next };
          line = record {
            ring = record { used = refl; fits = omega arith; full = refl };
            heard = refl;
            answered = refl;
            sum = omega (arith, h.line.sum, n);
            dues = tt;
            one = λ x. omega (arith, h.line.one x);
            old =
                known-less p.ids.next_id b.probes.drawn (in_hand b.probes (out_count z))
                (λ x. occ x b.probes.timely + 0 + out_count z x) (λ x. omega arith) h.line.old;
          };
          whole = h.whole;
          sizing = h.sizing;
          limit = h.limit;
        }

    -- ---- probe

    abbrev ids_with : Option ℕ → Ids
    ids_with since =
        record { next_id = p.ids.next_id; answered = p.ids.answered; epoch = p.ids.epoch; since = since }

    -- the path and its answer once the probe is sent, with these identifiers before it
    abbrev sent_from : Ids → Outcome
    sent_from m =
        let sent = new_sent (taken_of m.next_id e₀.id) now e₀.span size in
        record {
          path = with_ring
              (with_ids (with_ladder (with_silence p (quiet_from p.silence now)) (sent_ladder p.ladder size))
              (next_ids m sent.probe_id))
              (set p.ring (first_free p.ring) sent);
          answer = Ok (answer.Id sent.probe_id);
        }

    -- whatever becomes of `since`
    sent-kept : (since : Option ℕ) → leb 8 (first_free p.ring) ≡ false → N 2 (turn_by s (sent_from (ids_with since)))
    unfolding noted
    sent-kept since f few =
        record {
          agrees = record { marks = refl; search = refl; probe = h.agrees.probe; probe_at = h.agrees.probe_at; next = h.agrees.next };
          line = line-send t (lane_of p) b.probes (out_count z) h.line e₀.id now e₀.span size f few;
          whole = h.whole;
          sizing = h.sizing;
          limit = h.limit;
        }

    pub by-probe : Work t s e₀ N 2
    unfolding send_of
    by-probe ok =
        cond_cases (λ (x : Outcome). N 2 (turn_by s x)) (is_overlong size) _ _ (λ f. no 2 refusal.Length)
        (λ f. cond_cases (λ (x : Outcome). N 2 (turn_by s x)) (leb 8 (first_free p.ring)) _ _ (λ g. no 2 refusal.Full)
        (λ g.
        cond_cases (λ (m : Ids). N 2 (turn_by s (sent_from m)))
        (all_count p.ids.since p.ring) _ _
        (λ k. sent-kept None g)
        (λ k. sent-kept p.ids.since g)))
