-- On every record that a list of events makes, each slot's path has what is kept of every path (crate `kept`): each event
-- is some calls of its methods, and a slot is opened and closed with a new one. So ETX is within 1 and 100, and no score
-- is a NaN. No premise at all: any settings, any events.
-- Assumes nothing.
use Rattle.std.specs.Prelude.{Option, None, Some, Result}
use Rattle.base.specs.declared.types.Refusal.{Refusal}
use Prim.Native.Nat.{ℕ, zero, suc}
use mathlib.Core.Bool.{Bool, true, false}
use mathlib.Core.Path.{◌≡◌, ap, sym, ◌∙◌}
use mathlib.Core.List.{List, [], ◌∷◌}
use lib.ListN.{get_or, replicate}
use lib.Ieee.{Float, is_nan}
use Rattle.base.proofs.Cases.{cond_cases}
use Rattle.etx.specs.Etx.{Within}
use Rattle.etx.proofs.ScoreLaws.{score-real}
use Rattle.rtt.specs.Samples.{min_rtt}
use Rattle.rtt.specs.Spans.{base_rtt}
use Rattle.live.specs.Probe.{expire_of}
use Rattle.live.specs.Answers.{answer_value, is_accepted, has_lapsed}
use Rattle.live.specs.Search.{seek_size_of, seek_answer_of}
use Rattle.live.specs.declared.types.Outcome.{Outcome}
use Rattle.live.specs.declared.types.Answer.{Answer}
use Rattle.live.specs.declared.types.Liveness.{Liveness}
use Rattle.kept.specs.Kept as call
use Rattle.kept.specs.Kept.{Kept}
use Rattle.kept.proofs.KeptLaws.{kept_new, kept_send, kept-answer, kept-expire, kept-clear, kept-prove, kept-sample}
use Rattle.kept.proofs.KeptLaws.{kept-seek-send, kept-seek-answer, kept-seek-proved, kept-seek-judge, kept-fold}
use Rattle.kept.proofs.KeptLaws.{kept-heard, kept-after}
use Rattle.scores.specs.Scores.{scored, path_score, path_steady}
use Rattle.rules.specs.Event.{is, bit}
use Rattle.rules.specs.declared.types.Kind.TheVariants.{Choose}
use Rattle.rules.specs.Rules.{empty_slot, answered, poll_of, searched, on_slot}
use Rattle.rules.specs.Step.{fresh_record, slot_at, choice_of, step, run}
use Rattle.rules.specs.Demand3.{slot_after}
use Rattle.rules.specs.declared.types.Settings.{Settings}
use Rattle.rules.specs.declared.types.Event.{Event}
use Rattle.rules.specs.declared.types.Slot.{Slot}
use Rattle.rules.specs.declared.types.Record.{Record}
use Rattle.rules.specs.declared.types.Stepped.{Stepped}
use Rattle.rules.specs.declared.types.Polling.{Polling}
use Rattle.rules.specs.declared.types.Turn.{Turn}
use Rattle.rules.proofs.Laws.{put-at, Kinds}
use Rattle.rules.proofs.Turns.{with_kind, Work, slot_kept}

-- ---- one event on a slot

module _ (now : ℕ) (overdue : Bool) (cap : ℕ) where
  poll-kept : (n : ℕ) (p : Liveness) → Kept p → Kept (poll_of n p now overdue cap).path
  poll-kept zero p h = h
  poll-kept (suc n) p h =
      let x : Outcome = expire_of p now overdue cap in
      let k : Kept x.path = kept-expire h now overdue cap in
      cond_cases (λ (r : Polling). Kept r.path) (has_lapsed x.answer) _ _ (λ f. poll-kept n x.path k) (λ f. k)

module _ (t : Settings) (s : Slot) (e : Event) (h : Kept s.path) where
  abbrev N : ℕ → Turn → Type 0
  N k u = Kept u.slot.path

  answered-kept : (x : Outcome) → Kept x.path → N 3 (answered x s (with_kind e 3))
  answered-kept x k =
      cond_cases (N 3) (is_accepted x.answer) _ _
      (λ f. kept-seek-proved k (answer_value x.answer) e.acked e.now)
      (λ f. kept-answer h e.id)

  searched-kept : (x : Result Answer Refusal) → N 8 (searched x s (with_kind e 8))
  searched-kept x =
      cond_cases (N 8) (is_accepted x) _ _ (λ f. kept-seek-send h e.now (answer_value x) e.id) (λ f. h)

  event-kept : (k : ℕ) → N k (on_slot t s (with_kind e k))
  event-kept =
      slot_kept t s e N (λ k why. h) (choose, (close, (sweep, (thaw, (fresh, (heard, (judge, others)))))))
    where
      choose : Work t s e N 15
      choose ok = h

      close : Work t s e N 14
      close ok = kept_new

      sweep : Work t s e N 13
      sweep ok = kept-clear h

      thaw : Work t s e N 12
      thaw ok = kept-after h call.Thaw

      fresh : Work t s e N 11
      fresh ok = kept-after h call.Fresh

      heard : Work t s e N 10
      heard ok = kept-after (kept-heard h e.len e.now) (call.Carried e.now)

      judge : Work t s e N 9
      judge ok = kept-seek-judge h e.now e.span t.gap

      search : Work t s e N 8
      search ok = searched-kept (seek_size_of s.path s.label.full e.now)

      prove : Work t s e N 7
      prove ok = kept-prove h e.len

      fold : Work t s e N 6
      fold ok = kept-fold h (bit 1 e)

      sample : Work t s e N 5
      sample ok = kept-sample h e.now e.span t.window t.horizon

      poll : Work t s e N 4
      poll ok = poll-kept e.now (bit 1 e) t.cap 9 s.path h

      answer : Work t s e N 3
      answer ok = answered-kept (seek_answer_of s.path e.id t.gap) (kept-seek-answer h e.id t.gap)

      probe : Work t s e N 2
      probe ok = kept_send h e.now e.span e.len e.id

      opened : Work t s e N 1
      opened ok = kept_new

      others : Kinds (Work t s e N) 8
      others = (search, (prove, (fold, (sample, (poll, (answer, (probe, (opened, tt))))))))

-- ---- the list

abbrev AllKept : Record → Type 0
AllKept r = (j : ℕ) → Kept (slot_at r j).path

step_kept : (r : Record) (e : Event) → AllKept r → AllKept (step r e).next
unfolding step choice_of
step_kept r e h =
    cond_cases (λ (o : Stepped). AllKept o.next) (is Choose e) (choice_of r e) _ (λ q. h)
    (λ q j.
    put-at (λ (s : Slot). Kept s.path) r.slots e.slot j _ empty_slot (h j)
    (event-kept r.settings (slot_at r e.slot) e (h e.slot) e.kind))

run-kept : (es : List Event) (r : Record) → AllKept r → AllKept (run r es)
run-kept [] r h = h
run-kept (e ∷ es) r h = run-kept es (step r e).next (step_kept r e h)

-- what is kept of every path is kept of each slot's
pub path-after : (t : Settings) (es : List Event) (j : ℕ) → Kept (slot_after t es j).path
path-after t es = run-kept es (fresh_record t) (fresh 8)
  where
    fresh : (n j : ℕ) → Kept (get_or (replicate n empty_slot) j empty_slot).path
    fresh zero j = kept_new
    fresh (suc n) zero = kept_new
    fresh (suc n) (suc j) = fresh n j

-- "ETX stays within 1 and 100"
pub etx-after : (t : Settings) (es : List Event) (j : ℕ) → Within (slot_after t es j).path.etx
etx-after t es j = (path-after t es j).within

-- ---- scores

real : (etx : Float) (o : Option ℕ) → Within etx → (x : Float) → scored etx o ≡ Some x → is_nan x ≡ false
real etx None h x e = let y : true ≡ false = cc in cc
real etx (Some rtt) h x e = ap is_nan (sym (same e)) ∙ score-real etx rtt h
  where
    same : {a b : Float} → Some a ≡ Some b → a ≡ b
    same q = cc

pub score-after : (t : Settings) (es : List Event) (j : ℕ) (x : Float)
    → path_score (slot_after t es j).path ≡ Some x → is_nan x ≡ false
score-after t es j = real (slot_after t es j).path.etx (min_rtt (slot_after t es j).path.rtts.samples)
    (etx-after t es j)

pub steady-after : (t : Settings) (es : List Event) (j : ℕ) (x : Float)
    → path_steady (slot_after t es j).path ≡ Some x → is_nan x ≡ false
steady-after t es j = real (slot_after t es j).path.etx (base_rtt (slot_after t es j).path.rtts.spans)
    (etx-after t es j)
