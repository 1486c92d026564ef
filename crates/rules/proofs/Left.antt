-- A refused event leaves the record as it came.
-- Assumes nothing.
use Rattle.std.specs.Prelude.{Option, None, Some, Result, Ok}
use Prim.Native.Nat.{ℕ}
use mathlib.Core.Bool.{Bool, true, false, not, cond}
use mathlib.Core.Path.{◌≡◌, refl, ap, ◌∙◌}
use mathlib.Core.List.{List, [], ◌∷◌}
use lib.Dec.{eqb, leb, ltb}
use borrow.Author.Tests.{eqb-false}
use Rattle.std.specs.List.{list_all}
use Rattle.base.specs.Refusals.{refusal_number}
use lib.ListN.{set}
use lib.Seq.{set-get_or}
use Rattle.base.specs.Limits.{is_overlong, is_undersize, is_endless}
use Rattle.base.specs.declared.types.Refusal.{Refusal}
use Rattle.base.specs.declared.types.Refusal.TheVariants as refusal
use Rattle.base.proofs.Cases.{never, cond_cases}
use Rattle.base.proofs.RefusalLaws.{number-some}
use Rattle.ring.specs.Ring.{first_free, found}
use Rattle.seek.specs.Search as search
use Rattle.seek.specs.declared.types.Settled.{Settled}
use Rattle.live.specs.Probe.{send_of, answer_of}
use Rattle.live.specs.Search as live
use Rattle.live.specs.declared.types.Outcome.{Outcome}
use Rattle.live.specs.declared.types.Answer.{Answer}
use Rattle.live.specs.declared.types.Liveness.{Liveness}
use Rattle.rules.specs.Event.{is, number_of}
use Rattle.rules.specs.declared.types.Kind.TheVariants.{Choose}
use Rattle.rules.specs.Rules.{empty_slot, turn, turn_by, answered, searched, refusals, is_clear, on_slot}
use Rattle.rules.specs.Step.{slot_at, choice_of, step}
use Rattle.rules.specs.declared.types.Settings.{Settings}
use Rattle.rules.specs.declared.types.Event.{Event}
use Rattle.rules.specs.declared.types.Reply.TheVariants as reply
use Rattle.rules.specs.declared.types.Slot.{Slot}
use Rattle.rules.specs.declared.types.Record.{Record}
use Rattle.rules.specs.declared.types.Turn.{Turn}
use Rattle.rules.specs.declared.types.Stepped.{Stepped}
use Rattle.rules.proofs.Laws.{Passes, refused-or}
use Rattle.rules.proofs.Turns.{with_kind, Work, slot_kept}

module _ (t : Settings) (s : Slot) (e₀ : Event) where
  abbrev p : Liveness
  p = s.path

  abbrev e : ℕ → Event
  e = with_kind e₀

  -- refused, with the slot as it came
  abbrev N : ℕ → Turn → Type 0
  N k u = eqb (number_of u.reply) 0 ≡ false → u.slot ≡ s

  taken : {X : Type 0} → true ≡ false → X
  taken q = never {t = true} refl q

  by-probe : Work t s e₀ N 2
  unfolding send_of
  by-probe ok =
      cond_cases (λ (x : Outcome). N 2 (turn_by s x)) (is_overlong e₀.len) _ _ (λ f q. refl)
      (λ f. cond_cases (λ (x : Outcome). N 2 (turn_by s x)) (leb 8 (first_free p.ring)) _ _ (λ g q. refl)
      (λ g q. taken q))

  by-ring : N 3 (turn_by s (answer_of p e₀.id))
  unfolding answer_of
  by-ring =
      cond_cases (λ (x : Outcome). N 3 (turn_by s x)) (ltb (found e₀.id p.ring) 8) _ _ (λ f q. taken q)
      (λ f. cond_cases (λ (x : Outcome). N 3 (turn_by s x)) (ltb (found e₀.id p.late) 4) _ _ (λ g q. taken q)
      (λ g q. refl))

  by-settled : (o : Option ℕ) (d : Settled) → N 3 (answered (live.settled_by p o d) s (e 3))
  by-settled None d = by-ring
  by-settled (Some n) d = λ q. taken q

  by_answer : Work t s e₀ N 3
  unfolding live.seek_answer_of
  by_answer ok =
      cond_cases (λ (x : Outcome). N 3 (answered x s (e 3))) (is_endless t.gap) _ _ (λ f. by-ring)
      (λ f. by-settled (search.settled_search p.sizes e₀.id t.gap).len
      (search.settled_search p.sizes e₀.id t.gap))

  by_size : (o : Option ℕ) → N 8 (searched (live.len_or refusal.NoSize o) s (e 8))
  unfolding live.seek_send_of
  by_size None = λ q. refl
  by_size (Some n) =
      cond_cases (λ (x : Outcome). N 8 (turn_by s x)) (is_overlong n) _ _ (λ f q. refl) (λ f q. taken q)

  by-search : Work t s e₀ N 8
  unfolding live.seek_size_of
  by-search ok =
      cond_cases (λ (x : Result Answer Refusal). N 8 (searched x s (e 8))) (is_overlong s.label.full) _ _ (λ f q. refl)
      (λ f. cond_cases (λ (x : Result Answer Refusal). N 8 (searched x s (e 8))) (is_undersize s.label.full) _ _ (λ g q. refl)
      (λ g. by_size (search.search_size p.sizes s.label.full e₀.now)))

  by-lost : (lost : Bool) (q : Liveness) → N 9 (turn s q (cond lost (Ok reply.Lost) (Ok reply.Waits)))
  by-lost true q = λ f. taken f
  by-lost false q = λ f. taken f

  by-judge : Work t s e₀ N 9
  unfolding live.seek_judge_of
  by-judge ok =
      cond_cases (λ (x : Outcome). N 9 (turn_by s x)) (is_endless e₀.span) _ _ (λ f q. refl)
      (λ f. cond_cases (λ (x : Outcome). N 9 (turn_by s x)) (is_endless t.gap) _ _ (λ g q. refl)
      (λ g. by-lost (search.judged_search p.sizes p.ids.answered e₀.now e₀.span t.gap).lost _))

  pub slot-left : (k : ℕ) → N k (on_slot t s (e k))
  slot-left =
      slot_kept t s e₀ N (λ k why q. refl) (
        λ ok q. refl,
        (
          λ ok q. taken q,
          (
            λ ok q. taken q,
            (
              λ ok q. taken q,
              (
                λ ok q. taken q,
                (
                  λ ok q. taken q,
                  (
                    by-judge,
                    (
                      by-search,
                      (
                        λ ok q. taken q,
                        (
                          λ ok q. taken q,
                          (
                            λ ok q. taken q,
                            (λ ok q. taken q, (by_answer, (by-probe, (λ ok q. taken q, tt)))),
                          ),
                        ),
                      ),
                    ),
                  ),
                ),
              ),
            ),
          ),
        ),
      )

pub refused-left : (r : Record) (e : Event) → eqb (number_of (step r e).reply) 0 ≡ false → (step r e).next ≡ r
unfolding step choice_of
refused-left r e =
    cond_cases (λ (o : Stepped). eqb (number_of o.reply) 0 ≡ false → o.next ≡ r) (is Choose e) (choice_of r e) _
    (λ c q. refl)
    (λ c q.
    let z : (on_slot r.settings (slot_at r e.slot) e).slot ≡ slot_at r e.slot =
    slot-left r.settings (slot_at r e.slot) e e.kind q in
    ap (λ (l : List Slot). record { settings = r.settings; slots = l })
    (ap (set r.slots e.slot) z ∙ set-get_or r.slots e.slot empty_slot))

-- an accepted event is clear: no condition of the refusals' list holds
passes-clear : (l : List (Refusal × Bool)) → Passes l → list_all (λ (x : Refusal × Bool). not x.1) l ≡ true
passes-clear [] ok = refl
passes-clear (x ∷ l) ok = rw ok.0 (passes-clear l ok.1)

pub accepted-clear : (t : Settings) (s : Slot) (e : Event) → number_of (on_slot t s e).reply ≡ 0
    → is_clear t s.used e ≡ true
unfolding on_slot is_clear
accepted-clear t s e =
    refused-or (λ (u : Turn). number_of u.reply ≡ 0 → is_clear t s.used e ≡ true) (refusals t s.used e) s _
    (λ why n. absurd (eqb-false (refusal_number why) 0 (number-some why) n))
    (λ ok n. passes-clear (refusals t s.used e) ok)
