-- The loop of a run: of at most `most` records i are done, and their lines stand at the front of the lent bytes.
-- Assumes nothing.
use Rattle.base.specs.declared.types.Refusal.{Refusal}
use Rattle.std.proofs.Common.{◌≡◌, ℕ, suc, ◌+◌, ◌-◌, ◌*◌, ◌/◌, ◌%◌, ◌^◌, ◌<◌, ◌≤◌, Bool, true, false, cond, eqb, List, [], ◌++◌, length, drop, sym, refl, ap, ◌∙◌, arith, length-append, Result}
use Rattle.base.specs.Refusals.{refusal_number}
use Rattle.base.proofs.Cases.{never}
use Rattle.octets.specs.Octets.{over}
use Rattle.octets.proofs.Fill.{Filled, nothing, filled-over}
use Rattle.rules.specs.declared.types.Event.{Event}
use Rattle.rules.specs.declared.types.Record.{Record}
use Rattle.rules.specs.declared.types.Reply.{Reply}
use Rattle.eventfile.specs.File.{parse_of}
use Rattle.eventfile.specs.declared.types.Parse.{Parse}
use Rattle.eventfile.specs.declared.types.Parse.TheVariants as parse
use Rattle.lines.specs.Text.{line_of, written}
use Rattle.lines.proofs.TextLaws.{line-few}
use Rattle.peer.specs.Record.{record_in, AreCoded, Steps}
use Rattle.session.specs.Sessions.{session_of, Ran, call_end, event_line, stop_line}
use Rattle.session.specs.Sessions.{stop_phase, stopped, ran_by, ran_from, laid_at}
use Rattle.session.specs.Words.{run_in, Runs, call_at, stopped_at}
use Rattle.session.specs.declared.types.Phase.TheVariants as phase
use Rattle.session.specs.declared.types.Call.{Call}
use Rattle.session.proofs.LayLaws.{lay-filled}
use Rattle.session.proofs.SessionLaws.{is_event}

-- ---- what stops a run

stop-few : (x : Parse) (n : ℕ) → length (stop_line x n) ≤ 84
stop-few parse.End n = omega arith
stop-few (parse.Event e next) n = omega arith
stop-few (parse.Refused why k) n = go (eqb (refusal_number why) 13)
  where
    go : (b : Bool) → length (cond b [] (line_of n k (refusal_number why) 0)) ≤ 84
    go true = omega arith
    go false = line-few n k (refusal_number why) 0

by-stop : (x : Parse) (more : List ℕ → Record → ℕ → ℕ → Ran) (text : List ℕ) (rec : Record) (n at : ℕ)
    → is_event x ≡ false
    → ran_by x more text rec n at ≡ stopped x text rec n at
by-stop parse.End more text rec n at h = refl
by-stop (parse.Refused why k) more text rec n at h = refl
by-stop (parse.Event e next) more text rec n at h = never refl h

-- ---- the loop

pub record Going (l₀ l t : List ℕ) (a₀ : List (List (List ℕ))) (n₀ p₀ most : ℕ) (out : List ℕ)
    (a : List (List (List ℕ))) (n p at i : ℕ) : Type 0 where
  pub text : List ℕ
  pub upto : i ≤ most
  pub small : at ≤ 84 * i
  pub room : 84 * most ≤ length l₀
  pub wide : length l₀ < 2 ^ 64
  pub filled : Filled l₀ text out at
  pub is : ran_from (length l₀ / 84) l [] (record_in t a₀) n₀ p₀ ≡ ran_from (most - i) l text (record_in t a) n p
  pub coded : AreCoded a₀ → AreCoded a

pub going_start : (l₀ l t : List ℕ) (a : List (List (List ℕ))) (n p : ℕ) → length l₀ < 2 ^ 64
    → Going l₀ l t a n p (length l₀ / 84) l₀ a n p 0 0
going_start l₀ l t a n p w =
    let z : length l₀ / 84 - 0 ≡ length l₀ / 84 = omega arith in
    record {
      text = [];
      upto = omega arith;
      small = omega arith;
      room = omega arith;
      wide = w;
      filled = nothing l₀;
      is = λ j. ran_from (sym z j) l [] (record_in t a) n p;
      coded = λ h. h;
    }

module _ {l₀ l t : List ℕ} {a₀ : List (List (List ℕ))} {n₀ p₀ most : ℕ} {out : List ℕ} {a : List (List (List ℕ))}
    {n p at i : ℕ} (g : Going l₀ l t a₀ n₀ p₀ most out a n p at i) where
  -- one more turn
  opened : {x : Parse} → i < most → x ≡ parse_of l p
      → ran_from (length l₀ / 84) l [] (record_in t a₀) n₀ p₀
      ≡ ran_by x (ran_from (most - (i + 1)) l) g.text (record_in t a) n p
  unfolding ran_from
  opened {x} h e =
      let k : most - i ≡ suc (most - (i + 1)) = omega arith in
      g.is ∙ (λ j. ran_from (k j) l g.text (record_in t a) n p)
      ∙ (λ j. ran_by (sym e j) (ran_from (most - (i + 1)) l) g.text (record_in t a) n p)

  -- the run stops before what is no event
  pub going-stop : {x : Parse} {r : Call} {m : List ℕ} → i < most → x ≡ parse_of l p → is_event x ≡ false
      → (r ≡ stopped_at n x p out at) × (m ≡ laid_at at (stop_line x n) out)
      → Runs t t a₀ a r l₀ m (ran_from (length l₀ / 84) l [] (record_in t a₀) n₀ p₀)
  going-stop {x} {r} {m} h e v d =
      let k : ran_from (length l₀ / 84) l [] (record_in t a₀) n₀ p₀ ≡ stopped x g.text (record_in t a) n p =
      opened h e ∙ by-stop x (ran_from (most - (i + 1)) l) g.text (record_in t a) n p v in
      let f : Filled l₀ (g.text ++ stop_line x n) m (at + written (stop_line x n) (drop at out)) =
      lay-filled (stop_line x n) g.filled (omega (arith, stop-few x n, h, g.small, g.room)) refl d.1 in
      record {
        leaves = ap (run_in t a) d.0
            ∙ (λ j. record {
              session = session_of (stop_phase x) (record_in t a) n;
              place = p;
              wrote = sym f.long j;
              full = false;
            }) ∙ sym (λ j. (k j).run);
        writes = filled-over f ∙ (λ j. over (sym k j).text l₀);
        row = λ q. q;
        coded = g.coded;
      }

  -- the run stops for want of room
  pub going-full : {r : Call} → most ≤ i → r ≡ call_at n phase.Running p at true
      → Runs t t a₀ a r l₀ out (ran_from (length l₀ / 84) l [] (record_in t a₀) n₀ p₀)
  unfolding ran_from
  going-full {r} h q =
      let z : most - i ≡ 0 = omega arith in
      let k : ran_from (length l₀ / 84) l [] (record_in t a₀) n₀ p₀
      ≡ call_end g.text (session_of phase.Running (record_in t a) n) p true =
      g.is ∙ (λ j. ran_from (z j) l g.text (record_in t a) n p) in
      record {
        leaves = ap (run_in t a) q
            ∙ (λ j. record {
              session = session_of phase.Running (record_in t a) n;
              place = p;
              wrote = sym g.filled.long j;
              full = true;
            }) ∙ sym (λ j. (k j).run);
        writes = filled-over g.filled ∙ (λ j. over (sym k j).text l₀);
        row = λ q. q;
        coded = g.coded;
      }

  -- an event on the words, and its line
  pub going_next : {x : Parse} {e : Event} {next r n' : ℕ} {b : List (List (List ℕ))} {reply : Result Reply Refusal} {m : List ℕ}
      → i < most → x ≡ parse_of l p → x ≡ parse.Event e next → Steps t a b reply e
      → (r ≡ at + written (event_line n e reply) (drop at out)) × (m ≡ laid_at at (event_line n e reply) out)
      → n' ≡ (n + 1) % 2 ^ 64 → Going l₀ l t a₀ n₀ p₀ most m b n' next r (i + 1)
  going_next {x} {e} {next} {r} {n'} {b} {reply} {m} h c q s w en =
      let line = event_line n e reply in
      let few : length line ≤ 84 = line-few _ _ _ _ in
      let f : Filled l₀ (g.text ++ line) m r =
      lay-filled line g.filled (omega (arith, few, h, g.small, g.room)) w.0 w.1 in
      record {
        text = g.text ++ line;
        upto = omega arith;
        small = omega (arith, f.long, length-append g.text line, few, g.filled.long, g.small);
        room = g.room;
        wide = g.wide;
        filled = f;
        is =
            opened h (sym q ∙ c)
            ∙ (λ j. ran_from (most - (i + 1)) l (g.text ++ event_line n e (sym s.answer j)) (sym s.next j)
            (sym en j) next);
        coded = λ q. s.coded (g.coded q);
      }
