-- A call: what it writes, and then the lines of the rest, are the lines of all; a call that did not stop for want of
-- room leaves no whole record; one that did read at least a record.
-- Assumes nothing.
use Rattle.std.proofs.Common.{◌≡◌, ℕ, zero, suc, ◌+◌, ◌*◌, ◌<◌, ◌≤◌, Bool, true, false, cond, eqb, List, [], ◌++◌, length, drop, sym, refl, ap, ◌∙◌, subst, append_assoc, append-nil, arith, length-append, le-ltb, lt-ltb, eq-eqb, ne_eqb}
use lib.Seq.{drop-append-le}
use Rattle.base.specs.Refusals.{refusal_number}
use Rattle.base.proofs.Cases.{on-flag, on-order, never}
use Rattle.octets.proofs.Read.{read_more}
use Rattle.rules.specs.Step.{step, allowed, fresh_record, trace}
use Rattle.rules.specs.declared.types.Record.{Record}
use Rattle.eventfile.specs.File.{settings_of, events_of, ending_of, from, parse_of}
use Rattle.rules.specs.declared.types.Event.{Event}
use Rattle.eventfile.specs.declared.types.Parse.{Parse}
use Rattle.eventfile.specs.declared.types.Parse.TheVariants as parse
use Rattle.lines.specs.Text.{line_of}
use Rattle.session.specs.Lines.{number_after, lines_from, lines_of}
use Rattle.session.specs.Sessions.{Session, session_of, over_of, Ran, call_end, event_line, stop_line, stop_phase}
use Rattle.session.specs.Sessions.{stopped, ran_by, ran_from, ran_settings, ran_in, ran_of, last_by, last_of}
use Rattle.session.specs.declared.types.Phase.{Phase}
use Rattle.session.specs.declared.types.Phase.TheVariants as phase
use Rattle.eventfile.proofs.ReadLaws.{event-stays, refused-stays, parse-stands, parse-shift, Stands}
use Rattle.session.proofs.WalkLaws.{walk_by, walk_all, walk_is, walk-open, walk-drop}

-- the lines that a session still owes where the rest of the input is l
abbrev pub owed_in : Phase → Session → List ℕ → List ℕ
owed_in phase.Settings s l = lines_of l
owed_in phase.Running s l = walk_all l s.rec s.number 0
owed_in phase.Over s l = []

unfoldable pub owed : Session → List ℕ → List ℕ
owed s l = owed_in s.phase s l

-- what is owed for l and t is what the call on l wrote, and what is owed for the bytes that it left and t; it read no
-- more than l; if not for want of room it stopped where no whole record is left; else it read a byte at least
pub record Told (l t whole : List ℕ) (at : ℕ) (r : Ran) : Type 0 where
  pub same : whole ≡ r.text ++ owed r.run.session (drop r.run.place l ++ t)
  pub within : r.run.place ≤ length l
  pub rests : r.run.full ≡ false → last_of r.run.session (drop r.run.place l)
      ≡ owed r.run.session (drop r.run.place l)
  pub gone : r.run.full ≡ true → at ≤ r.run.place
  pub count : r.run.wrote ≡ length r.text

-- a line that ends the session
over-at : (l t text line : List ℕ) {rest : List ℕ} (rec : Record) (n at low : ℕ) → at ≤ length l → rest ≡ line
    → Told l t (text ++ rest) low (call_end (text ++ line) (session_of phase.Over rec n) at false)
unfolding owed last_of
over-at l t text line {rest} rec n at low h e =
    record {
      same = ap (λ (z : List ℕ). text ++ z) e ∙ sym (append-nil (text ++ line));
      within = h;
      rests = λ q. refl;
      gone = λ q. never q refl;
      count = refl;
    }

-- ---- the records within the bytes

-- a run that stops at a place, the record there still to be read
stops : (l t text : List ℕ) (rec : Record) (n at : ℕ) → at ≤ length l
    → text ++ walk_all (l ++ t) rec n at ≡ text ++ owed (session_of phase.Running rec n) (drop at l ++ t)
unfolding owed
stops l t text rec n at h =
    let a : at ≤ length (l ++ t) = omega (arith, length-append l t) in
    ap (λ (z : List ℕ). text ++ z)
    (walk-drop at (l ++ t) a rec n ∙ (λ j. walk_all (drop-append-le at l t h j) rec n 0))

-- what stands at a place is an event
abbrev pub is_event : Parse → Bool
is_event parse.End = false
is_event (parse.Event e next) = true
is_event (parse.Refused why k) = false

pub no_event : (x : Parse) → ((e : Event) (next : ℕ) → x ≡ parse.Event e next → ⊥) → is_event x ≡ false
no_event parse.End h = refl
no_event (parse.Event e next) h = absurd (h e next refl)
no_event (parse.Refused why k) h = refl

-- where it is none, what is owed is the last line
last-by : (x : Parse) (rec : Record) (n : ℕ) (more : Record → ℕ → ℕ → List ℕ) → is_event x ≡ false → last_by x n
    ≡ walk_by x more rec n
last-by parse.End rec n more h = refl
last-by (parse.Refused why k) rec n more h = refl
last-by (parse.Event e next) rec n more h = never refl h

event-from : (p : ℕ) (x : Parse) → is_event (from p x) ≡ is_event x
event-from p parse.End = refl
event-from p (parse.Event e next) = refl
event-from p (parse.Refused why k) = refl

last-is : (l : List ℕ) (rec : Record) (n at : ℕ) → is_event (parse_of l at) ≡ false
    → last_of (session_of phase.Running rec n) (drop at l) ≡ owed (session_of phase.Running rec n) (drop at l)
unfolding owed last_of
last-is l rec n at h =
    let z : at + 0 ≡ at = omega arith in
    let e : is_event (parse_of (drop at l) 0) ≡ false =
    sym (event-from at (parse_of (drop at l) 0)) ∙ sym (ap is_event (parse-shift l at 0))
    ∙ (λ j. is_event (parse_of l (z j))) ∙ h in
    last-by (parse_of (drop at l) 0) rec n (walk_all (drop at l)) e ∙ sym (walk-open (drop at l) rec n 0)

still : (l t text : List ℕ) (rec : Record) (n at low : ℕ) → at ≤ length l → is_event (parse_of l at) ≡ false
    → Told l t (text ++ walk_all (l ++ t) rec n at) low (call_end text (session_of phase.Running rec n) at false)
still l t text rec n at low h e =
    record {
      same = stops l t text rec n at h;
      within = h;
      rests = λ q. last-is l rec n at e;
      gone = λ q. never q
          refl;
      count = refl;
    }

-- a lower bound below
told-low : {l t whole : List ℕ} {a b : ℕ} {r : Ran} → b ≤ a → Told l t whole a r → Told l t whole b r
told-low {l} {t} {whole} {a} {b} {r} h d =
    record {
      same = d.same;
      within = d.within;
      rests = d.rests;
      gone = λ q. omega
          (arith, d.gone q);
      count = d.count;
    }

-- a run that stops before what is no event and not over
rest_at : (x : Parse) (f : ℕ) (l t text : List ℕ) (rec : Record) (n at : ℕ) → at ≤ length l → parse_of l at ≡ x
    → is_event x ≡ false → stop_line x n ≡ [] → stop_phase x ≡ phase.Running
    → Told l t (text ++ walk_all (l ++ t) rec n at) (at + 3 * suc f) (stopped x text rec n at)
rest_at x f l t text rec n at h e v a b =
    let g : text ≡ text ++ stop_line x n = sym (ap (λ (z : List ℕ). text ++ z) a ∙ append-nil text) in
    subst (λ (r : Ran). Told l t (text ++ walk_all (l ++ t) rec n at) (at + 3 * suc f) r)
    (λ j. call_end (g j) (session_of (sym b j) rec n) at false)
    (still l t text rec n at (at + 3 * suc f) h (ap is_event e ∙ v))

-- one record and, by the law for f, those after it
turn : (x : Parse) (f : ℕ) (l t text : List ℕ) (rec : Record) (n at : ℕ) → at ≤ length l → parse_of l at ≡ x
    → ((c : List ℕ) (r : Record) (m p : ℕ) → p ≤ length l → Told l t (c ++ walk_all (l ++ t) r m p) (p + 3 * f)
    (ran_from f l c r m p))
    → Told l t (text ++ walk_all (l ++ t) rec n at) (at + 3 * suc f) (ran_by x (ran_from f l) text rec n at)
turn parse.End f l t text rec n at h e ih = rest_at parse.End f l t text rec n at h e refl refl refl
turn (parse.Refused why k) f l t text rec n at h e ih =
    let line = line_of n k (refusal_number why) 0 in
    on-flag (eqb (refusal_number why) 13)
    (λ c.
    rest_at (parse.Refused why k) f l t text rec n at h e refl (λ j. cond (c j) [] line)
    (λ j. cond (c j) phase.Running phase.Over))
    (λ c.
    let p : parse_of (l ++ t) at ≡ parse.Refused why k = refused-stays l t at (λ z. never (eq-eqb
    (refusal_number why) 13 z) c) e in
    subst (λ (b : Bool). Told l t (text ++ walk_all (l ++ t) rec n at) (at + 3 * suc f)
    (call_end (text ++ cond b [] line) (session_of (cond b phase.Running phase.Over) rec n) at false)) (sym c)
    (over-at l t text line rec n at (at + 3 * suc f) h
    (walk-open (l ++ t) rec n at ∙ (λ j. walk_by (p j) (walk_all (l ++ t)) rec n))))
turn (parse.Event v next) f l t text rec n at h e ih =
    let b = subst (Stands l at) e (parse-stands l at) in
    let p : parse_of (l ++ t) at ≡ parse.Event v next = event-stays l t at e in
    let line = event_line n v (step rec v).reply in
    let rest = walk_all (l ++ t) (step rec v).next (number_after n) next in
    let w : (text ++ line) ++ rest ≡ text ++ walk_all (l ++ t) rec n at =
    append_assoc text line rest
    ∙ ap (λ (z : List ℕ). text ++ z) (sym (walk-open (l ++ t) rec n at
    ∙ (λ j. walk_by (p j) (walk_all (l ++ t)) rec n))) in
    told-low (omega (arith, b.0))
    (subst (λ (z : List ℕ). Told l t z (next + 3 * f) (ran_from f l (text ++ line) (step rec v).next
    (number_after n) next)) w
    (ih (text ++ line) (step rec v).next (number_after n) next b.1))

told-run : (f : ℕ) (l t text : List ℕ) (rec : Record) (n at : ℕ) → at ≤ length l
    → Told l t (text ++ walk_all (l ++ t) rec n at) (at + 3 * f) (ran_from f l text rec n at)
unfolding ran_from
told-run zero l t text rec n at h =
    record {
      same = stops l t text rec n at h;
      within = h;
      rests = λ q. never refl q;
      gone = λ q. omega arith;
      count
          = refl;
    }
told-run (suc f) l t text rec n at h = turn (parse_of l at) f l t text rec n at h refl (told-run f l t)

-- ---- the settings

settings-more : (l t : List ℕ) → 32 ≤ length l → settings_of (l ++ t) ≡ settings_of l
settings-more l t h =
    let a = read_more 0 8 l t (omega arith) in
    let b = read_more 8 8 l t (omega arith) in
    let c = read_more 16 8 l t (omega arith) in
    let d = read_more 24 8 l t (omega arith) in
    λ j. record { cap = a j; gap = b j; window = c j; horizon = d j }

pub lines_long : (l t : List ℕ) → 32 ≤ length l
    → lines_of (l ++ t) ≡ cond (allowed (settings_of l)) (walk_all (l ++ t) (fresh_record (settings_of l)) 1 32)
    (line_of 0 0 6 0)
unfolding lines_of events_of ending_of
lines_long l t h =
    let w = l ++ t in
    let a : 32 ≤ length w = omega (arith, length-append l t) in
    let s = settings-more l t h in
    (λ j. cond (le-ltb (length w) 32 a j) (line_of 0 0 13 0)
    (cond (allowed (s j)) (lines_from 1 (trace (fresh_record (s j)) (events_of w)) (ending_of w)) (line_of 0 0 6 0)))
    ∙ (λ j. cond (allowed (settings_of l)) (walk_is (length w) w (fresh_record (settings_of l)) 1 32 j) (line_of 0 0 6 0))

pub lines-short : (l : List ℕ) → length l < 32 → line_of 0 0 13 0 ≡ lines_of l
unfolding lines_of
lines-short l h =
    sym (λ j. cond (lt-ltb (length l) 32 h j) (line_of 0 0 13 0)
    (cond (allowed (settings_of l)) (lines_from 1 (trace (fresh_record (settings_of l)) (events_of l)) (ending_of l))
    (line_of 0 0 6 0)))

short : (k : ℕ) (rec : Record) (n : ℕ) (l t : List ℕ) → length l < 32
    → Told l t (lines_of (l ++ t)) (3 * k) (call_end [] (session_of phase.Settings rec n) 0 false)
unfolding owed last_of
short k rec n l t h =
    record { same = refl; within = omega arith; rests = λ q. lines-short l h; gone = λ q. never q refl; count = refl }

told-settings : (k : ℕ) (rec : Record) (n : ℕ) (l t : List ℕ)
    → Told l t (lines_of (l ++ t)) (3 * k) (ran_settings k (session_of phase.Settings rec n) l)
told-settings k rec n l t =
    let s = session_of phase.Settings rec n in
    let u = settings_of l in
    let go = ran_from k l [] (fresh_record u) 1 32 in
    let bad = call_end (line_of 0 0 6 0) (over_of s) 0 false in
    let G : List ℕ → Bool → Bool → Type 0 =
    λ (w : List ℕ) (a b : Bool). Told l t w (3 * k) (cond a (call_end [] s 0 false) (cond b go bad)) in
    on-order (length l) 32
    (λ h. subst (λ (a : Bool). G (lines_of (l ++ t)) a (allowed u)) (sym (lt-ltb (length l) 32 h)) (short k rec n l t h))
    (λ h.
    subst (λ (a : Bool). G (lines_of (l ++ t)) a (allowed u)) (sym (le-ltb (length l) 32 h))
    (subst (λ (w : List ℕ). G w false (allowed u)) (sym (lines_long l t h))
    (on-flag (allowed u)
    (λ c.
    subst (λ (b : Bool). G (cond b (walk_all (l ++ t) (fresh_record u) 1 32) (line_of 0 0 6 0)) false b) (sym c)
    (told-low (omega arith) (told-run k l t [] (fresh_record u) 1 32 h)))
    (λ c.
    subst (λ (b : Bool). G (cond b (walk_all (l ++ t) (fresh_record u) 1 32) (line_of 0 0 6 0)) false b) (sym c)
    (over-at l t [] (line_of 0 0 6 0) rec n 0 (3 * k) (omega arith) refl)))))

-- ---- any session

over-still : (k : ℕ) (rec : Record) (n : ℕ) (l t : List ℕ) → Told l t [] (3 * k) (call_end []
    (session_of phase.Over rec n) 0 false)
unfolding owed last_of
over-still k rec n l t = record {
  same = refl;
  within = omega arith;
  rests = λ q. refl;
  gone = λ q. never q refl;
  count = refl;
}

-- a call with room for a line
pub told : (k : ℕ) (s : Session) (l t : List ℕ) → 1 ≤ k → Told l t (owed s (l ++ t)) (3 * k) (ran_of k s l)
unfolding owed ran_of
told k s l t h =
    subst (λ (b : Bool). Told l t (owed_in s.phase s (l ++ t)) (3 * k) (cond b (call_end [] s 0 true) (ran_in
    s.phase k s l)))
    (sym (ne_eqb k 0 (λ e. omega (arith, e)))) (go s.phase s.rec s.number)
  where
    go : (p : Phase) (rec : Record) (n : ℕ)
        → Told l t (owed_in p (session_of p rec n) (l ++ t)) (3 * k) (ran_in p k (session_of p rec n) l)
    go phase.Settings rec n = told-settings k rec n l t
    go phase.Running rec n = told-low (omega arith) (told-run k l t [] rec n 0 (omega arith))
    go phase.Over rec n = over-still k rec n l t
