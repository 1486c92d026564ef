-- What the small functions of a run and of a session give: the line of an event, a stop, a session that is begun, and
-- the end of the input.
-- Assumes nothing.
use Rattle.std.proofs.Common.{◌≡◌, ℕ, ◌+◌, true, false, cond, eqb, leb, List, [], ◌++◌, length, take, drop, sym, refl, ap, ◌∙◌, arith, take-append-drop, eq-eqb}
use Rattle.base.specs.Refusals.{refusal_number}
use Rattle.base.specs.declared.types.Refusal.{Refusal}
use Rattle.base.proofs.Cases.{cond_same}
use Rattle.octets.specs.Octets.{over}
use Rattle.octets.proofs.Fill.{over-fits}
use Rattle.rules.specs.Step.{allowed, fresh_record}
use Rattle.rules.specs.declared.types.Event.{Event}
use Rattle.cells.specs.Code.{settings_row}
use Rattle.peer.specs.Record.{record_rows}
use Rattle.peer.proofs.FreshLaws.{fresh_in}
use Rattle.eventfile.specs.File.{parse_of}
use Rattle.eventfile.specs.declared.types.Parse.{Parse}
use Rattle.eventfile.specs.declared.types.Parse.TheVariants as parse
use Rattle.lines.specs.Text.{line_of, written}
use Rattle.session.specs.Sessions.{no_settings, session_of, begun, stop_line, stop_phase, laid_at, last_by, last_in}
use Rattle.session.specs.Words.{call_at, stopped_at, Begins}
use Rattle.session.specs.declared.types.Phase.{Phase}
use Rattle.session.specs.declared.types.Phase.TheVariants as phase
use Rattle.session.specs.declared.types.Call.{Call}

-- ---- lines

-- a line whose last two numbers are those
pub laid_as : (at n k : ℕ) {x y x' y' r : ℕ} (l : List ℕ) {m : List ℕ} → x ≡ x' → y ≡ y'
    → (r ≡ at + written (line_of n k x y) (drop at l)) × (m ≡ laid_at at (line_of n k x y) l)
    → (r ≡ at + written (line_of n k x' y') (drop at l)) × (m ≡ laid_at at (line_of n k x' y') l)
laid_as at n k l p q h = (
  h.0 ∙ (λ j. at + written (line_of n k (p j) (q j)) (drop at l)),
  h.1
      ∙ (λ j. laid_at at (line_of n k (p j) (q j)) l),
)

-- ---- a stop

-- what is no record that ends the session
pub record Waits (x : Parse) : Type 0 where
  pub line : (n : ℕ) → stop_line x n ≡ []
  pub stays : stop_phase x ≡ phase.Running

waits_end : {x : Parse} → x ≡ parse.End → Waits x
waits_end {x} e = record { line = λ n. ap (λ (z : Parse). stop_line z n) e; stays = ap stop_phase e }

waits-event : {x : Parse} {v : Event} {next : ℕ} → x ≡ parse.Event v next → Waits x
waits-event {x} {v} {next} e = record { line = λ n. ap (λ (z : Parse). stop_line z n) e; stays = ap stop_phase e }

pub waits-other : (x : Parse) → ((why : Refusal) (k : ℕ) → x ≡ parse.Refused why k → ⊥) → Waits x
waits-other parse.End h = waits_end refl
waits-other (parse.Event v next) h = waits-event refl
waits-other (parse.Refused why k) h = absurd (h why k refl)

pub waits-cut : {x : Parse} {why : Refusal} {k r : ℕ} → x ≡ parse.Refused why k → r ≡ refusal_number why → r ≡ 13
    → Waits x
waits-cut {x} {why} {k} {r} e a b =
    let c : eqb (refusal_number why) 13 ≡ true = eq-eqb (refusal_number why) 13 (sym a ∙ b) in
    record {
      line = λ n. ap (λ (z : Parse). stop_line z n) e ∙ (λ j. cond (c j) [] (line_of n k (refusal_number why) 0));
      stays = ap stop_phase e ∙ (λ j. cond (c j) phase.Running phase.Over);
    }

-- nothing is written
pub none-laid : (l : List ℕ) → (0 ≡ written [] l) × (l ≡ over [] l)
none-laid l = (sym (cond_same (leb 0 (length l)) 0), sym (over-fits [] l (omega arith)))

pub stop-rest : (n : ℕ) (x : Parse) (p : ℕ) (l : List ℕ) (at : ℕ) {r : Call} → Waits x
    → r ≡ call_at n phase.Running p at false
    → (r ≡ stopped_at n x p l at) × (l ≡ laid_at at (stop_line x n) l)
stop-rest n x p l at w q =
    let z = none-laid (drop at l) in
    let a : at ≡ at + written (stop_line x n) (drop at l) =
    omega (arith, z.0) ∙ (λ j. at + written (sym (w.line n) j) (drop at l)) in (
      q ∙ (λ j. call_at n (sym w.stays j) p (a j) false),
      sym (take-append-drop at l) ∙ (λ j. take at l ++ z.1 j) ∙ (λ j. laid_at at (sym (w.line n) j) l),
    )

pub stop-over : (n : ℕ) {x : Parse} {why : Refusal} {k r end : ℕ} (p : ℕ) (l : List ℕ) (at : ℕ) {m : List ℕ} {v : Call}
    → x ≡ parse.Refused why k → r ≡ refusal_number why → eqb r 13 ≡ false
    → (end ≡ at + written (line_of n k r 0) (drop at l)) × (m ≡ laid_at at (line_of n k r 0) l)
    → v ≡ call_at n phase.Over p end false
    → (v ≡ stopped_at n x p l at) × (m ≡ laid_at at (stop_line x n) l)
stop-over n {x} {why} {k} {r} {end} p l at {m} {v} e a b h q =
    let c : eqb (refusal_number why) 13 ≡ false = (λ j. eqb (sym a j) 13) ∙ b in
    let line : line_of n k r 0 ≡ stop_line x n =
    (λ j. line_of n k (a j) 0) ∙ sym (λ j. cond (c j) [] (line_of n k (refusal_number why) 0))
    ∙ ap (λ (z : Parse). stop_line z n) (sym e) in
    let over : phase.Over ≡ stop_phase x = sym (λ j. cond (c j) phase.Running phase.Over) ∙ ap stop_phase (sym e) in
    let w : end ≡ at + written (stop_line x n) (drop at l) = h.0 ∙ (λ j. at + written (line j) (drop at l)) in
    (q ∙ (λ j. call_at n (over j) p (w j) false), h.1 ∙ (λ j. laid_at at (line j) l))

-- ---- a session

pub begin-is : {t : List ℕ} (t₀ : List ℕ) {a : List (List (List ℕ))} (a₀ : List (List (List ℕ)))
    → t ≡ cond (allowed no_settings) (settings_row no_settings) t₀
    → a ≡ cond (allowed no_settings) (record_rows (fresh_record no_settings)) a₀
    → Begins t a (record { number = 1; phase = phase.Settings })
unfolding begun
begin-is t₀ a₀ p q =
    record { says = λ j. session_of phase.Settings (fresh_in no_settings t₀ a₀ refl p q j) 1; row = p; words = q }

-- the last line
pub last-settings : (n : ℕ) (l : List ℕ) {f : Phase} → f ≡ phase.Settings → last_in f n l ≡ line_of 0 0 13 0
last-settings n l e = λ j. last_in (e j) n l

pub last-over : (n : ℕ) (l : List ℕ) {f : Phase} → f ≡ phase.Over → last_in f n l ≡ []
last-over n l e = λ j. last_in (e j) n l

pub last-by : (l : List ℕ) {f : Phase} (n : ℕ) {x y : Parse} → f ≡ phase.Running → x ≡ parse_of l 0 → x ≡ y
    → last_in f n l ≡ last_by y n
last-by l n e a b = (λ j. last_in (e j) n l) ∙ (λ j. last_by ((sym a ∙ b) j) n)

pub last-other : (l : List ℕ) {f : Phase} (n : ℕ) {x : Parse} → f ≡ phase.Running → x ≡ parse_of l 0
    → ((why : Refusal) (k : ℕ) → x ≡ parse.Refused why k → ⊥) → last_in f n l ≡ []
last-other l {f} n {x} e a h = go x a h
  where
    go : (x : Parse) → x ≡ parse_of l 0 → ((why : Refusal) (k : ℕ) → x ≡ parse.Refused why k → ⊥) → last_in f n l ≡ []
    go parse.End a h = last-by l n {y = parse.End} e a refl
    go (parse.Event v next) a h = last-by l n {y = parse.Event v next} e a refl
    go (parse.Refused why k) a h = absurd (h why k refl)

pub last-refused : (l : List ℕ) {f : Phase} (n : ℕ) {x : Parse} {why : Refusal} {k r : ℕ} → f ≡ phase.Running
    → x ≡ parse_of l 0 → x ≡ parse.Refused why k → r ≡ refusal_number why → last_in f n l ≡ line_of n k r 0
last-refused l n {x} {why} {k} {r} e a b q = last-by l n e a b ∙ (λ j. line_of n k (sym q j) 0)

-- written, or nothing
pub finish-as : {last line : List ℕ} {r : ℕ} (o : List ℕ) {m : List ℕ} → last ≡ line → r ≡ written line o
    → m ≡ over line o → (r ≡ written last o) × (m ≡ over last o)
finish-as o e a b = (a ∙ (λ j. written (sym e j) o), b ∙ (λ j. over (sym e j) o))

pub finish-none : {last : List ℕ} (o : List ℕ) → last ≡ [] → (0 ≡ written last o) × (o ≡ over last o)
finish-none o e = finish-as o e (none-laid o).0 (none-laid o).1
