-- What a call of a session gives, by its phase.
-- Assumes nothing.
use Rattle.base.specs.declared.types.Refusal.{Refusal}
use Rattle.std.proofs.Common.{◌≡◌, ℕ, ◌/◌, ◌<◌, ◌≤◌, Bool, true, false, cond, eqb, ltb, List, [], length, sym, refl, ap, ◌∙◌, subst, arith, le-ltb, lt-ltb, eq-eqb, ne_eqb, Result, Ok, Err}
use Rattle.base.specs.declared.types.Refusal.TheVariants as refusal
use Rattle.octets.specs.Octets.{over}
use Rattle.rules.specs.Event.{number_of}
use Rattle.rules.specs.Step.{allowed, fresh_record, record_of}
use Rattle.rules.specs.declared.types.Settings.{Settings}
use Rattle.rules.specs.declared.types.Reply.{Reply}
use Rattle.rules.specs.declared.types.Reply.TheVariants as reply
use Rattle.eventfile.specs.File.{settings_of}
use Rattle.cells.specs.Code.{settings_row}
use Rattle.cells.proofs.RowLaws.{settings-says}
use Rattle.peer.specs.Record.{record_in, record_rows, AreCoded}
use Rattle.peer.proofs.FreshLaws.{fresh-coded, fresh_in}
use Rattle.lines.specs.Text.{line_of, written}
use Rattle.lines.proofs.TextLaws.{line-few, all-written}
use Rattle.session.specs.Sessions.{Session, session_of, over_of, Ran, call_end, ran_from, ran_in, ran_of}
use Rattle.session.specs.Words.{session_in, run_in, IsRow, Runs, call_at, stayed_at}
use Rattle.session.specs.declared.types.Phase.{Phase}
use Rattle.session.specs.declared.types.Phase.TheVariants as phase
use Rattle.session.specs.declared.types.Mark.{Mark}
use Rattle.session.specs.declared.types.Call.{Call}
use Rattle.session.proofs.StopLaws.{none-laid}

-- a call does what x has, where that is what the call gives
pub step-as : (k : ℕ) (s : Session) (l : List ℕ) {t u : List ℕ} {a b : List (List (List ℕ))} {c : Call}
    {o m : List ℕ} {x : Ran} → ran_of k s l ≡ x → Runs t u a b c o m x → Runs t u a b c o m (ran_of k s l)
step-as k s l {t} {u} {a} {b} {c} {o} {m} e d = subst (Runs t u a b c o m) (sym e) d

-- a call that writes nothing
pub step-stay : (k : ℕ) (t : List ℕ) (a : List (List (List ℕ))) (m : Mark) (l o : List ℕ) (full : Bool) {r : Call}
    → ran_of k (session_in t a m) l ≡ call_end [] (session_in t a m) 0 full → r ≡ stayed_at m full
    → Runs t t a a r o o (ran_of k (session_in t a m) l)
step-stay k t a m l o full e q =
    step-as k (session_in t a m) l e
    (record { leaves = ap (run_in t a) q; writes = (none-laid o).1; row = λ h. h; coded = λ h. h })

-- no room for a line
pub ran-small : (o : List ℕ) (s : Session) (l : List ℕ) → length o < 84 → ran_of (length o / 84) s l ≡ call_end [] s 0 true
unfolding ran_of
ran-small o s l h =
    let z : length o / 84 ≡ 0 = omega arith in
    λ j. cond (eq-eqb (length o / 84) 0 z j) (call_end [] s 0 true) (ran_in s.phase (length o / 84) s l)

-- room for one: by the phase
pub ran-in : (o : List ℕ) (s : Session) (l : List ℕ) {p : Phase} → 84 ≤ length o → s.phase ≡ p
    → ran_of (length o / 84) s l ≡ ran_in p (length o / 84) s l
unfolding ran_of
ran-in o s l h e =
    (λ j. cond (ne_eqb (length o / 84) 0 (λ z. omega (arith, z)) j) (call_end [] s 0 true) (ran_in s.phase
    (length o / 84) s l))
    ∙ (λ j. ran_in (e j) (length o / 84) s l)

module _ (o : List ℕ) (s : Session) (l : List ℕ) (h : 84 ≤ length o) (e : s.phase ≡ phase.Settings) where
  settings-by : {a b : Bool} → ltb (length l) 32 ≡ a → allowed (settings_of l) ≡ b
      → ran_of (length o / 84) s l
      ≡ cond a (call_end [] s 0 false) (cond b (ran_from (length o / 84) l [] (fresh_record (settings_of l)) 1 32)
      (call_end (line_of 0 0 6 0) (over_of s) 0 false))
  settings-by x y =
      ran-in o s l h e
      ∙ (λ j. cond (x j) (call_end [] s 0 false)
      (cond (y j) (ran_from (length o / 84) l [] (fresh_record (settings_of l)) 1 32) (call_end (line_of 0 0 6 0)
      (over_of s) 0 false)))

  pub ran-short : length l < 32 → ran_of (length o / 84) s l ≡ call_end [] s 0 false
  ran-short k = settings-by (lt-ltb (length l) 32 k) refl

  pub ran-fresh : 32 ≤ length l → allowed (settings_of l) ≡ true
      → ran_of (length o / 84) s l ≡ ran_from (length o / 84) l [] (fresh_record (settings_of l)) 1 32
  ran-fresh k y = settings-by (le-ltb (length l) 32 k) y

  pub ran-large : 32 ≤ length l → allowed (settings_of l) ≡ false
      → ran_of (length o / 84) s l ≡ call_end (line_of 0 0 6 0) (over_of s) 0 false
  ran-large k y = settings-by (le-ltb (length l) 32 k) y

-- words that are the encoder's for a new record with a file's settings
pub record Fresh (l t : List ℕ) (a : List (List (List ℕ))) : Type 0 where
  pub says : record_in t a ≡ fresh_record (settings_of l)
  pub row : IsRow t
  pub coded : AreCoded a

-- the records after settings that are allowed, from any words t₀ and a₀ on
pub step-fresh : (t₀ : List ℕ) (a₀ : List (List (List ℕ))) (o : List ℕ) (s : Session) (l : List ℕ) {t : List ℕ}
    {a b : List (List (List ℕ))} {c : Call} {m : List ℕ} → 84 ≤ length o → s.phase ≡ phase.Settings → 32 ≤ length l
    → allowed (settings_of l) ≡ true → Fresh l t a
    → Runs t t a b c o m (ran_from (length o / 84) l [] (record_in t a) 1 32)
    → Runs t₀ t a₀ b c o m (ran_of (length o / 84) s l)
step-fresh t₀ a₀ o s l h e k y f d =
    step-as (length o / 84) s l
    (ran-fresh o s l h e k y ∙ (λ j. ran_from (length o / 84) l [] (sym f.says j) 1 32))
    (record { leaves = d.leaves; writes = d.writes; row = λ q. f.row; coded = λ q. d.coded f.coded })

-- the line of settings that are too large, with the words as they were
pub step-large : (t : List ℕ) (a : List (List (List ℕ))) (m : Mark) (l o : List ℕ) {t' : List ℕ}
    {a' : List (List (List ℕ))} {w : ℕ} {y : List ℕ} → 84 ≤ length o
    → ran_of (length o / 84) (session_in t a m) l ≡ call_end (line_of 0 0 6 0) (over_of (session_in t a m)) 0 false
    → t' ≡ t → a' ≡ a → w ≡ written (line_of 0 0 6 0) o → y ≡ over (line_of 0 0 6 0) o
    → Runs t t' a a' (call_at m.number phase.Over 0 w false) o y (ran_of (length o / 84) (session_in t a m) l)
step-large t a m l o {t'} {a'} {w} {y} h e p q x z =
    let n : w ≡ length (line_of 0 0 6 0) = x ∙ all-written (line_of 0 0 6 0) o (omega (arith, line-few 0 0 6 0)) in
    step-as (length o / 84) (session_in t a m) l e
    (record {
      leaves = λ j. record {
        session = session_of phase.Over (record_in (p j) (q j)) m.number;
        place = 0;
        wrote = n j;
        full = false;
      };
      writes = z;
      row = subst IsRow (sym p);
      coded = subst AreCoded (sym q);
    })

-- the settings that are allowed, by the answer of a record that is made from them
number_by : (b : Bool) → eqb (number_of (cond b (Ok reply.Nothing) (Err refusal.Duration))) 0 ≡ b
number_by true = refl
number_by false = refl

pub allowed-by : (l : List ℕ) {s : Settings} {x : Result Reply Refusal} {n : ℕ} → s ≡ settings_of l → x ≡ (record_of s).reply
    → n ≡ number_of x → eqb n 0 ≡ allowed (settings_of l)
unfolding record_of
allowed-by l {s} {x} {n} p d e =
    (λ j. eqb ((e ∙ (λ i. number_of (d i))) j) 0) ∙ number_by (allowed s) ∙ ap allowed p

-- the words are then the encoder's for a new record, else they are as they were
module _ (l : List ℕ) {s : Settings} {t : List ℕ} (t₀ : List ℕ) {a : List (List (List ℕ))} (a₀ : List (List (List ℕ)))
    (p : s ≡ settings_of l) where
  pub fresh-by : allowed (settings_of l) ≡ true → t ≡ cond (allowed s) (settings_row s) t₀
      → a ≡ cond (allowed s) (record_rows (fresh_record s)) a₀ → Fresh l t a
  fresh-by y d f =
      let z : allowed s ≡ true = ap allowed p ∙ y in
      let r : t ≡ settings_row s = d ∙ (λ j. cond (z j) (settings_row s) t₀) in
      let w : a ≡ record_rows (fresh_record s) = f ∙ (λ j. cond (z j) (record_rows (fresh_record s)) a₀) in
      record {
        says = fresh_in s t₀ a₀ z d f ∙ ap fresh_record p;
        row = subst IsRow (sym r) (ap settings_row (settings-says s));
        coded = subst AreCoded (sym w) (fresh-coded []);
      }

  pub kept_by : allowed (settings_of l) ≡ false → t ≡ cond (allowed s) (settings_row s) t₀
      → a ≡ cond (allowed s) (record_rows (fresh_record s)) a₀ → (t ≡ t₀) × (a ≡ a₀)
  kept_by y d f =
      let z : allowed s ≡ false = ap allowed p ∙ y in
      (d ∙ (λ j. cond (z j) (settings_row s) t₀), f ∙ (λ j. cond (z j) (record_rows (fresh_record s)) a₀))
