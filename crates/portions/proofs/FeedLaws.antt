-- The bytes held as a part of the lent ones, and how much a call reads and writes.
-- Assumes nothing.
use Prim.Native.Nat.{ℕ, zero, suc, ◌+◌, ◌-◌, ◌*◌, ◌/◌, ◌≤◌, min}
use mathlib.Core.Path.{◌≡◌, sym, ap, ◌∙◌, subst}
use mathlib.Core.Bool.{Bool, true, false, cond}
use mathlib.Core.List.{List, [], ◌++◌}
use native.Mathlib.Omega.{arith}
use borrow.Author.Tests.{le-leb, lt-leb}
use lib.Dec.{eqb, ltb}
use lib.ListN.{length, take, drop, length-append, length-take, length-drop}
use lib.Seq.{take_all}
use Rattle.base.specs.Refusals.{refusal_number}
use Rattle.base.proofs.Cases.{on-order, cond_cases}
use Rattle.octets.specs.Octets.{over}
use Rattle.octets.proofs.Fill.{over-fits, over-not}
use Rattle.rules.specs.Step.{step, allowed, fresh_record}
use Rattle.rules.specs.declared.types.Record.{Record}
use Rattle.eventfile.specs.File.{settings_of, parse_of}
use Rattle.eventfile.specs.declared.types.Parse.{Parse}
use Rattle.eventfile.specs.declared.types.Parse.TheVariants as parse
use Rattle.lines.specs.Text.{line_of, written}
use Rattle.lines.proofs.TextLaws.{line-few}
use Rattle.session.specs.Lines.{number_after}
use Rattle.session.specs.Sessions.{Session, Ran, over_of, call_end, event_line}
use Rattle.session.specs.Sessions.{ran_by, ran_from, ran_in, ran_of, last_in, part_of}
use Rattle.session.specs.Words.{Runs}
use Rattle.session.specs.declared.types.Call.{Call}
use Rattle.session.specs.declared.types.Phase.{Phase}
use Rattle.session.specs.declared.types.Phase.TheVariants as phase
use Rattle.session.proofs.SessionLaws.{told}

-- ---- a part of the lent bytes

-- nothing stands behind the end
drop-none : (p : ℕ) (l : List ℕ) → length l ≤ p → drop p l ≡ []
drop-none p l h = sym (take_all 0 (drop p l) (omega (arith, length-drop p l, h)))

-- the part up to a place behind the end is the one up to the end
part_end_lem : (p n : ℕ) (l : List ℕ) → part_of p (min n (length l)) l ≡ part_of p n l
part_end_lem p n l =
    on-order (length l) n
    (λ h.
    let d : length (drop p l) ≡ length l - p = length-drop p l in
    take_all (min n (length l) - p) (drop p l) (omega (arith, d, h))
    ∙ sym (take_all (n - p) (drop p l) (omega (arith, d, h))))
    (λ h. let e : min n (length l) - p ≡ n - p = omega (arith, h) in λ j. take (e j) (drop p l))

-- the part from a place behind its end on is empty
part-start : (p n : ℕ) (l : List ℕ) → part_of (min p n) n l ≡ part_of p n l
part-start p n l =
    on-order n p
    (λ h.
    let a : n - min p n ≡ 0 = omega (arith, h) in
    let b : n - p ≡ 0 = omega (arith, h) in
    (λ j. take (a j) (drop (min p n) l)) ∙ sym (λ j. take (b j) (drop p l)))
    (λ h. let e : min p n ≡ p = omega (arith, h) in λ j. part_of (e j) n l)

-- places that are brought within the lent bytes give the same part
pub part-is : (p n : ℕ) (l : List ℕ) {from to : ℕ} → to ≡ min n (length l) → from ≡ min p to → part_of from to l ≡ part_of p n l
part-is p n l {from} {to} h k = (λ j. part_of (k j) to l) ∙ part-start p to l ∙ (λ j. part_of p (h j) l) ∙ part_end_lem p n l

pub part-few : (p n : ℕ) (l : List ℕ) → (length (part_of p n l) ≤ n - p) × (length (part_of p n l) ≤ length l)
part-few p n l =
    let d : length (drop p l) ≡ length l - p = length-drop p l in
    let t : length (part_of p n l) ≡ min (n - p) (length (drop p l)) = length-take (n - p) (drop p l) in
    (omega (arith, t, d), omega (arith, t, d))

-- ---- how much a call writes

few-by : (x : Parse) (f : ℕ) (l text : List ℕ) (rec : Record) (n at : ℕ)
    → ((c : List ℕ) (r : Record) (m p : ℕ) → length (ran_from f l c r m p).text ≤ length c + 84 * f)
    → length (ran_by x (ran_from f l) text rec n at).text ≤ length text + 84 * suc f
few-by parse.End f l text rec n at ih = omega (arith, length-append text [])
few-by (parse.Refused why k) f l text rec n at ih =
    let line = line_of n k (refusal_number why) 0 in
    cond_cases (λ (z : List ℕ). length (text ++ z) ≤ length text + 84 * suc f) (eqb (refusal_number why) 13) [] line
    (λ e. omega (arith, length-append text []))
    (λ e. omega (arith, length-append text line, line-few n k (refusal_number why) 0))
few-by (parse.Event v next) f l text rec n at ih =
    let line = event_line n v (step rec v).reply in
    let few : length line ≤ 84 = line-few _ _ _ _ in
    omega (arith, length-append text line, few, ih (text ++ line) (step rec v).next (number_after n) next)

-- a line for each record
from-few : (f : ℕ) (l text : List ℕ) (rec : Record) (n at : ℕ) → length (ran_from f l text rec n at).text ≤ length text + 84 * f
unfolding ran_from
from-few zero l text rec n at = omega arith
from-few (suc f) l text rec n at = few-by (parse_of l at) f l text rec n at (from-few f l)

in-few : (p : Phase) (k : ℕ) (s : Session) (l : List ℕ) → 1 ≤ k → length (ran_in p k s l).text ≤ 84 * k
in-few phase.Settings k s l h =
    let few : Ran → Type 0 = λ (r : Ran). length r.text ≤ 84 * k in
    let go = ran_from k l [] (fresh_record (settings_of l)) 1 32 in
    let bad = call_end (line_of 0 0 6 0) (over_of s) 0 false in
    cond_cases few (ltb (length l) 32) (call_end [] s 0 false) (cond (allowed (settings_of l)) go bad)
    (λ e. omega arith)
    (λ e.
    cond_cases few (allowed (settings_of l)) go bad
    (λ c. omega (arith, from-few k l [] (fresh_record (settings_of l)) 1 32))
    (λ c. omega (arith, h, line-few 0 0 6 0)))
in-few phase.Running k s l h = omega (arith, from-few k l [] s.rec s.number 0)
in-few phase.Over k s l h = omega arith

-- what a call reads lies in the bytes, and what it writes in the room for its lines
abbrev Fits : Session → List ℕ → ℕ → Type 0
Fits s l k = ((ran_of k s l).run.place ≤ length l) × ((ran_of k s l).run.wrote ≤ 84 * k)

none-fits : (s : Session) (l : List ℕ) → Fits s l 0
unfolding ran_of
none-fits s l = (omega arith, omega arith)

some-few : (k : ℕ) (s : Session) (l : List ℕ) → 1 ≤ k → length (ran_of k s l).text ≤ 84 * k
unfolding ran_of
some-few k s l h =
    cond_cases (λ (r : Ran). length r.text ≤ 84 * k) (eqb k 0) (call_end [] s 0 true) (ran_in s.phase k s l)
    (λ e. omega arith) (λ e. in-few s.phase k s l h)

ran-fits : (k : ℕ) (s : Session) (l : List ℕ) → Fits s l k
ran-fits k s l =
    on-order k 1
    (λ h. let e : k ≡ 0 = omega (arith, h) in subst (Fits s l) (sym e) (none-fits s l))
    (λ h. let t = told k s l [] h in (t.within, omega (arith, t.count, some-few k s l h)))

-- ---- the calls' answers

-- bytes over the front of lent ones leave their number
over-long : (b l : List ℕ) → length (over b l) ≡ length l
over-long b l =
    on-order (length l) (length b)
    (λ h. ap (λ (z : List ℕ). length z) (over-not b l h))
    (λ h.
    ap (λ (z : List ℕ). length z) (over-fits b l h) ∙ length-append b (drop (length b) l)
    ∙ omega (arith, length-drop (length b) l, h))

module _ (s : Session) (p n : ℕ) (l : List ℕ) {from to : ℕ} {t u : List ℕ} {a b : List (List (List ℕ))} {c : Call}
    {o m : List ℕ} (h : to ≡ min n (length l)) (k : from ≡ min p to)
    (d : Runs t u a b c o m (ran_of (length o / 84) s (part_of from to l))) where
  pub call-is : Runs t u a b c o m (ran_of (length o / 84) s (part_of p n l))
  call-is =
      subst (λ (z : List ℕ). Runs t u a b c o m (ran_of (length o / 84) s z)) (part-is p n l h k) d

  pub call_fits : (c.wrote ≤ length m) × (c.place ≤ n - p)
  call_fits =
      let x = ran_of (length o / 84) s (part_of p n l) in
      let f = ran-fits (length o / 84) s (part_of p n l) in
      let w : c.wrote ≡ x.run.wrote = λ j. (call-is.leaves j).wrote in
      let q : c.place ≡ x.run.place = λ j. (call-is.leaves j).place in
      let g : length m ≡ length o = ap (λ (z : List ℕ). length z) call-is.writes ∙ over-long x.text o in
      (omega (arith, w, g, f.1), omega (arith, q, f.0, (part-few p n l).0))

pub finish-is : (f : Phase) (i p n : ℕ) (l o : List ℕ) {from to r : ℕ} {m : List ℕ} → to ≡ min n (length l)
    → from ≡ min p to
    → (r ≡ written (last_in f i (part_of from to l)) o) × (m ≡ over (last_in f i (part_of from to l)) o)
    → (r ≡ written (last_in f i (part_of p n l)) o) × (m ≡ over (last_in f i (part_of p n l)) o)
finish-is f i p n l o h k d =
    let e = part-is p n l h k in
    (d.0 ∙ (λ j. written (last_in f i (e j)) o), d.1 ∙ (λ j. over (last_in f i (e j)) o))

written-few : (b l : List ℕ) → written b l ≤ length l
written-few b l =
    on-order (length l) (length b)
    (λ h. omega (arith, ap (λ (z : Bool). cond z (length b) 0) (lt-leb (length b) (length l) h)))
    (λ h. omega (arith, h, ap (λ (z : Bool). cond z (length b) 0) (le-leb (length b) (length l) h)))

-- what is written over the front stands in the bytes
pub over-fits-in : (b l : List ℕ) {r : ℕ} {m : List ℕ} → r ≡ written b l → m ≡ over b l → r ≤ length m
over-fits-in b l h k = omega (arith, h, written-few b l, ap (λ (z : List ℕ). length z) k, over-long b l)

pub shift_fits : (p n : ℕ) (l : List ℕ) {r : ℕ} {m : List ℕ} → r ≡ length (part_of p n l) → m ≡ over (part_of p n l) l → r ≤ length m
shift_fits p n l h k = omega (arith, h, (part-few p n l).1, ap (λ (z : List ℕ). length z) k, over-long (part_of p n l) l)
