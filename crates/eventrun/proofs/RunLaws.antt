-- The whole run, by what the pass that writes nothing has told.
-- Assumes nothing.
use Rattle.std.specs.Prelude.{Result, Ok, Err}
use Prim.Native.Nat.{ℕ, suc, ◌+◌, ◌-◌, ◌*◌, ◌/◌, ◌≤◌, ◌<◌}
use mathlib.Core.Bool.{Bool, true, false, not, ◌&&◌, cond}
use mathlib.Core.Path.{◌≡◌, refl, sym, ap, subst, ◌∙◌}
use mathlib.Core.List.{List, [], ◌∷◌, ◌++◌, map}
use native.Mathlib.Omega.{arith}
use borrow.Author.Tests.{le-leb, lt-leb, le-ltb, lt-ltb, leb-true}
use borrow.Rule.Slice.PartMut.{mid_of, put_mid}
use lib.Dec.{leb, ltb}
use lib.ListN.{length, drop, length-append}
use lib.Seq.{take_all}
use Rattle.base.proofs.Cases.{never, on-flag, on-order}
use Rattle.base.specs.declared.types.Refusal.{Refusal}
use Rattle.base.specs.declared.types.Refusal.TheVariants as refusal
use Rattle.octets.specs.Octets.{flat, over}
use Rattle.octets.proofs.Fill.{Filled, fill, filled-over, flat-length, over-fits}
use Rattle.rules.specs.Event.{number_of}
use Rattle.rules.specs.Step.{Entry, allowed, step, fresh_record, record_of, run, trace}
use Rattle.rules.specs.declared.types.Settings.{Settings}
use Rattle.rules.specs.declared.types.Reply.{Reply}
use Rattle.rules.specs.declared.types.Reply.TheVariants as reply
use Rattle.rules.specs.declared.types.Event.{Event}
use Rattle.rules.specs.declared.types.Record.{Record}
use Rattle.standing.specs.Standing.{fit}
use Rattle.eventfile.specs.File.{settings_of, events_of, ending_of}
use Rattle.cells.specs.Code.{settings_row}
use Rattle.rows.specs.View.{slot_in}
use Rattle.peer.specs.Record.{record_in, record_rows, AreCoded}
use Rattle.peer.proofs.FreshLaws.{made_row, made-coded, fresh_in}
use Rattle.eventrun.specs.Runs.{entry_bytes, standings_of, output_of, end_verdict, ended_by, file_written, out_by, out_of}
use Rattle.eventrun.specs.Runs.{Leaves, pass_of, not_run, plan_of, is_made, planned_row, planned_rows, Plans}
use Rattle.eventrun.specs.declared.types.Scan.{Scan}
use Rattle.eventrun.proofs.AnswerLaws.{words-two, fitting, answers_in}

-- ---- the plan

-- by the tests
plan-by : (file : List ℕ) {a b : Bool} → ltb (length file) 32 ≡ a → allowed (settings_of file) ≡ b
    → plan_of file ≡ cond a (not_run refusal.Cut) (cond b (pass_of file) (not_run refusal.Duration))
unfolding plan_of
plan-by file p q = λ i. cond (p i) (not_run refusal.Cut) (cond (q i) (pass_of file) (not_run refusal.Duration))

-- and the words after it
made_by : (file : List ℕ) {c d : Bool} → ltb (length file) 32 ≡ c → allowed (settings_of file) ≡ d
    → is_made file ≡ (not c && d)
made_by file p q = λ i. not (p i) && q i

-- where no record is made, the words stay
unmade : (file t : List ℕ) (a : List (List (List ℕ))) → is_made file ≡ false → Plans file t t a a
unfolding planned_row planned_rows
unmade file t a q =
    record {
      row = λ i. cond (sym q i) (settings_row (settings_of file)) t;
      words = λ i. cond (sym q i) (record_rows (run (fresh_record (settings_of file)) (events_of file))) a;
      says = λ m. never m q;
    }

-- the settings are cut short
pub plan-cut : (file t : List ℕ) (a : List (List (List ℕ))) → length file < 32
    → (not_run refusal.Cut ≡ plan_of file) × Plans file t t a a
plan-cut file t a h =
    let c = lt-ltb (length file) 32 h in
    (sym (plan-by file c refl), unmade file t a (made_by file c refl))

-- a call of `new` with the file's settings
module _ (file t : List ℕ) (a : List (List (List ℕ))) {s : Settings} {x : Result Reply Refusal} {u : List ℕ} {b : List (List (List ℕ))}
    (e : s ≡ settings_of file) (n : (x ≡ (record_of s).reply) × (u ≡ cond (allowed s) (settings_row s) t)
    × (b ≡ cond (allowed s) (record_rows (fresh_record s)) a)) where
  row : u ≡ cond (allowed (settings_of file)) (settings_row (settings_of file)) t
  row = n.1 ∙ (λ i. cond (allowed (e i)) (settings_row (e i)) t)

  words : b ≡ cond (allowed (settings_of file)) (record_rows (fresh_record (settings_of file))) a
  words = n.2 ∙ (λ i. cond (allowed (e i)) (record_rows (fresh_record (e i))) a)

  -- a record is made
  pub begun : allowed (settings_of file) ≡ true
      → (u ≡ settings_row (settings_of file)) × (record_in u b ≡ fresh_record (settings_of file)) × AreCoded b
  begun q = (
    made_row (settings_of file) t a q row words,
    fresh_in (settings_of file) t a q row words,
    made-coded (settings_of file) t a q row words,
  )

  module _ (h : 32 ≤ length file) {k : ℕ} (v : k ≡ number_of x) where
    number_by : (d : Bool) → allowed (settings_of file) ≡ d → k ≡ cond d 0 6
    unfolding record_of
    number_by true q =
        v ∙ ap number_of n.0 ∙ (λ i. number_of (record_of (e i)).reply)
        ∙ (λ i. number_of (cond (q i) (Ok reply.Nothing) (Err refusal.Duration)))
    number_by false q =
        v ∙ ap number_of n.0 ∙ (λ i. number_of (record_of (e i)).reply)
        ∙ (λ i. number_of (cond (q i) (Ok reply.Nothing) (Err refusal.Duration)))

    long : ltb (length file) 32 ≡ false
    long = le-ltb (length file) 32 h

    -- one is, and the events are run on it
    scanned : {d : List (List (List ℕ))} → allowed (settings_of file) ≡ true → Leaves u b d (events_of file)
        → Plans file t u a d
    unfolding planned_row planned_rows
    scanned {d} q f =
        let made : is_made file ≡ true = made_by file long q in
        let told : record_in u d ≡ run (fresh_record (settings_of file)) (events_of file) =
        f.says ∙ (λ i. run ((begun q).1 i) (events_of file)) in
        record {
          row = (begun q).0 ∙ (λ i. cond (sym made i) (settings_row (settings_of file)) t);
          words =
              sym (f.coded (begun q).2) ∙ ap record_rows told
              ∙ (λ i. cond (sym made i) (record_rows (run (fresh_record (settings_of file)) (events_of file))) a);
          says = λ m. told;
        }

    pub plan-scan : k ≡ 0 → {r : Scan} {d : List (List (List ℕ))} → (r ≡ pass_of file) × Leaves u b d (events_of file)
        → (r ≡ plan_of file) × Plans file t u a d
    plan-scan z {r} {d} f =
        on-flag (allowed (settings_of file)) (λ q. (f.0 ∙ sym (plan-by file long q), scanned q f.1))
        (λ q. absurd (omega (arith, z, number_by false q)))

    -- none is
    pub plan-large : (k ≡ 0 → ⊥) → (not_run refusal.Duration ≡ plan_of file) × Plans file t u a b
    plan-large z =
        on-flag (allowed (settings_of file)) (λ q. absurd (z (number_by true q)))
        (λ q. (sym (plan-by file long q), kept q))
      where
        kept : allowed (settings_of file) ≡ false → Plans file t u a b
        kept q =
            let c : u ≡ t = row ∙ (λ i. cond (q i) (settings_row (settings_of file)) t) in
            let d : b ≡ a = words ∙ (λ i. cond (q i) (record_rows (fresh_record (settings_of file))) a) in
            subst (λ (z : List (List (List ℕ))). Plans file t u a z) (sym d)
            (subst (λ (z : List ℕ). Plans file t z a a) (sym c) (unmade file t a (made_by file long q)))

-- the run is by the plan's end
pub ran-by : (file : List ℕ) (lent : ℕ) → file_written file lent ≡ ended_by (plan_of file).end (fit (output_of file) lent)
unfolding file_written plan_of pass_of
ran-by file lent = go (ltb (length file) 32) (allowed (settings_of file))
  where
    go : (a b : Bool)
        → cond a (Err refusal.Cut)
        (cond b (ended_by (end_verdict (ending_of file)) (fit (output_of file) lent)) (Err refusal.Duration))
        ≡ ended_by
        (cond a (not_run refusal.Cut) (cond b (pass_of file) (not_run refusal.Duration))).end
        (fit (output_of file) lent)
    go true b = refl
    go false true = refl
    go false false = refl

-- 13, 6, 14 or 15
pub run-refused : (file l : List ℕ) {p : Scan} {why : Refusal} → p ≡ plan_of file → p.end ≡ Err why
    → (Err why ≡ file_written file (length l)) × (l ≡ out_of file l)
unfolding out_of
run-refused file l {p} {why} e q =
    let k : file_written file (length l) ≡ Err why =
    ran-by file (length l)
    ∙ (λ i. ended_by ((ap (λ (s : Scan). s.end) (sym e) ∙ q) i) (fit (output_of file) (length l))) in
    (sym k, λ i. out_by (sym k i) (over (output_of file) l) l)

whole-not : {C : Type 0} {why : Refusal} → ◌≡◌ {A = Result (Unit {0}) Refusal} (Err why) (Ok tt) → C
whole-not {C} {why} e = cc

-- a record is made of settings that are allowed
made-allowed : (file : List ℕ) → is_made file ≡ true → allowed (settings_of file) ≡ true
made-allowed file = go (ltb (length file) 32) (allowed (settings_of file))
  where
    go : (a b : Bool) → (not a && b) ≡ true → b ≡ true
    go true b e = never e refl
    go false b e = e

-- only a scan ends whole
pub plan-whole : (file : List ℕ) → (plan_of file).end ≡ Ok tt
    → (plan_of file ≡ pass_of file) × (is_made file ≡ true)
unfolding plan_of
plan-whole file = go (ltb (length file) 32) (allowed (settings_of file))
  where
    go : (a b : Bool) → (cond a (not_run refusal.Cut) (cond b (pass_of file) (not_run refusal.Duration))).end ≡ Ok tt
        → (cond a (not_run refusal.Cut) (cond b (pass_of file) (not_run refusal.Duration)) ≡ pass_of file)
        × ((not a && b) ≡ true)
    go true b e = whole-not e
    go false true e = (refl, refl)
    go false false e = whole-not e

-- ---- the output

pub trace-length : (r : Record) (es : List Event) → length (trace r es) ≡ length es
trace-length r [] = refl
trace-length r (e ∷ es) = ap suc (trace-length (step r e).next es)

pub answers-length : (l : List Entry) → length (flat entry_bytes l) ≡ 16 * length l
answers-length l = flat-length entry_bytes 16 (λ x. words-two x.number x.value) l

-- what a whole plan knows; d are the words after it, and z those after a second pass over as many events as fit
module _ (file l : List ℕ) {p : Scan} {told : ℕ} {t u : List ℕ} {a d : List (List (List ℕ))}
    (e : (p ≡ plan_of file) × Plans file t u a d) (q : p.end ≡ Ok tt)
    (m : told ≡ length (standings_of (map slot_in d)))
  where
    whole : (plan_of file ≡ pass_of file) × (is_made file ≡ true)
    whole = plan-whole file (ap (λ (s : Scan). s.end) (sym e.0) ∙ q)

    is-count : p.count ≡ length (events_of file)
    unfolding pass_of
    is-count = ap (λ (s : Scan). s.count) (e.0 ∙ whole.0)

    abbrev pub last : Record
    last = run (fresh_record (settings_of file)) (events_of file)

    abbrev pub all : List Entry
    all = trace (fresh_record (settings_of file)) (events_of file)

    told_is : told ≡ length (standings_of last.slots)
    told_is = m ∙ (λ i. length (standings_of (e.1.says whole.1 i).slots))

    answers-are : length (flat entry_bytes all) ≡ 16 * p.count
    answers-are = answers-length all ∙ ap (λ (n : ℕ). 16 * n) (trace-length _ (events_of file) ∙ sym is-count)

    output-length : 16 * p.count + told ≡ length (output_of file)
    unfolding output_of
    output-length =
        (λ i. sym answers-are i + told_is i) ∙ sym (length-append (flat entry_bytes all) (standings_of last.slots))

    ran-whole : file_written file (length l) ≡ fit (output_of file) (length l)
    ran-whole =
        ran-by file (length l)
        ∙ (λ i. ended_by ((ap (λ (s : Scan). s.end) (sym e.0) ∙ q) i) (fit (output_of file) (length l)))

    -- 16
    pub run_lent : {b : Bool} → b ≡ leb (16 * p.count + told) (length l) → b ≡ false
        → (Err refusal.Lent ≡ file_written file (length l)) × (l ≡ out_of file l)
    unfolding out_of
    run_lent {b} c f =
        let z : leb (length (output_of file)) (length l) ≡ false =
        (λ i. leb (sym output-length i) (length l)) ∙ sym c ∙ f in
        let k : file_written file (length l) ≡ Err refusal.Lent =
        ran-whole ∙ (λ i. cond (z i) (Ok (length (output_of file))) (Err refusal.Lent)) in
        (sym k, λ i. out_by (sym k i) (over (output_of file) l) l)

    -- all is written
    module _ {b : Bool} (c : b ≡ leb (16 * p.count + told) (length l)) (f : b ≡ true) where
      pub run_room : 16 * p.count + told ≤ length l
      run_room = leb-true (16 * p.count + told) (length l) (sym c ∙ f)

      all_fit : fitting file (length l) ≡ events_of file
      all_fit = take_all (length l / 16) (events_of file) (omega (arith, run_room, is-count))

      -- a second `new`, and the answers of the events
      module _ {s : Settings} {x : Result Reply Refusal} {v : List ℕ} {g y : List (List (List ℕ))} {l₁ : List ℕ}
          (k : s ≡ settings_of file)
          (n : (x ≡ (record_of s).reply) × (v ≡ cond (allowed s) (settings_row s) u)
          × (g ≡ cond (allowed s) (record_rows (fresh_record s)) d))
          (o : (l₁ ≡ over (answers_in file (record_in v g) (length l)) l) × Leaves v g y (fitting file (length l)))
        where
          again : record_in v g ≡ fresh_record (settings_of file)
          again = (begun file u d k n (made-allowed file whole.1)).1

          pub run-last : map slot_in y ≡ last.slots
          run-last =
              ap (λ (r : Record). r.slots) (o.1.says ∙ (λ i. run (again i) (all_fit i)))

          pub run-answers : Filled l (flat entry_bytes all) l₁ (16 * p.count)
          run-answers =
              let z : l₁ ≡ over (flat entry_bytes all) l =
              o.0 ∙ (λ i. over (flat entry_bytes (trace (again i) (all_fit i))) l) in
              record {
                long = answers-are;
                room = omega (arith, run_room);
                is =
                    z ∙ over-fits (flat entry_bytes all) l (omega (arith, answers-are, run_room))
                    ∙ ap (λ (n : ℕ). flat entry_bytes all ++ drop n l) answers-are;
              }

          pub run-whole : {w : List ℕ}
              → w ≡ over (standings_of (map slot_in y)) (mid_of (16 * p.count) (length l₁ - 16 * p.count) l₁)
              → (Ok (16 * p.count + told) ≡ file_written file (length l))
              × (put_mid (16 * p.count) (length l₁ - 16 * p.count) l₁ w ≡ out_of file l)
          unfolding out_of output_of
          run-whole {w} h =
              let n = output-length in
              let z : leb (length (output_of file)) (length l) ≡ true =
              le-leb (length (output_of file)) (length l) (omega (arith, n, run_room)) in
              let k : file_written file (length l) ≡ Ok (length (output_of file)) =
              ran-whole ∙ (λ i. cond (z i) (Ok (length (output_of file))) (Err refusal.Lent)) in
              let h' : w ≡ over (standings_of last.slots) (mid_of (16 * p.count) (length l₁ - 16 * p.count) l₁) =
              h ∙ (λ i. over (standings_of (run-last i)) (mid_of (16 * p.count) (length l₁ - 16 * p.count) l₁)) in
              let x = fill (standings_of last.slots) run-answers (omega (arith, told_is, run_room)) h' in (
                ap (λ (c : ℕ). Ok c) n ∙ sym k,
                filled-over x ∙ (λ i. out_by (sym k i) (over (output_of file) l) l),
              )

-- ---- whether all fits

pub fits_not : (count told lent : ℕ) → lent < told → false ≡ leb (16 * count + told) lent
fits_not count told lent h = sym (lt-leb (16 * count + told) lent (omega arith))

pub fits_by : (count told lent : ℕ) → told ≤ lent → leb count ((lent - told) / 16) ≡ leb (16 * count + told) lent
fits_by count told lent h =
    on-order ((lent - told) / 16) count
    (λ k. lt-leb count ((lent - told) / 16) k ∙ sym (lt-leb (16 * count + told) lent (omega (arith, h, k))))
    (λ k. le-leb count ((lent - told) / 16) k ∙ sym (le-leb (16 * count + told) lent (omega (arith, h, k))))
