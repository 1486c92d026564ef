-- The pass that writes nothing: what is left to run from here gives what the whole gives.
-- Assumes nothing.
use Rattle.std.specs.Prelude.{Ok, Err}
use Prim.Native.Nat.{ℕ, ◌+◌, ◌≤◌}
use mathlib.Core.Path.{◌≡◌, refl, sym, ap, ◌∙◌, subst}
use mathlib.Core.List.{List, []}
use native.Mathlib.Omega.{arith}
use lib.ListN.{length}
use Rattle.base.specs.declared.types.Refusal.{Refusal}
use Rattle.rules.specs.Step.{run}
use Rattle.rules.specs.declared.types.Event.{Event}
use Rattle.eventfile.specs.File.{parse_of, events_from, events_of, end_from, ending_of}
use Rattle.eventfile.specs.declared.types.Parse.{Parse}
use Rattle.eventfile.specs.declared.types.Parse.TheVariants as parse
use Rattle.eventfile.proofs.ReadLaws.{Stands, parse-stands, parse-end}
use Rattle.eventfile.proofs.FileLaws.{events-end, end-end, events-event, end-event, events-refused, end_refused}
use Rattle.peer.specs.Record.{record_in, AreCoded, Tells}
use Rattle.peer.proofs.StepLaws.{tells_as}
use Rattle.eventrun.specs.Runs.{end_verdict, pass_of, Leaves}
use Rattle.eventrun.specs.declared.types.Scan.{Scan}

-- a record of the file lies behind its place and ends within the bytes
pub next-after : (l : List ℕ) (at : ℕ) {e : Event} {next : ℕ} → parse_of l at ≡ parse.Event e next
    → (at + 3 ≤ next) × (next ≤ length l)
next-after l at q = let s = subst (Stands l at) q (parse-stands l at) in (s.0, s.1)

-- what a count comes to with the records from a place on
abbrev scan_at : List ℕ → ℕ → ℕ → Scan
scan_at l n at =
    record {
      count = n + length (events_from (length l) l at);
      end = end_verdict (end_from (length l) l at);
    }

-- of the file l the n records before `at` have been run on the words a₀, and made them a
pub record Scanning (l t : List ℕ) (a₀ a : List (List (List ℕ))) (n at : ℕ) : Type 0 where
  pub few : n ≤ at
  pub is : scan_at l n at ≡ pass_of l
  pub runs : run (record_in t a) (events_from (length l) l at) ≡ run (record_in t a₀) (events_of l)
  pub coded : AreCoded a₀ → AreCoded a

pub scanning-start : (l t : List ℕ) (a : List (List (List ℕ))) → Scanning l t a a 0 32
unfolding pass_of events_of ending_of
scanning-start l t a =
    let k : 0 + length (events_from (length l) l 32) ≡ length (events_from (length l) l 32) = omega arith in
    record {
      few = omega arith;
      is = λ i. record { count = k i; end = end_verdict (end_from (length l) l 32) };
      runs = refl;
      coded = λ h. h;
    }

module _ {l t : List ℕ} {a₀ a : List (List (List ℕ))} {n at : ℕ} (s : Scanning l t a₀ a n at) where
  enough : length l ≤ at + length l
  enough = omega arith

  -- no more events stand there
  left : events_from (length l) l at ≡ [] → Leaves t a₀ a (events_of l)
  left e = record { says = sym (λ i. run (record_in t a) (e i)) ∙ s.runs; coded = s.coded }

  pub scanning-end : {p : Parse} → p ≡ parse_of l at → p ≡ parse.End
      → (record { count = n; end = (Ok tt) } ≡ pass_of l) × Leaves t a₀ a (events_of l)
  scanning-end {p} h b =
      let q : parse_of l at ≡ parse.End = sym h ∙ b in
      let e = events-end (length l) l at enough q in
      let g = end-end (length l) l at enough q in
      let k : n + length (events_from (length l) l at) ≡ n = omega (arith, ap length e) in
      (sym (λ i. record { count = k i; end = end_verdict (g i) }) ∙ s.is, left e)

  pub scanning-refused : {p : Parse} {why : Refusal} {kind : ℕ} → p ≡ parse_of l at → p ≡ parse.Refused why kind
      → (record { count = n; end = Err why } ≡ pass_of l) × Leaves t a₀ a (events_of l)
  scanning-refused {p} h b =
      let q : parse_of l at ≡ parse.Refused _ _ = sym h ∙ b in
      let e = events-refused (length l) l at enough q in
      let g = end_refused (length l) l at enough q in
      let k : n + length (events_from (length l) l at) ≡ n = omega (arith, ap length e) in
      (sym (λ i. record { count = k i; end = end_verdict (g i) }) ∙ s.is, left e)

  pub scanning-next : (w : ℕ) {p : Parse} {e f : Event} {next : ℕ} {b : List (List (List ℕ))} → p ≡ parse_of l at
      → p ≡ parse.Event e next → f ≡ e → Tells t a b w f → Scanning l t a₀ b (n + 1) next
  scanning-next w {p} {e} {f} {next} {b} h c same told =
      let d = (tells_as t a b w same told).2 in
      let q : parse_of l at ≡ parse.Event e next = sym h ∙ c in
      let v = events-event (length l) l at enough q in
      let g = end-event (length l) l at enough q in
      let m = next-after l at q in
      let k : n + length (events_from (length l) l at) ≡ (n + 1) + length (events_from (length l) l next) =
      omega (arith, ap length v) in
      record {
        few = omega (arith, s.few, m.0);
        is = (λ i. record { count = sym k i; end = end_verdict (sym g i) }) ∙ s.is;
        runs =
            (λ i. run (d.next i) (events_from (length l) l next)) ∙ (λ i. run (record_in t a) (sym v i)) ∙ s.runs;
        coded = λ z. d.coded (s.coded z);
      }
