-- A whole file in lent bytes with room: a call and the end give all its lines.
-- Assumes nothing.
use Rattle.std.proofs.Common.{◌≡◌, ℕ, zero, suc, ◌+◌, ◌-◌, ◌*◌, ◌/◌, ◌<◌, ◌≤◌, Bool, true, false, cond, List, [], ◌++◌, length, drop, sym, refl, ap, ◌∙◌, subst, append-nil, le_of_eq, arith, length-append, length-drop, take_all, le-ltb, lt-ltb, Ok, Err}
use borrow.Rule.Slice.PartMut.{mid_of, put_mid}
use Rattle.base.specs.Refusals.{refusal_number}
use Rattle.base.specs.declared.types.Refusal.TheVariants as refusal
use Rattle.base.proofs.Cases.{on-flag, on-order}
use Rattle.octets.specs.Octets.{over}
use Rattle.octets.proofs.Fill.{Filled, filled-length, filled-over, over-fits}
use Rattle.rules.specs.Step.{step, allowed, fresh_record}
use Rattle.rules.proofs.Whole.{demand3}
use Rattle.rules.specs.declared.types.Record.{Record}
use Rattle.eventfile.specs.File.{settings_of, events_of, parse_of}
use Rattle.eventfile.specs.declared.types.Parse.{Parse}
use Rattle.eventfile.specs.declared.types.Parse.TheVariants as parse
use Rattle.lines.specs.Text.{line_of, written}
use Rattle.lines.proofs.TextLaws.{line-few}
use Rattle.session.specs.Lines.{number_after, lines_of}
use Rattle.session.specs.Sessions.{Session, Run, begun, event_line, ran_of, last_in, last_of}
use Rattle.eventfile.specs.Claim.{FileDemand}
use Rattle.session.specs.Words.{session_in, run_in, Begins, Runs}
use Rattle.session.specs.Whole.{has_room, file_text, file_reply}
use Rattle.session.specs.declared.types.Mark.{Mark}
use Rattle.session.specs.declared.types.Call.{Call}
use Rattle.eventfile.proofs.ReadLaws.{parse-stands, Stands}
use Rattle.session.proofs.WalkLaws.{walk_by, walk, walk_all}
use Rattle.session.proofs.LayLaws.{lay-tail, lay-filled}
use Rattle.session.proofs.SessionLaws.{owed, told, lines-short, lines_long}
use Rattle.session.proofs.StopLaws.{none-laid}

-- ---- how long the lines are

few-by : (x : Parse) (f : ℕ) (l : List ℕ) (rec : Record) (n at : ℕ) → parse_of l at ≡ x
    → ((r : Record) (m p : ℕ) → length (walk f l r m p) ≤ 84 * ((length l - p) / 3) + 84)
    → length (walk_by x (walk f l) rec n) ≤ 84 * ((length l - at) / 3) + 84
few-by parse.End f l rec n at e ih = omega arith
few-by (parse.Refused why k) f l rec n at e ih = omega (arith, line-few n k (refusal_number why) 0)
few-by (parse.Event v next) f l rec n at e ih =
    let b = subst (Stands l at) e (parse-stands l at) in
    let line = event_line n v (step rec v).reply in
    let rest = walk f l (step rec v).next (number_after n) next in
    let few : length line ≤ 84 = line-few _ _ _ _ in
    omega (arith, length-append line rest, few, ih (step rec v).next (number_after n) next, b.0, b.1)

-- a line for each record, which has three bytes at least, and one more
walk-few : (f : ℕ) (l : List ℕ) (rec : Record) (n at : ℕ) → length (walk f l rec n at) ≤ 84 * ((length l - at) / 3) + 84
unfolding walk
walk-few zero l rec n at = omega arith
walk-few (suc f) l rec n at = few-by (parse_of l at) f l rec n at refl (walk-few f l)

cond-few : (b : Bool) (x y : List ℕ) (n : ℕ) → length x ≤ n → length y ≤ n → length (cond b x y) ≤ n
cond-few true x y n h k = h
cond-few false x y n h k = k

lines-few : (l : List ℕ) → length (lines_of l) ≤ 84 * (length l / 3) + 84
lines-few l =
    on-order (length l) 32
    (λ h. omega (arith, ap (λ (z : List ℕ). length z) (lines-short l h), line-few 0 0 13 0))
    (λ h.
    let e : lines_of l ≡ cond (allowed (settings_of l)) (walk_all (l ++ []) (fresh_record (settings_of l)) 1 32)
    (line_of 0 0 6 0) =
    ap lines_of (sym (append-nil l)) ∙ lines_long l [] h in
    let n : length (l ++ []) ≡ length l = ap (λ (z : List ℕ). length z) (append-nil l) in
    let w = walk-few (length (l ++ [])) (l ++ []) (fresh_record (settings_of l)) 1 32 in
    let c = cond-few (allowed (settings_of l)) (walk_all (l ++ []) (fresh_record (settings_of l)) 1 32) (line_of 0 0 6 0)
    (84 * (length l / 3) + 84) (omega (arith, n, w)) (omega (arith, line-few 0 0 6 0)) in
    omega (arith, ap (λ (z : List ℕ). length z) e, c))

-- ---- a call, then the end

module _ (l o : List ℕ) (h : length l / 3 < length o / 84) where
  -- all lines: those of the call and the last one
  pub whole-lines : lines_of l
      ≡ (ran_of (length o / 84) begun l).text
      ++ last_of (ran_of (length o / 84) begun l).run.session (drop (ran_of (length o / 84) begun l).run.place l)
  unfolding owed begun
  whole-lines =
      let k = length o / 84 in
      let t = told k begun l [] (omega arith) in
      let r = ran_of k begun l in
      let held = drop r.run.place l in
      let ends : last_of r.run.session held ≡ owed r.run.session held =
      on-flag r.run.full (λ e. absurd (omega (arith, t.gone e, t.within, h))) t.rests in
      ap lines_of (sym (append-nil l)) ∙ t.same
      ∙ (λ j. r.text ++ owed r.run.session (append-nil held j)) ∙ (λ j. r.text ++ sym ends j)

  pub whole-within : (ran_of (length o / 84) begun l).run.place ≤ length l
  whole-within = (told (length o / 84) begun l [] (omega arith)).within

-- demand 3 of the file's events: the claim of `rules` about every list
file-demand : (l : List ℕ) → FileDemand l
file-demand l a f = demand3 (settings_of l) (events_of l) a f

-- a session that is begun, a call on all bytes, and the end on those that are left
pub record Ends (l o : List ℕ) (s : Session) (r : Run) (m : List ℕ) : Type 0 where
  pub room : length l / 3 < length o / 84
  pub begins : s ≡ begun
  pub step : (r ≡ (ran_of (length o / 84) s l).run) × (m ≡ over (ran_of (length o / 84) s l).text o)

module _ {l o : List ℕ} {s : Session} {r : Run} {m : List ℕ} (e : Ends l o s r m) where
  is-run : r ≡ (ran_of (length o / 84) begun l).run
  is-run = e.step.0 ∙ (λ j. (ran_of (length o / 84) (e.begins j) l).run)

  counts : r.wrote ≡ length (ran_of (length o / 84) begun l).text
  counts = (λ j. (is-run j).wrote) ∙ (told (length o / 84) begun l [] (omega (arith, e.room))).count

  both : length (ran_of (length o / 84) begun l).text
      + length (last_of (ran_of (length o / 84) begun l).run.session (drop (ran_of
      (length o / 84) begun l).run.place l))
      ≡ length (lines_of l)
  both =
      sym (length-append (ran_of (length o / 84) begun l).text
      (last_of (ran_of (length o / 84) begun l).run.session (drop (ran_of (length o / 84) begun l).run.place l)))
      ∙ ap (λ (z : List ℕ). length z) (sym (whole-lines l o e.room))

  fits : length (lines_of l) ≤ length o
  fits = omega (arith, lines-few l, e.room)

  pub place_in : r.place ≤ length l
  place_in =
      let p : r.place ≡ (ran_of (length o / 84) begun l).run.place = λ j. (is-run j).place in
      omega (arith, p, whole-within l o e.room)

  after_call : Filled o (ran_of (length o / 84) begun l).text m r.wrote
  after_call =
      let t = (ran_of (length o / 84) begun l).text in
      let h : length t ≤ length o = omega (arith, both, fits) in
      record {
        long = sym counts;
        room = omega (arith, counts, h);
        is = e.step.1 ∙ (λ j. over (ran_of (length o / 84) (e.begins j) l).text o) ∙ over-fits t o h
            ∙ (λ j. t ++ drop (sym counts j) o);
      }

  pub wrote-in : r.wrote ≤ length m
  wrote-in = omega (arith, after_call.room, filled-length after_call)

  module _ {k : ℕ} {m' : List ℕ}
      (f : (k ≡ written (last_in r.session.phase r.session.number (mid_of r.place (length l - r.place) l))
      (mid_of r.wrote (length m - r.wrote) m))
      × (m' ≡ over (last_in r.session.phase r.session.number (mid_of r.place (length l - r.place) l))
      (mid_of r.wrote (length m - r.wrote) m))) where
    line-is : last_in r.session.phase r.session.number (mid_of r.place (length l - r.place) l)
        ≡ last_of (ran_of (length o / 84) begun l).run.session (drop (ran_of (length o / 84) begun l).run.place l)
    unfolding last_of
    line-is =
        let part-is : mid_of r.place (length l - r.place) l ≡ drop r.place l =
        take_all (length l - r.place) (drop r.place l) (le_of_eq (length-drop r.place l)) in
        (λ j. last_of r.session (part-is j)) ∙ (λ j. last_of (is-run j).session (drop (is-run j).place l))

    all_laid : Filled o (lines_of l) (put_mid r.wrote (length m - r.wrote) m m') (r.wrote + k)
    all_laid =
        let b = last_in r.session.phase r.session.number (mid_of r.place (length l - r.place) l) in
        let t = (ran_of (length o / 84) begun l).text in
        let y = lay-tail b m wrote-in f.0 f.1 in
        let n : length b ≡ length (last_of (ran_of (length o / 84) begun l).run.session (drop (ran_of
        (length o / 84) begun l).run.place l)) =
        ap (λ (z : List ℕ). length z) line-is in
        let g = lay-filled b after_call (omega (arith, n, both, fits, counts)) y.0 y.1 in
        subst (λ (z : List ℕ). Filled o z (put_mid r.wrote (length m - r.wrote) m m') (r.wrote + k))
        ((λ j. t ++ line-is j) ∙ sym (whole-lines l o e.room)) g

    pub total-in : r.wrote + k ≤ length o
    total-in = all_laid.room

    pub file-done : (Ok (r.wrote + k) ≡ file_reply l o)
        × (put_mid r.wrote (length m - r.wrote) m m' ≡ over (file_text l o) o) × FileDemand l
    file-done =
        let c : has_room l o ≡ true = lt-ltb (length l / 3) (length o / 84) e.room in (
          (λ j. Ok (sym all_laid.long j))
              ∙ sym (λ j. cond (c j) (Ok (length (lines_of l))) (Err refusal.Lent)),
          filled-over all_laid ∙ sym (λ j. over (cond (c j) (lines_of l) []) o),
          file-demand l,
        )

-- too few lent bytes: nothing is written
pub file-lent : (l o : List ℕ) → length o / 84 ≤ length l / 3
    → (Err refusal.Lent ≡ file_reply l o) × (o ≡ over (file_text l o) o) × FileDemand l
file-lent l o h =
    let c : has_room l o ≡ false = le-ltb (length l / 3) (length o / 84) h in (
      sym (λ j. cond (c j) (Ok (length (lines_of l))) (Err refusal.Lent)),
      (none-laid o).1 ∙ sym (λ j. over (cond (c j) (lines_of l) []) o),
      file-demand l,
    )

pub ends : (l o : List ℕ) {s : Session} {r : Run} {m : List ℕ} → length l / 3 < length o / 84 → s ≡ begun
    → (r ≡ (ran_of (length o / 84) s l).run) × (m ≡ over (ran_of (length o / 84) s l).text o) → Ends l o s r m
ends l o a b d = record { room = a; begins = b; step = d }

-- the same by words
pub ended : (l o : List ℕ) {t u : List ℕ} {a b : List (List (List ℕ))} {m : Mark} {r : Call} {n : List ℕ}
    → length l / 3 < length o / 84 → Begins t a m → Runs t u a b r o n (ran_of (length o / 84) (session_in t a m) l)
    → Ends l o (session_in t a m) (run_in u b r) n
ended l o h s d = ends l o h s.says (d.leaves, d.writes)
