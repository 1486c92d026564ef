-- Portions of any lengths, fed one after the other, give the lines of all bytes.
-- Assumes nothing.
use Rattle.std.proofs.Common.{◌≡◌, ℕ, zero, suc, ◌≤◌, Bool, false, cond, List, [], ◌∷◌, ◌++◌, length, drop, sym, ap, ◌∙◌, subst, append_assoc, append-nil, arith, length-drop}
use Rattle.base.proofs.Cases.{on-flag}
use Rattle.session.specs.Sessions.{Session, begun, ran_of, last_of}
use Rattle.session.specs.Portions.{Fed, written_before, left_by, calls, fed, joined, PortionsHold}
use Rattle.session.proofs.SessionLaws.{owed, told, lines-short}

-- what calls wrote, and then what is owed for the bytes held and any after them, is what was owed; nothing whole is
-- left
pub record Done (s : Session) (l : List ℕ) (d : Fed) : Type 0 where
  pub same : (t : List ℕ) → owed s (l ++ t) ≡ d.text ++ owed d.session (d.held ++ t)
  pub rests : last_of d.session d.held ≡ owed d.session d.held

module _ (k : ℕ) (room : 1 ≤ k) where
  -- a call that did not stop for want of room
  done-one : (s : Session) (l : List ℕ) → (ran_of k s l).run.full ≡ false → Done s l (left_by (ran_of k s l) l)
  done-one s l e = record { same = λ t. (told k s l t room).same; rests = (told k s l [] room).rests e }

  -- further calls after one that did
  done_more : (s : Session) (l : List ℕ) (d : Fed) → Done (ran_of k s l).run.session (drop
      (ran_of k s l).run.place l) d
      → Done s l (written_before (ran_of k s l).text d)
  done_more s l d g =
      let r = ran_of k s l in
      record {
        same = λ t.
            (told k s l t room).same ∙ ap (λ (z : List ℕ). r.text ++ z) (g.same t)
            ∙ sym (append_assoc r.text d.text (owed d.session (d.held ++ t)));
        rests = g.rests;
      }

  done : (f : ℕ) (s : Session) (l : List ℕ) → length l ≤ f → Done s l (calls f k s l)
  unfolding calls
  done zero s l h =
      let r = ran_of k s l in
      on-flag r.run.full
      (λ e. absurd (omega (arith, (told k s l [] room).gone e, (told k s l [] room).within)))
      (λ e. done-one s l e)
  done (suc f) s l h =
      let r = ran_of k s l in
      let rest = drop r.run.place l in
      let P : Bool → Type 0 =
      λ (b : Bool). Done s l (cond b (written_before r.text (calls f k r.run.session rest)) (left_by r l)) in
      on-flag r.run.full
      (λ e.
      let g = (told k s l [] room).gone e in
      let w = (told k s l [] room).within in
      subst P (sym e)
      (done_more s l (calls f k r.run.session rest)
      (done f r.run.session rest (omega (arith, g, w, length-drop r.run.place l)))))
      (λ e. subst P (sym e) (done-one s l e))

  fed-is : (ps : List (List ℕ)) (s : Session) (held : List ℕ) → last_of s held ≡ owed s held → fed k s held ps
      ≡ owed s (held ++ joined ps)
  unfolding fed
  fed-is [] s held e = e ∙ ap (owed s) (sym (append-nil held))
  fed-is (p ∷ ps) s held e =
      let d = done (length (held ++ p)) s (held ++ p) (omega arith) in
      let c = calls (length (held ++ p)) k s (held ++ p) in
      ap (λ (z : List ℕ). c.text ++ z) (fed-is ps c.session c.held d.rests)
      ∙ sym (d.same (joined ps)) ∙ ap (owed s) (append_assoc held p (joined ps))

pub portions-hold : PortionsHold
unfolding owed begun last_of
portions-hold k ps h = fed-is k h ps begun [] (lines-short [] (omega arith))
