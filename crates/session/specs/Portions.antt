-- Portions of any lengths, fed to a session one after the other, give the lines of all bytes, wherever they are cut.
use Rattle.std.specs.Prelude.{◌≡◌, ℕ, zero, suc, ◌≤◌, cond, List, [], ◌∷◌, ◌++◌, length, drop}
use Rattle.session.specs.Lines.{lines_of}
use Rattle.session.specs.Sessions.{Session, Ran, begun, ran_of, last_of}

-- what calls wrote, the session that they leave, and the bytes that are still held
pub record Fed : Type 0 where
  pub text : List ℕ
  pub session : Session
  pub held : List ℕ

-- with text written before
abbrev pub written_before : List ℕ → Fed → Fed
written_before text d = record { text = text ++ d.text; session = d.session; held = d.held }

-- what a call leaves: the bytes from its place on are held
abbrev pub left_by : Ran → List ℕ → Fed
left_by r l = record { text = r.text; session = r.run.session; held = drop r.run.place l }

-- a call of k lines on the bytes held; "full" calls for another before more is read; at most f further ones
unfoldable pub calls : ℕ → ℕ → Session → List ℕ → Fed
calls zero k s l = left_by (ran_of k s l) l
calls (suc f) k s l =
    cond (ran_of k s l).run.full
    (written_before (ran_of k s l).text (calls f k (ran_of k s l).run.session (drop (ran_of k s l).run.place l)))
    (left_by (ran_of k s l) l)

-- each portion comes behind the bytes held; after the last one the session is finished
unfoldable pub fed : ℕ → Session → List ℕ → List (List ℕ) → List ℕ
fed k s held [] = last_of s held
fed k s held (p ∷ ps) =
    (calls (length (held ++ p)) k s (held ++ p)).text
    ++ fed k (calls (length (held ++ p)) k s (held ++ p)).session (calls (length (held ++ p)) k s (held ++ p)).held ps

-- portions one after the other
abbrev pub joined : List (List ℕ) → List ℕ
joined [] = []
joined (p ∷ ps) = p ++ joined ps

-- with room for a line, any list of portions, empty ones too, gives just the lines of all bytes
abbrev pub PortionsHold : Type 0
PortionsHold = (k : ℕ) (ps : List (List ℕ)) → 1 ≤ k → fed k begun [] ps ≡ lines_of (joined ps)
