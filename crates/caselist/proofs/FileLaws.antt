-- Laws of a file and its lines: the room that the lines have, and whether the file agrees.
-- Assumes nothing.
use Rattle.std.specs.Prelude.{Result, Ok, Err}
use Prim.Native.Nat.{ℕ, ◌-◌, ◌/◌, ◌<◌, ◌≤◌}
use mathlib.Core.Path.{◌≡◌, refl, sym, ap, subst, ◌∙◌}
use mathlib.Core.List.{List, [], ◌++◌}
use mathlib.Core.Bool.{Bool, true, false, cond}
use native.Mathlib.Omega.{arith}
use borrow.Author.Tests.{lt-ltb, le-ltb}
use lib.Dec.{T}
use lib.ListN.{length, take, drop}
use lib.Seq.{take-append_seam}
use Rattle.base.specs.declared.types.Refusal.{Refusal}
use Rattle.base.specs.declared.types.Refusal.TheVariants as refusal
use Rattle.base.proofs.Cases.{on-order}
use Rattle.octets.specs.Octets.{over}
use Rattle.octets.proofs.Fill.{over-fits}
use Rattle.standing.specs.Standing.{written_value}
use Rattle.session.specs.Lines.{lines_of}
use Rattle.session.specs.Sessions.{begun, ran_of}
use Rattle.session.specs.Whole.{file_text, file_reply}
use Rattle.session.proofs.WholeLaws.{Ends, ends, total-in, file-done}
use Rattle.replay.specs.Replay.{alike}
use Rattle.replay.proofs.ReplayLaws.{alike-told}
use Rattle.caselist.specs.Cases.{file_agrees}

no_true : false ≡ true → ⊥
no_true e = subst T (sym e) tt

-- ---- the room

-- whether bytes were written
abbrev is_bytes : Result ℕ Refusal → Bool
is_bytes (Ok n) = true
is_bytes (Err why) = false

-- with room the reply is the length of the lines, else a refusal
reply-room : (l o : List ℕ) → length l / 3 < length o / 84 → file_reply l o ≡ Ok (length (lines_of l))
reply-room l o h =
    λ j. cond (lt-ltb (length l / 3) (length o / 84) h j) (Ok (length (lines_of l))) (Err refusal.Lent)

reply-none : (l o : List ℕ) → length o / 84 ≤ length l / 3 → file_reply l o ≡ Err refusal.Lent
reply-none l o h =
    λ j. cond (le-ltb (length l / 3) (length o / 84) h j) (Ok (length (lines_of l))) (Err refusal.Lent)

-- where there is room the lines fit
lines-in : (l o : List ℕ) → length l / 3 < length o / 84 → length (lines_of l) ≤ length o
lines-in l o h =
    let k = length o / 84 in
    let e : Ends l o begun (ran_of k begun l).run (over (ran_of k begun l).text o) = ends l o h refl (refl, refl) in
    let n = ap written_value ((file-done e (refl, refl)).0 ∙ reply-room l o h) in
    omega (arith, total-in e (refl, refl), n)

-- ---- whether the file agrees

module _ (file lines o : List ℕ) (z : length o ≡ 65536) {w : Result ℕ Refusal} (e : w ≡ file_reply file o) where
  -- a reply that is a count is the length of the lines
  counted : {k : ℕ} → w ≡ Ok k → (length file / 3 < length o / 84) × (k ≡ length (lines_of file))
  counted b =
      on-order (length file / 3) (length o / 84)
      (λ h. (h, ap written_value (sym b ∙ e ∙ reply-room file o h)))
      (λ h. absurd (no_true (sym (ap is_bytes (sym b ∙ e ∙ reply-none file o h)))))

  pub count-in : {k : ℕ} → w ≡ Ok k → k ≤ length o
  count-in b = omega (arith, lines-in file o (counted b).0, (counted b).1)

  -- what stands at the front of the lent bytes tells whether the file agrees
  pub file-told : {k : ℕ} {m : List ℕ} {same : Bool} → w ≡ Ok k → m ≡ over (file_text file o) o
      → (same ≡ true → take (k - 0) m ≡ lines) × (take (k - 0) m ≡ lines → same ≡ true)
      → same ≡ file_agrees file lines
  unfolding file_agrees
  file-told {k} {m} {same} b p t =
      let h = (counted b).0 in
      let g : over (file_text file o) o ≡ lines_of file ++ drop (length (lines_of file)) o =
      (λ j. over (cond (lt-ltb (length file / 3) (length o / 84) h j) (lines_of file) []) o)
      ∙ over-fits (lines_of file) o (lines-in file o h) in
      let all : k - 0 ≡ length (lines_of file) = omega (arith, (counted b).1) in
      let front : take (k - 0) m ≡ lines_of file =
      (λ j. take (all j) ((p ∙ g) j)) ∙ take-append_seam (lines_of file) (drop (length (lines_of file)) o) in
      let fits : length file / 3 < 65536 / 84 = subst (λ (n : ℕ). length file / 3 < n / 84) z h in
      alike-told (take (k - 0) m) lines same t ∙ (λ j. alike (front j) lines)
      ∙ sym (λ j. cond (lt-ltb (length file / 3) (65536 / 84) fits j) (alike (lines_of file) lines) false)

  -- a file that is too large does not agree
  pub file-large : {why : Refusal} → w ≡ Err why → false ≡ file_agrees file lines
  unfolding file_agrees
  file-large b =
      on-order (length file / 3) (length o / 84)
      (λ h. absurd (no_true (ap is_bytes (sym b ∙ e ∙ reply-room file o h))))
      (λ h.
      sym (λ j. cond (le-ltb (length file / 3) (65536 / 84) (subst (λ (n : ℕ). n / 84 ≤ length file / 3) z h) j)
      (alike (lines_of file) lines) false))

  pub file-none : ((k : ℕ) → w ≡ Ok k → ⊥) → false ≡ file_agrees file lines
  file-none h = go w refl
    where
      go : (v : Result ℕ Refusal) → w ≡ v → false ≡ file_agrees file lines
      go (Ok k) q = absurd (h k q)
      go (Err why) q = file-large q
