-- What `seek_size`, `seek_proved` and `seek_judge` put together, with each part a variable.
-- Assumes nothing.
use Rattle.std.specs.Prelude.{Option, None, Some}
use mathlib.Core.Path.{◌≡◌, ap, sym, ◌∙◌}
use mathlib.Core.Bool.{Bool, true, false, not, cond, ◌||◌}
use Prim.Native.Nat.{ℕ, ◌<◌, ◌≤◌, min}
use borrow.Author.Tests.{lt-ltb, le-ltb}
use lib.Dec.{eqb}
use Rattle.seek.specs.Rules.{rises_of, raised_of, lost_with, acked_of, known_of}
use Rattle.seek.specs.Search.{with_seek, end_of, propose_of, acked_search, lost_now, judges_of, drop_of, judged_search}
use Rattle.seek.specs.declared.types.Seek.{Seek}
use Rattle.seek.specs.declared.types.Sizes.{Sizes}
use Rattle.seek.specs.declared.types.Proved.{Proved}
use Rattle.seek.specs.declared.types.Judged.{Judged}
use Rattle.base.proofs.Cases.{cond_same, turned}

-- nothing proven, nothing proposed
pub none-proven : (b : Bool) (lost full : ℕ) {p : Option ℕ} → p ≡ None → None ≡ cond b (propose_of lost p full) None
none-proven b lost full e = rw e (sym (cond_same b None))

-- the lost size after an acknowledgement
pub acked-short : (lost sent acked : ℕ) → acked < sent → lost_with lost sent ≡ acked_of lost sent acked
acked-short lost sent acked h = rw (lt-ltb acked sent h)

pub acked-whole : (lost sent acked : ℕ) → sent ≤ acked → lost ≡ acked_of lost sent acked
acked-whole lost sent acked h = rw (le-ltb acked sent h)

pub proved-made : (s : Sizes) (sent acked now : ℕ) {size lost known : ℕ} {raised : Bool} {proven : Option ℕ} {seek : Seek}
    → size ≡ min sent acked → raised ≡ rises_of 27 s.proven size → proven ≡ raised_of 27 s.proven size → known ≡ known_of 27 proven
    → lost ≡ acked_of s.seek.lost sent acked → seek ≡ end_of (with_seek s.seek s.seek.at s.seek.len lost) known now
    → ◌≡◌ {A = Proved} (record { raised = raised; sizes = record { seek = seek; proven = proven } }) (acked_search s sent acked now)
unfolding acked_search
proved-made s sent acked now a b c d e f = rw (f, e, d, b, c, a)

-- the code's test of a search probe that was sent at an instant, as the rule's
judges : (s : Seek) (answered : Option ℕ) (now timeout : ℕ) {at : ℕ} {gone t : Bool} → s.at ≡ Some at
    → gone ≡ lost_now at s.probe_id answered now timeout → (eqb s.len 0 || not gone) ≡ t
    → judges_of s s.at answered now timeout ≡ not t
judges s answered now timeout {at} {gone} e f g = rw (e, sym f, turned (eqb s.len 0) gone, g)

-- judging, by whether the probe is lost
module _ (s : Sizes) (answered : Option ℕ) (now timeout gap : ℕ) where
  -- the probe is lost
  pub judge-drops : judges_of s.seek s.seek.at answered now timeout ≡ true
      → drop_of s (known_of 27 s.proven) now gap ≡ judged_search s answered now timeout gap
  unfolding judged_search
  judge-drops e = rw e

  -- it waits
  pub judge-keeps : judges_of s.seek s.seek.at answered now timeout ≡ false
      → ◌≡◌ {A = Judged} (record { lost = false; sizes = s }) (judged_search s answered now timeout gap)
  unfolding judged_search
  judge-keeps e = rw e

  -- the same by the code's own tests: no instant; it waits; it is lost
  pub judge-none : s.seek.at ≡ None
      → ◌≡◌ {A = Judged} (record { lost = false; sizes = s }) (judged_search s answered now timeout gap)
  unfolding judged_search
  judge-none e = rw e

  pub judge-waits : {at : ℕ} {gone : Bool} → s.seek.at ≡ Some at
      → gone ≡ lost_now at s.seek.probe_id answered now timeout → (eqb s.seek.len 0 || not gone) ≡ true
      → ◌≡◌ {A = Judged} (record { lost = false; sizes = s }) (judged_search s answered now timeout gap)
  judge-waits e f g = judge-keeps (judges s.seek answered now timeout e f g)

  pub judge-loses : {at size : ℕ} {gone : Bool} {j : Judged} → s.seek.at ≡ Some at
      → gone ≡ lost_now at s.seek.probe_id answered now timeout → (eqb s.seek.len 0 || not gone) ≡ false
      → known_of 27 s.proven ≡ size → j ≡ drop_of s size now gap → j ≡ judged_search s answered now timeout gap
  judge-loses e f g h k =
      k ∙ ap (λ (n : ℕ). drop_of s n now gap) (sym h) ∙ judge-drops (judges s.seek answered now timeout e f g)
