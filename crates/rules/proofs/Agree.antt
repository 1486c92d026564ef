-- What slot and book have in common, and the facts that each event keeps of them.
-- Assumes nothing.
use Rattle.std.specs.Prelude.{Some, Ok}
use Prim.Native.Nat.{ℕ, zero, suc, ◌+◌, ◌≤◌, ◌<◌}
use mathlib.Core.Bool.{Bool, true, false, not, ◌&&◌, cond}
use mathlib.Core.Path.{◌≡◌, refl, ap, sym, ◌∙◌, subst}
use mathlib.Core.List.{[], ◌∷◌}
use native.Mathlib.Omega.{arith}
use lib.Dec.{eqb}
use borrow.Author.Tests.{leb-false}
use Rattle.base.specs.Limits.{duration_end, is_endless}
use Rattle.std.specs.List.{list_all}
use Rattle.base.proofs.Cases.{never}
use Rattle.seek.specs.declared.types.Sizes.{Sizes}
use Rattle.live.specs.New.{new_liveness}
use Rattle.live.specs.declared.types.Liveness.{Liveness}
use Rattle.rules.specs.Rules.{turn}
use Rattle.rules.specs.Step.{allowed}
use Rattle.rules.specs.Book.{Marks, Book, new_book}
use Rattle.rules.specs.Demand3.{Every, Carries, marks_of, search_of, Agrees}
use Rattle.rules.specs.declared.types.Settings.{Settings}
use Rattle.rules.specs.declared.types.Reply.TheVariants as reply
use Rattle.rules.specs.declared.types.Slot.{Slot}
use Rattle.rules.proofs.Line.{Lane, lane_of, out_count, Line, new_line}
use Rattle.halving.specs.Need.{span}
use Rattle.halving.specs.Moves as size
use Rattle.halving.specs.Moves.{move, MoveSends}
use Rattle.halving.proofs.Moves.{Kept, opened-kept, opened-under, out_of, by_move, Under}

-- slot and book: they agree; the ring is the waiting line; the search is within its budget, for any bound that full
-- allows; and what a link that carries just the sizes up to L leaves proven and lost
pub record Inv (t : Settings) (s : Slot) (b : Book) : Type 0 where
  pub agrees : Agrees s b
  pub line : Line t (lane_of s.path) b.probes (out_count s.path.sizes)
  pub whole : b.marks.full ≤ 65535
  pub sizing : (k : ℕ) → b.marks.full ≤ 27 + span k → Kept b.marks.full k b.sizing.tally
  pub limit : (L : ℕ) → Every (Carries L) b.sizing.words → Under L b.sizing.tally.search

-- a slot with no path, and one just opened
pub new-inv : (t : Settings) (s : Slot) (m : Marks) → s.path ≡ new_liveness → marks_of s.used s.label ≡ m
    → m.full ≤ 65535
    → Inv t s (new_book m)
new-inv t s m e a f =
    record {
      agrees = record {
        marks = a;
        search = ap (λ (p : Liveness). search_of p.sizes) e;
        probe = λ o. absurd (omega arith);
        probe_at = λ o. absurd (omega arith);
        next = λ o. ap (λ (p : Liveness). p.sizes.seek.at) e;
      };
      line = subst (λ (p : Liveness). Line t (lane_of p) (new_book m).probes (out_count p.sizes)) (sym e)
          (new_line t m);
      whole = f;
      sizing = λ k w. opened-kept m.full k;
      limit = λ L w. opened-under L;
    }

-- the book with what it has in common with the slot taken from there
abbrev pub align : Slot → Book → Book
align s b =
    record {
      marks = marks_of s.used s.label;
      probes = record {
        sent = b.probes.sent;
        timely = b.probes.timely;
        lapsed = b.probes.lapsed;
        swept = b.probes.swept;
        waiting = b.probes.waiting;
        heard = s.path.traffic.data_at;
        answered = s.path.ids.answered;
        drawn = b.probes.drawn;
      };
      sizing = record {
        tally = record {
          search = search_of s.path.sizes;
          cleared = b.sizing.tally.cleared;
          count =
              b.sizing.tally.count;
        };
        probe = b.sizing.probe;
        probe_at = b.sizing.probe_at;
        next = b.sizing.next;
        words = b.sizing.words;
      };
    }

pub aligned : (t : Settings) (s : Slot) (b : Book) → Inv t s b → align s b ≡ b
aligned t s b h = λ i.
    record {
      marks = h.agrees.marks i;
      probes = record {
        sent = b.probes.sent;
        timely = b.probes.timely;
        lapsed = b.probes.lapsed;
        swept = b.probes.swept;
        waiting = b.probes.waiting;
        heard = h.line.heard i;
        answered = h.line.answered i;
        drawn = b.probes.drawn;
      };
      sizing = record {
        tally = record {
          search = h.agrees.search i;
          cleared = b.sizing.tally.cleared;
          count =
              b.sizing.tally.count;
        };
        probe = b.sizing.probe;
        probe_at = b.sizing.probe_at;
        next = b.sizing.next;
        words = b.sizing.words;
      };
    }

-- ---- tests

pub and-true : (a b : Bool) → (a && b) ≡ true → (a ≡ true) × (b ≡ true)
and-true true b e = (refl, e)
and-true false b e = never {t = false} e refl

pub not-zero : (n : ℕ) → not (eqb n 0) ≡ true → 1 ≤ n
not-zero zero e = never {t = false} e refl
not-zero (suc n) e = omega arith

-- allowed settings
module _ (t : Settings) (small : allowed t ≡ true) where
  both : (a b : Bool) → (a && b) ≡ true → (a ≡ true) × (b ≡ true)
  both true b e = (refl, e)
  both false b e = never {t = false} e refl

  not-true : (a : Bool) → not a ≡ true → a ≡ false
  not-true true e = never {t = false} e refl
  not-true false e = refl

  abbrev rest : Bool
  rest = list_all (λ d. not (is_endless d)) (t.window ∷ t.horizon ∷ [])

  cap-and : (not (is_endless t.cap) ≡ true) × ((not (is_endless t.gap) && rest) ≡ true)
  cap-and = both (not (is_endless t.cap)) _ small

  pub cap-small : t.cap < duration_end
  cap-small = leb-false duration_end t.cap (not-true (is_endless t.cap) cap-and.0)

  pub gap-small : is_endless t.gap ≡ false
  gap-small = not-true (is_endless t.gap) (both (not (is_endless t.gap)) _ cap-and.1).0

-- ---- a slot and its aligned book

module _ (t : Settings) (s : Slot) (b₀ : Book) where
  abbrev b : Book
  b = align s b₀

  abbrev p : Liveness
  p = s.path

  abbrev z : Sizes
  z = s.path.sizes

  module _ (h : Inv t s b) where
    -- a path that differs in nothing that the book has
    pub same : (q : Liveness) → lane_of q ≡ lane_of p → q.sizes ≡ z → Inv t (turn s q (Ok reply.Nothing)).slot b
    same q f g =
        record {
          agrees = record {
            marks = refl;
            search = ap (λ (x : Sizes). search_of x) g;
            probe = λ o. ap (λ (x : Sizes). x.seek.probe_id) g ∙ h.agrees.probe o;
            probe_at = λ o. ap (λ (x : Sizes). x.seek.at) g ∙ h.agrees.probe_at o;
            next = λ o. ap (λ (x : Sizes). x.seek.at) g ∙ h.agrees.next o;
          };
          line =
              subst (λ (l : Lane). Line t l b.probes (out_count q.sizes)) (sym f)
              (subst (λ (x : Sizes). Line t (lane_of p) b.probes (out_count x)) (sym g) h.line);
          whole = h.whole;
          sizing = h.sizing;
          limit = h.limit;
        }

    -- the search after a move
    pub move-kept : (m : size.Move) → MoveSends s.label.full (search_of z) m
        → (k : ℕ) → s.label.full ≤ 27 + span k
        → Kept s.label.full k (move s.label.full b.sizing.tally m)
    move-kept m q k w = by_move s.label.full k w b.sizing.tally m q (h.sizing k w)

    -- where a probe is out something is proven, and the probe is no longer than full
    pub known : 1 ≤ z.seek.len → (z.seek.len ≤ s.label.full) × ((n : ℕ) × (z.proven ≡ Some n))
    known o = out_of s.label.full 11 b.sizing.tally (h.sizing 11 (omega (arith, h.whole))) o
