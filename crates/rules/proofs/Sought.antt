-- The events of the size search: prove, search, judge and fresh.
-- Assumes nothing.
use Rattle.std.specs.Prelude.{Option, None, Some, Result, Ok, Err}
use Prim.Native.Nat.{ℕ, ◌≤◌}
use mathlib.Core.Bool.{Bool, true, false, not, ◌&&◌, ◌||◌, cond}
use mathlib.Core.Path.{◌≡◌, refl, ap, sym, ◌∙◌, subst}
use mathlib.Core.List.{[], ◌∷◌}
use native.Mathlib.Omega.{arith}
use lib.Dec.{eqb}
use borrow.Author.Tests.{eqb-true, eq-eqb}
use Rattle.base.specs.Limits.{min_len, is_overlong, is_undersize, is_endless}
use Rattle.base.specs.Time.{deadline_of}
use Rattle.base.specs.declared.types.Refusal.{Refusal}
use Rattle.base.specs.declared.types.Refusal.TheVariants as refusal
use Rattle.base.proofs.Cases.{on-flag, never, cond_cases}
use Rattle.ring.specs.Ids.{taken_of}
use Rattle.seek.specs.Rules.{known_of}
use Rattle.seek.specs.Search as search
use Rattle.seek.specs.declared.types.Sizes.{Sizes}
use Rattle.seek.specs.declared.types.Judged.{Judged}
use Rattle.live.specs.Path.{with_sizes}
use Rattle.live.specs.Probe.{take_id_of}
use Rattle.live.specs.Search as live
use Rattle.live.specs.declared.types.Outcome.{Outcome}
use Rattle.live.specs.declared.types.Answer.{Answer}
use Rattle.live.specs.declared.types.Liveness.{Liveness}
use Rattle.rules.specs.Rules.{turn, turn_by, searched}
use Rattle.rules.specs.Book.{Book, noted, is_loss}
use Rattle.rules.specs.Demand3.{search_of}
use Rattle.rules.specs.declared.types.Settings.{Settings}
use Rattle.rules.specs.declared.types.Event.{Event}
use Rattle.rules.specs.declared.types.Reply.TheVariants as reply
use Rattle.rules.specs.declared.types.Slot.{Slot}
use Rattle.rules.specs.declared.types.Turn.{Turn}
use Rattle.rules.proofs.Laws.{or-false, occ}
use Rattle.rules.proofs.Turns.{Next, refused, with_kind, Work}
use Rattle.rules.proofs.Line.{Lane, lane_of, out_count, none-count, Line, line-less, line-search}
use Rattle.rules.proofs.Agree.{Inv, align, same, move-kept, known, and-true, not-zero}
use Rattle.rules.proofs.Sizing.{judged-is, judged-next, proposal-some, send-is}
use Rattle.halving.specs.Moves as size
use Rattle.halving.specs.Moves.{move}
use Rattle.halving.proofs.Moves.{under-move}
use Rattle.halving.proofs.Cases.{none-some}

module _ (t : Settings) (s : Slot) (b₀ : Book) where
  abbrev pub b : Book
  b = align s b₀

  abbrev pub p : Liveness
  p = s.path

  abbrev pub z : Sizes
  z = s.path.sizes

  module _ (h : Inv t s b) (e₀ : Event) where
    abbrev now : ℕ
    now = e₀.now

    abbrev e : ℕ → Event
    e = with_kind e₀

    abbrev N : ℕ → Turn → Type 0
    N k u = Next (Inv t) t b (e k) u

    no : (k : ℕ) (why : Refusal) → N k (turn s p (Err why))
    no k why = refused (Inv t) t s b h (e k) why

    abbrev T : size.Tally
    T = b.sizing.tally

    -- ---- fresh and prove

    pub by-fresh : Work t s e₀ N 11
    unfolding noted
    by-fresh ok few =
        record {
          agrees = record {
            marks = refl;
            search = refl;
            probe = λ o. absurd (omega arith);
            probe_at = λ o. absurd (omega arith);
            next = λ o. refl;
          };
          line = line-less t (lane_of p) b.probes (out_count z) (λ x. 0) (λ x. omega arith) h.line;
          whole = h.whole;
          sizing = move-kept t s b₀ h size.Fresh tt;
          limit = λ L w. under-move L s.label.full T size.Fresh (h.limit L w) tt;
        }

    proved-kept : is_undersize e₀.len ≡ false
        → N 7 (turn s (with_sizes p (search.proven_sizes z e₀.len).sizes) (Ok reply.Nothing))
    unfolding noted
    proved-kept g few =
        let q : (move s.label.full T (size.Prove e₀.len)).search ≡ search_of
        (search.proven_sizes z e₀.len).sizes = rw g in
        let out : (move s.label.full T (size.Prove e₀.len)).search.out ≡ z.seek.len =
        ap (λ (x : size.Search). x.out) q in
        record {
          agrees = record {
            marks = refl;
            search = sym q;
            probe = λ y. h.agrees.probe (omega (arith, out));
            probe_at = λ y. h.agrees.probe_at (omega (arith, out));
            next = λ y. h.agrees.next (omega (arith, out));
          };
          line = h.line;
          whole = h.whole;
          sizing = move-kept t s b₀ h (size.Prove e₀.len) tt;
          limit = λ L w. under-move L s.label.full T (size.Prove e₀.len) (h.limit L w.1) w.0;
        }

    pub by-prove : Work t s e₀ N 7
    unfolding live.prove_of
    by-prove ok =
        let r = or-false (is_overlong e₀.len || false) (is_undersize e₀.len) ok.1.1.1.1.1.0 in
        cond_cases (λ (x : Outcome). N 7 (turn s x.path (Ok reply.Nothing))) (is_overlong e₀.len) _ _
        (λ f. never f (or-false (is_overlong e₀.len) false r.0).0)
        (λ f. cond_cases (λ (x : Outcome). N 7 (turn s x.path (Ok reply.Nothing))) (is_undersize e₀.len) _ _
        (λ g. never g r.1) proved-kept)

    -- ---- search

    -- a size is proposed
    abbrev pub Proposes : ℕ → Type 0
    Proposes n =
        (z.seek.len ≡ 0) × (search.propose_of z.seek.lost z.proven s.label.full ≡ Some n)
        × (search.may_try z.seek.at now ≡ true)

    proposes : (n : ℕ) → search.search_size z s.label.full now ≡ Some n → Proposes n
    unfolding search.search_size
    proposes n q = go (eqb z.seek.len 0) (search.may_try z.seek.at now) refl refl q
      where
        go : (f g : Bool) → eqb z.seek.len 0 ≡ f → search.may_try z.seek.at now ≡ g
            → cond (f && g) (search.propose_of z.seek.lost z.proven s.label.full) None ≡ Some n
            → Proposes n
        go true true f k q = (eqb-true z.seek.len 0 f, q, k)
        go true false f k q = none-some q
        go false g f k q = none-some q

    pub proposed-is : (n : ℕ) → Proposes n → size.proposed s.label.full (search_of z) ≡ Some n
    proposed-is n q = rw (eq-eqb z.seek.len 0 q.0) q.1

    out-most : (n v x : ℕ) → cond (eqb n 0) 0 (occ x (v ∷ [])) ≤ occ x (v ∷ [])
    out-most n v x = cond_cases (λ (m : ℕ). m ≤ occ x (v ∷ [])) (eqb n 0) 0 (occ x (v ∷ [])) (λ f. omega arith)
        (λ f. omega arith)

    searched-kept : (n : ℕ) → Proposes n
        → N 8 (turn_by s (live.seek_sent_at (take_id_of p e₀.id).path now n (take_id_of p e₀.id).id))
    unfolding noted search.sent_search
    searched-kept n q few =
        let v : ℕ = taken_of p.ids.next_id e₀.id in
        let sent = send-is z T.cleared T.count s.label.full n q.0 q.1 in
        record {
          agrees = record {
            marks = refl;
            search = sym (ap (λ (x : size.Tally). x.search) sent);
            probe = λ o. refl;
            probe_at = λ o. refl;
            next = λ o. absurd (omega (
              arith,
              ap (λ (x : size.Tally). x.search.out) sent,
              proposal-some z.seek.lost z.proven s.label.full n q.1,
            ));
          };
          line =
              line-search t (lane_of p) b.probes (out_count z) h.line e₀.id
              (λ x. cond (eqb n 0) 0 (occ x (v ∷ [])))
              (out-most n (taken_of p.ids.next_id e₀.id)) few;
          whole = h.whole;
          sizing = move-kept t s b₀ h size.Send (n, proposed-is n q);
          limit = λ L w. under-move L s.label.full T size.Send (h.limit L w) tt;
        }

    -- the cases of a search: refused, or a size is proposed and sent
    module _ (Q : Turn → Type 0) (no : (why : Refusal) → Q (turn s p (Err why)))
        (yes : (n : ℕ) → Proposes n
        → Q (turn_by s (live.seek_sent_at (take_id_of p e₀.id).path now n (take_id_of p e₀.id).id))) where
      size-cases : (o : Option ℕ) → ((n : ℕ) → o ≡ Some n → Proposes n)
          → Q (searched (live.len_or refusal.NoSize o) s (e 8))
      unfolding live.seek_send_of
      size-cases None q = no refusal.NoSize
      size-cases (Some n) q =
          cond_cases (λ (x : Outcome). Q (turn_by s x)) (is_overlong n) _ _
          (λ f. no refusal.Length) (λ f. yes n (q n refl))

      pub search-cases : Q (searched (live.seek_size_of p s.label.full now) s (e 8))
      unfolding live.seek_size_of
      search-cases =
          cond_cases (λ (x : Result Answer Refusal). Q (searched x s (e 8))) (is_overlong s.label.full) _ _
          (λ f. no refusal.Length)
          (λ f. cond_cases (λ (x : Result Answer Refusal). Q (searched x s (e 8))) (is_undersize s.label.full) _ _
          (λ g. no refusal.Length)
          (λ g. size-cases (search.search_size z s.label.full now) proposes))

    pub by-search : Work t s e₀ N 8
    by-search ok = search-cases (N 8) (no 8) searched-kept

    -- ---- judge

    abbrev pub lost_by : Option ℕ → Bool
    lost_by a = search.judges_of z.seek a p.ids.answered now e₀.span

    abbrev pub lost : Bool
    lost = lost_by z.seek.at

    -- a search probe that is lost was out
    lost-out : (a : Option ℕ) → lost_by a ≡ true → 1 ≤ z.seek.len
    lost-out None q = never {t = false} q refl
    lost-out (Some a) q = not-zero z.seek.len (and-true (not (eqb z.seek.len 0)) _ q).0

    -- the book says the same
    pub loss-is : is_loss b (e 9) ≡ lost
    loss-is = on-flag (eqb z.seek.len 0) (λ f. none_here f ∙ sym (none_out z.seek.at f)) some_out
      where
        none_out : (a : Option ℕ) → eqb z.seek.len 0 ≡ true → lost_by a ≡ false
        none_out None f = refl
        none_out (Some a) f = rw f

        none_here : eqb z.seek.len 0 ≡ true → is_loss b (e 9) ≡ false
        none_here f = rw f

        some_out : eqb z.seek.len 0 ≡ false → is_loss b (e 9) ≡ lost
        some_out f =
            let o : 1 ≤ z.seek.len = not-zero z.seek.len (rw f) in
            ap (λ (n : ℕ). not (eqb z.seek.len 0)
            && search.lost_now b.sizing.probe_at n p.ids.answered now e₀.span) (sym (h.agrees.probe o))
            ∙ ap lost_by (sym (h.agrees.probe_at o))

    lost-kept : (q : Liveness) → lost ≡ true → lane_of q ≡ lane_of p
        → search_of q.sizes ≡ (move s.label.full T size.Judge).search
        → q.sizes.seek.at ≡ cond (size.clearing (search_of z) size.Judge)
        (Some (deadline_of 64 now search.raise_gap)) (Some (deadline_of 64 b.sizing.probe_at t.gap))
        → q.sizes.seek.len ≡ 0 → N 9 (turn s q (Ok reply.Lost))
    unfolding noted
    lost-kept q l f g m n =
        let none : (move s.label.full T size.Judge).search.out ≡ 0 = sym (ap (λ (x : size.Search). x.out) g) ∙ n in
        rw (loss-is ∙ l) (λ few.
        record {
          agrees = record {
            marks = refl;
            search = g;
            probe = λ y. absurd (omega (arith, none));
            probe_at = λ y. absurd (omega (arith, none));
            next = λ y. m;
          };
          line =
              line-less t (lane_of q) b.probes (out_count z) (out_count q.sizes) (none-count q.sizes z n)
              (subst (λ (l : Lane). Line t l b.probes (out_count z)) (sym f) h.line);
          whole = h.whole;
          sizing = move-kept t s b₀ h size.Judge tt;
          limit = λ L w. under-move L s.label.full T size.Judge (h.limit L w.1) (λ y. w.0);
        })

    waits_kept : lost ≡ false → N 9 (turn s p (Ok reply.Waits))
    unfolding noted
    waits_kept q = rw (loss-is ∙ q) (λ few. same t s b₀ h p refl refl)

    -- the cases of a judge: refused, lost, or it waits
    module _ (Q : Turn → Type 0) (no : Q (turn s p (Err refusal.Duration)))
        (yes : lost ≡ true → Q (turn s
        (with_sizes p (search.drop_of z (known_of min_len z.proven) now t.gap).sizes) (Ok reply.Lost)))
        (wait : lost ≡ false → Q (turn s p (Ok reply.Waits))) where
      pub judge-cases : Q (turn_by s (live.seek_judge_of p now e₀.span t.gap))
      unfolding live.seek_judge_of search.judged_search
      judge-cases =
          cond_cases (λ (x : Outcome). Q (turn_by s x)) (is_endless e₀.span) _ _ (λ f. no)
          (λ f. cond_cases (λ (x : Outcome). Q (turn_by s x)) (is_endless t.gap) _ _ (λ g. no)
          (λ g. cond_cases (λ (x : Judged). Q (turn_by s (live.judged_by p x))) lost _ _ yes wait))

    pub by-judge : Work t s e₀ N 9
    by-judge ok =
        judge-cases (N 9) (no 9 refusal.Duration)
        (λ q.
        let some : 1 ≤ z.seek.len = lost-out z.seek.at q in
        let k = known t s b₀ h some in
        lost-kept (with_sizes p (search.drop_of z (known_of min_len z.proven) now t.gap).sizes) q refl
        (judged-is z T.cleared T.count s.label.full some k.1.0 k.1.1 now t.gap)
        (judged-next z T.cleared T.count s.label.full some k.1.0 k.1.1 now t.gap
        b.sizing.probe_at (h.agrees.probe_at some)) refl)
        waits_kept
