-- What a poll leaves of the waiting line: each probe by itself lapses, is deferred or stays; and the clause on polls.
-- Assumes nothing.
use Rattle.std.specs.Prelude.{◌&&◌}
use Rattle.std.specs.Prelude.{Option, None, Some}
use Prim.Native.Nat.{ℕ, ◌+◌, ◌≤◌}
use mathlib.Core.Bool.{Bool, true, false, cond}
use mathlib.Core.Logic.{inr, ⊎_elim}
use mathlib.Core.Path.{◌≡◌, refl, ap, sym, ◌∙◌, subst}
use mathlib.Core.List.{List, [], ◌∷◌, map}
use native.Mathlib.Omega.{arith}
use lib.Dec.{ltb}
use lib.ListN.{length, length-map}
use Rattle.std.specs.List.{list_all}
use Rattle.base.specs.Time.{deadline_of}
use Rattle.base.proofs.Cases.{on-flag, never}
use Rattle.base.proofs.BookLaws.{Holds}
use Rattle.ring.specs.Ring.{no_sent, is_used}
use Rattle.ring.specs.Lapse.{passed_at, is_passed, defer_of, with_due}
use Rattle.ring.specs.declared.types.Sent.{Sent}
use Rattle.ring.specs.declared.types.Ids.{Ids}
use Rattle.live.specs.declared.types.Traffic.{Traffic}
use Rattle.live.specs.declared.types.Liveness.{Liveness}
use Rattle.rules.specs.Book.{Wait, Probes, deferred_or, leave, pass_over}
use Rattle.rules.specs.Demand3.{Every, Stays}
use Rattle.rules.specs.declared.types.Settings.{Settings}
use Rattle.rules.specs.declared.types.Polling.{Polling}
use Rattle.rules.proofs.Poll.{pass, pass-map, Drained}
use Rattle.rules.proofs.Ids.{Known, known-less}
use Rattle.rules.proofs.Laws.{occ, occ-cons, and_first, and_second}
use Rattle.rules.proofs.Line.{Line, lane_of, Lane, probe_of, id_of, DueFrom, in_hand}

module _ (p : Sent → Bool) (d : Sent → Option ℕ) where
  abbrev deferred : Wait → ℕ → Wait
  deferred w u = record { probe = with_due w.probe u; given = w.given }

  -- what held of each before, or the poll shows, holds of each after
  pub pass-every : (Q R : Wait → Type 0) → ((x : Wait) → p x.probe ≡ false → Q x → R x)
      → ((x : Wait) (u : ℕ) → d x.probe ≡ Some u → Q x → R (deferred x u)) → (l : List Wait) → Every Q l
      → Every R (pass_over p d l)
  pass-every Q R f g [] h = tt
  pass-every Q R f g (x ∷ l) h =
      on-flag (p x.probe)
      (λ e. rw e (go (d x.probe) refl (pass-every Q R f g l h.1)))
      (λ e. rw e (f x e h.0, pass-every Q R f g l h.1))
    where
      go : (o : Option ℕ) → d x.probe ≡ o → Every R (pass_over p d l)
          → Every R (leave (deferred_or o) x (pass_over p d l))
      go None e r = r
      go (Some u) e r = (g x u e h.0, r)

  occ-less : (x y : ℕ) (l m : List ℕ) → occ x l ≤ occ x m → occ x (y ∷ l) ≤ occ x (y ∷ m)
  occ-less x y l m h = omega (arith, h, occ-cons x y l, occ-cons x y m)

  pub pass-occ : (x : ℕ) (l : List Wait) → occ x (map id_of (pass_over p d l)) ≤ occ x (map id_of l)
  pass-occ x [] = omega arith
  pass-occ x (y ∷ l) =
      on-flag (p y.probe)
      (λ e. rw e (go (d y.probe) (pass-occ x l)))
      (λ e. rw e (occ-less x (id_of y) (map id_of (pass_over p d l)) (map id_of l) (pass-occ x l)))
    where
      go : (o : Option ℕ) → occ x (map id_of (pass_over p d l)) ≤ occ x (map id_of l)
          → occ x (map id_of (leave (deferred_or o) y (pass_over p d l))) ≤ occ x (id_of y ∷ map id_of l)
      go None h = omega (arith, occ-cons x (id_of y) (map id_of l))
      go (Some u) h = occ-less x (id_of y) (map id_of (pass_over p d l)) (map id_of l) h

-- a probe is deferred to its cap deadline, which has not passed
pub defer-due : (o : Option ℕ) (cap now : ℕ) (overdue : Bool) (s : Sent) (u : ℕ)
    → defer_of o cap now overdue s ≡ Some u
    → (u ≡ deadline_of 64 s.at cap) × (passed_at now overdue (deadline_of 64 s.at cap) ≡ false)
defer-due None cap now overdue s u e = let z : true ≡ false = cc in never {t = true} refl z
defer-due (Some x) cap now overdue s u e =
    on-flag (ltb s.at x)
    (λ a.
    on-flag (passed_at now overdue (deadline_of 64 s.at cap))
    (λ c. let z : None ≡ Some u = rw (a, c) at e in let y : true ≡ false = cc in never {t = true} refl y)
    (λ c. let z : Some (deadline_of 64 s.at cap) ≡ Some u =
    rw (a, c) at e in (let y : u ≡ deadline_of 64 s.at cap = cc in y, c)))
    (λ a. let z : None ≡ Some u = rw a at e in let y : true ≡ false = cc in never {t = true} refl y)

abbrev polled_probes : Settings → Probes → ℕ → Bool → ℕ → Probes
polled_probes t b now overdue n =
    record {
      sent = b.sent;
      lapsed = n + b.lapsed;
      swept = b.swept;
      timely = b.timely;
      waiting = pass_over (is_passed now overdue) (defer_of b.heard t.cap now overdue) b.waiting;
      heard = b.heard;
      answered = b.answered;
      drawn = b.drawn;
    }

pub line-poll : (t : Settings) (q : Liveness) (b : Probes) (C : ℕ → ℕ) → Line t (lane_of q) b C
    → (now : ℕ) (overdue : Bool) (r : Polling)
    → Drained now overdue t.cap q (map probe_of b.waiting) r
    → Line t (lane_of r.path) (polled_probes t b now overdue r.lapses) C
line-poll t q b C h now overdue r d =
    let P : Sent → Bool = is_passed now overdue in
    let F : Option ℕ → Sent → Option ℕ = λ o. defer_of o t.cap now overdue in
    let left : List Wait = pass_over P (F b.heard) b.waiting in
    let same : pass P (F q.traffic.data_at) (map probe_of b.waiting) ≡ map probe_of left =
    ap (λ (o : Option ℕ). pass P (F o) (map probe_of b.waiting)) h.heard
    ∙ sym (pass-map P (F b.heard) b.waiting) in
    record {
      ring = subst (Holds is_used no_sent 8 r.path.ring) same d.ring;
      heard = ap (λ (x : Traffic). x.data_at) d.traffic ∙ h.heard;
      answered = ap (λ (x : Ids). x.answered) d.ids ∙ h.answered;
      sum = omega (arith, h.sum, d.count, ap length same, length-map left probe_of, length-map b.waiting probe_of);
      dues = pass-every P (F b.heard) (DueFrom t) (DueFrom t) (λ x e y. y)
          (λ x u e y. inr (defer-due b.heard t.cap now overdue x.probe u e).0) b.waiting h.dues;
      one = λ x. omega (arith, h.one x, pass-occ P (F b.heard) x b.waiting);
      old = subst (λ (o : Option ℕ). Known o b.drawn (in_hand (polled_probes t b now overdue r.lapses) C))
          (sym (ap (λ (x : Ids). x.next_id) d.ids))
          (known-less q.ids.next_id b.drawn (in_hand b C) (in_hand (polled_probes t b now overdue r.lapses) C)
          (λ x. omega (arith, pass-occ P (F b.heard) x b.waiting)) h.old);
    }

-- the clause on polls: what a poll leaves waiting
every-used : (l : List Wait) → list_all is_used (map probe_of l) ≡ true → Every (λ (x : Wait). is_used x.probe ≡ true) l
every-used [] e = tt
every-used (x ∷ l) e = go x.probe.used refl e (every-used l)
  where
    go : (u : Bool) → x.probe.used ≡ u → (u && list_all is_used (map probe_of l)) ≡ true
        → (list_all is_used (map probe_of l) ≡ true → Every (λ (y : Wait). is_used y.probe ≡ true) l)
        → (x.probe.used ≡ true) × Every (λ (y : Wait). is_used y.probe ≡ true) l
    go true f e k = (f, k e)
    go false f e k = let y : false ≡ true = e in never {t = false} y refl

both-every : (Q R : Wait → Type 0) (l : List Wait) → Every Q l → Every R l → Every (λ (x : Wait). Q x × R x) l
both-every Q R [] h k = tt
both-every Q R (x ∷ l) h k = ((h.0, k.0), both-every Q R l h.1 k.1)

pub stays : (t : Settings) (p : Lane) (b : Probes) (C : ℕ → ℕ) (now : ℕ) (overdue : Bool) → Line t p b C
    → Every (Stays t now overdue)
    (pass_over (is_passed now overdue) (defer_of b.heard t.cap now overdue) b.waiting)
stays t p b C now overdue h =
    let P : Sent → Bool = is_passed now overdue in
    let F : Sent → Option ℕ = defer_of b.heard t.cap now overdue in
    let used : Every (λ (x : Wait). is_used x.probe ≡ true) b.waiting = every-used b.waiting h.ring.used in
    pass-every P F (λ (x : Wait). DueFrom t x × (is_used x.probe ≡ true)) (Stays t now overdue)
    (λ x f k.
    let due : passed_at now overdue x.probe.due ≡ false =
    sym (ap (λ (u : Bool). cond u (passed_at now overdue x.probe.due) false) k.1) ∙ f in
    ⊎_elim
    (λ q. and_first _ _ (sym (ap (passed_at now overdue) q) ∙ due))
    (λ q. and_second (passed_at now overdue x.given) _ (sym (ap (passed_at now overdue) q) ∙ due))
    k.0)
    (λ x u f k. and_second (passed_at now overdue x.given) _
    (defer-due b.heard t.cap now overdue x.probe u f).1)
    b.waiting
    (both-every (DueFrom t) (λ (x : Wait). is_used x.probe ≡ true) b.waiting h.dues used)
