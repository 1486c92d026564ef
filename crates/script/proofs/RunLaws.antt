-- One turn of a script after the other: what is left to run from here gives what the whole gives.
-- Assumes nothing.
use Prim.Native.Nat.{ℕ, zero, suc, ◌+◌, ◌-◌, ◌*◌, ◌/◌, ◌%◌, ◌<◌, ◌≤◌}
use mathlib.Core.Path.{◌≡◌, sym, ap, ◌∙◌}
use mathlib.Core.List.{List, [], ◌++◌, append-nil, append_assoc}
use native.Mathlib.Omega.{arith}
use borrow.Author.Tests.{lt-ltb, le-ltb, eq-eqb, ne_eqb}
use borrow.Rule.Slice.PartMut.{mid_of, put_mid}
use lib.ListN.{length, drop, length-append, length-drop}
use lib.Seq.{drop-drop, take_all}
use native.Mathlib.Nat.{le_of_eq}
use Rattle.base.proofs.Cases.{on-order}
use Rattle.base.specs.Refusals.{refusal_number}
use Rattle.base.specs.declared.types.Refusal.TheVariants.{Cut, Lent}
use Rattle.octets.specs.Octets.{le, flat, words_of, over}
use Rattle.octets.proofs.Fill.{Filled, fill, filled-over, flat-length, flat_append, le-length, over-fits, over-not, nothing}
use Rattle.image.specs.Image.{image_of}
use Rattle.live.specs.New.{new_liveness}
use Rattle.live.specs.declared.types.Liveness.{Liveness}
use Rattle.script.specs.Calls.{call_of}
use Rattle.script.specs.Run.{call_from, calls_of, run_of, answers_of, bytes_of, script_number, script_out}
use Rattle.script.specs.declared.types.Call.{Call}
use Rattle.script.specs.declared.types.Called.{Called}

-- a script s, of which the calls before `at` have been carried out, their answers written over the front of l₀, and the
-- path is p
pub record Running (s l₀ l : List ℕ) (p : Liveness) (at : ℕ) : Type 0 where
  pub left : ℕ
  pub long : at + 48 * left ≡ length s
  pub room : length s + 1800 ≤ length l₀
  pub front : List ℕ
  pub filled : Filled l₀ front l at
  pub answers : front ++ words_of (answers_of p (calls_of left (drop at s))) ≡ words_of (answers_of new_liveness (calls_of (length s / 48) s))
  pub final : run_of p (calls_of left (drop at s)) ≡ run_of new_liveness (calls_of (length s / 48) s)

pub running-start : {s l : List ℕ} {p : Liveness} → length s % 48 ≡ 0 → length s + 1800 ≤ length l → p ≡ new_liveness → Running s l l p 0
running-start {s} {l} {p} h k e =
    record {
      left = length s / 48;
      long = omega arith;
      room = k;
      front = [];
      filled = nothing l;
      answers = rw e;
      final = rw e;
    }

-- the tail of a script, as a part of it is lent
pub tail_from : (s : List ℕ) (at : ℕ) → mid_of at (length s - at) s ≡ drop at s
tail_from s at = take_all (length s - at) (drop at s) (le_of_eq (length-drop at s))

-- lent bytes stay as many
pub over-length : (b l : List ℕ) → length (over b l) ≡ length l
over-length b l =
    on-order (length l) (length b)
    (λ h. ap length (over-not b l h))
    (λ h. ap length (over-fits b l h) ∙ length-append b (drop (length b) l) ∙ omega (arith, length-drop (length b) l))

-- a call is carried out, and its six numbers are written
module _ {s l₀ l : List ℕ} {p : Liveness} {at : ℕ} (r : Running s l₀ l p at) (h : at < length s) where
  step : (n : ℕ) → r.left ≡ suc n → {c : Call} {d : Called} {m : List ℕ} → c ≡ call_from (drop at s) → d ≡ call_of p c → length d.words ≡ 6
      → m ≡ over (words_of d.words) (mid_of at (length l - at) l) → Running s l₀ (put_mid at (length l - at) l m) d.path (at + 48)
  step n e {c} {d} {m} a b w f =
      let t : length (words_of d.words) ≡ 48 = flat-length (le 8) 8 (le-length 8) d.words ∙ omega (arith, w) in
      let g : Filled l₀ (r.front ++ words_of d.words) (put_mid at (length l - at) l m) (at + length (words_of d.words)) =
      fill (words_of d.words) r.filled (omega (arith, t, r.long, r.room)) f in
      let q : call_of p (call_from (drop at s)) ≡ d = ap (call_of p) (sym a) ∙ sym b in
      let x : front-words r.left ≡ words_of (answers_of new_liveness (calls_of (length s / 48) s)) = r.answers in
      let y : run_of p (calls_of r.left (drop at s)) ≡ run_of new_liveness (calls_of (length s / 48) s) = r.final in
      record {
        left = n;
        long = omega (arith, e, r.long);
        room = r.room;
        front = r.front ++ words_of d.words;
        filled = rw (sym t) g;
        answers = more n d q (rw e at x);
        final = after n d q (rw e at y);
      }
    where
      front-words : ℕ → List ℕ
      front-words k = r.front ++ words_of (answers_of p (calls_of k (drop at s)))

      more : (n : ℕ) (d : Called) → call_of p (call_from (drop at s)) ≡ d
          → r.front ++ words_of (answers_of p (calls_of (suc n) (drop at s))) ≡ words_of (answers_of new_liveness (calls_of (length s / 48) s))
          → (r.front ++ words_of d.words) ++ words_of (answers_of d.path (calls_of n (drop (at + 48) s))) ≡ words_of (answers_of new_liveness (calls_of (length s / 48) s))
      more n d q x =
          append_assoc r.front (words_of d.words) (words_of (answers_of d.path (calls_of n (drop (at + 48) s))))
          ∙ ap (λ (z : List ℕ). r.front ++ z) (sym (flat_append (le 8) d.words (answers_of d.path (calls_of n (drop (at + 48) s)))))
          ∙ ap (λ (z : List ℕ). r.front ++ words_of (d.words ++ answers_of d.path (calls_of n z))) (sym (drop-drop 48 at s))
          ∙ ap (λ (z : Called). r.front ++ words_of (z.words ++ answers_of z.path (calls_of n (drop 48 (drop at s))))) (sym q)
          ∙ x

      after : (n : ℕ) (d : Called) → call_of p (call_from (drop at s)) ≡ d
          → run_of p (calls_of (suc n) (drop at s)) ≡ run_of new_liveness (calls_of (length s / 48) s)
          → run_of d.path (calls_of n (drop (at + 48) s)) ≡ run_of new_liveness (calls_of (length s / 48) s)
      after n d q y =
          ap (λ (z : List ℕ). run_of d.path (calls_of n z)) (sym (drop-drop 48 at s))
          ∙ ap (λ (z : Called). run_of z.path (calls_of n (drop 48 (drop at s)))) (sym q)
          ∙ y

  pub running-next : {c : Call} {d : Called} {m : List ℕ} → c ≡ call_from (drop at s) → d ≡ call_of p c → length d.words ≡ 6
      → m ≡ over (words_of d.words) (mid_of at (length l - at) l) → Running s l₀ (put_mid at (length l - at) l m) d.path (at + 48)
  running-next a b w f = step (r.left - 1) (omega (arith, r.long)) a b w f

-- the image behind the answers
pub running-done : {s l₀ l m : List ℕ} {p : Liveness} {at : ℕ} → Running s l₀ l p at → length s ≤ at → length (image_of p) ≡ 1800
    → m ≡ over (image_of p) (mid_of at (length l - at) l) → put_mid at (length l - at) l m ≡ over (bytes_of (calls_of (length s / 48) s)) l₀
unfolding flat
running-done {s} {l₀} {l} {m} {p} {at} r h w f = go r.left (omega (arith, r.long)) r.answers r.final
  where
    go : (n : ℕ) → n ≡ 0 → r.front ++ words_of (answers_of p (calls_of n (drop at s))) ≡ words_of (answers_of new_liveness (calls_of (length s / 48) s))
        → run_of p (calls_of n (drop at s)) ≡ run_of new_liveness (calls_of (length s / 48) s)
        → put_mid at (length l - at) l m ≡ over (bytes_of (calls_of (length s / 48) s)) l₀
    go zero e x y =
        let g : Filled l₀ (r.front ++ image_of p) (put_mid at (length l - at) l m) (at + length (image_of p)) =
        fill (image_of p) r.filled (omega (arith, w, r.long, r.room)) f in
        let a : r.front ≡ words_of (answers_of new_liveness (calls_of (length s / 48) s)) = sym (append-nil r.front) ∙ x in
        filled-over g ∙ ap (λ (z : List ℕ). over (z ++ image_of p) l₀) a
        ∙ ap (λ (z : Liveness). over (words_of (answers_of new_liveness (calls_of (length s / 48) s)) ++ image_of z) l₀) y
    go (suc n) e x y = absurd (omega arith)

-- the refusals
module _ (s l : List ℕ) where
  pub script-cut : {r : ℕ} → (length s % 48 ≡ 0 → ⊥) → r ≡ refusal_number Cut → (r ≡ script_number s (length l)) × (l ≡ script_out s l)
  unfolding script_number script_out
  script-cut h q = let e = ne_eqb (length s % 48) 0 h in (rw e q, rw e)

  module _ (h : length s % 48 ≡ 0) where
    pub script-lent : {r : ℕ} → length l < length s + 1800 → r ≡ refusal_number Lent → (r ≡ script_number s (length l)) × (l ≡ script_out s l)
    unfolding script_number script_out
    script-lent k q =
        let e = eq-eqb (length s % 48) 0 h in
        let f = lt-ltb (length l) (length s + 1800) k in
        (rw (e, f) q, rw (e, f))

    pub script-done : {m : List ℕ} → length s + 1800 ≤ length l → m ≡ over (bytes_of (calls_of (length s / 48) s)) l
        → (0 ≡ script_number s (length l)) × (m ≡ script_out s l)
    unfolding script_number script_out
    script-done k q =
        let e = eq-eqb (length s % 48) 0 h in
        let f = le-ltb (length l) (length s + 1800) k in
        (rw (e, f), rw (e, f) q)
