-- Laws of the records: equal bytes, and the part of the bytes from a place on.
-- Assumes nothing.
use Rattle.std.proofs.Common.{◌≡◌, ℕ, ◌-◌, Bool, true, false, ◌&&◌, T, eqb, List, [], ◌∷◌, length, take, drop, replicate, sym, refl, ap, ◌∙◌, subst, le_of_eq, length-drop, take_all, eq-eqb, eqb-true}
use borrow.Rule.Slice.PartMut.{mid_of}
use lib.Ieee.{Float}
use Rattle.octets.specs.Octets.{read_at}
use Rattle.total.specs.Patterns.{float_of}
use Rattle.script.specs.Run.{script_number, script_out}
use Rattle.c_choice.specs.Choice.{choose_reply, best_reply, best_out}
use Rattle.c_reply.specs.declared.Reply.{Reply}
use Rattle.replay.specs.Replay.{alike, is_reply, script_agrees, choose_agrees, best_agrees}

no_true : false ≡ true → ⊥
no_true e = subst T (sym e) tt

both : (a b : Bool) → (a && b) ≡ true → (a ≡ true) × (b ≡ true)
both true b e = (refl, e)
both false b e = absurd (no_true e)

-- bytes are like themselves
pub alike_self : (l : List ℕ) → alike l l ≡ true
alike_self [] = refl
alike_self (x ∷ l) = rw (eq-eqb x x refl, alike_self l)

-- and like no others
pub alike_same : (l m : List ℕ) → alike l m ≡ true → l ≡ m
alike_same [] [] e = refl
alike_same [] (y ∷ m) e = absurd (no_true e)
alike_same (x ∷ l) [] e = absurd (no_true e)
alike_same (x ∷ l) (y ∷ m) e =
    let h : (eqb x y ≡ true) × (alike l m ≡ true) = both (eqb x y) (alike l m) e in
    λ i. eqb-true x y h.0 i ∷ alike_same l m h.1 i

-- what tells equal bytes from others is `alike`
told : (r s : Bool) → (r ≡ true → s ≡ true) → (s ≡ true → r ≡ true) → r ≡ s
told true true f g = refl
told true false f g = sym (f refl)
told false true f g = g refl
told false false f g = refl

pub alike-told : (l m : List ℕ) (r : Bool) → (r ≡ true → l ≡ m) × (l ≡ m → r ≡ true) → r ≡ alike l m
alike-told l m r (f, g) =
    told r (alike l m) (λ e. ap (alike l) (sym (f e)) ∙ alike_self l) (λ e. g (alike_same l m e))

pub tail_from : (s : List ℕ) (at : ℕ) → mid_of at (length s - at) s ≡ drop at s
tail_from s at = take_all (length s - at) (drop at s) (le_of_eq (length-drop at s))

-- a whole script: the number and the bytes that were written tell whether it agrees
pub script-done : (s : List ℕ) {out tail : List ℕ} {number : ℕ} {same : Bool}
    → length s ≡ 7944
    → number ≡ script_number (take 3072 s) 4872
    → out ≡ script_out (take 3072 s) (replicate 4872 0)
    → tail ≡ drop 3072 s
    → (same ≡ true → out ≡ tail) × (out ≡ tail → same ≡ true)
    → (eqb number 0 && same) ≡ script_agrees s
unfolding script_agrees
script-done s {out} {tail} {number} {same} n e p q t =
    rw (eq-eqb _ _ n) (λ i. eqb (e i) 0 && (alike-told out tail same t ∙ (λ j. alike (p j) (q j))) i)

-- the reply to a field
pub choose-done : (s : List ℕ) {bits number value : ℕ} {margin : Float} {reply : Reply} {r : Bool}
    → length s ≡ 816
    → bits ≡ read_at 768 8 s
    → margin ≡ float_of bits
    → reply ≡ choose_reply (take 768 s) margin
    → number ≡ read_at 776 8 s
    → value ≡ read_at 784 8 s
    → r ≡ is_reply reply number value
    → r ≡ choose_agrees s
unfolding choose_agrees
choose-done s n b m e x y z = rw (eq-eqb _ _ n, z, x, y, e, m, b)

-- the best of a field, and what is written of it
pub best-done : (s : List ℕ) {out tail : List ℕ} {number given : ℕ} {same : Bool}
    → length s ≡ 816
    → number ≡ best_reply (take 768 s) 16
    → given ≡ read_at 792 8 s
    → out ≡ best_out (take 768 s) (replicate 16 0)
    → tail ≡ drop 800 s
    → (same ≡ true → out ≡ tail) × (out ≡ tail → same ≡ true)
    → (eqb number given && same) ≡ best_agrees s
unfolding best_agrees
best-done s {out} {tail} {number} {given} {same} n e g p q t =
    rw (eq-eqb _ _ n) (λ i. eqb (e i) (g i) && (alike-told out tail same t ∙ (λ j. alike (p j) (q j))) i)
