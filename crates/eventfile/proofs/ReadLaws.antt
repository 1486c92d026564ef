-- One record: how far it reaches; the bytes behind it do not matter, and its place only counts.
-- Assumes nothing.
use Prim.Native.Nat.{ℕ, ◌+◌, ◌-◌, ◌<◌, ◌≤◌}
use mathlib.Core.Path.{◌≡◌, refl, sym, ap, ◌∙◌, subst}
use mathlib.Core.Bool.{Bool, true, false, cond}
use mathlib.Core.List.{List, [], ◌∷◌, ◌++◌}
use native.Mathlib.Omega.{arith}
use native.Mathlib.Nat.{le_of_eq, add_assoc, add-zero}
use borrow.Author.Tests.{le-ltb}
use borrow.Rule.Slice.PartMut.{mid_of}
use lib.Dec.{ltb}
use lib.ListN.{length, drop, get_or, length-append, length-drop, drop_of_length-le, get_or-append}
use lib.Seq.{take_all, drop-append-le, drop-append_seam, drop-drop, length-take-le}
use Rattle.base.specs.Refusals.{refusal_number}
use Rattle.base.specs.declared.types.Refusal.{Refusal}
use Rattle.base.specs.declared.types.Refusal.TheVariants as refusal
use Rattle.base.proofs.Cases.{on-order, on-flag}
use Rattle.octets.specs.Octets.{read_at}
use Rattle.octets.proofs.Read.{read_more}
use Rattle.rules.specs.declared.types.Event.{Event}
use Rattle.eventfile.specs.File.{stands, bytes, now_at, span_at, id_at, len_at, acked_at, flags_at, record_size, field}
use Rattle.eventfile.specs.File.{event_of, is_kindless, is_stray, front_by, front_of, from, parse_of}
use Rattle.eventfile.specs.declared.types.Parse.{Parse}
use Rattle.eventfile.specs.declared.types.Parse.TheVariants as parse
use Rattle.eventfile.proofs.FrontLaws.{front-some, by-cut, by_kind, by_map, by-event}

-- ---- how far a record reaches

-- what is known of the bytes by what they begin with: the record is there whole unless it was refused by 13
abbrev pub Reach : List ℕ → Parse → Type 0
Reach l parse.End = length l ≡ 0
Reach l (parse.Event e size) = (3 ≤ size) × (size ≤ length l) × (record_size (get_or l 0 0) ≤ length l)
Reach l (parse.Refused why kind) = (0 < length l) × ((refusal_number why ≡ 13 → ⊥) → record_size (get_or l 0 0) ≤ length l)

pub front-reach : (l : List ℕ) → Reach l (front_of l)
unfolding front_of
front-reach [] = refl
front-reach (map ∷ l) = go (get_or l 0 0)
  where
    go : (kind : ℕ) → Reach (map ∷ l) (front_by map kind (map ∷ l))
    go kind =
        let b = map ∷ l in
        on-order (length b) (record_size map)
        (λ h. subst (Reach b) (by-cut map kind b h) (omega arith, λ n. absurd (n refl)))
        (λ h. on-flag (is_kindless kind)
        (λ p. subst (Reach b) (by_kind map kind b h p) (omega arith, λ n. h))
        (λ p. on-flag (is_stray map kind)
        (λ q. subst (Reach b) (by_map map kind b h p q) (omega arith, λ n. h))
        (λ q. subst (Reach b) (by-event map kind b h p q) (omega arith, h, h))))

-- ---- a place only counts

-- the same by the part of lent bytes from the place on
pub parse-part : (l : List ℕ) (at : ℕ) {p : Parse} → p ≡ front_of (mid_of at (length l - at) l) → from at p ≡ parse_of l at
unfolding parse_of
parse-part l at e =
    let m : mid_of at (length l - at) l ≡ drop at l =
    take_all (length l - at) (drop at l) (le_of_eq (length-drop at l)) in
    (λ i. from at (e i)) ∙ (λ i. from at (front_of (m i)))

-- and what is no event there is the same
pub parse-other : (l : List ℕ) (at : ℕ) {p : Parse} → p ≡ front_of (mid_of at (length l - at) l)
    → ((e : Event) (size : ℕ) → p ≡ parse.Event e size → ⊥) → p ≡ parse_of l at
parse-other l at {p} e n = go p n ∙ parse-part l at e
  where
    go : (p : Parse) → ((e : Event) (size : ℕ) → p ≡ parse.Event e size → ⊥) → p ≡ from at p
    go parse.End n = refl
    go (parse.Event e size) n = absurd (n e size refl)
    go (parse.Refused why kind) n = refl

pub part-inside : (l : List ℕ) (at : ℕ) {e : Event} {size : ℕ} → at ≤ length l
    → parse.Event e size ≡ front_of (mid_of at (length l - at) l) → at + size ≤ length l
part-inside l at h e =
    let b = mid_of at (length l - at) l in
    let r = subst (Reach b) (sym e) (front-reach b) in
    omega (arith, h, r.1, length-take-le (length l - at) (drop at l) (le_of_eq (sym (length-drop at l))))

pub parse-end : (l : List ℕ) (at : ℕ) → length l ≤ at → parse.End ≡ parse_of l at
unfolding parse_of front_of
parse-end l at h = λ i. from at (front_of (sym (drop_of_length-le l h) i))

-- ---- at a place

-- what is known of a file by what stands at a place: nothing from its end on; an event's record has three bytes or more
-- and ends within the bytes; a record that is refused begins within them, and is there whole unless that was by 13
abbrev pub Stands : List ℕ → ℕ → Parse → Type 0
Stands l at parse.End = length l ≤ at
Stands l at (parse.Event e next) = (at + 3 ≤ next) × (next ≤ length l) × (at + record_size (get_or (drop at l) 0 0) ≤ length l)
Stands l at (parse.Refused why kind) =
    (at < length l) × ((refusal_number why ≡ 13 → ⊥) → at + record_size (get_or (drop at l) 0 0) ≤ length l)

pub parse-stands : (l : List ℕ) (at : ℕ) → Stands l at (parse_of l at)
unfolding parse_of
parse-stands l at = go (front_of (drop at l)) (front-reach (drop at l)) (length-drop at l)
  where
    go : (p : Parse) → Reach (drop at l) p → length (drop at l) ≡ length l - at → Stands l at (from at p)
    go parse.End r n = omega (arith, r, n)
    go (parse.Event e size) r n =
        (omega (arith, r.0), omega (arith, r.0, r.1, n), omega (arith, r.0, r.1, r.2, n))
    go (parse.Refused why kind) r n = (omega (arith, r.0, n), λ g. omega (arith, r.0, r.1 g, n))

-- ---- more bytes behind a record

field-more : (bit w map at : ℕ) (l t : List ℕ) → at + bytes bit w map ≤ length l
    → field bit w map at (l ++ t) ≡ field bit w map at l
field-more bit w map at l t h = go (stands bit map) h
  where
    go : (on : Bool) → at + cond on w 0 ≤ length l → cond on (read_at at w (l ++ t)) 0 ≡ cond on (read_at at w l) 0
    go true k = read_more at w l t k
    go false k = refl

event-more : (map kind : ℕ) (l t : List ℕ) → record_size map ≤ length l → event_of map kind (l ++ t) ≡ event_of map kind l
event-more map kind l t h =
    let f₀ = field-more 0 8 map now_at l t (omega (arith, h)) in
    let f₁ = field-more 1 8 map (span_at map) l t (omega (arith, h)) in
    let f₂ = field-more 2 4 map (id_at map) l t (omega (arith, h)) in
    let f₃ = field-more 3 2 map (len_at map) l t (omega (arith, h)) in
    let f₄ = field-more 4 2 map (acked_at map) l t (omega (arith, h)) in
    let f₅ = field-more 5 1 map (flags_at map) l t h in
    let s = get_or-append l t 0 2 (omega (arith, h)) in
    λ i. record { now = f₀ i; span = f₁ i; id = f₂ i; len = f₃ i; acked = f₄ i; kind = kind; slot = s i; flags = f₅ i }

-- a record that is whole is read the same with more bytes behind it
pub front-more : (l t : List ℕ) → record_size (get_or l 0 0) ≤ length l → front_of (l ++ t) ≡ front_of l
unfolding front_by
front-more l t h =
    let map = get_or l 0 0 in
    let kind = get_or l 1 0 in
    let n = length-append l t in
    let c : ltb (length (l ++ t)) (record_size map) ≡ ltb (length l) (record_size map) =
    le-ltb (length (l ++ t)) (record_size map) (omega (arith, n, h)) ∙ sym (le-ltb (length l) (record_size map) h) in
    let g₀ = get_or-append l t 0 0 (omega (arith, h)) in
    let g₁ = get_or-append l t 0 1 (omega (arith, h)) in
    let e = event-more map kind l t h in
    sym (front-some (l ++ t) (omega (arith, n, h)))
    ∙ (λ i. front_by (g₀ i) (g₁ i) (l ++ t))
    ∙ (λ i. cond (c i) (parse.Refused refusal.Cut kind)
    (cond (is_kindless kind) (parse.Refused refusal.Kind kind)
    (cond (is_stray map kind) (parse.Refused refusal.Map kind) (parse.Event (e i) (record_size map)))))
    ∙ front-some l (omega (arith, h))

pub parse-more : (l t : List ℕ) (at : ℕ) → at + record_size (get_or (drop at l) 0 0) ≤ length l
    → parse_of (l ++ t) at ≡ parse_of l at
unfolding parse_of
parse-more l t at h =
    let a : drop at (l ++ t) ≡ drop at l ++ t = drop-append-le at l t (omega (arith, h)) in
    let b : front_of (drop at l ++ t) ≡ front_of (drop at l) =
    front-more (drop at l) t (omega (arith, h, length-drop at l)) in
    λ i. from at ((ap front_of a ∙ b) i)

-- an event, or a refusal by 14 or 15, stays as it is
pub event-stays : (l t : List ℕ) (at : ℕ) {e : Event} {next : ℕ} → parse_of l at ≡ parse.Event e next
    → parse_of (l ++ t) at ≡ parse.Event e next
event-stays l t at e = parse-more l t at (subst (Stands l at) e (parse-stands l at)).2 ∙ e

pub refused-stays : (l t : List ℕ) (at : ℕ) {why : Refusal} {kind : ℕ} → (refusal_number why ≡ 13 → ⊥)
    → parse_of l at ≡ parse.Refused why kind → parse_of (l ++ t) at ≡ parse.Refused why kind
refused-stays l t at n e = parse-more l t at ((subst (Stands l at) e (parse-stands l at)).1 n) ∙ e

-- ---- bytes before a record

from-from : (a b : ℕ) (p : Parse) → from a (from b p) ≡ from (a + b) p
from-from a b parse.End = refl
from-from a b (parse.Event e size) = λ i. parse.Event e (sym (add_assoc a b size) i)
from-from a b (parse.Refused why kind) = refl

-- reading behind some bytes is reading what is left without them
pub parse-shift : (l : List ℕ) (at n : ℕ) → parse_of l (at + n) ≡ from at (parse_of (drop at l) n)
unfolding parse_of
parse-shift l at n =
    sym (from-from at n (front_of (drop (at + n) l))) ∙ (λ i. from at (from n (front_of (sym (drop-drop n at l) i))))

pub parse-behind : (p l : List ℕ) (n : ℕ) → parse_of (p ++ l) (length p + n) ≡ from (length p) (parse_of l n)
parse-behind p l n =
    parse-shift (p ++ l) (length p) n ∙ (λ i. from (length p) (parse_of (drop-append_seam p l i) n))

-- reading at a place is reading the bytes from there on
pub parse-drop : (l : List ℕ) (at : ℕ) → parse_of l at ≡ from at (parse_of (drop at l) 0)
parse-drop l at = (λ i. parse_of l (sym (add-zero at) i)) ∙ parse-shift l at 0
