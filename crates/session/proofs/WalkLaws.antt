-- The lines of the bytes from a place on, record by record: they are those of `trace`; it does not matter how many
-- records are allowed once they are enough, nor which bytes stand before.
-- Assumes nothing.
use Rattle.std.proofs.Common.{◌≡◌, ℕ, zero, suc, ◌+◌, ◌≤◌, List, [], ◌++◌, length, drop, sym, refl, ap, ◌∙◌, subst, arith, length-drop}
use Rattle.base.specs.Refusals.{refusal_number}
use Rattle.rules.specs.Step.{step, trace}
use Rattle.rules.specs.declared.types.Record.{Record}
use Rattle.eventfile.specs.File.{parse_of, events_by, events_from, end_by, end_from, from}
use Rattle.eventfile.specs.declared.types.Parse.{Parse}
use Rattle.eventfile.specs.declared.types.Parse.TheVariants as parse
use Rattle.lines.specs.Text.{line_of}
use Rattle.session.specs.Lines.{number_after, lines_from}
use Rattle.session.specs.Sessions.{event_line}
use Rattle.eventfile.proofs.ReadLaws.{parse-end, parse-stands, parse-shift, Stands}

-- the lines of what stands at a place and, by `more`, of what follows it
abbrev pub walk_by : Parse → (Record → ℕ → ℕ → List ℕ) → Record → ℕ → List ℕ
walk_by parse.End more rec n = []
walk_by (parse.Refused why k) more rec n = line_of n k (refusal_number why) 0
walk_by (parse.Event e next) more rec n = event_line n e (step rec e).reply ++ more (step rec e).next
    (number_after n) next

-- the lines of at most f records, from a place on
unfoldable pub walk : ℕ → List ℕ → Record → ℕ → ℕ → List ℕ
walk zero l rec n at = []
walk (suc f) l rec n at = walk_by (parse_of l at) (walk f l) rec n

-- they are the lines of the events' answers and of the end
walk-by : (x : Parse) (f : ℕ) (l : List ℕ) (rec : Record) (n : ℕ)
    → ((r : Record) (m p : ℕ) → lines_from m (trace r (events_from f l p)) (end_from f l p) ≡ walk f l r m p)
    → lines_from n (trace rec (events_by x (events_from f l))) (end_by x (end_from f l)) ≡ walk_by x (walk f l) rec n
walk-by parse.End f l rec n ih = refl
walk-by (parse.Refused why k) f l rec n ih = refl
walk-by (parse.Event e next) f l rec n ih =
    ap (λ (z : List ℕ). event_line n e (step rec e).reply ++ z) (ih (step rec e).next (number_after n) next)

pub walk_is : (f : ℕ) (l : List ℕ) (rec : Record) (n at : ℕ)
    → lines_from n (trace rec (events_from f l at)) (end_from f l at) ≡ walk f l rec n at
unfolding walk events_from end_from
walk_is zero l rec n at = refl
walk_is (suc f) l rec n at = walk-by (parse_of l at) f l rec n (walk_is f l)

-- no record stands behind the last byte
pub walk_none : (f : ℕ) (l : List ℕ) (rec : Record) (n at : ℕ) → length l ≤ at → walk f l rec n at ≡ []
unfolding walk
walk_none zero l rec n at h = refl
walk_none (suc f) l rec n at h = λ j. walk_by (sym (parse-end l at h) j) (walk f l) rec n

-- one more record allowed changes nothing once they are enough: each has a byte
more_by : (x : Parse) (f : ℕ) (l : List ℕ) (rec : Record) (n at : ℕ) → parse_of l at ≡ x → length l ≤ at + suc f
    → ((r : Record) (m p : ℕ) → length l ≤ p + f → walk (suc f) l r m p ≡ walk f l r m p)
    → walk_by x (walk (suc f) l) rec n ≡ walk_by x (walk f l) rec n
more_by parse.End f l rec n at e h ih = refl
more_by (parse.Refused why k) f l rec n at e h ih = refl
more_by (parse.Event v next) f l rec n at e h ih =
    let b = subst (Stands l at) e (parse-stands l at) in
    ap (λ (z : List ℕ). event_line n v (step rec v).reply ++ z)
    (ih (step rec v).next (number_after n) next (omega (arith, b.0, h)))

pub walk_more : (f : ℕ) (l : List ℕ) (rec : Record) (n at : ℕ) → length l ≤ at + f → walk (suc f) l rec n at
    ≡ walk f l rec n at
unfolding walk
walk_more zero l rec n at h = walk_none 1 l rec n at (omega arith)
walk_more (suc f) l rec n at h = more_by (parse_of l at) f l rec n at refl h (walk_more f l)

pub walk-enough : (g f : ℕ) (l : List ℕ) (rec : Record) (n at : ℕ) → length l ≤ at + f → walk (g + f) l rec n at
    ≡ walk f l rec n at
walk-enough zero f l rec n at h = let z : zero + f ≡ f = omega arith in λ j. walk (z j) l rec n at
walk-enough (suc g) f l rec n at h =
    let z : suc g + f ≡ suc (g + f) = omega arith in
    (λ j. walk (z j) l rec n at) ∙ walk_more (g + f) l rec n at (omega arith) ∙ walk-enough g f l rec n at h

-- all that is enough gives the same
pub walk_same : (f g : ℕ) (l : List ℕ) (rec : Record) (n at : ℕ) → length l ≤ at + f → length l ≤ at + g
    → walk f l rec n at ≡ walk g l rec n at
walk_same f g l rec n at a b =
    let z : g + f ≡ f + g = omega arith in
    sym (walk-enough g f l rec n at a) ∙ (λ j. walk (z j) l rec n at) ∙ walk-enough f g l rec n at b

-- the bytes before the place do not matter
shift_by : (p : ℕ) (x : Parse) (f : ℕ) (l : List ℕ) (rec : Record) (n : ℕ)
    → ((r : Record) (m q : ℕ) → walk f l r m (p + q) ≡ walk f (drop p l) r m q)
    → walk_by (from p x) (walk f l) rec n ≡ walk_by x (walk f (drop p l)) rec n
shift_by p parse.End f l rec n ih = refl
shift_by p (parse.Refused why k) f l rec n ih = refl
shift_by p (parse.Event e next) f l rec n ih =
    ap (λ (z : List ℕ). event_line n e (step rec e).reply ++ z) (ih (step rec e).next (number_after n) next)

pub walk-shift : (p f : ℕ) (l : List ℕ) (rec : Record) (n at : ℕ)
    → walk f l rec n (p + at) ≡ walk f (drop p l) rec n at
unfolding walk
walk-shift p zero l rec n at = refl
walk-shift p (suc f) l rec n at =
    (λ j. walk_by (parse-shift l p at j) (walk f l) rec n)
    ∙ shift_by p (parse_of (drop p l) at) f l rec n (walk-shift p f l)

-- ---- with as many records allowed as there are bytes

abbrev pub walk_all : List ℕ → Record → ℕ → ℕ → List ℕ
walk_all l rec n at = walk (length l) l rec n at

-- one record, then the rest
pub walk-open : (l : List ℕ) (rec : Record) (n at : ℕ) → walk_all l rec n at ≡ walk_by (parse_of l at) (walk_all l) rec n
unfolding walk
walk-open l rec n at = sym (walk_more (length l) l rec n at (omega arith))

-- from a place on, or by the bytes from there on
pub walk-drop : (p : ℕ) (l : List ℕ) → p ≤ length l → (rec : Record) (n : ℕ) → walk_all l rec n p
    ≡ walk_all (drop p l) rec n 0
walk-drop p l h rec n =
    let z : p ≡ p + 0 = omega arith in
    (λ j. walk (length l) l rec n (z j)) ∙ walk-shift p (length l) l rec n 0
    ∙ walk_same (length l) (length (drop p l)) (drop p l) rec n 0 (omega (arith, length-drop p l)) (omega arith)
