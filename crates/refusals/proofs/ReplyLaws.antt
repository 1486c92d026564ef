-- An answer by its number and value; and no event on a slot answers as a choice does.
-- Assumes nothing.
use Rattle.std.specs.Prelude.{Result, Ok, Err}
use Prim.Native.Nat.{ℕ, ◌+◌, ◌*◌, ◌^◌, ◌%◌, ◌<◌}
use mathlib.Core.Path.{◌≡◌, refl, sym, subst}
use mathlib.Core.Bool.{Bool, true, false, cond}
use mathlib.Core.List.{List, [], ◌∷◌}
use native.Mathlib.Omega.{arith}
use Rattle.base.proofs.Cases.{never}
use Rattle.base.proofs.RefusalLaws.{number-byte}
use Rattle.base.specs.Refusals.{refusal_number}
use Rattle.base.specs.declared.types.Refusal.{Refusal}
use Rattle.live.specs.Answers.{answer_value, is_accepted}
use Rattle.live.specs.Probe.{send_of, answer_of}
use Rattle.live.specs.Search.{seek_size_of, seek_send_of, seek_answer_of, seek_judge_of}
use Rattle.live.specs.declared.types.Answer.{Answer}
use Rattle.live.specs.declared.types.Answer.TheVariants as answer
use Rattle.live.specs.declared.types.Outcome.{Outcome}
use Rattle.rules.specs.Event.{is, number_of, value_of}
use Rattle.rules.specs.declared.types.Kind.{Kind}
use Rattle.rules.specs.Rules.{reply_of, turn, answered, searched, refusals, refused_or, works, work_of, on_slot}
use Rattle.rules.specs.declared.types.Settings.{Settings}
use Rattle.rules.specs.declared.types.Event.{Event}
use Rattle.rules.specs.declared.types.Reply.{Reply}
use Rattle.rules.specs.declared.types.Reply.TheVariants as reply
use Rattle.rules.specs.declared.types.Slot.{Slot}
use Rattle.rules.specs.declared.types.Turn.{Turn}
use Rattle.refusals.specs.Refusals.{said_of, word_of, is_chosen}
use Rattle.refusals.specs.declared.reply.Said.{Said}

-- ---- number and value

-- what is promised of an answer's number and value
abbrev Told : Said → Result Reply Refusal → Type 0
Told s x = (s ≡ said_of x) × (is_chosen x ≡ false → value_of x < 2 ^ 32)

-- an answer that is no refusal, by its value
pub said-value : {x : Result Reply Refusal} (y : Result Reply Refusal) {s : Said} → x ≡ y → s ≡ said_of y → value_of y < 2 ^ 32 → Told s x
said-value y {s} e q h = subst (λ (z : Result Reply Refusal). Told s z) (sym e) (q, λ c. h)

-- a choice
pub said-chosen : {x : Result Reply Refusal} (slot : ℕ) {s : Said} → x ≡ Ok (reply.Chosen slot) → s ≡ said_of (Ok (reply.Chosen slot)) → Told s x
said-chosen slot {s} e q = subst (λ (z : Result Reply Refusal). Told s z) (sym e) (q, λ c. never refl c)

-- a refusal
pub said-refused : {x : Result Reply Refusal} (why : Refusal) {n : ℕ} → x ≡ Err why → n ≡ refusal_number why
    → Told (record { number = n; value = 0 }) x
said-refused why {n} e h =
    subst (λ (z : Result Reply Refusal). Told (record { number = n; value = 0 }) z) (sym e)
    ((λ j. record { number = h j; value = 0 }), λ c. omega arith)

-- both in one word
pub said-word : (x : Result Reply Refusal) {s : Said} → s ≡ said_of x → s.number * 0x1_0000_0000 + s.value % 0x1_0000_0000 ≡ word_of x
said-word x e = λ j. (e j).number * 0x1_0000_0000 + (e j).value % 0x1_0000_0000

-- the number of any answer fits a byte
pub said-small : (x : Result Reply Refusal) → number_of x < 256
said-small (Ok (reply.Id id)) = omega arith
said-small (Ok reply.InTime) = omega arith
said-small (Ok reply.Late) = omega arith
said-small (Ok reply.Search) = omega arith
said-small (Ok (reply.Count n)) = omega arith
said-small (Ok reply.Lost) = omega arith
said-small (Ok reply.Waits) = omega arith
said-small (Ok (reply.Chosen slot)) = omega arith
said-small (Ok reply.Nothing) = omega arith
said-small (Err why) = (number-byte why).1

-- ---- no choice

abbrev Unchosen : Turn → Type 0
Unchosen u = is_chosen u.reply ≡ false

-- a path's answer is none
path-unchosen : (a : Result Answer Refusal) → is_chosen (reply_of a) ≡ false
path-unchosen (Ok answer.Done) = refl
path-unchosen (Ok (answer.Id id)) = refl
path-unchosen (Ok (answer.InTime s)) = refl
path-unchosen (Ok (answer.Late s)) = refl
path-unchosen (Ok answer.Idle) = refl
path-unchosen (Ok (answer.Lapsed miss)) = refl
path-unchosen (Ok (answer.Len n)) = refl
path-unchosen (Ok (answer.Time t)) = refl
path-unchosen (Ok (answer.Flag true)) = refl
path-unchosen (Ok (answer.Flag false)) = refl
path-unchosen (Err why) = refl

either : (b : Bool) (u v : Turn) → Unchosen u → Unchosen v → Unchosen (cond b u v)
either true u v h k = h
either false u v h k = k

-- every entry of a list of works
abbrev Every : List (Kind × Turn) → Type 0
Every [] = Unit
Every (x ∷ l) = Unchosen x.1 × Every l

work-unchosen : (l : List (Kind × Turn)) (e : Event) (none : Turn) → Every l → Unchosen none → Unchosen (work_of l e none)
work-unchosen [] e none h k = k
work-unchosen (x ∷ l) e none h k =
    either (is x.0 e) x.1 (work_of l e none) h.0 (work-unchosen l e none h.1 k)

refused-unchosen : (l : List (Refusal × Bool)) (s : Slot) (u : Turn) → Unchosen u → Unchosen (refused_or l s u)
refused-unchosen [] s u h = h
refused-unchosen (x ∷ l) s u h =
    either x.1 (turn s s.path (Err x.0)) (refused_or l s u) refl (refused-unchosen l s u h)

answered-unchosen : (d : Outcome) (s : Slot) (e : Event) → Unchosen (answered d s e)
answered-unchosen d s e =
    either (is_accepted d.answer) _ _ refl (path-unchosen (answer_of s.path e.id).answer)

searched-unchosen : (a : Result Answer Refusal) (s : Slot) (e : Event) → Unchosen (searched a s e)
searched-unchosen a s e =
    either (is_accepted a) _ _ (path-unchosen (seek_send_of s.path e.now (answer_value a) e.id).answer) (path-unchosen a)

-- an event on a slot answers no choice
pub slot-unchosen : (t : Settings) (s : Slot) (e : Event) → Unchosen (on_slot t s e)
unfolding on_slot
slot-unchosen t s e =
    refused-unchosen (refusals t s.used e) s _
    (work-unchosen (works t s e) e _
    (refl, (path-unchosen (send_of s.path e.now e.span e.len e.id).answer, (answered-unchosen (seek_answer_of s.path e.id t.gap) s e, (refl, (refl, (refl, (refl, (searched-unchosen (seek_size_of s.path s.label.full e.now) s e, (path-unchosen (seek_judge_of s.path e.now e.span t.gap).answer, (refl, (refl, (refl, (refl, (refl, tt))))))))))))))
    refl)
