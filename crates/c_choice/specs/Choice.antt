-- What the C functions of the choice reply: rivals from bytes, 13 where these are not as many as they must be, or in
-- words; then the choice's own numbers and values.
use Rattle.base.specs.declared.types.Refusal.{Refusal}
use Rattle.std.specs.Prelude.{ℕ, zero, suc, ◌*◌, List, [], ◌∷◌, Bool, cond, ◌&&◌, eqb, leb, Float, length, drop, Option, Result, Ok, Err}
use Rattle.std.specs.Float.{binary64}
use Rattle.std.specs.Float.Ieee.{of_bits}
use Rattle.base.specs.Limits.{is_overlong}
use Rattle.base.specs.Refusals.{refusal_number}
use Rattle.base.specs.declared.types.Refusal.TheVariants.{Length, Cut, Lent}
use Rattle.octets.specs.Octets.{words_of, over}
use Rattle.total.specs.Patterns.{etx_bits}
use Rattle.select.specs.Answers.{
  chosen_number,
  chosen_value,
  best_number,
  best_there,
  best_value,
  held_number,
  held_value,
  cost_number,
  cost_value,
  size_number,
  size_value,
}
use Rattle.select.specs.Choice.{choose_of, best_of}
use Rattle.hold.specs.Hold.{held_of, waits_of, new_hold, report_of, cost_of}
use Rattle.select.specs.Carried.{carried_frame}
use Rattle.select.specs.declared.types.Rival.{Rival}
use Rattle.hold.specs.declared.Hold.{Hold}
use Rattle.rivalrows.specs.Rows.{field_in}
use Rattle.fields.specs.Fields.{rival_len, field_len, pair_len, rival_from, field_of}
use Rattle.c_reply.specs.declared.Reply.{Reply}
use Rattle.c_reply.specs.Replies.{refused_reply, maybe_len}

-- the place chosen
abbrev pub chosen_reply : Result ℕ Refusal → Reply
chosen_reply a = record { number = chosen_number a; value = chosen_value a }

-- of a field in words
unfoldable pub words_reply : List (List ℕ) → Float → Reply
words_reply rows margin = chosen_reply (choose_of (field_in rows) margin)

-- 13 for bytes that are not a field
unfoldable pub choose_reply : List ℕ → Float → Reply
choose_reply s margin = cond (eqb (length s) field_len) (chosen_reply (choose_of (field_of s) margin)) (refused_reply Cut)

-- two numbers for the best score: whether there is one, and its bits
abbrev pub best_words : Result (Option Float) Refusal → List ℕ
best_words a = best_there a ∷ etx_bits (best_value a) ∷ []

-- the bytes of two numbers
abbrev pub best_len : ℕ
best_len = 2 * 8

-- 16 for fewer lent bytes
abbrev pub lent_number : ℕ → ℕ
lent_number lent = cond (leb best_len lent) 0 (refusal_number Lent)

-- 13 for bytes that are not a field; then the choice's own 6 and 12; then 16
unfoldable pub best_reply : List ℕ → ℕ → ℕ
best_reply s lent =
    let own = best_number (best_of (field_of s)) in
    cond (eqb (length s) field_len) (cond (eqb own 0) (lent_number lent) own) (refusal_number Cut)

-- the lent bytes after it: the two numbers over their front, or as they were where it is refused
unfoldable pub best_out : List ℕ → List ℕ → List ℕ
best_out s l =
    let answer = best_of (field_of s) in
    cond (eqb (length s) field_len && eqb (best_number answer) 0) (over (words_of (best_words answer)) l) l

-- 1 if the change is held
abbrev pub held_reply : Result Bool Refusal → Reply
held_reply a = record { number = held_number a; value = held_value a }

-- the rivals `to` and `from` of a pair; 13 for bytes that are not one
unfoldable pub pair_from : List ℕ → Result (Rival × Rival) Refusal
pair_from s = cond (eqb (length s) pair_len) (Ok (rival_from s, rival_from (drop rival_len s))) (Err Cut)

-- whether the change to the first of a pair from the second is held; 13 for bytes that are not a pair
unfoldable pub held_from : List ℕ → Float → Reply
held_from s margin =
    cond (eqb (length s) pair_len) (held_reply (held_of (rival_from s) (rival_from (drop rival_len s)) margin))
    (refused_reply Cut)

unfoldable pub waits_from : List ℕ → Float → Reply
waits_from s margin =
    cond (eqb (length s) pair_len) (held_reply (waits_of (rival_from s) (rival_from (drop rival_len s)) margin))
    (refused_reply Cut)

-- so many reports, one after the other
abbrev pub reports_of : ℕ → Hold → Hold
reports_of zero h = h
reports_of (suc n) h = report_of (reports_of n h)

-- 1 while the cost is held
abbrev pub cost_reply : Result (Option Float) Refusal → Reply
cost_reply a = record { number = cost_number a; value = cost_value a }

-- a hold of the cost 1 from `at`, after so many reports
unfoldable pub hold_reply : ℕ → ℕ → ℕ → ℕ → Reply
hold_reply at reports now dwell =
    cost_reply (cost_of (reports_of reports (new_hold (of_bits binary64 0x3ff0_0000_0000_0000) at)) now dwell)

-- a frame's bytes
abbrev pub sized_reply : Result ℕ Refusal → Reply
sized_reply a = record { number = size_number a; value = size_value a }

-- 5 for a proven size above 65,535, if held
unfoldable pub carried_reply : ℕ → Bool → ℕ → Bool → Reply
carried_reply link held proven oriented =
    cond (held && is_overlong proven) (refused_reply Length)
    (sized_reply (carried_frame link (maybe_len held proven) oriented))
