-- Document 02, T-09, "Due before sent", as a claim about every list of events and its answers: "Such a probe lapses on the
-- spot and spoils the miss count. The record shall refuse it."
use Rattle.std.specs.Prelude.{ℕ, ◌≤◌, ◌<◌, true, false, List, ◌≡◌, Err}
use Rattle.base.specs.Limits.{is_overlong}
use Rattle.base.specs.declared.types.Refusal.TheVariants as refusal
use Rattle.rules.specs.Event.{is}
use Rattle.rules.specs.declared.types.Kind.TheVariants.{Probe}
use Rattle.rules.specs.Step.{slot_at, step}
use Rattle.rules.specs.Book.{Wait}
use Rattle.rules.specs.Demand3.{Clause, Every, Accepted, Always, book_after}
use Rattle.rules.specs.declared.types.Settings.{Settings}
use Rattle.rules.specs.declared.types.Event.{Event}
use Rattle.rules.specs.declared.types.Record.{Record}
use Rattle.rules.specs.declared.types.Reply.TheVariants as reply

-- an accepted probe is due at its now or later
abbrev pub Punctual : Clause
Punctual bs x after = (j : ℕ) → Accepted Probe j x → x.event.now ≤ x.event.span

-- a waiting probe was given a due that is not before it was sent
abbrev pub Ahead : Wait → Type 0
Ahead w = w.probe.at ≤ w.given

pub record Dues (t : Settings) (es : List Event) : Type 0 where
  -- no probe that is accepted is due before its now
  pub sent : Always Punctual t es
  -- so that none waits that was late when it was sent
  pub waits : (j : ℕ) → Every Ahead (book_after t es j).probes.waiting

-- "23 for a due instant below now in probe": on any record, where no refusal before it applies, and nothing changes
abbrev pub Refuses : Record → Event → Type 0
Refuses r e =
    is Probe e ≡ true → e.slot ≤ 7 → (slot_at r e.slot).used ≡ true → is_overlong e.len ≡ false → e.span < e.now
    → step r e ≡ record { next = r; reply = Err refusal.Due }

-- for every list, with any settings and any number of draws
abbrev pub DuesHold : Type 0
DuesHold = ((t : Settings) (es : List Event) → Dues t es) × ((r : Record) (e : Event) → Refuses r e)
