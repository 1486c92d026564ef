use Rattle.std.proofs.Common.{rules, ◌≡◌, Err, sym}
use Rattle.cells.specs.Cells.{settings_in}
use Rattle.turns.proofs.TurnLaws.{tried, rows-refused, rows-kind, rows-open, rows-work}
use Rattle.turns.proofs.on_rows.Goals as goal

pub returns-in_err-first_refusal : goal.returns-in_err-first_refusal
returns-in_err-first_refusal c =
    let a = c.args in
    let e : c.from_residual.result ≡ Err c.in_err-first_refusal.field-0.0 = search rules in
    rw e (rows-refused (settings_in a.t.now) a.p.now a.e
    (tried a.e c.first_refusal.ensures c.settings_in.ensures c.used-held.ensures) c.in_err-first_refusal.was)

pub returns-in_err-kind : goal.returns-in_err-kind
returns-in_err-kind c =
    let a = c.args in
    absurd (rows-kind (settings_in a.t.now) a.p.now a.e
    (tried a.e c.first_refusal.ensures c.settings_in.ensures c.used-held.ensures) c.in_ok-first_refusal.was (sym c.in_err-kind.ensures))

pub returns-in-Open : goal.returns-in-Open
returns-in-Open c =
    let a = c.args in
    rows-open (settings_in a.t.now) a.p.now a.e
    (tried a.e c.first_refusal.ensures c.settings_in.ensures c.used-held.ensures) c.in_ok-first_refusal.was (sym c.in_ok-kind.ensures)
    c.in-Open.is c.«open».ensures

pub returns-in_default : goal.returns-in_default
returns-in_default c =
    let a = c.args in
    rows-work (settings_in a.t.now) a.p.now a.e
    (tried a.e c.first_refusal.ensures c.settings_in.ensures c.used-held.ensures) c.in_ok-first_refusal.was (sym c.in_ok-kind.ensures)
    c.in_default.not-Open c.work.ensures
