use Rattle.std.proofs.Common.{rules, ◌≡◌, ◌∙◌, sym, Err, Result}
use Rattle.base.specs.declared.types.Refusal.{Refusal}
use Rattle.refusals.proofs.RefuseLaws.{refused-slot, passed-slot}
use Rattle.refusals.proofs.refuse.first_refusal.Goals as goal

pub returns-in_err-slot_refusal : goal.returns-in_err-slot_refusal
returns-in_err-slot_refusal c =
    let a = c.args in
    let e : c.from_residual-in_err-slot_refusal.result ≡ Err c.in_err-slot_refusal.field-0.0 = search rules in
    e ∙ refused-slot a.t a.used a.e (sym c.in_ok-kind.ensures) (sym c.in_ok-refuse.ensures) c.slot_refusal.ensures c.in_err-slot_refusal.was

pub returns : goal.returns
returns c =
    let a = c.args in
    passed-slot a.t a.used a.e (sym c.in_ok-kind.ensures) (sym c.in_ok-refuse.ensures) c.slot_refusal.ensures c.in_ok-slot_refusal.was c.field_refusal.ensures
