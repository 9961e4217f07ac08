use mathlib.Core.Path.{refl, sym, ◌∙◌}
use native.Mathlib.Omega.{arith}
use Rattle.read_scan.proofs.Laws.{handed_on}
use Rattle.read_call.proofs.Naming.{sign_code_most, name_wrong, name_none, name_still, name_none_2, name_moved}
use Rattle.read_call.proofs.calls.name.Goals as goal

pub returns-then-not-is_lower : goal.returns-then-not-is_lower
returns-then-not-is_lower c =
    let pre = c.requires in
    rw c.at.ensures
    (name_wrong c.args.signs pre.0 (sym c.takes_sign.ensures ∙ c.if-takes_sign.false) c.wrong_byte.result pre.1 (sym c.is_lower.ensures ∙ c.if-not-is_lower.true) c.wrong_byte.ensures)

pub returns-in_err-c : goal.returns-in_err-c
returns-in_err-c c =
    let pre = c.requires in
    rw (handed_on c.from_residual.ensures)
    (name_none c.args.signs pre.0 (sym c.takes_sign.ensures ∙ c.if-takes_sign.false) (sym c.is_lower.ensures ∙ c.if-not-is_lower.false) c.in_err-c.ensures refl)

pub returns-then-not-takes_sign : goal.returns-then-not-takes_sign
returns-then-not-takes_sign c =
    let pre = c.requires in
    name_still c.args.signs pre.0 (sym c.takes_sign.ensures ∙ c.if-takes_sign.false) (sym c.is_lower.ensures ∙ c.if-not-is_lower.false) c.call_byte.ensures c.in_ok-c.was (sym c.takes_sign-2.ensures ∙ c.if-not-takes_sign.true)

pub returns-in_err-d : goal.returns-in_err-d
returns-in_err-d c =
    let pre = c.requires in
    rw (handed_on c.from_residual-in_err-d.ensures)
    (name_none_2 c.args.signs pre.0 (sym c.takes_sign.ensures ∙ c.if-takes_sign.false) (sym c.is_lower.ensures ∙ c.if-not-is_lower.false) c.call_byte.ensures c.in_ok-c.was
    (sym c.takes_sign-2.ensures ∙ c.if-not-takes_sign.false) c.in_err-d.ensures refl)

pub overflow_add-result : goal.overflow_add-result
overflow_add-result c = record { fits = omega (arith, sign_code_most c.in_ok-c.c, c.sign_code.ensures) }

pub returns : goal.returns
returns c =
    let pre = c.requires in
    name_moved c.args.signs pre.0 (sym c.takes_sign.ensures ∙ c.if-takes_sign.false) (sym c.is_lower.ensures ∙ c.if-not-is_lower.false) c.call_byte.ensures c.in_ok-c.was
    (sym c.takes_sign-2.ensures ∙ c.if-not-takes_sign.false) c.call_byte-2.ensures c.in_ok-d.was c.sign_code.ensures
