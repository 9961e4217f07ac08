use mathlib.Core.Path.{refl, sym, ◌∙◌}
use Rattle.read_scan.proofs.Laws.{handed_on}
use Rattle.read_call.proofs.Naming.{signed_none, signed_wrong, signed_none_2, signed_got}
use Rattle.read_call.proofs.calls.signed_name.Goals as goal

pub returns-in_err-c : goal.returns-in_err-c
returns-in_err-c c = let pre = c.requires in rw (handed_on c.from_residual.ensures) (signed_none c.args.signs pre.0 pre.1 c.in_err-c.ensures refl)

pub returns-then-not-is_lower : goal.returns-then-not-is_lower
returns-then-not-is_lower c =
    let pre = c.requires in
    rw c.at.ensures (signed_wrong c.args.signs pre.0 pre.1 c.call_byte.ensures c.in_ok-c.was c.wrong_byte.result (sym c.is_lower.ensures ∙ c.if-not-is_lower.true) c.wrong_byte.ensures)

pub returns-in_err-d : goal.returns-in_err-d
returns-in_err-d c =
    let pre = c.requires in
    rw (handed_on c.from_residual-in_err-d.ensures)
    (signed_none_2 c.args.signs pre.0 pre.1 c.call_byte.ensures c.in_ok-c.was (sym c.is_lower.ensures ∙ c.if-not-is_lower.false) c.in_err-d.ensures refl)

pub returns : goal.returns
returns c =
    let pre = c.requires in
    signed_got c.args.signs pre.0 pre.1 c.call_byte.ensures c.in_ok-c.was (sym c.is_lower.ensures ∙ c.if-not-is_lower.false) c.call_byte-2.ensures c.in_ok-d.was c.sign_code.ensures
