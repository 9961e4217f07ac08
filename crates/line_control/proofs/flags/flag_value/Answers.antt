use Rattle.std.proofs.Common.{sym, ◌∙◌}
use Rattle.line_control.proofs.Controls.{same_is, value_zero, value_one, value_else}
use Rattle.line_control.proofs.flags.flag_value.Goals as goal

pub returns-then-eq : goal.returns-then-eq
returns-then-eq c = let e = rw c.as_slice.ensures at c.if-eq.ensures in value_zero _ (sym (same_is c.args.rest.now _) ∙ sym e)

pub returns-then-eq-2 : goal.returns-then-eq-2
returns-then-eq-2 c =
    let e = rw c.as_slice.ensures at c.if-eq.ensures in
    let f = rw c.as_slice-2.ensures at c.if-eq-2.ensures in
    value_one _ (sym (same_is c.args.rest.now _) ∙ sym e) (sym (same_is c.args.rest.now _) ∙ sym f)

pub returns : goal.returns
returns c =
    let e = rw c.as_slice.ensures at c.if-eq.ensures in
    let f = rw c.as_slice-2.ensures at c.if-eq-2.ensures in
    value_else _ (sym (same_is c.args.rest.now _) ∙ sym e) (sym (same_is c.args.rest.now _) ∙ sym f)
