use Rattle.std.proofs.Common.{sym, ◌∙◌}
use Rattle.line_control.proofs.Controls.{prefix_is, orders_macro, orders_flag}
use Rattle.line_control.proofs.control.Goals as goal

pub returns-in-Some : goal.returns-in-Some
returns-in-Some c = let e = c.in-Some.ensures.cases in orders_macro (sym (prefix_is _ c.args.line.now) ∙ e.0) (rw e.1 at c.add_macro.ensures)

pub returns-in-None : goal.returns-in-None
returns-in-None c = orders_flag (sym (prefix_is _ c.args.line.now) ∙ c.in-None.ensures.cases) _ c.set_flag.ensures
