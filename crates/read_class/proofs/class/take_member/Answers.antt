use mathlib.Core.Path.{sym, ◌∙◌}
use mathlib.Core.Bool.{true≢false}
use Rattle.read_class.proofs.Classes.{takes_first, takes_dash, takes_single, takes_range, takes_bad}
use Rattle.read_class.proofs.class.take_member.Goals.{then-raw+else-c-eq45, else-raw}
use Rattle.read_class.proofs.class.take_member.Goals as goal

pub returns-in-Free : goal.returns-in-Free
returns-in-Free c =
    let args = c.args in
    rw c.in-Free.is (takes_first c.requires.0 args.out.now args.n)

pub returns-in-Member : goal.returns-in-Member
returns-in-Member c =
    let args = c.args in
    rw c.in-Member.is (takes_dash c.requires.0 args.out.now args.n _ c.if-raw.true c.if-c-eq45.true)

pub returns-in-Member-2 : goal.returns-in-Member-2
returns-in-Member-2 c =
    let args = c.args in
    rw c.in-Member-2.is (takes_single c.requires.0 args.out.now args.n _ _ (λ t e. elim c.if-raw.branch [ then-raw+else-c-eq45 w ↦ w.if-c-eq45.false e | else-raw w ↦ true≢false (sym t ∙ w.if-raw.false) ]) c.put_item.ensures)

pub returns-in-Dash : goal.returns-in-Dash
returns-in-Dash c =
    let args = c.args in
    rw c.in-Dash.is (takes_range c.requires.0 args.out.now args.n _ _ _ (sym c.is_range.ensures ∙ c.if-is_range.true) c.put_item-in-Dash.ensures c.put_item-in-Dash-2.ensures)

pub returns-in-Dash-2 : goal.returns-in-Dash-2
returns-in-Dash-2 c =
    let args = c.args in
    rw c.in-Dash.is (takes_bad c.requires.0 args.out.now args.n _ (sym c.is_range.ensures ∙ c.if-is_range.false))
