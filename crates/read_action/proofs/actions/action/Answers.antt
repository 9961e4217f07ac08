use mathlib.Core.Path.{sym, ◌∙◌}
use Rattle.read_action.proofs.Replacing.{no_mark, action_break, action_literal}
use Rattle.read_action.proofs.actions.action.Goals as goal

pub returns-then-b-eq92 : goal.returns-then-b-eq92
returns-then-b-eq92 c = c.escape_part.ensures c.args.tags

pub returns-then-is_break : goal.returns-then-is_break
returns-then-is_break c = rw c.at.ensures (action_break c.args.out.now c.args.out.now c.args.n c.args.tags c.requires.0 c.requires.1 (sym c.is_break.ensures ∙ c.if-is_break.true))

pub returns : goal.returns
returns c =
    let m = no_mark c.is_mark.ensures c.if-is_mark.false in
    action_literal _ _ _ _ c.requires.0 c.requires.1 (sym c.is_break.ensures ∙ c.if-is_break.false) c.if-b-eq92.false c.if-b-eq123.false m.0 m.1 c.put_item.ensures
