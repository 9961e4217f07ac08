use mathlib.Core.Path.{sym}
use Rattle.macros.specs.Macro.{pick}
use Rattle.form_table.specs.PatternWalk.{member_spot}
use Rattle.check_table.specs.PatternCode.{inside_of}
use Rattle.check_table.proofs.PatternLaws.{inside_single}
use Rattle.check_table.proofs.pattern.member_spot.Goals as goal

pub returns-then-b-w : goal.returns-then-b-w
unfolding pick member_spot inside_of
returns-then-b-w c = rw (sym (inside_single c.args.w), c.if-b-w.true)

pub returns : goal.returns
unfolding pick member_spot inside_of
returns c = rw (sym (inside_single c.args.w), c.if-b-w.false)
