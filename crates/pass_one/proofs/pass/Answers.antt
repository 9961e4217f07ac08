use mathlib.Core.Path.{ap, ◌∙◌}
use native.Mathlib.Omega.{arith}
use lib.ListN.{length}
use Rattle.pass_one.proofs.CallLaws.{pattern_letters}
use Rattle.pass_lack.proofs.LackLaws.{flags_size}
use Rattle.pass_one.proofs.GoingLaws.{to_try, pass_lacks}
use Rattle.pass_one.proofs.pass.Goals as goal

pub lacks-requires : goal.lacks-requires
lacks-requires c = let y = c.requires in let i = c.items_of-items.ensures in (pattern_letters _ y.macro.0.pattern (i.pattern y.macro.0 y.macro.1), i.fits, ap length y.flags ∙ flags_size _)

pub returns-then-lacks : goal.returns-then-lacks
returns-then-lacks c = pass_lacks _ _ _ _ _ _ _ c.requires c.items_of-items.ensures (c.lacks.ensures.0 c.if-lacks.true)

pub tried-requires : goal.tried-requires
tried-requires c = to_try _ _ _ _ _ _ _ c.requires c.items_of-items.ensures 4096 c.if-rows-le4096.true

pub tried-requires-2 : goal.tried-requires-2
tried-requires-2 c = to_try _ _ _ _ _ _ _ c.requires c.items_of-items.ensures 66924 (omega (arith, c.items_of-items.ensures.fits))
