use mathlib.Core.Path.{ap, ◌∙◌}
use mathlib.Core.Bool.{not}
use native.Mathlib.Omega.{arith}
use Rattle.lines.specs.Matching.{in_class}
use Rattle.pass_unit.proofs.ItemLaws.{has_members, unit_inside, class_some, class_members}
use Rattle.pass_unit.proofs.is_copy.Goals as goal

pub overflow_add-at : goal.overflow_add-at
overflow_add-at c = let l = unit_inside _ _ _ c.requires.unit in omega arith

pub is_member-requires : goal.is_member-requires
is_member-requires c = class_some _ _ _ c.requires.unit (ap has_members c.in-Class.is)

pub overflow_add-at-in-ClassNot : goal.overflow_add-at-in-ClassNot
overflow_add-at-in-ClassNot c = let l = unit_inside _ _ _ c.requires.unit in omega arith

pub is_member-requires-in-ClassNot : goal.is_member-requires-in-ClassNot
is_member-requires-in-ClassNot c = class_some _ _ _ c.requires.unit (ap has_members c.in-ClassNot.is)

pub returns-in-Class : goal.returns-in-Class
unfolding in_class
returns-in-Class c = λ e es r. c.is_member.ensures _ _ (class_members _ _ _ c.requires.unit (ap has_members c.in-Class.is) e es r) ∙ rw c.in-Class.is

pub returns-in-ClassNot : goal.returns-in-ClassNot
unfolding in_class
returns-in-ClassNot c = λ e es r. ap not (c.is_member-in-ClassNot.ensures _ _ (class_members _ _ _ c.requires.unit (ap has_members c.in-ClassNot.is) e es r)) ∙ rw c.in-ClassNot.is
