use mathlib.Core.Path.{◌≡◌, refl}
use mathlib.Core.Bool.{true, false}
use mathlib.Core.List.{[], ◌∷◌}
use types.Run.{OneOf, miss}
use denote.Enum.Declared.{tag_of}
use Rattle.form_element.specs.contracts.Unit.{the_type}
use Rattle.form_element.specs.declared.Unit.{Unit as CodeUnit}
use Rattle.form_element.specs.declared.Unit.TheVariants.{Literal, Kind, Class, ClassNot, StackCall, CounterCall, Start, End, Left, Right}
use native.Mathlib.Omega.{arith}
use Rattle.pass_unit.proofs.ItemLaws.{has_members, unit_inside, class_some, behind_class, behind_plain}
use borrow.Enum.Refused.{opened}
use Rattle.pass_unit.proofs.behind.Goals as goal

plain : (u : CodeUnit) → OneOf (0 ∷ 1 ∷ 4 ∷ 5 ∷ 6 ∷ 7 ∷ 8 ∷ 9 ∷ []) (tag_of the_type u) → has_members u ≡ false
plain (Literal c) h = refl
plain (Kind n) h = refl
plain Class h = absurd (miss (0 ∷ 1 ∷ 4 ∷ 5 ∷ 6 ∷ 7 ∷ 8 ∷ 9 ∷ []) 2 tt h)
plain ClassNot h = absurd (miss (0 ∷ 1 ∷ 4 ∷ 5 ∷ 6 ∷ 7 ∷ 8 ∷ 9 ∷ []) 3 tt h)
plain (StackCall i) h = refl
plain (CounterCall i) h = refl
plain Start h = refl
plain End h = refl
plain Left h = refl
plain Right h = refl

classy : (u : CodeUnit) → OneOf (2 ∷ 3 ∷ []) (tag_of the_type u) → has_members u ≡ true
classy (Literal c) h = absurd (miss (2 ∷ 3 ∷ []) 0 tt h)
classy (Kind n) h = absurd (miss (2 ∷ 3 ∷ []) 1 tt h)
classy Class h = refl
classy ClassNot h = refl
classy (StackCall i) h = absurd (miss (2 ∷ 3 ∷ []) 4 tt h)
classy (CounterCall i) h = absurd (miss (2 ∷ 3 ∷ []) 5 tt h)
classy Start h = absurd (miss (2 ∷ 3 ∷ []) 6 tt h)
classy End h = absurd (miss (2 ∷ 3 ∷ []) 7 tt h)
classy Left h = absurd (miss (2 ∷ 3 ∷ []) 8 tt h)
classy Right h = absurd (miss (2 ∷ 3 ∷ []) 9 tt h)

pub overflow_add-at : goal.overflow_add-at
overflow_add-at c = let l = unit_inside _ _ _ c.requires in omega arith

pub members_end-requires : goal.members_end-requires
members_end-requires c = class_some _ _ _ c.requires (classy c.args.element.unit c.in-Class.in-Class-own.keys1)

pub overflow_add-result : goal.overflow_add-result
overflow_add-result c = let l = unit_inside _ _ _ c.requires in omega arith

pub returns-in-Class : goal.returns-in-Class
returns-in-Class c = behind_class _ _ _ c.requires (classy c.args.element.unit c.in-Class.in-Class-own.keys1) _ c.members_end.ensures

pub returns-in_default : goal.returns-in_default
returns-in_default c = behind_plain _ _ _ c.requires (plain c.args.element.unit (opened c.in_default.in_default-own.keys2))
