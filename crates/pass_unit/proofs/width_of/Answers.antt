use mathlib.Core.Path.{◌≡◌, refl, ap, ◌∙◌}
use mathlib.Core.List.{[], ◌∷◌}
use lib.ListN.{length}
use types.Run.{OneOf, miss}
use denote.Enum.Declared.{tag_of}
use Rattle.form_element.specs.contracts.Unit.{the_type}
use Rattle.form_element.specs.declared.Unit.{Unit as CodeUnit}
use Rattle.form_element.specs.declared.Unit.TheVariants.{Literal, Kind, Class, ClassNot, StackCall, CounterCall, Start, End, Left, Right}
use Rattle.lines.specs.State.{State, contents}
use Rattle.lines.specs.Matching.{width}
use Rattle.pass_unit.specs.Pieces.{width_u}
use Rattle.pass_unit.proofs.width_of.Goals as goal

one-wide : (u : CodeUnit) → OneOf (0 ∷ 1 ∷ 2 ∷ 3 ∷ []) (tag_of the_type u) → (st : State) → 1 ≡ width_u st u
unfolding width contents
one-wide (Literal c) h st = refl
one-wide (Kind n) h st = refl
one-wide Class h st = refl
one-wide ClassNot h st = refl
one-wide (StackCall i) h st = absurd (miss (0 ∷ 1 ∷ 2 ∷ 3 ∷ []) 4 tt h)
one-wide (CounterCall i) h st = absurd (miss (0 ∷ 1 ∷ 2 ∷ 3 ∷ []) 5 tt h)
one-wide Start h st = absurd (miss (0 ∷ 1 ∷ 2 ∷ 3 ∷ []) 6 tt h)
one-wide End h st = absurd (miss (0 ∷ 1 ∷ 2 ∷ 3 ∷ []) 7 tt h)
one-wide Left h st = absurd (miss (0 ∷ 1 ∷ 2 ∷ 3 ∷ []) 8 tt h)
one-wide Right h st = absurd (miss (0 ∷ 1 ∷ 2 ∷ 3 ∷ []) 9 tt h)

pub returns-in-StackCall : goal.returns-in-StackCall
unfolding width contents
returns-in-StackCall c = λ st h. ap length (c.entry.ensures st h) ∙ rw c.in-StackCall.is

pub returns-in-CounterCall : goal.returns-in-CounterCall
unfolding width contents
returns-in-CounterCall c = λ st h. c.number_width.ensures ∙ rw (c.value.ensures st h, c.in-CounterCall.is)

pub returns-in_default : goal.returns-in_default
returns-in_default c = λ st h. one-wide c.args.element.unit c.in_default.in_default-own.keys4 st
