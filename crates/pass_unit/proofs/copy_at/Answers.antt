use Prim.Native.Nat.{ℕ}
use mathlib.Core.Path.{◌≡◌, refl, ◌∙◌}
use mathlib.Core.List.{List, [], ◌∷◌}
use types.Run.{OneOf, miss}
use denote.Enum.Declared.{tag_of}
use Rattle.form_element.specs.contracts.Unit.{the_type}
use Rattle.form_element.specs.declared.Unit.{Unit as CodeUnit}
use Rattle.form_element.specs.declared.Unit.TheVariants.{Literal, Kind, Class, ClassNot, StackCall, CounterCall, Start, End, Left, Right}
use Rattle.macros.specs.Macro.{Member}
use Rattle.lines.specs.State.{State, contents}
use Rattle.lines.specs.Matching.{byte_fits, fits}
use Rattle.pass_unit.specs.Pieces.{members_of, holds, fit_u}
use Rattle.pass_unit.proofs.TextLaws.{end_at}
use Rattle.pass_unit.proofs.copy_at.Goals as goal

by_byte : (u : CodeUnit) → OneOf (0 ∷ 1 ∷ 2 ∷ 3 ∷ []) (tag_of the_type u) → (st : State) (ms : List Member) (p : ℕ) (s : List ℕ) → byte_fits (holds u ms) s ≡ fit_u st u ms p s
unfolding fits contents
by_byte (Literal c) h st ms p s = refl
by_byte (Kind n) h st ms p s = refl
by_byte Class h st ms p s = refl
by_byte ClassNot h st ms p s = refl
by_byte (StackCall i) h st ms p s = absurd (miss (0 ∷ 1 ∷ 2 ∷ 3 ∷ []) 4 tt h)
by_byte (CounterCall i) h st ms p s = absurd (miss (0 ∷ 1 ∷ 2 ∷ 3 ∷ []) 5 tt h)
by_byte Start h st ms p s = absurd (miss (0 ∷ 1 ∷ 2 ∷ 3 ∷ []) 6 tt h)
by_byte End h st ms p s = absurd (miss (0 ∷ 1 ∷ 2 ∷ 3 ∷ []) 7 tt h)
by_byte Left h st ms p s = absurd (miss (0 ∷ 1 ∷ 2 ∷ 3 ∷ []) 8 tt h)
by_byte Right h st ms p s = absurd (miss (0 ∷ 1 ∷ 2 ∷ 3 ∷ []) 9 tt h)

pub returns-in-StackCall : goal.returns-in-StackCall
unfolding fits contents
returns-in-StackCall c = λ e es r st h. c.text_at.ensures ∙ rw (c.entry.ensures st h, c.in-StackCall.is)

pub returns-in-CounterCall : goal.returns-in-CounterCall
unfolding fits contents
returns-in-CounterCall c = λ e es r st h. c.has_number.ensures ∙ rw (c.value.ensures st h, c.in-CounterCall.is)

pub returns-in-End : goal.returns-in-End
returns-in-End c = λ e es r st h. rw c.in-End.is (end_at _ _ c.requires.place)

pub returns-in_default : goal.returns-in_default
returns-in_default c = λ e es r st h. c.one_at.ensures e es r ∙ by_byte c.args.element.unit c.in_default.in_default-own.keys6 st (members_of e) _ _
