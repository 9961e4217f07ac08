use mathlib.Core.Path.{◌≡◌, refl, sym, ◌∙◌}
use mathlib.Core.Bool.{Bool, true, false}
use mathlib.Core.List.{[], ◌∷◌}
use Prim.Native.Nat.{ℕ, ◌+◌}
use native.Mathlib.Omega.{arith}
use types.Run.{OneOf, miss}
use denote.Enum.Declared.{tag_of}
use Rattle.std.specs.Prelude.{Some, None}
use Rattle.macros.specs.Macro.{pick}
use Rattle.pass_unit.specs.Pieces.{led_to, lead_of}
use Rattle.pass_unit.proofs.CopyFits.{copy_inside}
use Rattle.form_element.specs.contracts.Closure.{the_type}
use Rattle.form_element.specs.declared.Closure.{Closure as CodeClosure}
use Rattle.form_element.specs.declared.Closure.TheVariants.{Once, OneOrMore, ZeroOrMore}
use borrow.Enum.Refused.{opened}
use Rattle.pass_unit.proofs.lead_at.Goals as goal

lead-needed : (c : CodeClosure) → OneOf (0 ∷ 1 ∷ []) (tag_of the_type c) → (f : Bool) (w p : ℕ) → lead_of c f w p ≡ led_to f (p + w)
lead-needed Once h f w p = refl
lead-needed OneOrMore h f w p = refl
lead-needed ZeroOrMore h f w p = absurd (miss (0 ∷ 1 ∷ []) 2 tt h)

led-yes : (f : Bool) (q : ℕ) → f ≡ true → Some q ≡ led_to f q
unfolding led_to pick
led-yes f q e = rw e

led-no : (f : Bool) (q : ℕ) → f ≡ false → None ≡ led_to f q
unfolding led_to pick
led-no f q e = rw e

pub overflow_add-result : goal.overflow_add-result
overflow_add-result c = let l = copy_inside c.args.items.now c.args.state.now c.args.line.now c.args.at c.args.element.unit c.args.w c.args.p _ c.requires.copying.unit.stands c.requires.copying.state c.requires.copying.place c.requires.wide c.copy_at.ensures c.if-copy_at.true in omega arith

pub returns-then-copy_at : goal.returns-then-copy_at
returns-then-copy_at c = λ e es r st h. led-yes _ _ (sym (c.copy_at.ensures e es r st h) ∙ c.if-copy_at.true) ∙ sym (lead-needed c.args.element.closure (opened c.in_default.in_default-own.keys2) _ _ _)

pub returns : goal.returns
returns c = λ e es r st h. led-no _ _ (sym (c.copy_at.ensures e es r st h) ∙ c.if-copy_at.false) ∙ sym (lead-needed c.args.element.closure (opened c.in_default.in_default-own.keys2) _ _ _)
