-- The codes of units and closures, there and back.
use mathlib.Core.Path.{◌≡◌, refl, sym}
use mathlib.Core.Bool.{true, false}
use mathlib.Core.List.{[]}
use mathlib.Core.Option.{some}
use Prim.Native.Nat.{ℕ, ◌+◌, ◌*◌, ◌/◌, ◌%◌}
use native.Mathlib.Omega.{arith}
use lib.Dec.{eqb}
use borrow.Author.Tests.{eqb-true}
use Rattle.macros.specs.Macro.{Closure, PatternUnit, pick, within, ascii_lower}
use Rattle.macros.specs.Macro.Closure.{once, one_or_more, zero_or_more}
use Rattle.macros.specs.Macro.Mark.{stack, counter}
use Rattle.macros.specs.Macro.PatternUnit.{literal, kind, class, call_of}
use Rattle.macros.specs.Formed.{Byte, Letter, Between, FormedUnit}
use Rattle.form_table.specs.Form.{closure_code, unit_code, unit_operand}
use Rattle.form_table.specs.Walk.{given}
use Rattle.form_table.specs.PatternWalk.{closure_of, unit_of}
use Rattle.form_table.proofs.Basics.{not_some, picked, within_of, within_low, within_high}
use Rattle.form_table.proofs.Walks.{granted, granting, some_same}
use Rattle.form_table.proofs.Octet.{closure_code_lem}

-- a unit as its first item says it
abbrev pub head : PatternUnit → PatternUnit
head (literal b) = literal b
head (kind n) = kind n
head (call_of m i) = call_of m i
head (class neg ms) = class neg []

abbrev pub FormedHead : PatternUnit → Type 0
FormedHead (literal b) = Byte b
FormedHead (kind n) = Between 1 6 n
FormedHead (call_of m i) = Letter i
FormedHead (class neg ms) = (ms ≡ [])

pub closure_of_lem : (k : Closure) → closure_of (closure_code k) ≡ some k
unfolding closure_of closure_code pick
closure_of_lem once = refl
closure_of_lem one_or_more = refl
closure_of_lem zero_or_more = refl

pub unit_of_lem : (u : PatternUnit) → FormedUnit u → unit_of (unit_code u) (unit_operand u) ≡ some (head u)
unfolding unit_of unit_code unit_operand pick ascii_lower given
unit_of_lem (literal b) f = granting (within 1 255 b) (literal b) (within_of 1 255 b f.0 f.1)
unit_of_lem (kind n) f = granting (within 1 6 n) (kind n) (within_of 1 6 n f.0 f.1)
unit_of_lem (call_of stack i) f = granting (within 97 122 i) (call_of stack i) (within_of 97 122 i f.0 f.1)
unit_of_lem (call_of counter i) f = granting (within 97 122 i) (call_of counter i) (within_of 97 122 i f.0 f.1)
unit_of_lem (class false ms) f = refl
unit_of_lem (class true ms) f = refl

pub of_closure : (c : ℕ) (k : Closure) → closure_of c ≡ some k → closure_code k ≡ c
unfolding closure_of closure_code
of_closure c k e =
    picked (eqb c 0) e (λ t q. rw (← some_same q) (sym (eqb-true c 0 t)))
    λ f e. picked (eqb c 1) e (λ t q. rw (← some_same q) (sym (eqb-true c 1 t)))
    λ f e. picked (eqb c 2) e (λ t q. rw (← some_same q) (sym (eqb-true c 2 t)))
    λ f e. not_some e

-- what a code and an operand say of the unit
abbrev pub Says : ℕ → ℕ → PatternUnit → Type 0
Says c o u = (unit_code u ≡ c) × (unit_operand u ≡ o) × FormedHead u

pub of_unit : (c o : ℕ) (u : PatternUnit) → unit_of c o ≡ some u → Says c o u
unfolding unit_of unit_code unit_operand ascii_lower
of_unit c o u e =
    picked (eqb c 2) e (λ t e. granted (within 1 255 o) e λ w q. rw (← q) (sym (eqb-true c 2 t), refl, (within_low 1 255 o w, within_high 1 255 o w)))
    λ f e. picked (eqb c 3) e (λ t e. granted (within 1 6 o) e λ w q. rw (← q) (sym (eqb-true c 3 t), refl, (within_low 1 6 o w, within_high 1 6 o w)))
    λ f e. picked (eqb c 4) e (λ t e. granted (within 97 122 o) e λ w q. rw (← q) (sym (eqb-true c 4 t), refl, (within_low 97 122 o w, within_high 97 122 o w)))
    λ f e. picked (eqb c 5) e (λ t e. granted (within 97 122 o) e λ w q. rw (← q) (sym (eqb-true c 5 t), refl, (within_low 97 122 o w, within_high 97 122 o w)))
    λ f e. picked (eqb c 6) e (λ t e. granted (eqb o 0) e λ w q. rw (← q) (sym (eqb-true c 6 t), sym (eqb-true o 0 w), refl))
    λ f e. picked (eqb c 7) e (λ t e. granted (eqb o 0) e λ w q. rw (← q) (sym (eqb-true c 7 t), sym (eqb-true o 0 w), refl))
    λ f e. not_some e

-- an element's code holds both
pub code_unit_lem : (u : PatternUnit) (k : Closure) → (4 * unit_code u + closure_code k) / 4 ≡ unit_code u
code_unit_lem u k = omega (arith, closure_code_lem k)

pub code_closure_lem : (u : PatternUnit) (k : Closure) → (4 * unit_code u + closure_code k) % 4 ≡ closure_code k
code_closure_lem u k = omega (arith, closure_code_lem k)
