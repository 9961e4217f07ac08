-- A copy of a unit ends within the line.
-- Assumes nothing.
use Prim.Native.Nat.{ℕ, ◌+◌, ◌≤◌}
use mathlib.Core.Path.{◌≡◌, sym, ◌∙◌}
use mathlib.Core.Bool.{Bool, true, false}
use mathlib.Core.List.{List}
use native.Mathlib.Omega.{arith}
use lib.ListN.{length, drop, length-drop}
use Rattle.macros.specs.Macro.{Member}
use Rattle.macros.specs.Macro.Mark.{stack, counter}
use Rattle.macros.specs.Macro.PatternUnit.{literal, kind, class, call_of}
use Rattle.lines.specs.State.{State}
use Rattle.lines.specs.Matching.{width}
use Rattle.lines.proofs.CopyLaws.{fits_inside}
use Rattle.form_state.specs.Access.{IsState, OfState}
use Rattle.pass_unit.specs.Pattern.{OfPiece}
use Rattle.pass_unit.specs.Pieces.{members_of, fit_u, width_u, Stands, Wide}
use Rattle.form_element.specs.declared.Unit.{Unit as CodeUnit}
use Rattle.form_element.specs.declared.Unit.TheVariants.{Literal, Kind, Class, ClassNot, StackCall, CounterCall, Start, End, Left, Right}

pub fit_inside : (st : State) (u : CodeUnit) (ms : List Member) (p : ℕ) (s : List ℕ) → fit_u st u ms p s ≡ true → width_u st u ≤ length s
unfolding width
fit_inside st (Literal c) ms p s e = fits_inside st (literal c) s e
fit_inside st (Kind n) ms p s e = fits_inside st (kind n) s e
fit_inside st Class ms p s e = fits_inside st (class false ms) s e
fit_inside st ClassNot ms p s e = fits_inside st (class true ms) s e
fit_inside st (StackCall i) ms p s e = fits_inside st (call_of stack i) s e
fit_inside st (CounterCall i) ms p s e = fits_inside st (call_of counter i) s e
fit_inside st Start ms p s e = omega arith
fit_inside st End ms p s e = omega arith
fit_inside st Left ms p s e = omega arith
fit_inside st Right ms p s e = omega arith

pub copy_inside : (items b t : List ℕ) (at : ℕ) (u : CodeUnit) (w p : ℕ) (x : Bool) → Stands items at → IsState b → p ≤ length t → Wide b u w
    → OfPiece items at (λ e. OfState b (λ st. x ≡ fit_u st u (members_of e) p (drop p t))) → x ≡ true → p + w ≤ length t
copy_inside items b t at u w p x i s l wide f g =
    let a = fit_inside s.0 u (members_of i.piece) p (drop p t) (sym (f i.piece i.pieces i.is s.0 s.1) ∙ g) in
    let c = wide s.0 s.1 in
    let d = length-drop p t in
    omega arith
