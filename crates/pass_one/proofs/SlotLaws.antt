-- The items of a slot's pattern.
use Prim.Native.Nat.{ℕ, ◌+◌, ◌-◌, ◌≤◌}
use mathlib.Core.Path.{◌≡◌, sym, ap, ◌∙◌}
use mathlib.Core.List.{List}
use native.Mathlib.Omega.{arith}
use lib.ListN.{length, take, drop}
use Rattle.macros.specs.Macro.{Macro}
use Rattle.form_table.specs.Form.{body_bytes}
use Rattle.form_table.specs.Check.{two_at}
use Rattle.pass_replace.specs.Contract.{IsSlot}
use Rattle.pass_replace.proofs.Parts.{pattern_long, parts_short, pattern_here}
use Rattle.pass_unit.specs.Pattern.{IsPattern}
use Rattle.pass_one.proofs.CallLaws.{formed_units}

module _ (s : List ℕ) (m : Macro) (h : IsSlot s m) {x y : ℕ} (p : x ≡ two_at s 2) (q : y ≡ two_at s 4) where
  pub items_are : IsPattern (take (10 + x + y - (10 + x)) (drop (10 + x) s)) m.pattern
  items_are = record { formed = formed_units m.pattern h.spellable.0.pattern.pieces; form = sym (pattern_here s m h p q) }

  pub items_few : length (take (10 + x + y - (10 + x)) (drop (10 + x) s)) ≤ body_bytes
  items_few = omega (arith, ap length (pattern_here s m h p q) ∙ sym (pattern_long s m h), parts_short s m h)
