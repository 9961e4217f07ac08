use Prim.Native.Nat.{ℕ}
use mathlib.Core.Path.{sym, ◌∙◌}
use native.Mathlib.Omega.{arith}
use lib.ListN.{length-replicate}
use Rattle.form_state.proofs.Held.{is_long_lem}
use Rattle.pass_one.proofs.CallLaws.{pattern_letters, seen_self}
use Rattle.pass_one.proofs.matched.Goals as goal

pub has_calls-requires : goal.has_calls-requires
has_calls-requires c = let y = c.requires in (pattern_letters _ y.macro.0.pattern (y.pattern.pattern y.macro.0 y.macro.1), y.pattern.fits)

pub copy_from_slice-requires : goal.copy_from_slice-requires
copy_from_slice-requires c = length-replicate {A = ℕ} 52236 0 ∙ sym (is_long_lem _ c.requires.state)

pub walk-requires : goal.walk-requires
walk-requires c = let y = c.requires in (y, seen_self _ _ _ y.macro.0.pattern (y.pattern.pattern y.macro.0 y.macro.1) y.state (omega (arith, c.copy_from_slice.ensures.len, length-replicate {A = ℕ} 52236 0)) c.copy_from_slice.ensures.after)
