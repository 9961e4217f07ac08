use Prim.Native.Nat.{◌+◌, ◌*◌, ◌≤◌}
use mathlib.Core.Path.{◌≡◌}
use lib.ListN.{drop}
use Rattle.form_table.specs.Walk.{walk}
use Rattle.form_table.specs.PatternWalk.{pattern_step, pattern_start}
use Rattle.check_table.specs.PatternCode.{state_of}
use Rattle.check_table.proofs.pattern.walk_pattern.Given as goal

abbrev pub invariant-loop-i : goal.invariant-loop-i
invariant-loop-i l = (l.s.spelled + l.s.braces + l.s.elements ≤ 6 + 22 * l.i) × (walk pattern_step pattern_start l.items ≡ walk pattern_step (state_of l.s) (drop (2 * l.i) l.items))
