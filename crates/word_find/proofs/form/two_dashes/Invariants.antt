use Prim.Native.Nat.{◌-◌}
use mathlib.Core.Path.{◌≡◌}
use lib.ListN.{drop}
use Rattle.words.specs.Pattern.{two_dashes}
use Rattle.word_find.proofs.form.two_dashes.Given as goal

abbrev pub invariant-loop-i : goal.invariant-loop-i
invariant-loop-i l = two_dashes l.pattern ≡ two_dashes (drop (l.i - 1) l.pattern)
