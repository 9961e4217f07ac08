use Prim.Native.Nat.{◌+◌}
use mathlib.Core.Path.{◌≡◌}
use lib.ListN.{length, drop}
use Rattle.words.specs.Word.{leading}
use Rattle.word_find.proofs.walk.word_end.Given as goal

abbrev pub invariant-loop-e : goal.invariant-loop-e
invariant-loop-e l = l.at + length (leading (drop l.at l.line)) ≡ l.e + length (leading (drop l.e l.line))
