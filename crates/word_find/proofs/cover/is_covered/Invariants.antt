use mathlib.Core.Path.{◌≡◌}
use lib.ListN.{length, drop}
use Rattle.word_find.specs.Marks.{Marked}
use Rattle.word_find.proofs.cover.is_covered.Given as goal

abbrev pub invariant-loop-k : goal.invariant-loop-k
invariant-loop-k l = (length l.marks ≡ length l.initial.marks) × Marked l.marks (drop l.k l.pattern) l.word
