use mathlib.Core.Path.{◌≡◌}
use lib.ListN.{length}
use Rattle.word_find.proofs.Marking.{ByteSo}
use Rattle.word_find.proofs.cover.put_byte.Given as goal

abbrev pub invariant-loop-i : goal.invariant-loop-i
invariant-loop-i l = (length l.marks ≡ length l.initial.marks) × ByteSo l.initial.marks l.marks l.word l.c l.i
