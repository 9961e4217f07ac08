use mathlib.Core.Path.{◌≡◌}
use lib.ListN.{drop}
use Rattle.pass_lack.specs.Lacking.{flagged, flags_of}
use Rattle.pass_lack.proofs.note.Given as goal

abbrev pub invariant-loop-b : goal.invariant-loop-b
invariant-loop-b l = flagged l.present (drop l.b-index l.line) ≡ flags_of l.line
