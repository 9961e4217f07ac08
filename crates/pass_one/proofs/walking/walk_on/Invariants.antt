use Prim.Native.Nat.{◌+◌, ◌-◌}
use mathlib.Core.Path.{◌≡◌}
use mathlib.Core.Bool.{true}
use lib.ListN.{length}
use Rattle.pass_one.specs.Places.{Origin, Came, Going}
use Rattle.pass_one.proofs.walking.walk_on.Given as goal

abbrev pub invariant-loop-at : goal.invariant-loop-at
invariant-loop-at l = (h : Origin) → Came l.slot l.items l.kinds l.line h → Going l.slot l.items l.line h l.initial.state l.initial.out l.initial.marks l.initial.seen l.initial.ends l.initial.at → Going l.slot l.items l.line h l.state l.out l.marks l.seen l.ends l.at × (l.initial.at.occurred ≡ true → l.at.occurred ≡ true)

abbrev pub decreases-loop-at : goal.decreases-loop-at
decreases-loop-at l = length l.line + 1 - l.at.place
