use Prim.Native.Nat.{◌-◌}
use mathlib.Core.Path.{◌≡◌}
use mathlib.Core.Bool.{false}
use lib.ListN.{length}
use Rattle.line_passes.specs.Passing.{Ready, Onward}
use Rattle.line_passes.proofs.passes.all_passes.Given as goal

abbrev pub invariant-loop-end : goal.invariant-loop-end
invariant-loop-end l = Ready (record { table = l.table; count = l.count; kinds = l.kinds; budget = l.budget; traced = l.traced }) (record { state = l.state; text = l.text; new = l.new; present = l.present; flags = l.flags; trace = l.trace }) l.stand × ((length l.state ≡ length l.initial.state) × (length l.text ≡ length l.initial.text) × (length l.new ≡ length l.initial.new) × (length l.present ≡ length l.initial.present) × (length l.flags ≡ length l.initial.flags) × (length l.trace ≡ length l.initial.trace)) × Onward (record { table = l.table; count = l.count; kinds = l.kinds; budget = l.budget; traced = l.traced }) (record { state = l.initial.state; text = l.initial.text; new = l.initial.new; present = l.initial.present; flags = l.initial.flags; trace = l.initial.trace }) (record { state = l.state; text = l.text; new = l.new; present = l.present; flags = l.flags; trace = l.trace }) l.initial.stand l.stand × (l.traced ≡ false → l.trace ≡ l.initial.trace)

abbrev pub decreases-loop-end : goal.decreases-loop-end
decreases-loop-end l = l.budget - l.stand.begun
