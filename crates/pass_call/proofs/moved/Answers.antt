use Prim.Native.Nat.{ℕ, max}
use mathlib.Core.Path.{ap, ◌∙◌}
use Rattle.pass_call.proofs.Moving.{moved_up, moved_down}
use Rattle.pass_call.proofs.moved.Goals as goal

pub returns-then-up : goal.returns-then-up
returns-then-up c = moved_up c.args.n c.args.by c.if-up.true

pub returns-else-up : goal.returns-else-up
returns-else-up c = c.max.ensures ∙ ap (λ (x : ℕ). max x 1) c.saturating_sub.ensures ∙ moved_down c.args.n c.args.by c.if-up.false
