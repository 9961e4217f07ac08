use Prim.Native.Nat.{◌+◌, ◌≤◌}
use mathlib.Core.Path.{◌≡◌}
use native.Mathlib.Omega.{arith}
use Rattle.pass_call.proofs.Moving.{shift_none, shift_some}
use Rattle.pass_steps.proofs.Codes.{mark_counter, mark_stack}
use Rattle.pass_call.proofs.shift.Goals as goal
use Rattle.pass_call.proofs.shift.Goals.{else-not-up-via-then-not-up+else-m-first, else-not-up-via-else-not-up, in_default-via-then-code-lt56, in_default-via-else-code-lt56+else-code-lt64}

pub returns-then-m-first : goal.returns-then-m-first
returns-then-m-first c = rw c.in_ok-size.was (shift_none c.args.state.now c.args.i _ c.requires.0 c.args.first c.args.code c.move_of-m.ensures.0 c.if-not-up.true c.if-m-first.true)

pub returns-in-56-to-63 : goal.returns-in-56-to-63
returns-in-56-to-63 c =
    let some : (c.move_of-m.result ≡ c.args.first → ⊥) → c.move_of-m.result ≡ c.args.first + 1 = elim c.else-not-up.branch [ else-not-up-via-then-not-up+else-m-first w ↦ λ f. omega arith | else-not-up-via-else-not-up w ↦ λ f. omega arith ] in
    rw c.in_ok-size.was (shift_some c.args.first c.args.code c.args.i c.move_of-m.ensures.0 some (mark_counter c.args.code (omega arith) (omega arith)) c.move_value.ensures)

pub returns-in_default : goal.returns-in_default
returns-in_default c =
    let some : (c.move_of-m.result ≡ c.args.first → ⊥) → c.move_of-m.result ≡ c.args.first + 1 = elim c.else-not-up.branch [ else-not-up-via-then-not-up+else-m-first w ↦ λ f. omega arith | else-not-up-via-else-not-up w ↦ λ f. omega arith ] in
    let other : 56 ≤ c.args.code → c.args.code ≤ 63 → ⊥ = elim c.in_default.branch [ in_default-via-then-code-lt56 w ↦ λ l h. omega arith | in_default-via-else-code-lt56+else-code-lt64 w ↦ λ l h. omega arith ] in
    rw c.in_ok-size.was (shift_some c.args.first c.args.code c.args.i c.move_of-m.ensures.0 some (mark_stack c.args.code other) c.move_pointer.ensures)
