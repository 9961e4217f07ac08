use native.Mathlib.Omega.{arith}
use Rattle.line_memory.proofs.Slotting.{table_size, used_slot, unused_slot}
use Rattle.line_feed.proofs.slots.count_macros.Goals as goal

pub bounds-table-k : goal.bounds-table-k
bounds-table-k c = omega (arith, table_size c.args.table.now c.requires.0 c.requires.1)

pub returns-then-table-k-eq0 : goal.returns-then-table-k-eq0
returns-then-table-k-eq0 c = record { each = λ ms h. unused_slot c.args.table.now ms h c.loop-k.k (c.loop-k.invariant ms h) c.if-table-k-eq0.true }

pub loop-k-preserved : goal.loop-k-preserved
loop-k-preserved c = λ ms h. used_slot c.args.table.now ms h c.loop-k.k (omega arith) c.if-table-k-eq0.false

pub returns : goal.returns
returns c = record { each = λ ms h. omega (arith, c.loop-k.invariant ms h, h.accepted.count) }
