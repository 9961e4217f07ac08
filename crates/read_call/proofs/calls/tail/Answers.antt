use Rattle.read_call.proofs.calls.tail.Goals as goal

pub returns-then-counter : goal.returns-then-counter
returns-then-counter c = rw c.if-counter.true c.counter_tail.ensures

pub returns-else-counter : goal.returns-else-counter
returns-else-counter c = rw c.if-counter.false c.stack_tail.ensures
