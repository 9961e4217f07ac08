use Rattle.read_call.proofs.calls.one_call.Goals as goal

pub returns-then-counter : goal.returns-then-counter
returns-then-counter c = rw c.if-counter.true (c.letter_call.ensures c.args.tags)
