use Rattle.pass_call.proofs.Moving.{store_refused, store_made}
use Rattle.pass_call.proofs.store.Goals as goal

pub returns-then-text-gt100 : goal.returns-then-text-gt100
returns-then-text-gt100 c = store_refused c.args.state.now c.args.i c.args.size c.requires.0 c.args.text.now c.if-text-gt100.true

pub returns : goal.returns
returns c = store_made c.args.state.now c.args.i c.args.size c.requires.0 c.args.text.now c.if-text-gt100.false c.set_entry.ensures
