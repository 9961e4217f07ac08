use Rattle.std.proofs.Common.{arith}
use Rattle.read_file.proofs.Storing.{stored}
use Rattle.read_file.proofs.slots.store.Goals as goal

pub returns : goal.returns
returns c =
    stored c.args.head c.args.body.now c.requires.1 c.requires.2 (omega (arith, c.put_head.auto.table)) c.put_head.ensures c.copy_from_slice.ensures.after (omega arith) (omega arith)
    (c.fill.ensures.after (λ y e. e))
