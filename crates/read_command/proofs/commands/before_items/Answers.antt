use native.Mathlib.Omega.{arith}
use Rattle.read_scan.proofs.Laws.{handed_on}
use Rattle.read_command.proofs.Commanding.{before_none, before_all}
use Rattle.read_command.proofs.commands.before_items.Goals as goal

pub returns-in_err-z : goal.returns-in_err-z
returns-in_err-z c =
    rw (handed_on c.from_residual.ensures) (before_none c.args.s.now c.args.a c.args.first c.args.out.now c.call.new.out c.args.start c.args.counter _ c.in_err-z.ensures.from)

pub commands_items-requires : goal.commands_items-requires
commands_items-requires c =
    let t = c.in_ok-z.ensures.from in
    (t.reached, omega (arith, t.room, t.further, t.reached.2, c.call.auto.out, c.requires.1), omega arith)

pub returns : goal.returns
returns c =
    before_all c.args.s.now c.args.a c.args.first c.args.out.now c.call.new.out c.args.start c.args.counter c.in_ok-z.ensures.from
    c.commands_items.new.out c.commands_items.result c.commands_items.ensures
