use Rattle.pass_one.proofs.FindLaws.{last_start}
use Rattle.pass_one.proofs.matcher.last_place.Goals as goal

pub returns-then-items-eq-START : goal.returns-then-items-eq-START
returns-then-items-eq-START c = last_start c.args.items.now c.args.line.now c.if-items-eq-START.true
