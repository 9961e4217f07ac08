use Rattle.std.proofs.Common.{rules}
use Rattle.word_find.proofs.Marking.{begun}
use Rattle.word_find.proofs.cover.start.Goals as goal

pub returns : goal.returns
returns c = begun c.args.word.now c.args.marks.now c.fill.new.self (search rules) c.requires
