use Rattle.std.proofs.Common.{rules}
use borrow.Author.Tests.{tests}
use Rattle.macros.specs.Macro.{within}
use Rattle.read_fault.proofs.is_fault.Goals as goal

pub returns : goal.returns
unfolding within
returns c = search (rules, tests)
