use Rattle.std.proofs.Common.{rules}
use borrow.Author.Tests.{tests}
use Rattle.macros.specs.Macro.{within}
use Rattle.read_plan.specs.Elements.{begins_element}
use Rattle.read_plan.proofs.begins_element.Goals as goal

pub returns : goal.returns
unfolding begins_element within
returns c = search (rules, tests)
