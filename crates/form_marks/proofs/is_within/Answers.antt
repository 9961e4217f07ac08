use borrow.Author.Rules.{rules}
use borrow.Author.Tests.{tests}
use Rattle.macros.specs.Macro.{within}
use Rattle.form_marks.proofs.is_within.Goals as goal

pub returns : goal.returns
unfolding within
returns c = search (rules, tests)
