use Rattle.std.proofs.Common.{rules, tests}
use Rattle.std.proofs.lemmas.Iterator.{YieldsList-from_slice}
use Rattle.std.proofs.lemmas.Iterator.Search.{any_from_yields_List}
use Rattle.line_test.proofs.BadBytes.{bad, tested}
use Rattle.line_test.proofs.has_bad_byte.Goals as goal

pub returns : goal.returns
returns c = tested _ c.type_inv.line (any_from_yields_List bad _ _ _ c.any.ensures.ran (YieldsList-from_slice c.args.line.now cc) (λ x b q k. search (rules, tests)))
