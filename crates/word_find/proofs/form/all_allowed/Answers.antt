use mathlib.Core.Path.{◌∙◌}
use Rattle.std.proofs.Common.{rules, tests}
use Rattle.std.proofs.lemmas.Iterator.{YieldsList-from_slice}
use Rattle.std.proofs.lemmas.Iterator.Search.{all_from_yields_List}
use Rattle.words.specs.Pattern.{allowed}
use Rattle.word_find.proofs.Forming.{each_allowed}
use Rattle.word_find.proofs.form.all_allowed.Goals as goal

pub returns : goal.returns
returns c = all_from_yields_List allowed _ _ _ c.all.ensures.ran (YieldsList-from_slice c.args.pattern.now cc) (λ x b q k. search (rules, tests)) ∙ each_allowed c.args.pattern.now
