use mathlib.Core.Path.{◌∙◌}
use Rattle.std.proofs.Common.{rules, tests}
use Rattle.std.proofs.lemmas.Iterator.{YieldsList-from_slice}
use Rattle.std.proofs.lemmas.Iterator.Consumers.{count_from_yields_List, YieldsList-from_filter}
use Rattle.word_find.proofs.Forming.{is_letter, count_of_letters}
use Rattle.word_find.proofs.form.count_letters.Goals as goal

pub returns : goal.returns
returns c =
    count_from_yields_List _ _ c.count.ensures.ran (YieldsList-from_filter _ is_letter (YieldsList-from_slice c.args.pattern.now (search rules)) c.filter.ensures.closure (λ x b q k. search (rules, tests)))
    ∙ count_of_letters c.args.pattern.now
