use mathlib.Core.Path.{◌≡◌, sym, ◌∙◌}
use mathlib.Core.Logic.{◌≢◌}
use borrow.Author.Rules.{rules}
use borrow.Author.Tests.{tests}
use Rattle.std.proofs.lemmas.Iterator.{YieldsList-from_slice, IsFirst-from_position, index_from_first}
use Rattle.form_state.specs.Access.{text_length}
use Rattle.form_state.proofs.Steps.{text_none, text_hit, text_miss}
use Rattle.form_state.proofs.text_length.Goals as goal

pub returns : goal.returns
returns c =
    c.unwrap_or.ensures
    ∙ sym (index_from_first text_length (λ x. x ≡ 0) (λ x. x ≢ 0) text_none text_hit text_miss c.args.entry.now c.position.result
    (IsFirst-from_position _ _ c.position.result (λ x. x ≡ 0) (λ x. x ≢ 0) c.position.ensures.ran (YieldsList-from_slice c.args.entry.now c.iter.ensures.rest) (λ x q k. search (rules, tests)) (λ x q k. search (rules, tests))))
