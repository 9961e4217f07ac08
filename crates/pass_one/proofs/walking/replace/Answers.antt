use mathlib.Core.Path.{refl, ◌∙◌}
use Rattle.pass_one.proofs.PlaceLaws.{occurring, renewing, goes_acted}
use Rattle.pass_one.proofs.walking.replace.Goals as goal

pub occurrence-made-requires : goal.occurrence-made-requires
occurrence-made-requires c = occurring _ _ _ _ _ _ _ _ c.args.at c.requires.0.at _ c.requires.1 _ _ _ c.requires.0.found _ refl refl

pub renew-requires : goal.renew-requires
renew-requires c = renewing _ _ _ _ _ _ _ _ c.args.at c.requires.0.at _ c.requires.1 _ _ _ c.requires.0.found _ refl refl _ _ _ c.occurrence-made.ensures

pub returns : goal.returns
returns c = goes_acted _ _ _ _ _ _ _ _ c.args.at c.requires.0.at _ c.requires.1 _ _ _ c.requires.0.found _ refl _ _ _ _ _ c.occurrence-made.ensures c.renew.ensures (c.occurrence-made.auto.out ∙ c.requires.0.at.room) _ c.after.ensures
