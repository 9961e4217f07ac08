use Rattle.pass_one.proofs.FindLaws.{ready_trying}
use Rattle.pass_one.proofs.PlaceLaws.{ready, finds, goes_free, makes}
use Rattle.pass_one.proofs.walking.go_on.Goals as goal

pub elements-whole-requires : goal.elements-whole-requires
elements-whole-requires c = ready_trying _ _ _ _ _ _ _ (ready _ _ _ _ _ _ _ _ _ c.requires.0)

pub returns-in_default : goal.returns-in_default
returns-in_default c = goes_free _ _ _ _ _ _ _ _ _ c.requires.0 _ c.requires.1 _ _ _ (finds _ _ _ _ _ _ _ _ c.args.at c.requires.0 _ _ _ _ c.elements-whole.ensures c.counted.ensures) c.in_default.is

pub replace-requires : goal.replace-requires
replace-requires c = (makes _ _ _ _ _ _ _ _ c.args.at c.requires.0 _ _ _ _ (finds _ _ _ _ _ _ _ _ c.args.at c.requires.0 _ _ _ _ c.elements-whole.ensures c.counted.ensures) c.in-Some.is c.elements-whole.auto.marks c.elements-whole.auto.ends, c.requires.1)
