use Rattle.pass_one.proofs.GoingLaws.{ready_first, pass_free}
use Rattle.pass_one.proofs.tried.Goals as goal

pub first_match-requires : goal.first_match-requires
first_match-requires c = ready_first _ _ _ _ _ _ _ c.requires

pub returns-in_default : goal.returns-in_default
returns-in_default c = pass_free _ _ _ _ _ _ _ c.requires _ _ _ c.first_match.ensures c.in_default.is
