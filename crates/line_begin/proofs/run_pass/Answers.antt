use Rattle.line_begin.proofs.Preparing.{places_lent, runs_places, runs_refused}
use Rattle.line_begin.proofs.run_pass.Goals as goal

pub pass-requires : goal.pass-requires
pass-requires c = places_lent c.requires c.prepare.ensures

pub returns-in-Err : goal.returns-in-Err
returns-in-Err c = runs_refused c.requires c.in-Err.ensures

pub returns : goal.returns
returns c = runs_places c.requires c.in_default.ensures c.pass.ensures
