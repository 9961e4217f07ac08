use native.Mathlib.Omega.{arith}
use lib.ListN.{get_or}
use Rattle.form_table.specs.Actions.{number_in}
use Rattle.form_table.proofs.Actions.{size_set}
use Rattle.pass_steps.proofs.Codes.{value_small}
use Rattle.pass_steps.proofs.Stepping.{changes_does}
use Rattle.pass_replace.proofs.Acting.{access_insert, access_divide}
use Rattle.pass_replace.proofs.actions.access.Goals as goal

pub returns-in-0-to-63 : goal.returns-in-0-to-63
returns-in-0-to-63 c = access_insert _ c.args.t.now (omega arith) c.insert.ensures

pub returns-in-64-to-103 : goal.returns-in-64-to-103
returns-in-64-to-103 c = changes_does _ c.change.ensures c.requires.3.fits

pub number_at-requires : goal.number_at-requires
number_at-requires c = omega (arith, size_set c.args.t.now (omega arith), c.requires.1.held)

pub put_divided-requires : goal.put_divided-requires
unfolding number_in
put_divided-requires c =
    let p = c.requires in
    (value_small c.args.state.now (get_or c.args.t.now 1 0) p.2 c.value.ensures, rw c.number_at.ensures (p.1.number (omega arith)).0, p.3)

pub returns-in_default : goal.returns-in_default
unfolding number_in
returns-in_default c = access_divide _ c.args.t.now _ _ (omega arith) c.requires.2 c.value.ensures c.number_at.ensures c.put_divided.ensures
