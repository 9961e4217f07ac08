use mathlib.Core.Path.{◌∙◌}
use native.Mathlib.Omega.{arith}
use lib.ListN.{get_or}
use Rattle.form_table.proofs.Actions.{some_size}
use Rattle.pass_steps.proofs.Codes.{value_small}
use Rattle.pass_texts.proofs.Inserting.{inserts_does, byte_is, tag_is, value_is, entry_is}
use Rattle.pass_texts.proofs.insert.Goals as goal
use Rattle.pass_texts.proofs.insert.Goals.{in_default-via-then-this-lt56, in_default-via-else-this-lt56+else-this-lt64}

pub slice_bounds-put-end : goal.slice_bounds-put-end
slice_bounds-put-end c = omega (arith, some_size c.args.t.now, c.requires.1.held)

pub put_value-requires : goal.put_value-requires
put_value-requires c = (value_small c.args.state.now (get_or c.args.t.now 1 0) c.requires.2 c.value.ensures, c.requires.3)

pub returns-in-40 : goal.returns-in-40
returns-in-40 c =
    let t = c.args.t.now in
    inserts_does _ t c.put.ensures c.requires.2 (λ st h. byte_is _ t (omega (arith, some_size t, c.requires.1.held)) c.in-40.is st)

pub returns-in-41 : goal.returns-in-41
returns-in-41 c =
    let t = c.args.t.now in
    inserts_does _ t c.put-in-41.ensures c.requires.2 (λ st h. c.part.ensures ∙ tag_is _ t c.in-41.is st)

pub returns-in-56-to-63 : goal.returns-in-56-to-63
returns-in-56-to-63 c =
    let t = c.args.t.now in
    inserts_does _ t c.put_value.ensures c.requires.2 (λ st h. value_is _ t (omega arith) (omega arith) st (c.value.ensures st h))

pub returns-in_default : goal.returns-in_default
returns-in_default c =
    let t = c.args.t.now in
    elim c.in_default.branch [
      | in_default-via-then-this-lt56 w ↦ inserts_does _ t c.put-in_default.ensures c.requires.2 (λ st h. c.part-in_default.ensures st h ∙ entry_is _ t (λ e. omega arith) (λ e. omega arith) (λ l k. omega arith) st)
      | in_default-via-else-this-lt56+else-this-lt64 w ↦ inserts_does _ t c.put-in_default.ensures c.requires.2 (λ st h. c.part-in_default.ensures st h ∙ entry_is _ t (λ e. omega arith) (λ e. omega arith) (λ l k. omega arith) st)
    ]
