use Rattle.form_state.proofs.Steps.{other_length, passes}
use native.Mathlib.Omega.{arith}
use Rattle.check_state.proofs.is_state.Goals as goal

pub returns-then-state-ne-STATE_BYTES : goal.returns-then-state-ne-STATE_BYTES
returns-then-state-ne-STATE_BYTES c = other_length c.args.state.now c.if-state-ne-STATE_BYTES.true

pub bounds-state-1 : goal.bounds-state-1
bounds-state-1 c = omega (arith, c.if-state-ne-STATE_BYTES.false)

pub numbers_fit-numbers-requires : goal.numbers_fit-numbers-requires
numbers_fit-numbers-requires c = search

pub slice_bounds-entries_fit-count : goal.slice_bounds-entries_fit-count
slice_bounds-entries_fit-count c = omega (arith, c.if-state-ne-STATE_BYTES.false)

pub slice_bounds-entries_fit-end : goal.slice_bounds-entries_fit-end
slice_bounds-entries_fit-end c = omega (arith, c.if-state-ne-STATE_BYTES.false)

pub returns : goal.returns
returns c =
    let l = c.args.state.now in
    passes l c.pointers_fit-pointers.result c.numbers_fit-numbers.result c.entries_fit-entries.result
    c.if-state-ne-STATE_BYTES.false c.pointers_fit-pointers.ensures c.numbers_fit-numbers.ensures c.entries_fit-entries.ensures
