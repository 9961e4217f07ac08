use native.Mathlib.Omega.{arith}
use Rattle.form_state.proofs.Held.{pointer_range}
use Rattle.form_state.proofs.entry_at.Goals as goal

pub letter_number-requires : goal.letter_number-requires
letter_number-requires c = search

pub overflow_sub-result : goal.overflow_sub-result
overflow_sub-result c =
    let s = c.requires.0 in
    omega (arith, c.pointer-p.ensures s.0 s.1, pointer_range c.args.state.now s.0 s.1 c.args.i c.letter_number.result c.requires.1 c.letter_number.ensures.0)

pub returns : goal.returns
returns c =
    let s = c.requires.0 in
    let p = c.pointer-p in
    (omega (arith, p.ensures s.0 s.1, pointer_range c.args.state.now s.0 s.1 c.args.i c.letter_number.result c.requires.1 c.letter_number.ensures.0), λ st h. omega (arith, p.ensures st h, c.letter_number.ensures.0))
