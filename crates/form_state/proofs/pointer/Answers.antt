use native.Mathlib.Omega.{arith}
use Rattle.form_state.proofs.Held.{is_long_lem, read_pointer}
use Rattle.form_state.proofs.pointer.Goals as goal

pub bounds-state-letter_number : goal.bounds-state-letter_number
bounds-state-letter_number c = omega (arith, is_long_lem c.args.state.now c.requires.0)

pub returns : goal.returns
returns c = λ st h. read_pointer c.args.state.now st h c.args.i c.letter_number.result c.requires.1 c.letter_number.ensures.0
