use mathlib.Core.Path.{refl}
use native.Mathlib.Omega.{arith}
use Rattle.program.proofs.Held.{is_ready}
use Rattle.program.proofs.Lines.{ran_lines, ran_refused}
use Rattle.program.proofs.run.Goals as goal

pub answer_lines-requires : goal.answer_lines-requires
answer_lines-requires g c = is_ready c.in-Ok.is c.read_parts.ensures.ready

pub returns-in-Ok : goal.returns-in-Ok
returns-in-Ok g c = ((omega arith, c.requires.1), ran_lines c.requires.0 c.read_parts.ensures.parts_read c.in-Ok.is c.answer_lines.ensures)

pub returns-in-Err : goal.returns-in-Err
returns-in-Err g c = (c.refusal_said.ensures.0, ran_refused c.requires.0 c.read_parts.ensures.parts_read c.in-Err.is c.from.ensures c.refusal_said.ensures.1 refl)
