use mathlib.Core.Path.{ap, sym}
use Rattle.write_file.specs.Slots.{refusal_of}
use Rattle.write_file.specs.declared.WritingFault.{WritingFault}
use Rattle.macros.specs.Refusals.{file_number}
use Rattle.write_file.proofs.U32FromWritingFault.from.Goals as goal

pub returns-in-MacroTooLong : goal.returns-in-MacroTooLong
unfolding file_number
returns-in-MacroTooLong c = ap (λ (x : WritingFault). file_number (refusal_of x)) (sym c.in-MacroTooLong.is)

pub returns-in-FileTooLong : goal.returns-in-FileTooLong
unfolding file_number
returns-in-FileTooLong c = ap (λ (x : WritingFault). file_number (refusal_of x)) (sym c.in-FileTooLong.is)
