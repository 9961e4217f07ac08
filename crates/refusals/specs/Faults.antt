-- Which refusal of 01 each fault is.
use Rattle.macros.specs.Refusals.{WorkRefusal}
use Rattle.macros.specs.Refusals.WorkRefusal.{new_line_too_long, tag_too_long, pointer_too_high, counter_too_high}
use Rattle.refusals.specs.declared.WorkFault.{WorkFault}
use Rattle.refusals.specs.declared.WorkFault.TheVariants.{NewLineTooLong, TagTooLong, PointerTooHigh, CounterTooHigh}

-- 01's refusal for each fault
abbrev pub refusal_of : WorkFault → WorkRefusal
refusal_of NewLineTooLong = new_line_too_long
refusal_of TagTooLong = tag_too_long
refusal_of PointerTooHigh = pointer_too_high
refusal_of CounterTooHigh = counter_too_high
