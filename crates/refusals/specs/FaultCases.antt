-- 01's number of each fault, computed. In brackets stand the edits of must-fail/ that the case rules out.
use Rattle.std.specs.Prelude.{◌≡◌, refl, [], ◌∷◌}
use Rattle.macros.specs.Refusals.{work_number}
use Rattle.refusals.specs.declared.WorkFault.TheVariants.{NewLineTooLong, TagTooLong, PointerTooHigh, CounterTooHigh}
use Rattle.refusals.specs.Faults.{refusal_of}

-- 32 the new line's 1,055th byte; 33 a stored tag over 100 bytes (02, N6); 34 pointer past 20; 35 counter past its end
-- [tag_fault_34, counter_fault_34]
pub fault_numbers :
    work_number (refusal_of NewLineTooLong) ∷ work_number (refusal_of TagTooLong) ∷ work_number (refusal_of PointerTooHigh) ∷
    work_number (refusal_of CounterTooHigh) ∷ [] ≡ 32 ∷ 33 ∷ 34 ∷ 35 ∷ []
unfolding work_number
fault_numbers = refl
