-- Cases of the form of faults, computed.
use Rattle.std.specs.Prelude.{◌≡◌, refl, ◌+◌, ◌*◌, [], ◌∷◌, ◌++◌, length, replicate}
use Rattle.form_bytes.specs.Fours.{four}
use Rattle.macros.specs.Refusals.{file_number}
use Rattle.macros.specs.Refusals.FileRefusal.{incomplete, no_unit, macro_too_long}
use Rattle.faults.specs.Refusal.{most_faults}
use Rattle.faults.specs.Recover.Fault.{fault_at}
use Rattle.form_faults.specs.Form.{fault_items, faults_bytes, faults_form, list_bytes}

-- no faults: all zeros; two, at 3 and at 21; one at the end of a file of 32,768 bytes; a full memory
pub forms :
    (faults_form [] ≡ replicate 2052 0) ×
    (faults_form (fault_at no_unit 3 ∷ fault_at incomplete 21 ∷ [])
    ≡ (2 ∷ 0 ∷ 0 ∷ 0 ∷ 14 ∷ 0 ∷ 0 ∷ 0 ∷ 3 ∷ 0 ∷ 0 ∷ 0 ∷ 12 ∷ 0 ∷ 0 ∷ 0 ∷ 21 ∷ 0 ∷ 0 ∷ 0 ∷ []) ++ replicate 2032 0) ×
    (faults_form (fault_at incomplete 32768 ∷ []) ≡ (1 ∷ 0 ∷ 0 ∷ 0 ∷ 12 ∷ 0 ∷ 0 ∷ 0 ∷ 0 ∷ 128 ∷ 0 ∷ 0 ∷ []) ++ replicate 2040 0) ×
    (length (faults_form (replicate 256 (fault_at macro_too_long 512))) ≡ 2052)
unfolding four file_number fault_items faults_form
forms = (refl, refl, refl, refl)

-- the memory has four bytes for the count, and eight for each of the faults that may be listed
pub sizes : (list_bytes ≡ 8 * most_faults) × (faults_bytes ≡ 4 + list_bytes)
sizes = (refl, refl)
