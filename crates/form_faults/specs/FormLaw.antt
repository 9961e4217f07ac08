-- THE LAWS OF THE FORM: it fits, a host reads the faults from it, and it is "one form for each content" (02, N9).
use Rattle.std.specs.Prelude.{◌≡◌, ℕ, ◌+◌, ◌*◌, ◌≤◌, List, [], ◌∷◌, ◌++◌, length}
use Rattle.form_bytes.specs.Fours.{number_at}
use Rattle.macros.specs.Bounds.{most_file_bytes}
use Rattle.macros.specs.Refusals.{FileRefusal, file_number}
use Rattle.macros.specs.Formed.{Octets}
use Rattle.faults.specs.Refusal.{most_faults}
use Rattle.faults.specs.Recover.{Fault}
use Rattle.faults.specs.Recover.Fault.{fault_at}
use Rattle.form_faults.specs.Form.{faults_bytes, faults_form}

-- each place lies in a file or is its end
abbrev pub PlacesFit : List Fault → Type 0
PlacesFit [] = Unit {0}
PlacesFit (fault_at r p ∷ fs) = (p ≤ most_file_bytes) × PlacesFit fs

-- the faults that are listed: at most 256
abbrev pub FaultList : List Fault → Type 0
FaultList fs = (length fs ≤ most_faults) × PlacesFit fs

-- the form has the memory's size, and is bytes
pub record FormFits (fs : List Fault) : Type 0 where
  pub size : length (faults_form fs) ≡ faults_bytes
  pub octets : Octets (faults_form fs)

abbrev pub FormsFit : Type 0
FormsFit = (fs : List Fault) → FaultList fs → FormFits fs

-- what a host reads in the bytes b: how many faults they are
abbrev pub fault_count : (b : List ℕ) → ℕ
fault_count b = number_at b 0

-- what a host reads as the number of the fault behind i others
abbrev pub fault_number : (b : List ℕ) → (i : ℕ) → ℕ
fault_number b i = number_at b (4 + 8 * i)

-- what a host reads as the place of the fault behind i others
abbrev pub fault_place : (b : List ℕ) → (i : ℕ) → ℕ
fault_place b i = number_at b (8 + 8 * i)

-- the fault behind those of fs
pub record FaultReadsBack (fs gs : List Fault) (r : FileRefusal) (p : ℕ) : Type 0 where
  pub number : fault_number (faults_form (fs ++ (fault_at r p ∷ gs))) (length fs) ≡ file_number r
  pub place : fault_place (faults_form (fs ++ (fault_at r p ∷ gs))) (length fs) ≡ p

abbrev pub FormsReadBack : Type 0
FormsReadBack = (fs gs : List Fault) (r : FileRefusal) (p : ℕ) → FaultList (fs ++ (fault_at r p ∷ gs)) → FaultReadsBack fs gs r p

abbrev pub FormsCount : Type 0
FormsCount = (fs : List Fault) → FaultList fs → fault_count (faults_form fs) ≡ length fs

-- different lists have different forms
abbrev pub FaultsOneForm : Type 0
FaultsOneForm = (fs gs : List Fault) → FaultList fs → FaultList gs → faults_form fs ≡ faults_form gs → fs ≡ gs
