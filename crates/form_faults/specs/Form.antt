-- The form of a list of faults as bytes: how many they are, then number and place of each, four bytes each, low byte first;
-- unused bytes are zero.
use Rattle.std.specs.Prelude.{ℕ, ◌-◌, List, [], ◌∷◌, ◌++◌, length, replicate}
use Rattle.form_bytes.specs.Fours.{four}
use Rattle.macros.specs.Refusals.{file_number}
use Rattle.faults.specs.Recover.{Fault}
use Rattle.faults.specs.Recover.Fault.{fault_at}

-- the bytes of the count, and of 256 times number and place
abbrev pub faults_bytes : ℕ
faults_bytes = 2052

-- the bytes behind the count
abbrev pub list_bytes : ℕ
list_bytes = 2048

-- number and place of each fault
unfoldable pub fault_items : List Fault → List ℕ
fault_items [] = []
fault_items (fault_at r p ∷ fs) = four (file_number r) ++ (four p ++ fault_items fs)

-- the whole memory
unfoldable pub faults_form : List Fault → List ℕ
faults_form fs = four (length fs) ++ (fault_items fs ++ replicate (list_bytes - length (fault_items fs)) 0)
