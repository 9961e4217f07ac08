-- What the functions of this crate answer, and what the lent bytes then hold, by the definition of reading past faults.
use Rattle.std.specs.Prelude.{ℕ, ◌-◌, ◌*◌, ◌≤◌, ◌<◌, ◌≡◌, List, [], ◌∷◌, length, replicate}
use Rattle.std.specs.Prelude.{Option, Some, None, Result, Ok, Err}
use Rattle.macros.specs.Bounds.{most_macros}
use Rattle.macros.specs.Macro.{Table}
use Rattle.form_table.specs.Form.{slot_bytes, table_bytes, slots, form}
use Rattle.faults.specs.Refusal.{RecoverRefusal, most_faults, recover_number, recover_place}
use Rattle.faults.specs.Recover.{Fault, Recovered, with_fault, recover_from, recover}
use Rattle.faults.specs.Recover.Recovered.{kept, refused}
use Rattle.form_faults.specs.Form.{faults_bytes, faults_form}
use Rattle.read_fault.specs.declared.PastError.{PastError}
use Rattle.read_fault.specs.declared.Progress.{Progress}

-- A FILE

-- faults before those of the rest of the file
unfoldable pub with_faults : List Fault → Recovered → Recovered
with_faults [] v = v
with_faults (f ∷ fs) v = with_fault f (with_faults fs v)

-- reading stands at a place, with n macros kept and k faults listed, which are in the lent bytes; what the file then comes to
pub record Standing (s : List ℕ) (at n k : ℕ) (tb fb : List ℕ) : Type 0 where
  pub macros : Table
  pub faults : List Fault
  pub reached : at ≤ length s
  pub counted : length macros ≡ n
  pub few : n ≤ most_macros
  pub size : length (slots macros) ≡ slot_bytes * n
  pub table : form macros ≡ tb
  pub many : length faults ≡ k
  pub bound : k ≤ most_faults
  pub list : faults_form faults ≡ fb
  pub answer : recover_from most_faults s 0 [] ≡ with_faults faults (recover_from (most_faults - k) s at macros)

-- what is answered at the end, if the file as a whole is not refused
abbrev pub Answered : List ℕ → (tb fb : List ℕ) → Result ℕ PastError → Type 0
Answered s tb fb (Ok n) =
    (ms : Table) × (fs : List Fault) × (recover_from most_faults s 0 [] ≡ kept ms fs)
    × (n ≡ length ms) × (form ms ≡ tb) × (faults_form fs ≡ fb)
Answered s tb fb (Err e) =
    (v : RecoverRefusal) × (recover_from most_faults s 0 [] ≡ refused v) × (e.number ≡ recover_number v) × (e.place ≡ recover_place v)

-- what one macro or fault more says, behind n macros kept
abbrev pub Moved : List ℕ → (at n : ℕ) → (tb fb : List ℕ) → Result (Option Progress) PastError → Type 0
Moved s at n tb fb (Ok (Some p)) = (at < p.at) × Standing s p.at p.macros p.faults tb fb
Moved s at n tb fb (Ok None) = Answered s tb fb (Ok n)
Moved s at n tb fb (Err e) = Answered s tb fb (Err e)

-- what reading past faults says of the answer and of all lent bytes
abbrev pub ReadsPast : List ℕ → (tb fb : List ℕ) → Result ℕ PastError → Type 0
ReadsPast s tb fb (Ok n) =
    (ms : Table) × (fs : List Fault) × (recover s ≡ kept ms fs) × (n ≡ length ms) × (form ms ≡ tb) × (faults_form fs ≡ fb)
ReadsPast s tb fb (Err e) =
    (v : RecoverRefusal) × (recover s ≡ refused v) × (e.number ≡ recover_number v) × (e.place ≡ recover_place v)
    × (tb ≡ replicate table_bytes 0) × (fb ≡ replicate faults_bytes 0)
