-- 02, N11, FOR THE ENGINE: m7_recover beside m7_read, through the bytes that they leave.
-- The contract of m7_recover is that it answers and leaves `recovers`; that of m7_read, `reads`.
use Rattle.std.specs.Prelude.{ℕ, suc, ◌+◌, ◌*◌, ◌≤◌, ◌<◌, ◌≡◌, true, List, length, take, drop, replicate}
use Rattle.macros.specs.Formed.{Between, Octets}
use Rattle.form_table.specs.Form.{slot_bytes, table_bytes}
use Rattle.faults.specs.Refusal.{most_faults}
use Rattle.faults.specs.Recover.{Recovered}
use Rattle.faults.specs.RecoverLaw.{Behind, NoSemicolon, Recovers}
use Rattle.form_faults.specs.Form.{faults_bytes}
use Rattle.form_faults.specs.FormLaw.{fault_count, fault_number, fault_place}
use Rattle.m7.specs.Contract.{Result, reads}
use Rattle.m7.specs.Recovering.{Mended, Recovering, of_recovering, sized_to_recover, recovers}

-- A FILE THAT READING ACCEPTS

-- "gives its own table and no faults": the same answer, the same table bytes, and zeros
pub record OwnTable (w : Result) (v : Recovering) : Type 0 where
  pub answer : v.answer ≡ w.answer
  pub table : v.memories.table ≡ w.memory
  pub faults : v.memories.faults ≡ replicate faults_bytes 0

abbrev pub AcceptedAlike : Type 0
AcceptedAlike =
    (s : List ℕ) (m : Mended) → sized_to_recover m ≡ true → (reads s m.table).answer.number ≡ 0
    → OwnTable (reads s m.table) (recovers s m)

-- THE KEPT TABLE

-- "always one that reading could make": m7_read of some file leaves the same bytes in any table's memory
pub record ReadAs (table : List ℕ) : Type 0 where
  pub file : List ℕ
  pub octets : Octets file
  pub taken : (old : List ℕ) → length old ≡ table_bytes → (reads file old).answer.number ≡ 0
  pub same : (old : List ℕ) → length old ≡ table_bytes → (reads file old).memory ≡ table

abbrev pub KeptIsRead : Type 0
KeptIsRead = (s : List ℕ) (m : Mended) → Octets s → (recovers s m).answer.number ≡ 0 → ReadAs (recovers s m).memories.table

-- THE FAULTS, in the bytes b of their memory

-- where the file s is read afresh before the fault behind i others: 0 at first, else behind the first `;` at or after the fault before
pub data Resumes (s b : List ℕ) : (i p : ℕ) → Type 0 where
  first : Resumes s b 0 0
  behind : {i p : ℕ} → Behind s (fault_place b i) p → Resumes s b (suc i) p

-- the first k slots of a table's bytes
abbrev pub slots_in : (k : ℕ) → List ℕ → List ℕ
slots_in k tb = take (slot_bytes * k) tb

-- no macro is lost: what m7_read makes of the bytes from a resuming place on, up to place q at most, stands in the kept table's bytes tb,
-- in order, behind so many macros
pub record StandsIn (s tb : List ℕ) (from q : ℕ) : Type 0 where
  pub before : ℕ
  pub there : (n : ℕ) (old : List ℕ) → from + n ≤ q → length old ≡ table_bytes → (w : Result) → reads (take n (drop from s)) old ≡ w
      → w.answer.number ≡ 0 → slots_in w.answer.length (drop (slot_bytes * before) tb) ≡ slots_in w.answer.length w.memory

-- the fault behind i others, where tb are the kept table's bytes
pub record FaultHolds (s tb b : List ℕ) (i : ℕ) : Type 0 where
  pub number : Between 12 18 (fault_number b i)
  pub from : ℕ
  pub resumes : Resumes s b i from
  -- m7_read of the rest of the file answers it, its place counted from there
  pub same_number : (old : List ℕ) → length old ≡ table_bytes → (reads (drop from s) old).answer.number ≡ fault_number b i
  pub same_place : (old : List ℕ) → length old ≡ table_bytes → from + (reads (drop from s) old).answer.place ≡ fault_place b i
  pub kept : StandsIn s tb from (fault_place b i)
  -- "in file order"
  pub order : suc i < fault_count b → fault_place b i < fault_place b (suc i)

-- behind the last fault: no `;` stands at or after it, or m7_read takes the rest of the file, and no macro of it is lost
pub data LastHolds (s tb b : List ℕ) : Type 0 where
  over : (i : ℕ) → fault_count b ≡ suc i → NoSemicolon (drop (fault_place b i) s) → LastHolds s tb b
  rest : (from : ℕ) → Resumes s b (fault_count b) from
      → ((old : List ℕ) → length old ≡ table_bytes → (reads (drop from s) old).answer.number ≡ 0)
      → StandsIn s tb from (length s) → LastHolds s tb b

-- every fault that is listed, and at most 256
pub record FaultsHold (s tb b : List ℕ) : Type 0 where
  pub count : fault_count b ≤ most_faults
  pub each : (i : ℕ) → i < fault_count b → FaultHolds s tb b i
  pub last : LastHolds s tb b

abbrev pub FaultsAsRead : Type 0
FaultsAsRead =
    (s : List ℕ) (m : Mended) → Octets s → (recovers s m).answer.number ≡ 0
    → FaultsHold s (recovers s m).memories.table (recovers s m).memories.faults

-- REFUSALS

-- "10, 11 .. refuse the file as before": where m7_read answers so, with the same answer, and nowhere else
pub record WholeFirst (w : Result) (v : Recovering) : Type 0 where
  pub same : Between 10 11 w.answer.number → v.answer ≡ w.answer
  pub only : Between 10 11 v.answer.number → Between 10 11 w.answer.number

abbrev pub WholeFileFirst : Type 0
WholeFileFirst = (s : List ℕ) (m : Mended) → Octets s → sized_to_recover m ≡ true → WholeFirst (reads s m.table) (recovers s m)

-- every refusal, 3 and 61 too, leaves both memories as they were
abbrev pub RefusalKeeps : Type 0
RefusalKeeps = (s : List ℕ) (m : Mended) → ((recovers s m).answer.number ≡ 0 → ⊥) → (recovers s m).memories ≡ m

-- ALL OF IT

-- what a call answers and leaves is what plain reading of what is left, again and again, comes to: so no macro is lost, and 19 and 61 come
-- exactly where they are due
abbrev pub RecoversAll : Type 0
RecoversAll =
    (s : List ℕ) (m : Mended) (v : Recovered) → Octets s → sized_to_recover m ≡ true → Recovers s v → recovers s m ≡ of_recovering m v
