-- What is promised of reading past faults, sentence by sentence; all of it follows from RecoverLaw.antt.
-- Four promises are about any engine: OneAnswer says that no other than `recover` keeps them.
use Rattle.std.specs.Prelude.{◌≡◌, ◌⊎◌, ◌↔◌, ℕ, ◌+◌, ◌≤◌, ◌<◌, List, [], ◌∷◌, ◌++◌, length, drop}
use Rattle.macros.specs.Refusals.{FileRefusal, file_number}
use Rattle.macros.specs.Refusals.FileRefusal.{too_many_macros}
use Rattle.macros.specs.Macro.{Table}
use Rattle.macros.specs.Formed.{Between, Octets}
use Rattle.macros.specs.Read.{read_onto, read_file}
use Rattle.macros.specs.ReadFile.Read.{refused_at, table}
use Rattle.macros.specs.FirstFault.{Plain}
use Rattle.faults.specs.Refusal.{most_faults}
use Rattle.faults.specs.Refusal.RecoverRefusal.{as_before, too_many_faults}
use Rattle.faults.specs.Recover.{Fault, Recovered, recover}
use Rattle.faults.specs.Recover.Fault.{fault_at}
use Rattle.faults.specs.Recover.Recovered.{kept, refused}
use Rattle.faults.specs.RecoverLaw.{NoSemicolon, Behind, Faulty}

-- THE TABLE

-- "A file that reading accepts gives its own table and no faults.", and no other file has no faults
abbrev pub NoFaults : Type 0
NoFaults = (s : List ℕ) (ms : Table) → (recover s ≡ kept ms []) ↔ (read_file s ≡ table ms)

-- some file is read as this table: more than that the table is accepted, since 96 macros of 512 bytes are no file
abbrev pub CouldMake : Table → Type 0
CouldMake ms = (t : List ℕ) × Octets t × (read_file t ≡ table ms)

-- "The kept table is always one that reading could make."
abbrev pub KeptCouldBeRead : Type 0
KeptCouldBeRead = (s : List ℕ) (ms : Table) (fs : List Fault) → Octets s → recover s ≡ kept ms fs → CouldMake ms

-- THE FAULTS

-- the first fault listed, if faults are
abbrev pub FirstIs : Fault → Recovered → Type 0
FirstIs f (kept ms []) = ⊥
FirstIs f (kept ms (g ∷ fs)) = f ≡ g
FirstIs f (refused v) = Unit {0}

-- what plain reading is refused with, 12 to 18, is the first fault, unless the file is refused
abbrev pub FirstAsPlain : Type 0
FirstAsPlain =
    (s : List ℕ) (r : FileRefusal) (p : ℕ) → Between 12 18 (file_number r) → read_file s ≡ refused_at r p → FirstIs (fault_at r p) (recover s)

-- Behind the faults fs the file s is read afresh, from place `from` on, and the macros `older` are kept by then.
pub data ResumesAt (s : List ℕ) : (fs : List Fault) → (from : ℕ) → (older : Table) → Type 0 where
  -- without a fault: from place 0 on, and none is kept yet
  from_start : ResumesAt s [] 0 []
  -- behind one more: from behind the first `;` at or after it on, and the macros that plain reading has made by then are kept
  behind_fault : {fs : List Fault} {from q n : ℕ} {older made : Table} {r : FileRefusal} → ResumesAt s fs from older
      → Faulty s from older r q made → Behind s q n → ResumesAt s (fs ++ (fault_at r q ∷ [])) n made

-- a fault of the file s behind the faults fs, where in the end the macros ms are kept
pub record OneFault (s : List ℕ) (fs : List Fault) (r : FileRefusal) (q : ℕ) (ms : Table) : Type 0 where
  pub from : ℕ
  pub older : Table
  pub resumes : ResumesAt s fs from older
  -- it is what plain reading from there on shows, behind the macros kept by then
  pub made : Table
  pub faulty : Faulty s from older r q made
  -- every macro that is read before it is kept
  pub stays : (more : Table) × (ms ≡ made ++ more)

-- each fault is that of plain reading, from the place on from which reading goes on
abbrev pub EachFault : Type 0
EachFault =
    (s : List ℕ) (ms : Table) (fs gs : List Fault) (r : FileRefusal) (q : ℕ)
    → Octets s → recover s ≡ kept ms (fs ++ (fault_at r q ∷ gs)) → OneFault s fs r q ms

-- how reading ends, where the file s has the faults fs and the macros ms are kept
pub data EndsWith (s : List ℕ) : (fs : List Fault) → (ms : Table) → Type 0 where
  -- behind the last fault plain reading accepts what is left: every macro read there is kept
  accepts_rest : {fs : List Fault} {from : ℕ} {older ms : Table} → ResumesAt s fs from older
      → read_onto older (drop from s) ≡ table ms → EndsWith s fs ms
  -- "If there is none, it ends.": no `;` stands at or after the last fault
  ends_at_fault : {fs : List Fault} {from q : ℕ} {older ms : Table} {r : FileRefusal} → ResumesAt s fs from older
      → Faulty s from older r q ms → NoSemicolon (drop q s) → EndsWith s (fs ++ (fault_at r q ∷ [])) ms

-- the macros ms are kept past the faults fs exactly if reading ends so, the faults are at most 256, and neither 10 nor 11 refuses the file
abbrev pub KeptExactly : (engine : List ℕ → Recovered) → Type 0
KeptExactly engine =
    (s : List ℕ) (ms : Table) (fs : List Fault) → Octets s
    → (engine s ≡ kept ms fs) ↔ (Plain s × (length fs ≤ most_faults) × EndsWith s fs ms)

-- each fault stands after place p
abbrev pub AllAfter : ℕ → List Fault → Type 0
AllAfter p [] = Unit {0}
AllAfter p (fault_at r q ∷ fs) = (p < q) × AllAfter p fs

-- "in file order": each fault stands before all later ones
abbrev pub InFileOrder : List Fault → Type 0
InFileOrder [] = Unit {0}
InFileOrder (fault_at r q ∷ fs) = AllAfter q fs × InFileOrder fs

-- each is one of 12 to 18, at a byte of the file s or at its end
abbrev pub FaultsOf : List ℕ → List Fault → Type 0
FaultsOf s [] = Unit {0}
FaultsOf s (fault_at r q ∷ fs) = Between 12 18 (file_number r) × (q ≤ length s) × FaultsOf s fs

pub record Listed (s : List ℕ) (fs : List Fault) : Type 0 where
  pub each : FaultsOf s fs
  pub order : InFileOrder fs
  pub count : length fs ≤ most_faults

abbrev pub FaultsListed : Type 0
FaultsListed = (s : List ℕ) (ms : Table) (fs : List Fault) → Octets s → recover s ≡ kept ms fs → Listed s fs

-- REFUSALS

-- "10, 11 .. refuse the file as before": exactly the files that plain reading refuses so, with the same place
abbrev pub WholeFileFirst : (engine : List ℕ → Recovered) → Type 0
WholeFileFirst engine =
    (s : List ℕ) (r : FileRefusal) (p : ℕ) → Octets s → file_number r ≤ 11
    → (engine s ≡ refused (as_before r p)) ↔ (read_file s ≡ refused_at r p)

-- behind at most 256 faults plain reading comes to a macro that begins at place q after 96 kept ones
pub record FullAt (s : List ℕ) (q : ℕ) : Type 0 where
  pub fs : List Fault
  pub count : length fs ≤ most_faults
  pub from : ℕ
  pub older : Table
  pub resumes : ResumesAt s fs from older
  pub n : ℕ
  pub shows : read_onto older (drop from s) ≡ refused_at too_many_macros n
  pub place : q ≡ from + n

-- "19 where a macro begins after 96 kept ones": exactly then
abbrev pub FullExactly : (engine : List ℕ → Recovered) → Type 0
FullExactly engine = (s : List ℕ) (q : ℕ) → Octets s → (engine s ≡ refused (as_before too_many_macros q)) ↔ (Plain s × FullAt s q)

-- behind 256 faults plain reading shows one more
pub record OneFaultMore (s : List ℕ) : Type 0 where
  pub fs : List Fault
  pub count : length fs ≡ most_faults
  pub from : ℕ
  pub older : Table
  pub resumes : ResumesAt s fs from older
  pub r : FileRefusal
  pub q : ℕ
  pub made : Table
  pub faulty : Faulty s from older r q made

-- "61, the 257th fault, comes at that fault": exactly then
abbrev pub TooManyExactly : (engine : List ℕ → Recovered) → Type 0
TooManyExactly engine = (s : List ℕ) → Octets s → (engine s ≡ refused too_many_faults) ↔ (Plain s × OneFaultMore s)

-- no refusal but 10, 11, 19 and 61: a fault refuses no file
abbrev pub NoOtherRefusal : Type 0
NoOtherRefusal =
    (s : List ℕ) (r : FileRefusal) (p : ℕ) → Octets s → recover s ≡ refused (as_before r p)
    → (file_number r ≤ 11) ⊎ (file_number r ≡ 19)

-- an engine that keeps these four answers as `recover` does: it cannot stop at a fault, drop a macro, make one up or say 61 too early
abbrev pub OneAnswer : Type 0
OneAnswer =
    (engine : List ℕ → Recovered) → KeptExactly engine → WholeFileFirst engine → FullExactly engine → TooManyExactly engine
    → (s : List ℕ) → Octets s → engine s ≡ recover s
