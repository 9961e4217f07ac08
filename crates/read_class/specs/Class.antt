-- What the answers about a class say of the machine.
use Rattle.std.specs.Prelude.{ℕ, ◌+◌, ◌-◌, ◌*◌, ◌≤◌, ◌<◌, ◌≡◌, Bool, true, false, List, [], ◌∷◌, ◌++◌, length, Option, Some, None, Result, Ok, Err}
use Rattle.macros.specs.Bounds.{most_macro_bytes}
use Rattle.macros.specs.Refusals.{FileRefusal}
use Rattle.macros.specs.Refusals.FileRefusal.{bad_class}
use Rattle.macros.specs.Macro.{Member, Piece}
use Rattle.macros.specs.Macro.PatternUnit.{class}
use Rattle.macros.specs.Read.{Part, Prior, Step, Last, new_member, members_byte, breaks}
use Rattle.macros.specs.ReadSoFar.Joinable.{unit}
use Rattle.macros.specs.ReadSoFar.Last.{free, member, dash}
use Rattle.macros.specs.ReadSoFar.Part.{pattern, members}
use Rattle.macros.specs.ReadSoFar.Step.{on, stop}
use Rattle.read_scan.specs.Scan.MacroRead.{refused_at}
use Rattle.form_table.specs.Form.{members_items}
use Rattle.read_scan.specs.Scan.{fault_of, run, Reached}
use Rattle.form_items.specs.Items.{Wrote, member_bytes}
use Rattle.read_scan.specs.declared.ReadError.{ReadError}
use Rattle.read_class.specs.declared.Last.{Last as CodeLast}
use Rattle.read_class.specs.declared.Last.TheVariants.{Free, Member as AMember, Dash}
use Rattle.read_ends.specs.Ends.{Ended, Zeroed}

-- room for two bytes for each byte that the macro may still have from p on
abbrev pub Room : List ℕ → ℕ → ℕ → ℕ → Type 0
Room out a p n = (n + 2 * (a + (most_macro_bytes + 1) - p) ≤ length out)

-- what a byte does among a class's members, one without `\` and one behind it
abbrev pub class_turn : Bool → List Piece → Bool → Last → List Member → ℕ → Step
class_turn true ps neg l xs c = members_byte ps neg l xs c
class_turn false ps neg l xs c = new_member ps neg l xs c

-- a byte that may stand in a class without `\`
abbrev pub Plain : ℕ → Type 0
Plain c = (breaks c ≡ false) × (c ≡ 92 → ⊥)

-- the byte c at place q is the next of the members: the machine's step at p
pub record Meets (s : List ℕ) (a p c : ℕ) (raw : Bool) (q : ℕ) : Type 0 where
  pub further : p ≤ q
  pub behind : a ≤ q
  pub there : q < length s
  pub counted : q ≤ a + most_macro_bytes
  pub plain : raw ≡ true → Plain c
  pub taken : (ps : List Piece) (neg : Bool) (l : Last) (xs : List Member) (pr : Prior) (st : Part)
      → class_turn raw ps neg l xs c ≡ on st → run s a pr false p (members ps neg l xs) ≡ run s a pr false (q + 1) st
  pub refused : (ps : List Piece) (neg : Bool) (l : Last) (xs : List Member) (pr : Prior) (k : FileRefusal)
      → class_turn raw ps neg l xs c ≡ stop k → run s a pr false p (members ps neg l xs) ≡ refused_at k q

-- what reading the next byte of a class says, by the answer, whatever was read of the class
abbrev pub Meeting : List ℕ → ℕ → ℕ → Result (ℕ × Bool × ℕ) ReadError → Type 0
Meeting s a p (Ok (c, raw, q)) = Meets s a p c raw q
Meeting s a p (Err e) =
    (e.place ≤ length s) × ((ps : List Piece) (neg : Bool) (l : Last) (xs : List Member) (pr : Prior)
    → run s a pr false p (members ps neg l xs) ≡ refused_at (fault_of e.fault) e.place)

-- what is last, as the machine has it
abbrev pub last_of : CodeLast → Last
last_of Free = free
last_of (AMember c) = member c
last_of (Dash c) = dash c

-- the items of what is last, at the `]`
abbrev pub last_items : CodeLast → List ℕ
last_items Free = []
last_items (AMember c) = 32 ∷ c ∷ []
last_items (Dash c) = 32 ∷ c ∷ 32 ∷ 45 ∷ []

-- the bytes that what is last still needs
abbrev pub pending : CodeLast → ℕ
pending Free = 0
pending (AMember c) = 2
pending (Dash c) = 4

-- the byte c makes of what is last l the last k, with these members complete and written from n up to m
pub record Takes (l : CodeLast) (c : ℕ) (raw : Bool) (k : CodeLast) (old out : List ℕ) (n m : ℕ) : Type 0 where
  pub complete : List Member
  pub turn : (ps : List Piece) (neg : Bool) (xs : List Member)
      → class_turn raw ps neg (last_of l) xs c ≡ on (members ps neg (last_of k) (complete ++ xs))
  pub wrote : Wrote old out n (member_bytes complete)
  pub used : m ≡ n + length (member_bytes complete)
  pub room : m + pending k ≤ n + pending l + 2

-- what taking a byte says, by the answer
abbrev pub Taking : CodeLast → ℕ → Bool → List ℕ → List ℕ → ℕ → Option (CodeLast × ℕ) → Type 0
Taking l c raw old out n (Some (k, m)) = Takes l c raw k old out n m
Taking l c raw old out n None =
    ((ps : List Piece) (neg : Bool) (xs : List Member) → class_turn raw ps neg (last_of l) xs c ≡ stop bad_class)

-- from the first member's place p up to q, members read and written from i up to j, and what is last not written
pub record Membered (s : List ℕ) (a p q : ℕ) (old out : List ℕ) (i j : ℕ) (l : CodeLast) : Type 0 where
  pub xs : List Member
  pub answer : (ps : List Piece) (neg : Bool) (pr : Prior)
      → run s a pr false p (members ps neg free []) ≡ run s a pr false q (members ps neg (last_of l) xs)
  pub wrote : Wrote old out i (member_bytes xs)
  pub used : j ≡ i + length (member_bytes xs)
  pub room : j + pending l ≤ i + 2 * (q - p)

-- a class whose members, oldest first, stand from p up to the `]` before q; their items are written from i up to j
pub record Classed (s : List ℕ) (a p q : ℕ) (old out : List ℕ) (i j : ℕ) : Type 0 where
  pub xs : List Member
  pub further : p ≤ q
  pub reached : Reached s a q
  pub room : j ≤ i + 2 * (q - p)
  pub answer : (ps : List Piece) (neg : Bool) (pr : Prior)
      → run s a pr false p (members ps neg free []) ≡ run s a pr false q (pattern (unit (class neg xs)) ps)
  pub wrote : Wrote old out i (members_items xs)
  pub used : j ≡ i + length (members_items xs)

-- the members and the class, or the refusal
abbrev pub ClassingBy : List ℕ → ℕ → ℕ → List ℕ → List ℕ → ℕ → Ended → Type 0
ClassingBy s a p old out i (Ok (q, j)) = Classed s a p q old out i j
ClassingBy s a p old out i (Err e) =
    (e.place ≤ length s) × ((ps : List Piece) (neg : Bool) (pr : Prior)
    → run s a pr false p (members ps neg free []) ≡ refused_at (fault_of e.fault) e.place)

-- what reading a class's members from p on says, by the answer
pub record Classing (s : List ℕ) (a p : ℕ) (old out : List ℕ) (i : ℕ) (r : Ended) : Type 0 where
  pub is : ClassingBy s a p old out i r

-- what reading them says of the answer and of all lent bytes
pub record ClassRead (s : List ℕ) (a p : ℕ) (old out : List ℕ) (i : ℕ) (r : Ended) : Type 0 where
  pub from : Classing s a p old out i r
  pub zeros : Zeroed old out r
