-- Numbers of any length, and what a run of digits does in every state that takes them.
use Rattle.std.specs.Prelude.{ℕ, ◌+◌, ◌-◌, ◌*◌, ◌≤◌, ◌<◌, ◌≡◌, Bool, true, false, List, [], ◌∷◌, ◌⊎◌, ltb, length, Result, Ok, Err, Some, None, IfSome}
use Rattle.std.specs.Prelude.{Option as Maybe}
use Rattle.std.proofs.Math.Option.{Option, none, some}
use Rattle.macros.specs.Bounds.{most_counter}
use Rattle.macros.specs.Macro.{pick, digit}
use Rattle.macros.specs.Read.{Part, Prior, part_byte, skips, and_digit}
use Rattle.macros.specs.ReadSoFar.Step.{on}
use Rattle.read_scan.specs.Bytes.{Next, Placed, seen, spaceless, unended}
use Rattle.read_scan.specs.Bytes.Placed.{byte_at}
use Rattle.read_scan.specs.Scan.{MacroRead, fault_of, noted, run, Here}
use Rattle.read_scan.specs.Scan.MacroRead.{refused_at}
use Rattle.read_scan.specs.declared.FileFault.TheVariants.{Incomplete}
use Rattle.read_scan.specs.declared.ReadError.{ReadError}
use Rattle.read_number.specs.declared.Number.{Number}

-- states that take digits, and, where sp, pass over spaces
pub record Eats (sp : Bool) (F : Option ℕ → Part) : Type 0 where
  pub skipping : (o : Option ℕ) → skips (F o) ≡ true
  pub digits : (o : Option ℕ) (b : ℕ) → digit b ≡ true → part_byte (F o) b ≡ on (F (some (and_digit o b)))
  pub spaces : (o : Option ℕ) → sp ≡ true → part_byte (F o) 32 ≡ on (F o)
  pub within : (o u : Option ℕ) (q : ℕ) (r : MacroRead) → noted (F o) (F u) q r ≡ r

-- what is kept of a number: no number is asked for above the largest counter
unfoldable pub most : ℕ → ℕ
most n = pick (ltb n (most_counter + 1)) n (most_counter + 1)

-- a refusal handed on; a byte is none, and is never asked for
abbrev pub number_fault : Next → Result Number ReadError
number_fault (Ok x) = Err (record { fault = Incomplete; place = x.1 })
number_fault (Err e) = Err e

-- the bytes that count where a number is read: in a call all but the spaces
unfoldable pub counting : Bool → List Placed → List Placed
counting sp xs = pick sp (spaceless xs) xs

-- the digits that stand first
unfoldable pub leading : List Placed → List ℕ
leading [] = []
leading (byte_at b q ∷ xs) = pick (digit b) (b ∷ leading xs) []

-- what stands behind them
unfoldable pub behind : List Placed → List Placed
behind [] = []
behind (byte_at b q ∷ xs) = pick (digit b) (behind xs) (byte_at b q ∷ xs)

-- the value of digits, behind digits of the value v
unfoldable pub value_from : ℕ → List ℕ → ℕ
value_from v [] = v
value_from v (b ∷ bs) = value_from (v * 10 + (b - 48)) bs

-- whether there is a digit
unfoldable pub any? : List ℕ → Bool
any? [] = false
any? (b ∷ bs) = true

-- a number that has a digit, if d
abbrev pub if_digit : Bool → ℕ → Maybe ℕ
if_digit true v = Some v
if_digit false v = None

-- the value of the digits, if there is one, and the byte behind them; the refusal r where there is none
unfoldable pub numbered : Next → List ℕ → List Placed → Result Number ReadError
numbered r bs [] = number_fault r
numbered r bs (byte_at b q ∷ xs) = Ok (record { value = if_digit (any? bs) (most (value_from 0 bs)); behind = b; place = q })

-- the number from p on, in the macro that began at a: "one or more digits, taken by its value"
unfoldable pub number_from : List ℕ → ℕ → ℕ → Bool → Result Number ReadError
number_from s a p sp = numbered (unended s a) (leading (counting sp (seen s a p))) (behind (counting sp (seen s a p)))

-- that x is what the code keeps of a number: its value, at most 1,000,000,000, if it has a digit
abbrev pub Kept : Option ℕ → Maybe ℕ → Type 0
Kept none x = x ≡ None
Kept (some v) x = x ≡ Some (most v)

-- the digits from p up to q have the value of which x is kept
pub record Digits (s : List ℕ) (a p : ℕ) (sp : Bool) (q : ℕ) (x : Maybe ℕ) : Type 0 where
  pub value : Option ℕ
  pub kept : Kept value x
  pub answer : (F : Option ℕ → Part) → Eats sp F → (pr : Prior) → run s a pr false p (F none) ≡ run s a pr false q (F value)

-- the byte b behind the digits is no digit, and no space where spaces are passed over
abbrev pub Behind : Bool → ℕ → Type 0
Behind sp b = (digit b ≡ false) × (sp ≡ true → b ≡ 32 → ⊥)

-- what reading a number from p on says, by the answer
abbrev pub Counts : List ℕ → ℕ → ℕ → Bool → Result Number ReadError → Type 0
Counts s a p sp (Ok x) =
    (p ≤ x.place) × Here s a x.place x.behind × Behind sp x.behind × IfSome x.value (λ n. n ≤ most_counter + 1) × Digits s a p sp x.place x.value
    × (Ok x ≡ number_from s a p sp)
Counts s a p sp (Err e) =
    (e.place ≤ length s) × ((F : Option ℕ → Part) → Eats sp F → (pr : Prior) → run s a pr false p (F none) ≡ refused_at (fault_of e.fault) e.place)
    × (Err e ≡ number_from s a p sp)

-- HOW A NUMBER ENDS

-- that there is no number, or none from 1 to top
abbrev pub Outside : Maybe ℕ → ℕ → Type 0
Outside None top = Unit {0}
Outside (Some v) top = (v < 1) ⊎ (top < v)

-- that there is a number, from 1 to top
abbrev pub Inside : Maybe ℕ → ℕ → Type 0
Inside None top = ⊥
Inside (Some v) top = (1 ≤ v) × (v ≤ top)

-- that a number, which may have no digit, is not closed by z, or is none from 1 to top
abbrev pub Unclosed : ℕ → ℕ → Maybe ℕ → ℕ → Bool → Type 0
Unclosed b z x top true = (b ≡ z → ⊥) ⊎ ((b ≡ z) × Outside x top)
Unclosed b z x top false = (b ≡ z) × Inside x top
