-- 01, "Bounds and the fresh state": stacks, counters and flags.
use Rattle.std.specs.Prelude.{ℕ, ◌-◌, ◌≤◌, ◌≡◌, List, [], ◌∷◌, length, get_or, replicate}
use Rattle.macros.specs.Bounds.{letters, most_entries, most_entry_bytes, most_counter}
use Rattle.macros.specs.Macro.{Mark}
use Rattle.macros.specs.Macro.Mark.{stack, counter}
use Rattle.macros.specs.Formed.{Between, Bytes}
use Rattle.macros.specs.Write.{digits}

-- a stack: its pointer, from 1, and its entries
pub record Stack : Type 0 where
  pub pointer : ℕ
  pub entries : List (List ℕ)

-- a counter: its value and its increment
pub record Counter : Type 0 where
  pub value : ℕ
  pub increment : ℕ

-- a stack and a counter for each letter, the flags, and how many bytes an entry may have: 100, in a state of the old engine 50 (02, N6)
pub record State : Type 0 where
  pub stacks : List Stack
  pub counters : List Counter
  pub trace : ℕ
  pub nflag : ℕ
  pub entry_bytes : ℕ

-- "Fresh: pointers 1, entries empty, counters and increments 1, flags 0."
unfoldable pub fresh_stack : Stack
fresh_stack = record { pointer = 1; entries = replicate most_entries [] }

-- a fresh counter
unfoldable pub fresh_counter : Counter
fresh_counter = record { value = 1; increment = 1 }

-- the fresh state
unfoldable pub fresh : State
fresh =
    record {
      stacks = replicate letters fresh_stack;
      counters = replicate letters fresh_counter;
      trace = 0;
      nflag = 0;
      entry_bytes = most_entry_bytes;
    }

-- the stack, and the counter, of the letter i
unfoldable pub stack_of : State → ℕ → Stack
stack_of st i = get_or st.stacks (i - 97) fresh_stack

-- the counter of the letter i
unfoldable pub counter_of : State → ℕ → Counter
counter_of st i = get_or st.counters (i - 97) fresh_counter

-- the current entry: the one that the pointer names
unfoldable pub current_entry : State → ℕ → List ℕ
current_entry st i = get_or (stack_of st i).entries ((stack_of st i).pointer - 1) []

-- part 2: what a call `&(i)` or `#(i)` stands for, "the current entry or the value's digits"
unfoldable pub contents : State → Mark → ℕ → List ℕ
contents st stack i = current_entry st i
contents st counter i = digits (counter_of st i).value

-- WHAT IS IN RANGE (refusal 2 says it of a state's bytes)

-- a claim about each of a list
abbrev pub AllOf : {A : Type 0} → (A → Type 0) → List A → Type 0
AllOf P [] = Unit {0}
AllOf P (x ∷ xs) = P x × AllOf P xs

-- "entries of 100 bytes" (02, N6), none of them 0
abbrev pub EntryInRange : List ℕ → Type 0
EntryInRange e = Bytes e × (length e ≤ most_entry_bytes)

-- a stack in range: "26 stacks of 20 entries", its pointer at one of them
pub record StackInRange (k : Stack) : Type 0 where
  pub pointer : Between 1 most_entries k.pointer
  pub count : length k.entries ≡ most_entries
  pub entries : AllOf EntryInRange k.entries

-- a counter in range: its value and its increment are 1 to 999,999,999
pub record CounterInRange (k : Counter) : Type 0 where
  pub value : Between 1 most_counter k.value
  pub increment : Between 1 most_counter k.increment

-- a state in range, with flags that are 0 or 1 and entries of 100 bytes
pub record InRange (st : State) : Type 0 where
  pub stack_count : length st.stacks ≡ letters
  pub stacks : AllOf StackInRange st.stacks
  pub counter_count : length st.counters ≡ letters
  pub counters : AllOf CounterInRange st.counters
  pub trace : st.trace ≤ 1
  pub nflag : st.nflag ≤ 1
  pub entry_bytes : st.entry_bytes ≡ most_entry_bytes
