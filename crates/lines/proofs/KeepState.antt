-- What is read from a state in range, and what is put back, is in range.
use Prim.Native.Nat.{ℕ, ◌-◌}
use mathlib.Core.Path.{refl, ◌∙◌}
use mathlib.Core.List.{[]}
use native.Mathlib.Omega.{arith}
use borrow.Author.Tests.{ltb-true}
use lib.Dec.{ltb}
use lib.ListN.{set, length-set}
use Rattle.macros.specs.Bounds.{letters, most_entries}
use Rattle.macros.specs.Macro.{Mark}
use Rattle.macros.specs.Macro.Mark.{stack, counter}
use Rattle.macros.specs.Formed.{Between, Bytes}
use Rattle.lines.specs.State.{Stack, Counter, State, fresh_stack, fresh_counter, fresh, stack_of, counter_of, current_entry, contents, EntryInRange, StackInRange, CounterInRange, InRange}
use Rattle.lines.specs.Replacing.{fallen}
use Rattle.lines.specs.FeedKeeps.{FreshInRange}
use Rattle.lines.proofs.KeepTests.{by_elim}
use Rattle.lines.proofs.KeepBytes.{all_get, all_set, all_replicate, bytes_digits}

-- THE FRESH STATE

fresh_stack_lem : StackInRange fresh_stack
unfolding fresh_stack
fresh_stack_lem =
    record { pointer = omega arith; count = refl; entries = all_replicate EntryInRange most_entries [] (tt, omega arith) }

fresh_counter_lem : CounterInRange fresh_counter
unfolding fresh_counter
fresh_counter_lem = record { value = omega arith; increment = omega arith }

pub fresh_in_range : FreshInRange
unfolding fresh
fresh_in_range =
    record {
      stack_count = refl;
      stacks = all_replicate StackInRange letters fresh_stack fresh_stack_lem;
      counter_count = refl;
      counters = all_replicate CounterInRange letters fresh_counter fresh_counter_lem;
      trace = omega arith;
      nflag = omega arith;
      entry_bytes = refl;
    }

-- WHAT IS READ

pub stack_in_range : (st : State) (i : ℕ) → InRange st → StackInRange (stack_of st i)
unfolding stack_of
stack_in_range st i h = all_get StackInRange st.stacks (i - 97) fresh_stack h.stacks fresh_stack_lem

pub counter_in_range : (st : State) (i : ℕ) → InRange st → CounterInRange (counter_of st i)
unfolding counter_of
counter_in_range st i h = all_get CounterInRange st.counters (i - 97) fresh_counter h.counters fresh_counter_lem

pub bytes_contents : (st : State) (m : Mark) (i : ℕ) → InRange st → Bytes (contents st m i)
unfolding contents current_entry
bytes_contents st stack i h =
    (all_get EntryInRange (stack_of st i).entries ((stack_of st i).pointer - 1) [] (stack_in_range st i h).entries (tt, omega arith)).0
bytes_contents st counter i h = bytes_digits (counter_of st i).value

-- WHAT IS PUT BACK

pub set_stack : (st : State) (i : ℕ) (k : Stack) → InRange st → StackInRange k
    → InRange (record { stacks = set st.stacks (i - 97) k; counters = st.counters; trace = st.trace; nflag = st.nflag; entry_bytes = st.entry_bytes })
set_stack st i k h g =
    record {
      stack_count = length-set st.stacks (i - 97) k ∙ h.stack_count;
      stacks = all_set StackInRange st.stacks (i - 97) k h.stacks g;
      counter_count = h.counter_count;
      counters = h.counters;
      trace = h.trace;
      nflag = h.nflag;
      entry_bytes = h.entry_bytes;
    }

pub set_counter : (st : State) (i : ℕ) (k : Counter) → InRange st → CounterInRange k
    → InRange (record { stacks = st.stacks; counters = set st.counters (i - 97) k; trace = st.trace; nflag = st.nflag; entry_bytes = st.entry_bytes })
set_counter st i k h g =
    record {
      stack_count = h.stack_count;
      stacks = h.stacks;
      counter_count = length-set st.counters (i - 97) k ∙ h.counter_count;
      counters = all_set CounterInRange st.counters (i - 97) k h.counters g;
      trace = h.trace;
      nflag = h.nflag;
      entry_bytes = h.entry_bytes;
    }

-- what falls stays in range
pub fallen_between : (n by z : ℕ) → Between 1 z n → Between 1 z (fallen n by)
unfolding fallen
fallen_between n by z h = by_elim (Between 1 z) (ltb by n) _ _ (λ e. omega (arith, ltb-true by n e)) (λ e. omega arith)
