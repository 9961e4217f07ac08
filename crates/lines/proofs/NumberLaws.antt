-- 31 to 36 are the numbers of the table at work alone.
use mathlib.Core.Path.{◌≡◌, refl, ap, sym, ◌∙◌}
use mathlib.Core.Logic.{◌⊎◌, inl, inr}
use Prim.Native.Nat.{ℕ, ◌≤◌}
use native.Mathlib.Omega.{arith}
use Rattle.macros.specs.Refusals.{WorkRefusal, Refusal, host_number, line_number, file_number, work_number, number}
use Rattle.macros.specs.Refusals.Refusal.{of_host, of_line, of_file, of_work}
use Rattle.macros.specs.Refusals.HostRefusal.{bad_memory, bad_table, bad_state, budget_too_large}
use Rattle.macros.specs.Refusals.LineRefusal.{line_too_long, bad_byte, bad_control}
use Rattle.macros.specs.Refusals.FileRefusal.{file_too_long, zero_byte, incomplete, bad_class, no_unit, bad_brace, bad_call, no_element, macro_too_long, too_many_macros}
use Rattle.macros.specs.Refusals.WorkRefusal.{budget_used_up, new_line_too_long, tag_too_long, pointer_too_high, counter_too_high, trace_too_long}
use Rattle.lines.specs.Feeding.{Kind, refused_with, out, withheld, controlled, number_of}

below : (x : Refusal) → ((r : WorkRefusal) × (x ≡ of_work r)) ⊎ (number x ≤ 30)
unfolding number host_number line_number file_number
below (of_work r) = inl (r, refl)
below (of_host bad_memory) = inr (omega arith)
below (of_host bad_table) = inr (omega arith)
below (of_host bad_state) = inr (omega arith)
below (of_host budget_too_large) = inr (omega arith)
below (of_line line_too_long) = inr (omega arith)
below (of_line bad_byte) = inr (omega arith)
below (of_line bad_control) = inr (omega arith)
below (of_file file_too_long p) = inr (omega arith)
below (of_file zero_byte p) = inr (omega arith)
below (of_file incomplete p) = inr (omega arith)
below (of_file bad_class p) = inr (omega arith)
below (of_file no_unit p) = inr (omega arith)
below (of_file bad_brace p) = inr (omega arith)
below (of_file bad_call p) = inr (omega arith)
below (of_file no_element p) = inr (omega arith)
below (of_file macro_too_long p) = inr (omega arith)
below (of_file too_many_macros p) = inr (omega arith)

-- an answer with such a number is the refusal with it
of_work_lem : (k : Kind) → 31 ≤ number_of k → (r : WorkRefusal) × (k ≡ refused_with (of_work r)) × (work_number r ≡ number_of k)
unfolding number_of number
of_work_lem (out t) h = absurd (omega arith)
of_work_lem withheld h = absurd (omega arith)
of_work_lem controlled h = absurd (omega arith)
of_work_lem (refused_with x) h = go (below x)
  where
    go : ((r : WorkRefusal) × (x ≡ of_work r)) ⊎ (number x ≤ 30) → (r : WorkRefusal) × (refused_with x ≡ refused_with (of_work r)) × (work_number r ≡ number x)
    go (inl u) = (u.0, ap refused_with u.1, ap number (sym u.1))
    go (inr u) = absurd (omega arith)

31-is : (r : WorkRefusal) → work_number r ≡ 31 → r ≡ budget_used_up
unfolding work_number
31-is budget_used_up e = refl
31-is new_line_too_long e = absurd (omega arith)
31-is tag_too_long e = absurd (omega arith)
31-is pointer_too_high e = absurd (omega arith)
31-is counter_too_high e = absurd (omega arith)
31-is trace_too_long e = absurd (omega arith)

36-is : (r : WorkRefusal) → work_number r ≡ 36 → r ≡ trace_too_long
unfolding work_number
36-is budget_used_up e = absurd (omega arith)
36-is new_line_too_long e = absurd (omega arith)
36-is tag_too_long e = absurd (omega arith)
36-is pointer_too_high e = absurd (omega arith)
36-is counter_too_high e = absurd (omega arith)
36-is trace_too_long e = refl

pub is_31 : (k : Kind) → number_of k ≡ 31 → k ≡ refused_with (of_work budget_used_up)
is_31 k e = let u = of_work_lem k (omega arith) in u.1 ∙ ap (λ (r : WorkRefusal). refused_with (of_work r)) (31-is u.0 (u.2 ∙ e))

pub is_36 : (k : Kind) → number_of k ≡ 36 → k ≡ refused_with (of_work trace_too_long)
is_36 k e = let u = of_work_lem k (omega arith) in u.1 ∙ ap (λ (r : WorkRefusal). refused_with (of_work r)) (36-is u.0 (u.2 ∙ e))
