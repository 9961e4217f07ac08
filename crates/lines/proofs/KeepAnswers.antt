-- Answers that keep what specs/FeedKeeps says: a refusal, and a line that is taken.
use Prim.Native.Nat.{ℕ, zero, suc, ◌≤◌}
use mathlib.Core.Path.{◌≡◌, refl, subst}
use mathlib.Core.Bool.{Bool, true, false}
use mathlib.Core.Logic.{◌⊎◌, inl, inr}
use mathlib.Core.Option.{Option, some}
use mathlib.Core.List.{List}
use native.Mathlib.Omega.{arith}
use lib.ListN.{length}
use Rattle.macros.specs.Bounds.{most_line_bytes, most_trace_bytes}
use Rattle.macros.specs.Refusals.{LineRefusal, FileRefusal, WorkRefusal, Refusal, number, place, host_number, line_number, file_number, work_number}
use Rattle.macros.specs.Refusals.Refusal.{of_host, of_line, of_file, of_work}
use Rattle.macros.specs.Refusals.HostRefusal.{budget_too_large}
use Rattle.macros.specs.Refusals.LineRefusal.{line_too_long, bad_byte, bad_control}
use Rattle.macros.specs.Refusals.FileRefusal.{file_too_long, zero_byte, incomplete, bad_class, no_unit, bad_brace, bad_call, no_element, macro_too_long, too_many_macros}
use Rattle.macros.specs.Refusals.WorkRefusal.{budget_used_up, new_line_too_long, tag_too_long, pointer_too_high, counter_too_high, trace_too_long}
use Rattle.macros.specs.Macro.{Table}
use Rattle.macros.specs.Formed.{Between, Bytes}
use Rattle.macros.specs.Accepted.{Accepted}
use Rattle.macros.proofs.Costs.{Shows}
use Rattle.lines.specs.State.{State, InRange}
use Rattle.lines.specs.Line.{Sent}
use Rattle.lines.specs.Feeding.{Kind, number_of, place_of, output_of, kind_of_done, refusal}
use Rattle.lines.specs.Feeding.Kind.{refused_with, out, withheld, controlled}
use Rattle.lines.specs.FeedKeeps.{Placed, Number, Kept}

-- NUMBERS AND PLACES

-- a line's refusal: of the host's only 4
abbrev pub OfLine : Refusal → Type 0
OfLine r = Number (number r) × (Placed (number r) ⊎ (place r ≡ 0))

pub host_number_lem : OfLine (of_host budget_too_large)
unfolding number place host_number
host_number_lem = (inr (inl refl), inr refl)

pub line_number_lem : (r : LineRefusal) → OfLine (of_line r)
unfolding number place line_number
line_number_lem line_too_long = (inr (inr (inr (inl (omega arith)))), inr refl)
line_number_lem bad_byte = (inr (inr (inr (inl (omega arith)))), inr refl)
line_number_lem bad_control = (inr (inr (inr (inl (omega arith)))), inr refl)

file_between : (r : FileRefusal) → Shows r → Between 12 19 (file_number r)
unfolding file_number
file_between file_too_long h = absurd h
file_between zero_byte h = absurd h
file_between incomplete h = omega arith
file_between bad_class h = omega arith
file_between no_unit h = omega arith
file_between bad_brace h = omega arith
file_between bad_call h = omega arith
file_between no_element h = omega arith
file_between macro_too_long h = omega arith
file_between too_many_macros h = omega arith

pub file_number_lem : (r : FileRefusal) (p : ℕ) → Shows r → OfLine (of_file r p)
unfolding number
file_number_lem r p h = let k = file_between r h in (inr (inr (inl k)), inl (omega arith))

work_between : (r : WorkRefusal) → Between 31 36 (work_number r)
unfolding work_number
work_between budget_used_up = omega arith
work_between new_line_too_long = omega arith
work_between tag_too_long = omega arith
work_between pointer_too_high = omega arith
work_between counter_too_high = omega arith
work_between trace_too_long = omega arith

pub work_number_lem : (r : WorkRefusal) → OfLine (of_work r)
unfolding number place
work_number_lem r = (inr (inr (inr (inr (work_between r)))), inr refl)

-- WHAT A TAKEN LINE ANSWERS

abbrev pub Taken : Kind → Type 0
Taken (refused_with r) = ⊥
Taken (out t) = Bytes t × (length t ≤ most_line_bytes)
Taken withheld = Unit {0}
Taken controlled = Unit {0}

taken_output : (k : Kind) → Taken k → Bytes (output_of k) × (length (output_of k) ≤ most_line_bytes)
unfolding output_of
taken_output (refused_with r) h = absurd h
taken_output (out t) h = h
taken_output withheld h = (tt, omega arith)
taken_output controlled h = (tt, omega arith)

taken_number : (k : Kind) → Taken k → (number_of k ≡ 0) × (place_of k ≡ 0)
unfolding number_of place_of
taken_number (refused_with r) h = absurd h
taken_number (out t) h = (refl, refl)
taken_number withheld h = (refl, refl)
taken_number controlled h = (refl, refl)

pub done_taken : (n : ℕ) (o : Bool) (t : List ℕ) → Bytes t → length t ≤ most_line_bytes → Taken (kind_of_done n o t)
unfolding kind_of_done
done_taken zero o t b h = (b, h)
done_taken (suc n) true t b h = (b, h)
done_taken (suc n) false t b h = tt

-- THE ANSWERS

pub refusal_kept : {ms : Table} {st : State} {sent : Sent} (n : ℕ) (r : Refusal) → Accepted ms → InRange st → n ≤ sent.budget → OfLine r → Kept ms st sent (refusal ms st n r)
unfolding refusal number_of place_of output_of
refusal_kept n r a i h g =
    record { table = a; state = i; fits = omega arith; bytes = tt; trace = λ s e. absurd (let z : ◌≡◌ {A = ℕ} 0 1 = cc in omega arith); passes = h; refused = λ q e. (refl, refl); number = g.0; place = g.1 }

pub taken_kept : {ms : Table} {st : State} {sent : Sent} (k : Kind) (n : ℕ) (ks : Table) (s : State) → Accepted ks → InRange s → n ≤ sent.budget → Taken k → (tr : Option (List ℕ))
    → ((x : List ℕ) → tr ≡ some x → length x ≤ most_trace_bytes) → Kept ms st sent (record { kind = k; passes = n; table = ks; state = s; trace_text = tr })
taken_kept k n ks s a i h g tr b =
    record {
      table = a;
      state = i;
      fits = (taken_output k g).1;
      bytes = (taken_output k g).0;
      trace = b;
      passes = h;
      refused = λ r e. absurd (subst Taken e g);
      number = inl (taken_number k g).0;
      place = inr (taken_number k g).1;
    }
