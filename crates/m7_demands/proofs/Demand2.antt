-- m7_write has one result; and what it has written, m7_read reads as the same table bytes.
use Prim.Native.Nat.{ℕ, ◌-◌}
use mathlib.Core.Path.{◌≡◌, refl, sym, ap, ◌∙◌}
use mathlib.Core.Bool.{Bool, true, false}
use mathlib.Core.List.{List}
use native.Mathlib.Omega.{arith}
use lib.ListN.{length, take, replicate}
use lib.Seq.{take-append_seam}
use Rattle.macros.specs.Bounds.{most_file_bytes}
use Rattle.macros.specs.Refusals.{number, host_number}
use Rattle.macros.specs.Refusals.Refusal.{of_host}
use Rattle.macros.specs.Refusals.HostRefusal.{bad_memory, bad_table}
use Rattle.macros.specs.Macro.{Table}
use Rattle.macros.specs.Formed.{Octets}
use Rattle.macros.specs.Write.{Written, write_out}
use Rattle.macros.specs.Write.Written.{refused, file}
use Rattle.macros.proofs.Laws.{round_trip}
use Rattle.form_table.specs.Form.{table_bytes, form}
use Rattle.form_table.specs.Check.{checks}
use Rattle.form_table.proofs.Basics.{clash}
use Rattle.form_table.proofs.Tables.{check_exact}
use Rattle.line_answer.specs.declared.Answer.{Answer}
use Rattle.line_answer.specs.Replies.{reply}
use Rattle.line_memory.specs.Memory.{IsTable}
use Rattle.m7.specs.Contract.{Result, Gives, refuses, takes, of_reading, reads, of_writing, sized, Writes}
use Rattle.m7_demands.specs.OneResult.{OneResult}
use Rattle.m7_demands.specs.Demand2.{Back, Demand2}
use Rattle.m7.proofs.Results.{not_zero, reads_sized}

-- bytes that do not pass the check are the form of no table
no_form : (t : List ℕ) → Octets t → checks t ≡ false → (ms : Table) → IsTable t ms → ⊥
no_form t o e ms f = clash ((check_exact t o).1 (ms, f.accepted, f.form)) e

-- ONE RESULT

module _ (t old : List ℕ) (o : Octets t) where
  of_tests : (c d : Bool) → sized t old ≡ c → checks t ≡ d → (w : Result) × ((r : Answer) (b : List ℕ) → Writes t old r b → Gives w r b)
  of_tests false d y e = (refuses (of_host bad_memory) old, λ r b h. h.other_size y)
  of_tests true false y e = (refuses (of_host bad_table) old, λ r b h. h.no_table y (no_form t o e))
  of_tests true true y e = let k = (check_exact t o).0 e in (of_writing old (write_out k.0), λ r b h. h.written y k.0 (record { accepted = k.1; form = k.2 }))

pub one_result : OneResult
one_result t old o = of_tests t old o (sized t old) (checks t) refl refl

-- DEMAND 2

module _ (t old s new : List ℕ) (r : Answer) (z : r.number ≡ 0) (l : length new ≡ table_bytes) where
  number_of : {w : Result} → Gives w r s → w.answer.number ≡ 0
  number_of g = sym (ap (λ (a : Answer). a.number) g.answers) ∙ z

  of_file_lem : (ms : Table) (w : Written) → IsTable t ms → write_out ms ≡ w → Gives (of_writing old w) r s → Back t (reads (take r.length s) new)
  unfolding of_writing refuses takes reply number of_reading
  of_file_lem ms (refused f p) k e g = absurd (not_zero f (number_of g))
  of_file_lem ms (file u) k e g =
      let n : r.length ≡ length u = ap (λ (a : Answer). a.length) g.answers in
      let first : take r.length s ≡ u = ap (λ (i : ℕ). take i s) n ∙ ap (take (length u)) g.holds ∙ take-append_seam u (replicate (most_file_bytes - length u) 0) in
      let back = (round_trip ms u k.accepted e).back in
      let same : reads (take r.length s) new ≡ takes (length ms) (form ms) = ap (λ (x : List ℕ). reads x new) first ∙ reads_sized u new l ∙ ap (of_reading new) back in
      record { taken = ap (λ (w : Result). w.answer.number) same; same = ap (λ (w : Result). w.memory) same ∙ k.form }

  module _ (o : Octets t) (h : Writes t old r s) where
    of_table : (c : Bool) → checks t ≡ c → sized t old ≡ true → Back t (reads (take r.length s) new)
    unfolding refuses reply number host_number
    of_table false e y =
        let g = h.no_table y (no_form t o e) in
        let n = number_of g in
        absurd (omega arith)
    of_table true e y =
        let k = (check_exact t o).0 e in
        let f : IsTable t k.0 = record { accepted = k.1; form = k.2 } in
        of_file_lem k.0 (write_out k.0) f refl (h.written y k.0 f)

    of_sizes : (c : Bool) → sized t old ≡ c → Back t (reads (take r.length s) new)
    unfolding refuses reply number host_number
    of_sizes false y = let n = number_of (h.other_size y) in absurd (omega arith)
    of_sizes true y = of_table (checks t) refl y

pub demand_2 : Demand2
demand_2 t old s new r o h z l = of_sizes t old s new r z l o h (sized t old) refl
