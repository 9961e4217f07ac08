-- What was measured, in numbers.
-- Assumes nothing.
use Prim.Native.Nat.{ℕ}
use mathlib.Core.Path.{◌≡◌, ap, sym, ◌∙◌, subst}
use mathlib.Core.List.{List}
use Rattle.macros.specs.Refusals.{file_number}
use Rattle.macros.specs.Formed.{Octets}
use Rattle.plans.specs.Measure.{measure}
use Rattle.plans.specs.MeasureLaw.{Small}
use Rattle.plans.specs.Numbers.{plan, sized_plan, told, plan_of}
use Rattle.plans.specs.declared.Plan.{Plan}
use Rattle.plans.proofs.Laws.{measures_small}
use Rattle.std.specs.Prelude.{Result, Ok, Err}
use Rattle.read_scan.specs.declared.ReadError.{ReadError}
use Rattle.write_file.specs.Slots.{refusal_of}
use Rattle.write_file.specs.declared.WriteError.{WriteError}
use Rattle.read_plan.specs.Measuring.{meant, took}
use Rattle.read_plan.specs.declared.Measures.{Measures}

abbrev as_written : Measures → Result ℕ WriteError → Measures
as_written m w = record { macros = m.macros; elements = m.elements; tags = m.tags; written = w }

module _ {m : Measures} where
  module _ {b : ℕ} (i : m.written ≡ Ok b) where
    pub told_written : {r : Plan} → r ≡ plan 0 0 m.macros m.elements m.tags b 0 0 → r ≡ told (took m)
    unfolding told sized_plan
    told_written g = g ∙ ap (λ (w : Result ℕ WriteError). told (took (as_written m w))) (sym i)

  module _ {e : WriteError} (i : m.written ≡ Err e) where
    pub told_unwritten : {r : Plan} {k : ℕ} → k ≡ file_number (refusal_of e.fault) → r ≡ plan 0 0 m.macros m.elements m.tags 0 k e.place → r ≡ told (took m)
    unfolding told sized_plan
    told_unwritten j g =
        g ∙ (ap (λ (x : ℕ). plan 0 0 m.macros m.elements m.tags 0 x e.place) j ∙ ap (λ (w : Result ℕ WriteError). told (took (as_written m w))) (sym i))

-- OF A FILE

module _ (s : List ℕ) (m : Result Measures ReadError) (e : meant m ≡ measure s) where
  pub measured_small : Octets s → Small (meant m)
  measured_small o = subst Small (sym e) (measures_small s o)

  pub measured_plan : {r : Plan} → r ≡ told (meant m) → r ≡ plan_of s
  unfolding plan_of
  measured_plan g = g ∙ ap told e
