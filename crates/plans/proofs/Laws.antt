-- The laws of specs/MeasureLaw, proved.
-- Assumes nothing.
use mathlib.Core.Path.{◌≡◌, refl, sym, ap, ◌∙◌, subst}
use mathlib.Core.List.{List, [], ◌∷◌}
use Prim.Native.Nat.{ℕ, ◌≤◌}
use native.Mathlib.Omega.{arith}
use lib.ListN.{length}
use Rattle.macros.specs.Bounds.{most_file_bytes}
use Rattle.macros.specs.Refusals.{FileRefusal}
use Rattle.macros.specs.Macro.{Table}
use Rattle.macros.specs.Formed.{Octets}
use Rattle.macros.specs.Read.{Read, read_file, read_file_by}
use Rattle.macros.specs.ReadFile.Read.{refused_at, table}
use Rattle.macros.specs.Write.{Written, write_out}
use Rattle.macros.specs.Write.Written.{refused, file}
use Rattle.macros.specs.WriteRefusals.{WritesWell}
use Rattle.macros.specs.WriteRefusals.WritesWell.{whole, long, full}
use Rattle.macros.specs.Accepted.{Accepted, Spellable}
use Rattle.macros.proofs.Laws.{each_spellable, read_keeps}
use Rattle.macros.proofs.WriteRefusals.{writes_whole}
use Rattle.plans.specs.Measure.{Size, Measured, most, macro_elements, macro_tags, size_of, measured, measure}
use Rattle.plans.specs.Measure.Size.{bytes, unwritten}
use Rattle.plans.specs.Measure.Measured.{takes, unread}
use Rattle.plans.specs.MeasureLaw.{Shows, SizeIs, Reason, MeasuresExactly, SmallSize, Small, MeasuresSmall}
use Rattle.plans.proofs.Most.{most_is, one_most, most_within}
use Rattle.plans.proofs.Small.{few_tags, few_elements, each_one, onto_within}

-- AN ANSWER AND ITS REASON

size_is : (ms : Table) (w : Written) → write_out ms ≡ w → SizeIs ms (size_of w)
unfolding size_of
size_is ms (file s) e = (s, e, refl)
size_is ms (refused r p) e = e

one_size : (ms : Table) (z : Size) → SizeIs ms z → size_of (write_out ms) ≡ z
unfolding size_of
one_size ms (bytes n) h = ap size_of h.1 ∙ ap bytes h.2
one_size ms (unwritten r p) h = ap size_of h

shows : (ms : Table) → Shows ms (length ms) (most macro_elements ms) (most macro_tags ms)
shows ms = record { macros = refl; elements = most_is macro_elements ms; tags = most_is macro_tags ms }

reason_of : (s : List ℕ) (r : Read) → read_file s ≡ r → Reason s (measured r)
unfolding measured
reason_of s (table ms) e = (ms, e, shows ms, size_is ms (write_out ms) refl)
reason_of s (refused_at c p) e = e

same_takes : {n n' e e' t t' : ℕ} {z z' : Size} → n ≡ n' → e ≡ e' → t ≡ t' → z ≡ z' → takes n e t z ≡ takes n' e' t' z'
same_takes a b c d = rw (a, b, c, d) refl

answer_of_lem : (s : List ℕ) (v : Measured) → Reason s v → measure s ≡ v
unfolding measure measured
answer_of_lem s (takes n e t z) h =
    let ms = h.0 in
    let w : Shows ms n e t = h.2 in
    ap measured h.1
    ∙ same_takes w.macros (one_most macro_elements ms (most macro_elements ms) e (most_is macro_elements ms) w.elements)
    (one_most macro_tags ms (most macro_tags ms) t (most_is macro_tags ms) w.tags) (one_size ms z h.3)
answer_of_lem s (unread r p) h = ap measured h

pub measures_exactly : MeasuresExactly
unfolding measure
measures_exactly s v = (λ e. subst (Reason s) e (reason_of s (read_file s) refl), λ h. answer_of_lem s v h)

-- HOW LARGE THE NUMBERS CAN BE

none_accepted : Accepted []
none_accepted = record { count = omega arith; macros = tt }

small_size : (ms : Table) (w : Written) → WritesWell ms w → SmallSize (size_of w)
unfolding size_of
small_size ms w (whole l n) = l
small_size ms w (long t l n) = l
small_size ms w (full l n) = omega arith

small_takes : (s : List ℕ) (ms : Table) → Octets s → read_file s ≡ table ms → Small (measured (table ms))
unfolding measured read_file_by
small_takes s ms g e =
    let a = (read_keeps [] s ms none_accepted g e).accepted in
    let k = each_one Spellable ms (each_spellable a) in (
      a.count,
      most_within macro_elements ms _ (λ m o. few_elements m (k m o)),
      most_within macro_tags ms _ (λ m o. few_tags m (k m o)),
      small_size ms (write_out ms) (writes_whole ms),
    )

pub measures_small : MeasuresSmall
unfolding measure measured read_file_by
measures_small s g = by (read_file s) refl
  where
    by : (r : Read) → read_file s ≡ r → Small (measured r)
    by (table ms) e = small_takes s ms g e
    by (refused_at c p) e = onto_within [] s c p e
