-- Entries of both sizes: what widening, narrowing and the check of 42 make of the forms of entries.
use Prim.Native.Nat.{ℕ, zero, suc, ◌+◌, ◌-◌, ◌*◌, ◌≤◌, ◌<◌}
use mathlib.Core.Path.{◌≡◌, refl, sym, ap, ◌∙◌}
use mathlib.Core.Bool.{Bool, true, false, ◌&&◌}
use mathlib.Core.List.{List, [], ◌∷◌, ◌++◌, append_assoc}
use native.Mathlib.Nat.{le_of_suc-le-suc}
use native.Mathlib.Omega.{arith}
use lib.Dec.{leb, eqb}
use lib.ListN.{length, get_or, take, drop, replicate, length-append, length-drop, replicate-append-replicate, take-append-drop}
use lib.Seq.{take_at, drop_at, take-append-le, length-take-le}
use borrow.Author.Tests.{leb-true, leb-false, eqb-true, eq-eqb}
use Rattle.macros.specs.Bounds.{most_entry_bytes, old_entry_bytes}
use Rattle.macros.specs.Formed.{Bytes}
use Rattle.macros.proofs.Tests.{and_left, and_right}
use Rattle.lines.specs.State.{AllOf, EntryInRange}
use Rattle.form_state.specs.Form.{entry_form, entry_form_by}
use Rattle.form_state.specs.Check.{blocks_check}
use Rattle.form_state.proofs.Each.{each, all_append, all_take, all_drop}
use Rattle.form_state.proofs.Parts as parts
use Rattle.form_old.specs.Old.{widened_entries, narrowed_entries, short_check}

-- an entry of at most 50 bytes
abbrev pub Few : List ℕ → Type 0
Few e = length e ≤ old_entry_bytes

-- the zeros behind an entry that is widened
abbrev pub gap : List ℕ
gap = replicate (most_entry_bytes - old_entry_bytes) 0

-- one entry in both forms
pub entry_widens : (e : List ℕ) → Few e → entry_form_by old_entry_bytes e ++ gap ≡ entry_form e
unfolding entry_form_by
entry_widens e h =
    let n : old_entry_bytes - length e + (most_entry_bytes - old_entry_bytes) ≡ most_entry_bytes - length e = omega arith in
    append_assoc e (replicate (old_entry_bytes - length e) 0) gap
    ∙ ap (λ (t : List ℕ). e ++ t)
    (replicate-append-replicate (old_entry_bytes - length e) (most_entry_bytes - old_entry_bytes) 0 ∙ ap (λ (k : ℕ). replicate k 0) n)

-- widening
pub widened_each : (es : List (List ℕ)) → AllOf Few es → widened_entries (length es) (each (entry_form_by old_entry_bytes) es) ≡ each entry_form es
unfolding widened_entries
widened_each [] h = refl
widened_each (e ∷ es) h =
    let c : List ℕ = entry_form_by old_entry_bytes e in
    let r : List ℕ = each (entry_form_by old_entry_bytes) es in
    let w : length c ≡ old_entry_bytes = parts.entry_by old_entry_bytes e h.0 in
    rw (take_at c r old_entry_bytes w, drop_at c r old_entry_bytes w, widened_each es h.1) (ap (λ (t : List ℕ). t ++ each entry_form es) (entry_widens e h.0))

-- narrowing
pub narrowed_each : (es : List (List ℕ)) → AllOf Few es → narrowed_entries (length es) (each entry_form es) ≡ each (entry_form_by old_entry_bytes) es
unfolding narrowed_entries
narrowed_each [] h = refl
narrowed_each (e ∷ es) h =
    let few : length e ≤ old_entry_bytes = h.0 in
    let c : List ℕ = entry_form e in
    let r : List ℕ = each entry_form es in
    let w : length c ≡ most_entry_bytes = parts.entry_by most_entry_bytes e (omega arith) in
    let front : take old_entry_bytes (c ++ r) ≡ entry_form_by old_entry_bytes e =
    take-append-le old_entry_bytes c r (omega arith)
    ∙ ap (take old_entry_bytes) (sym (entry_widens e few))
    ∙ take_at (entry_form_by old_entry_bytes e) gap old_entry_bytes (parts.entry_by old_entry_bytes e few) in
    rw (front, drop_at c r most_entry_bytes w, narrowed_each es h.1)

-- BYTES THAT NEED BE NO ENTRIES

-- the first of entries that are widened
module _ (n : ℕ) (b : List ℕ) (l : length b ≡ 50 * suc n) where
  abbrev block : List ℕ
  block = take old_entry_bytes b ++ gap

  pub first_long : length (take old_entry_bytes b) ≡ old_entry_bytes
  first_long = length-take-le old_entry_bytes b (omega arith)

  pub rest_long : length (drop old_entry_bytes b) ≡ 50 * n
  rest_long = length-drop old_entry_bytes b ∙ omega arith

  pub block_long : length block ≡ most_entry_bytes
  block_long = length-append (take old_entry_bytes b) gap ∙ ap (λ (k : ℕ). k + length gap) first_long

-- narrowing takes off what widening put behind
pub back : (n : ℕ) (b : List ℕ) → length b ≡ 50 * n → narrowed_entries n (widened_entries n b) ≡ b
unfolding widened_entries narrowed_entries
back zero [] l = refl
back zero (x ∷ b) l = absurd (omega arith)
back (suc n) b l =
    let t : List ℕ = take old_entry_bytes b in
    let r : List ℕ = widened_entries n (drop old_entry_bytes b) in
    let front : take old_entry_bytes ((t ++ gap) ++ r) ≡ t = ap (take old_entry_bytes) (append_assoc t gap r) ∙ take_at t (gap ++ r) old_entry_bytes (first_long n b l) in
    rw (front, drop_at (t ++ gap) r most_entry_bytes (block_long n b l), back n (drop old_entry_bytes b) (rest_long n b l)) (take-append-drop old_entry_bytes b)

-- the length of entries that are widened
pub widened_size : (n : ℕ) (b : List ℕ) → length b ≡ 50 * n → length (widened_entries n b) ≡ 100 * n
unfolding widened_entries
widened_size zero b l = refl
widened_size (suc n) b l =
    let r : List ℕ = widened_entries n (drop old_entry_bytes b) in
    let k : length r ≡ 100 * n = widened_size n (drop old_entry_bytes b) (rest_long n b l) in
    length-append (take old_entry_bytes b ++ gap) r ∙ omega (arith, block_long n b l)

-- bytes stay bytes
pub small_entries : (n : ℕ) (b : List ℕ) → AllOf parts.Small b → AllOf parts.Small (widened_entries n b)
unfolding widened_entries
small_entries zero b s = tt
small_entries (suc n) b s =
    all_append parts.Small (take old_entry_bytes b ++ gap) (widened_entries n (drop old_entry_bytes b))
    (all_append parts.Small (take old_entry_bytes b) gap (all_take parts.Small old_entry_bytes b s) (parts.zeros_small (most_entry_bytes - old_entry_bytes)))
    (small_entries n (drop old_entry_bytes b) (all_drop parts.Small old_entry_bytes b s))

-- 42

zeros_at : (n k : ℕ) → get_or (replicate {A = ℕ} n 0) k 0 ≡ 0
zeros_at zero k = refl
zeros_at (suc n) zero = refl
zeros_at (suc n) (suc k) = zeros_at n k

zero_behind : (e : List ℕ) (n k : ℕ) → length e ≤ k → get_or (e ++ replicate n 0) k 0 ≡ 0
zero_behind [] n k h = zeros_at n k
zero_behind (x ∷ e) n zero h = absurd (omega arith)
zero_behind (x ∷ e) n (suc k) h = zero_behind e n k (le_of_suc-le-suc h)

byte_there : (e z : List ℕ) (k : ℕ) → Bytes e → k < length e → 1 ≤ get_or (e ++ z) k 0
byte_there [] z k b h = absurd (omega arith)
byte_there (x ∷ e) z zero b h = b.0.0
byte_there (x ∷ e) z (suc k) b h = byte_there e z k b.1 (le_of_suc-le-suc h)

few_checks : (e : List ℕ) → Few e → short_check (entry_form e) ≡ true
unfolding short_check entry_form_by
few_checks e h = eq-eqb _ 0 (zero_behind e (most_entry_bytes - length e) old_entry_bytes h)

checks_few : (e : List ℕ) → EntryInRange e → short_check (entry_form e) ≡ true → Few e
unfolding short_check entry_form_by
checks_few e h c = by (leb (length e) old_entry_bytes) refl
  where
    by : (d : Bool) → leb (length e) old_entry_bytes ≡ d → Few e
    by true t = leb-true (length e) old_entry_bytes t
    by false f =
        let z : List ℕ = replicate (most_entry_bytes - length e) 0 in
        let one : 1 ≤ get_or (e ++ z) old_entry_bytes 0 = byte_there e z old_entry_bytes h.0 (leb-false (length e) old_entry_bytes f) in
        let none : get_or (e ++ z) old_entry_bytes 0 ≡ 0 = eqb-true _ 0 c in
        absurd (omega arith)

check_first : (e r : List ℕ) (n : ℕ) → length e ≡ most_entry_bytes
    → blocks_check short_check most_entry_bytes (suc n) (e ++ r) ≡ short_check e && blocks_check short_check most_entry_bytes n r
unfolding blocks_check
check_first e r n w = rw (take_at e r most_entry_bytes w, drop_at e r most_entry_bytes w)

pub all_few : (es : List (List ℕ)) → AllOf EntryInRange es → blocks_check short_check most_entry_bytes (length es) (each entry_form es) ≡ true → AllOf Few es
all_few [] h c = tt
all_few (e ∷ es) h c =
    let r : Bool = blocks_check short_check most_entry_bytes (length es) (each entry_form es) in
    let both : short_check (entry_form e) && r ≡ true = sym (check_first (entry_form e) (each entry_form es) (length es) (parts.entry_wide e h.0)) ∙ c in
    (checks_few e h.0 (and_left (short_check (entry_form e)) r both), all_few es h.1 (and_right (short_check (entry_form e)) r both))

pub few_all : (es : List (List ℕ)) → AllOf EntryInRange es → AllOf Few es → blocks_check short_check most_entry_bytes (length es) (each entry_form es) ≡ true
unfolding blocks_check
few_all [] h f = refl
few_all (e ∷ es) h f =
    check_first (entry_form e) (each entry_form es) (length es) (parts.entry_wide e h.0) ∙ rw (few_checks e f.0) (few_all es h.1 f.1)

-- entries that were widened pass
pub widened_short : (n : ℕ) (b : List ℕ) → length b ≡ 50 * n → blocks_check short_check most_entry_bytes n (widened_entries n b) ≡ true
unfolding blocks_check widened_entries short_check
widened_short zero b l = refl
widened_short (suc n) b l =
    let t : List ℕ = take old_entry_bytes b in
    let one : eqb (get_or (t ++ gap) old_entry_bytes 0) 0 ≡ true = eq-eqb _ 0 (zero_behind t (most_entry_bytes - old_entry_bytes) old_entry_bytes (omega (arith, first_long n b l))) in
    check_first (t ++ gap) (widened_entries n (drop old_entry_bytes b)) n (block_long n b l) ∙ rw one (widened_short n (drop old_entry_bytes b) (rest_long n b l))
