-- A number is read where its four bytes stand.
-- Assumes nothing.
use Prim.Native.Nat.{ℕ, ◌+◌, ◌<◌}
use mathlib.Core.Path.{◌≡◌, refl, sym, ap, ◌∙◌}
use mathlib.Core.List.{List, ◌++◌}
use native.Mathlib.Nat.{add-zero}
use native.Mathlib.Omega.{arith}
use lib.ListN.{get_or, take, drop}
use lib.Seq.{drop_at, get_or-take, get_or-drop, take_at, length-take-le}
use Rattle.form_bytes.specs.Fours.{four, number_at, with_number}
use Rattle.form_bytes.specs.FoursLaws.{NumberReads, StoredReads}
use Rattle.form_bytes.proofs.Laws.{four_there}

-- only the four bytes count
pub number_block : (l : List ℕ) (at : ℕ) → number_at (take 4 (drop at l)) 0 ≡ number_at l at
number_block l at =
    let one : (k : ℕ) → k < 4 → get_or (take 4 (drop at l)) k 0 ≡ get_or l (at + k) 0 = λ k h. get_or-take 4 (drop at l) k 0 h ∙ get_or-drop at l k 0 in
    let first : get_or (take 4 (drop at l)) 0 0 ≡ get_or l at 0 = one 0 (omega arith) ∙ ap (λ (k : ℕ). get_or l k 0) (add-zero at) in
    rw (first, one 1 (omega arith), one 2 (omega arith), one 3 (omega arith))

pub number_reads : NumberReads
unfolding four
number_reads b p n e = sym (number_block b p) ∙ (ap (λ (x : List ℕ). number_at x 0) e ∙ four_there n)

pub stored_reads : StoredReads
unfolding with_number four
stored_reads b p n h =
    let rest : List ℕ = drop (p + 4) b in
    number_reads (take p b ++ (four n ++ rest)) p n
    (ap (take 4) (drop_at (take p b) (four n ++ rest) p (length-take-le p b h)) ∙ take_at (four n) rest 4 refl)
