-- One fault more in the list of faults.
-- Assumes nothing.
use mathlib.Core.Path.{◌≡◌, ap, sym, ◌∙◌}
use mathlib.Core.List.{List, [], ◌∷◌, ◌++◌, append_assoc, append-nil}
use Prim.Native.Nat.{ℕ, ◌+◌, ◌-◌, ◌*◌, ◌≤◌, ◌<◌}
use native.Mathlib.Omega.{arith}
use lib.ListN.{length, take, drop, replicate, length-append, length-replicate, replicate-append-replicate}
use lib.Seq.{take_at, drop_at, drop-append-add}
use Rattle.form_bytes.specs.Fours.{four, with_number}
use Rattle.macros.specs.Refusals.{FileRefusal, file_number}
use Rattle.form_items.specs.Items.{Wrote}
use Rattle.form_items.proofs.Writing.{wrote_is, wrote_of, wrote_behind}
use Rattle.faults.specs.Refusal.{most_faults}
use Rattle.faults.specs.Recover.{Fault}
use Rattle.faults.specs.Recover.Fault.{fault_at}
use Rattle.form_faults.specs.Form.{fault_items, faults_bytes, faults_form, list_bytes}
use Rattle.form_faults.proofs.Laws.{four_length, items_append, items_length}
use Rattle.read_fault.specs.Noting.{Lists}

pub zeros_drop : (i n : ℕ) → i ≤ n → drop i (replicate {A = ℕ} n 0) ≡ replicate (n - i) 0
zeros_drop i n h =
    let e : i + (n - i) ≡ n = omega arith in
    let z : replicate i 0 ++ replicate (n - i) 0 ≡ replicate {A = ℕ} n 0 = rw e at (replicate-append-replicate {A = ℕ} i (n - i) 0) in
    ap (drop i) (sym z) ∙ drop_at (replicate i 0) (replicate (n - i) 0) i (length-replicate i 0)

-- one fault more behind the others, and their count
module _ (old b₁ b₂ out : List ℕ) (k c q a : ℕ) (i : length old ≡ faults_bytes) (j : length b₁ ≡ faults_bytes) (h : k < most_faults) (e : a ≡ 4 + 8 * k)
    (x : b₁ ≡ with_number old a c) (y : b₂ ≡ with_number b₁ (a + 4) q) (z : out ≡ with_number b₂ 0 (k + 1)) where
  both : Wrote old b₂ a (four c ++ four q)
  unfolding with_number four
  both = wrote_behind (wrote_of (four c) a (omega arith) x) (omega arith) (wrote_of (four q) (a + 4) (omega arith) y)

  module _ (fs : List Fault) (r : FileRefusal) (o : faults_form fs ≡ old) (l : length fs ≡ k) (t : file_number r ≡ c) where
    zeros : ℕ → List ℕ
    zeros n = replicate (list_bytes - n) 0

    front : List ℕ
    front = four (length fs) ++ fault_items fs

    front_length : length front ≡ a
    unfolding front
    front_length = let u = length-append (four (length fs)) (fault_items fs) in let v = four_length (length fs) in let w = items_length fs in omega arith

    old_is : old ≡ front ++ zeros (length (fault_items fs))
    unfolding faults_form front zeros
    old_is = sym o ∙ sym (append_assoc (four (length fs)) (fault_items fs) (replicate (list_bytes - length (fault_items fs)) 0))

    taken : take a old ≡ front
    taken = ap (take a) old_is ∙ take_at front (zeros (length (fault_items fs))) a front_length

    left : drop (a + 8) old ≡ zeros (length (fault_items fs) + 8)
    unfolding zeros
    left =
        let u : a + 8 ≡ length front + 8 = omega (arith, front_length) in
        let v : list_bytes - length (fault_items fs) - 8 ≡ list_bytes - (length (fault_items fs) + 8) = omega arith in
        let w = items_length fs in
        ap (drop (a + 8)) old_is
        ∙ (ap (λ (n : ℕ). drop n (front ++ replicate (list_bytes - length (fault_items fs)) 0)) u
        ∙ (drop-append-add front (replicate (list_bytes - length (fault_items fs)) 0) 8
        ∙ (zeros_drop 8 (list_bytes - length (fault_items fs)) (omega arith) ∙ ap (λ (n : ℕ). replicate n 0) v)))

    -- the list with one more
    listed_is : b₂ ≡ front ++ ((four c ++ four q) ++ zeros (length (fault_items fs) + 8))
    unfolding four
    listed_is = wrote_is both ∙ rw (taken, left)

    behind_count : drop 4 b₂ ≡ fault_items fs ++ ((four c ++ four q) ++ zeros (length (fault_items fs) + 8))
    unfolding front
    behind_count =
        ap (drop 4) (listed_is ∙ append_assoc (four (length fs)) (fault_items fs) ((four c ++ four q) ++ zeros (length (fault_items fs) + 8)))
        ∙ drop_at (four (length fs)) (fault_items fs ++ ((four c ++ four q) ++ zeros (length (fault_items fs) + 8))) 4 (four_length (length fs))

    out_is : out ≡ four (k + 1) ++ (fault_items fs ++ ((four c ++ four q) ++ zeros (length (fault_items fs) + 8)))
    unfolding with_number
    out_is = z ∙ ap (λ (u : List ℕ). four (k + 1) ++ u) behind_count

    abbrev more : List Fault
    more = fs ++ (fault_at r q ∷ [])

    items_are : fault_items more ≡ fault_items fs ++ (four c ++ four q)
    unfolding fault_items
    items_are =
        items_append fs (fault_at r q ∷ [])
        ∙ rw (t, append-nil (four q))

    pub form_listed : faults_form more ≡ out
    unfolding faults_form zeros
    form_listed =
        let u : length more ≡ k + 1 = length-append fs (fault_at r q ∷ []) ∙ omega arith in
        let v : length (fault_items more) ≡ length (fault_items fs) + 8 = items_length more ∙ (let w = items_length fs in omega arith) in
        ap (λ (n : ℕ). four n ++ (fault_items more ++ replicate (list_bytes - length (fault_items more)) 0)) u
        ∙ (ap (λ (n : ℕ). four (k + 1) ++ (fault_items more ++ replicate (list_bytes - n) 0)) v
        ∙ (ap (λ (b : List ℕ). four (k + 1) ++ (b ++ replicate (list_bytes - (length (fault_items fs) + 8)) 0)) items_are
        ∙ (ap (λ (b : List ℕ). four (k + 1) ++ b) (append_assoc (fault_items fs) (four c ++ four q) (replicate (list_bytes - (length (fault_items fs) + 8)) 0)) ∙ sym out_is)))

  pub lists_more : Lists old out k c q
  lists_more fs r o l t = form_listed fs r o l t
