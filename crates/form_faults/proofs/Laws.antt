-- The laws of specs/FormLaw.antt, proved.
use mathlib.Core.Path.{ap, refl, sym, ◌∙◌, ◌≡◌}
use mathlib.Core.List.{◌++◌, List, [], append_assoc, ◌∷◌}
use Prim.Native.Nat.{◌%◌, ◌*◌, ◌+◌, ◌-◌, ◌/◌, suc, zero, ℕ, ◌≤◌}
use native.Mathlib.Omega.{arith}
use lib.ListN.{length, length-append, length-replicate, replicate}
use lib.Dec.{eqb}
use lib.Seq.{get_or-append-add, get_or-append_seam}
use Rattle.form_bytes.specs.Fours.{four, number_at}
use Rattle.form_bytes.proofs.Laws.{four_there}
use Rattle.macros.specs.Refusals.{FileRefusal, file_number}
use Rattle.macros.specs.Refusals.FileRefusal.{bad_brace, bad_call, bad_class, file_too_long, incomplete, macro_too_long, no_element, no_unit, too_many_macros, zero_byte}
use Rattle.macros.specs.Macro.{pick}
use Rattle.macros.specs.Formed.{Octets}
use Rattle.faults.specs.Refusal.{most_faults}
use Rattle.faults.specs.Recover.{Fault}
use Rattle.faults.specs.Recover.Fault.{fault_at}
use Rattle.form_faults.specs.Form.{fault_items, faults_bytes, faults_form, list_bytes}
use Rattle.form_faults.specs.FormLaw.{FaultList, FormsCount, FormsFit, FormsReadBack, FaultsOneForm, PlacesFit}

-- NUMBERS

pub four_length : (n : ℕ) → length (four n) ≡ 4
unfolding four
four_length n = refl

-- a number behind other bytes
pub number_in : (u v : List ℕ) (n p : ℕ) → p ≡ length u → number_at (u ++ (four n ++ v)) p ≡ n
unfolding four
number_in u v n p e =
    let a = get_or-append_seam u (n % 256) (n / 256 % 256 ∷ n / 65536 % 256 ∷ n / 16777216 ∷ v) 0 in
    let b = get_or-append-add u (n % 256 ∷ n / 256 % 256 ∷ n / 65536 % 256 ∷ n / 16777216 ∷ v) 1 0 in
    let c = get_or-append-add u (n % 256 ∷ n / 256 % 256 ∷ n / 65536 % 256 ∷ n / 16777216 ∷ v) 2 0 in
    let d = get_or-append-add u (n % 256 ∷ n / 256 % 256 ∷ n / 65536 % 256 ∷ n / 16777216 ∷ v) 3 0 in
    rw (e, a, b, c, d) (four_there n)

-- two numbers in the same bytes are one
four_same : (m n : ℕ) (u v : List ℕ) → four m ++ u ≡ four n ++ v → (m ≡ n) × (u ≡ v)
unfolding four
four_same m n u v e =
    let a : m % 256 ≡ n % 256 = cc in
    let b : m / 256 % 256 ≡ n / 256 % 256 = cc in
    let c : m / 65536 % 256 ≡ n / 65536 % 256 = cc in
    let d : m / 16777216 ≡ n / 16777216 = cc in
    (sym (four_there m) ∙ (rw (a, b, c, d) (four_there n)), cc)

four_octets : (n : ℕ) (v : List ℕ) → n ≤ 65535 → Octets v → Octets (four n ++ v)
unfolding four
four_octets n v l g = (omega arith, (omega arith, (omega arith, (omega arith, g))))

number_few : (r : FileRefusal) → file_number r ≤ 19
unfolding file_number
number_few file_too_long = omega arith
number_few zero_byte = omega arith
number_few incomplete = omega arith
number_few bad_class = omega arith
number_few no_unit = omega arith
number_few bad_brace = omega arith
number_few bad_call = omega arith
number_few no_element = omega arith
number_few macro_too_long = omega arith
number_few too_many_macros = omega arith

-- a refusal by its number
refusal_of_lem : ℕ → FileRefusal
refusal_of_lem n =
    pick (eqb n 10) file_too_long (pick (eqb n 11) zero_byte (pick (eqb n 12) incomplete (pick (eqb n 13) bad_class (pick (eqb n 14) no_unit
    (pick (eqb n 15) bad_brace (pick (eqb n 16) bad_call (pick (eqb n 17) no_element (pick (eqb n 18) macro_too_long too_many_macros))))))))

number_back : (r : FileRefusal) → refusal_of_lem (file_number r) ≡ r
unfolding file_number refusal_of_lem pick
number_back file_too_long = refl
number_back zero_byte = refl
number_back incomplete = refl
number_back bad_class = refl
number_back no_unit = refl
number_back bad_brace = refl
number_back bad_call = refl
number_back no_element = refl
number_back macro_too_long = refl
number_back too_many_macros = refl

-- ITEMS

pub items_length : (fs : List Fault) → length (fault_items fs) ≡ 8 * length fs
unfolding fault_items four
items_length [] = refl
items_length (fault_at r p ∷ fs) = let l = items_length fs in omega arith

pub items_append : (fs gs : List Fault) → fault_items (fs ++ gs) ≡ fault_items fs ++ fault_items gs
unfolding fault_items
items_append [] gs = refl
items_append (fault_at r p ∷ fs) gs =
    ap (λ (x : List ℕ). four (file_number r) ++ (four p ++ x)) (items_append fs gs)
    ∙ (ap (λ (x : List ℕ). four (file_number r) ++ x) (sym (append_assoc (four p) (fault_items fs) (fault_items gs)))
    ∙ sym (append_assoc (four (file_number r)) (four p ++ fault_items fs) (fault_items gs)))

zeros_octets : (n : ℕ) → Octets (replicate n 0)
zeros_octets zero = tt
zeros_octets (suc n) = (omega arith, zeros_octets n)

items_octets : (fs : List Fault) (v : List ℕ) → PlacesFit fs → Octets v → Octets (fault_items fs ++ v)
unfolding fault_items
items_octets [] v g h = h
items_octets (fault_at r p ∷ fs) v g h =
    rw (append_assoc (four (file_number r)) (four p ++ fault_items fs) v, append_assoc (four p) (fault_items fs) v)
    (four_octets (file_number r) _ (let l = number_few r in omega arith) (four_octets p _ (omega (arith, g.0)) (items_octets fs v g.1 h)))

items_same : (fs gs : List Fault) → length fs ≡ length gs → (u v : List ℕ) → fault_items fs ++ u ≡ fault_items gs ++ v → fs ≡ gs
unfolding fault_items
items_same [] [] l u v e = refl
items_same [] (g ∷ gs) l u v e = absurd (omega arith)
items_same (f ∷ fs) [] l u v e = absurd (omega arith)
items_same (fault_at r p ∷ fs) (fault_at k q ∷ gs) l u v e =
    let x = four_same (file_number r) (file_number k) ((four p ++ fault_items fs) ++ u) ((four q ++ fault_items gs) ++ v)
    (sym (append_assoc (four (file_number r)) (four p ++ fault_items fs) u) ∙ (e ∙ append_assoc (four (file_number k)) (four q ++ fault_items gs) v)) in
    let y = four_same p q (fault_items fs ++ u) (fault_items gs ++ v) (sym (append_assoc (four p) (fault_items fs) u) ∙ (x.1 ∙ append_assoc (four q) (fault_items gs) v)) in
    let z : r ≡ k = sym (number_back r) ∙ (ap refusal_of_lem x.0 ∙ number_back k) in
    let w : fs ≡ gs = items_same fs gs (omega arith) u v y.1 in
    rw (z, y.0, w)

-- THE LAWS

pub form_length : (fs : List Fault) → length fs ≤ most_faults → length (faults_form fs) ≡ faults_bytes
unfolding faults_form four
form_length fs g =
    let a = items_length fs in
    let b = length-append (fault_items fs) (replicate (list_bytes - length (fault_items fs)) 0) in
    let c = length-replicate {A = ℕ} (list_bytes - length (fault_items fs)) 0 in
    omega arith

pub forms_fit : FormsFit
unfolding faults_form
forms_fit fs g = record {
  size = form_length fs g.0;
  octets = four_octets (length fs) _ (omega (arith, g.0)) (items_octets fs _ g.1 (zeros_octets (list_bytes - length (fault_items fs))));
}

pub forms_count : FormsCount
unfolding faults_form
forms_count fs g = number_in [] (fault_items fs ++ replicate (list_bytes - length (fault_items fs)) 0) (length fs) 0 refl

pub forms_read_back : FormsReadBack
unfolding faults_form fault_items
forms_read_back fs gs r p g = record {
  number = ap (λ (b : List ℕ). number_at b (4 + 8 * length fs)) (at_number) ∙ number_in front behind_number (file_number r) (4 + 8 * length fs) before;
  place = ap (λ (b : List ℕ). number_at b (8 + 8 * length fs)) (at_number ∙ sym (append_assoc front (four (file_number r)) behind_number)) ∙ number_in (front ++ four (file_number r)) (fault_items gs ++ zeros) p (8 + 8 * length fs) before_place;
}
  where
    all : List Fault
    all = fs ++ (fault_at r p ∷ gs)

    zeros : List ℕ
    zeros = replicate (list_bytes - length (fault_items all)) 0

    front : List ℕ
    front = four (length all) ++ fault_items fs

    behind_number : List ℕ
    behind_number = four p ++ (fault_items gs ++ zeros)

    before : 4 + 8 * length fs ≡ length front
    before =
        let a = length-append (four (length all)) (fault_items fs) in
        let b = items_length fs in
        let c = four_length (length all) in
        omega arith

    before_place : 8 + 8 * length fs ≡ length (front ++ four (file_number r))
    before_place =
        let a = length-append front (four (file_number r)) in
        let b = four_length (file_number r) in
        omega (arith, before)

    at_number : faults_form all ≡ front ++ (four (file_number r) ++ behind_number)
    at_number =
        ap (λ (x : List ℕ). four (length all) ++ (x ++ zeros)) (items_append fs (fault_at r p ∷ gs))
        ∙ (ap (λ (x : List ℕ). four (length all) ++ x) (append_assoc (fault_items fs) (four (file_number r) ++ (four p ++ fault_items gs)) zeros)
        ∙ (ap (λ (x : List ℕ). four (length all) ++ (fault_items fs ++ x))
        (append_assoc (four (file_number r)) (four p ++ fault_items gs) zeros ∙ ap (λ (x : List ℕ). four (file_number r) ++ x) (append_assoc (four p) (fault_items gs) zeros))
        ∙ sym (append_assoc (four (length all)) (fault_items fs) (four (file_number r) ++ behind_number))))

pub one_form : FaultsOneForm
unfolding faults_form
one_form fs gs g h e =
    let x = four_same (length fs) (length gs) _ _ e in
    items_same fs gs x.0 _ _ x.1
