-- The codes of calls and moves, there and back.
use mathlib.Core.Path.{◌≡◌, refl, sym}
use mathlib.Core.Bool.{true}
use mathlib.Core.List.{List, [], ◌∷◌}
use mathlib.Core.Option.{some}
use Prim.Native.Nat.{ℕ, ◌+◌, ◌*◌, ◌/◌, ◌%◌, ◌≤◌}
use native.Mathlib.Omega.{arith}
use lib.Dec.{eqb}
use lib.ListN.{length}
use borrow.Author.Tests.{eqb-true}
use Rattle.macros.specs.Macro.{Move, Call, pick}
use Rattle.macros.specs.Macro.Mark.{stack, counter}
use Rattle.macros.specs.Macro.Sign.{plus, minus}
use Rattle.macros.specs.Macro.Move.{still, before, after}
use Rattle.macros.specs.Macro.Call.{insert, store_tag, set_to, store_text, set_increment, divide}
use Rattle.macros.specs.Read.{is_still}
use Rattle.form_bytes.specs.Fours.{four}
use Rattle.form_table.specs.Form.{move_code, evened, call_items}
use Rattle.form_table.specs.Walk.{given}
use Rattle.form_table.specs.ActionWalk.{move_of, call_as}
use Rattle.form_table.proofs.Basics.{clash, not_some, picked}
use Rattle.form_table.proofs.Walks.{granted, some_same}
use Rattle.form_table.proofs.Octet.{move_code_lem}

-- MOVES

pub move_of_lem : (v : Move) → move_of (move_code v) ≡ some v
unfolding move_of move_code pick
move_of_lem still = refl
move_of_lem (before plus) = refl
move_of_lem (before minus) = refl
move_of_lem (after plus) = refl
move_of_lem (after minus) = refl

pub of_move : (c : ℕ) (v : Move) → move_of c ≡ some v → move_code v ≡ c
unfolding move_of move_code
of_move c v e =
    picked (eqb c 0) e (λ t q. rw (← some_same q) (sym (eqb-true c 0 t)))
    λ f e. picked (eqb c 1) e (λ t q. rw (← some_same q) (sym (eqb-true c 1 t)))
    λ f e. picked (eqb c 2) e (λ t q. rw (← some_same q) (sym (eqb-true c 2 t)))
    λ f e. picked (eqb c 3) e (λ t q. rw (← some_same q) (sym (eqb-true c 3 t)))
    λ f e. picked (eqb c 4) e (λ t q. rw (← some_same q) (sym (eqb-true c 4 t)))
    λ f e. not_some e

still_only : (v : Move) → is_still v ≡ true → v ≡ still
unfolding is_still
still_only still e = refl
still_only (before s) e = clash e refl
still_only (after s) e = clash e refl

-- CALLS

abbrev pub code_of : Call → ℕ
code_of (insert stack i v) = 6
code_of (insert counter i v) = 7
code_of (store_tag n i v) = 8
code_of (store_text i v t) = 9
code_of (set_to stack i n) = 10
code_of (set_to counter i n) = 11
code_of (set_increment i n) = 12
code_of (divide i n) = 13

abbrev pub letter_of : Call → ℕ
letter_of (insert m i v) = i
letter_of (store_tag n i v) = i
letter_of (store_text i v t) = i
letter_of (set_to m i n) = i
letter_of (set_increment i n) = i
letter_of (divide i n) = i

abbrev pub move_in : Call → Move
move_in (insert m i v) = v
move_in (store_tag n i v) = v
move_in (store_text i v t) = v
move_in (set_to m i n) = still
move_in (set_increment i n) = still
move_in (divide i n) = still

-- a call as its first item says it
abbrev pub head_call : Call → Call
head_call (insert m i v) = insert m i v
head_call (store_tag n i v) = store_tag 0 i v
head_call (store_text i v t) = store_text i v []
head_call (set_to m i n) = set_to m i 0
head_call (set_increment i n) = set_increment i 0
head_call (divide i n) = divide i 0

-- the rest of its items
abbrev pub rest_of : Call → List ℕ
rest_of (insert m i v) = []
rest_of (store_tag n i v) = 42 ∷ n ∷ []
rest_of (store_text i v t) = 43 ∷ length t ∷ evened t
rest_of (set_to m i n) = four n
rest_of (set_increment i n) = four n
rest_of (divide i n) = four n

pub call_split : (c : Call) → call_items c ≡ (8 * code_of c + move_code (move_in c)) ∷ letter_of c ∷ rest_of c
unfolding call_items move_code
call_split (insert stack i v) = refl
call_split (insert counter i v) = refl
call_split (store_tag n i v) = refl
call_split (store_text i v t) = refl
call_split (set_to stack i n) = refl
call_split (set_to counter i n) = refl
call_split (set_increment i n) = refl
call_split (divide i n) = refl

pub call_as_lem : (c : Call) → call_as (code_of c) (letter_of c) (move_in c) ≡ some (head_call c)
unfolding call_as pick given is_still
call_as_lem (insert stack i v) = refl
call_as_lem (insert counter i v) = refl
call_as_lem (store_tag n i v) = refl
call_as_lem (store_text i v t) = refl
call_as_lem (set_to stack i n) = refl
call_as_lem (set_to counter i n) = refl
call_as_lem (set_increment i n) = refl
call_as_lem (divide i n) = refl

pub record Says (c i : ℕ) (v : Move) (h : Call) : Type 0 where
  pub code : code_of h ≡ c
  pub letter : letter_of h ≡ i
  pub move : move_in h ≡ v
  pub bare : head_call h ≡ h

pub as_call : (c i : ℕ) (v : Move) (h : Call) → call_as c i v ≡ some h → Says c i v h
unfolding call_as
as_call c i v h e =
    picked (eqb c 6) e (λ t q. rw (← some_same q) (record { code = sym (eqb-true c 6 t); letter = refl; move = refl; bare = refl }))
    λ f e. picked (eqb c 7) e (λ t q. rw (← some_same q) (record { code = sym (eqb-true c 7 t); letter = refl; move = refl; bare = refl }))
    λ f e. picked (eqb c 8) e (λ t q. rw (← some_same q) (record { code = sym (eqb-true c 8 t); letter = refl; move = refl; bare = refl }))
    λ f e. picked (eqb c 9) e (λ t q. rw (← some_same q) (record { code = sym (eqb-true c 9 t); letter = refl; move = refl; bare = refl }))
    λ f e. picked (eqb c 10) e
    (λ t e. granted (is_still v) e λ w q. rw (← q) (record { code = sym (eqb-true c 10 t); letter = refl; move = sym (still_only v w); bare = refl }))
    λ f e. picked (eqb c 11) e
    (λ t e. granted (is_still v) e λ w q. rw (← q) (record { code = sym (eqb-true c 11 t); letter = refl; move = sym (still_only v w); bare = refl }))
    λ f e. picked (eqb c 12) e
    (λ t e. granted (is_still v) e λ w q. rw (← q) (record { code = sym (eqb-true c 12 t); letter = refl; move = sym (still_only v w); bare = refl }))
    λ f e. picked (eqb c 13) e
    (λ t e. granted (is_still v) e λ w q. rw (← q) (record { code = sym (eqb-true c 13 t); letter = refl; move = sym (still_only v w); bare = refl }))
    λ f e. not_some e

-- a call's code holds its move's
pub code_call : (c : ℕ) (v : Move) → (8 * c + move_code v) / 8 ≡ c
code_call c v = omega (arith, move_code_lem v)

pub code_move : (c : ℕ) (v : Move) → (8 * c + move_code v) % 8 ≡ move_code v
code_move c v = omega (arith, move_code_lem v)

pub code_range : (c : Call) → (6 ≤ code_of c) × (code_of c ≤ 13)
code_range (insert stack i v) = omega arith
code_range (insert counter i v) = omega arith
code_range (store_tag n i v) = omega arith
code_range (store_text i v t) = omega arith
code_range (set_to stack i n) = omega arith
code_range (set_to counter i n) = omega arith
code_range (set_increment i n) = omega arith
code_range (divide i n) = omega arith
