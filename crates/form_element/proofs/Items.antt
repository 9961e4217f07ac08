-- An element and its item.
-- Assumes nothing.
use Prim.Native.Nat.{ℕ, ◌+◌, ◌*◌, ◌≤◌}
use mathlib.Core.Path.{◌≡◌, refl, sym, ap, ◌∙◌}
use mathlib.Core.Bool.{true, false}
use mathlib.Core.List.{List, [], ◌∷◌, ◌++◌}
use native.Mathlib.Nat.{add-zero}
use native.Mathlib.Omega.{arith}
use lib.ListN.{length, get_or, drop, length-append, length-drop}
use lib.Seq.{get_or-drop}
use Rattle.macros.specs.Macro.{PatternUnit, Closure, Piece, pick}
use Rattle.macros.specs.Macro.Closure.{once, one_or_more, zero_or_more}
use Rattle.macros.specs.Macro.Mark.{stack, counter}
use Rattle.macros.specs.Macro.PatternUnit.{literal, kind, class, call_of}
use Rattle.macros.specs.Macro.Piece.{element, start, end, left, right}
use Rattle.form_table.specs.Form.{closure_code, unit_code, unit_operand, piece_items}
use Rattle.form_element.specs.Element.{element_of, code_unit, closure_of, code_closure, closure_from, item_of, sign_at, unit_at, closure_at, SomePiece, AnyPiece}
use Rattle.form_element.specs.declared.Unit.{Unit as CodeUnit}
use Rattle.form_element.specs.declared.Closure.{Closure as CodeClosure}

-- THE ITEM OF A PIECE'S ELEMENT is the first of the piece's items

closure_same : (c : Closure) → closure_from (code_closure c) ≡ c
closure_same once = refl
closure_same one_or_more = refl
closure_same zero_or_more = refl

pub unit_item : (u : PatternUnit) (c : Closure) → item_of (element_of (element u c)) ≡ (4 * unit_code u + closure_code c) ∷ unit_operand u ∷ []
unfolding item_of piece_items unit_code unit_operand
unit_item (literal b) c = rw (closure_same c) refl
unit_item (kind n) c = rw (closure_same c) refl
unit_item (class false ms) c = rw (closure_same c) refl
unit_item (class true ms) c = rw (closure_same c) refl
unit_item (call_of stack i) c = rw (closure_same c) refl
unit_item (call_of counter i) c = rw (closure_same c) refl

-- `^`, `$` and the braces have no other items
pub start_item : item_of (element_of start) ≡ piece_items start
unfolding item_of piece_items
start_item = refl

pub end_item : item_of (element_of end) ≡ piece_items end
unfolding item_of piece_items
end_item = refl

pub left_item : item_of (element_of left) ≡ piece_items left
unfolding item_of piece_items
left_item = refl

pub right_item : item_of (element_of right) ≡ piece_items right
unfolding item_of piece_items
right_item = refl

-- BACK FROM AN ITEM

pub piece_two : (p : Piece) → 2 ≤ length (piece_items p)
unfolding piece_items
piece_two (element u c) = omega arith
piece_two start = omega arith
piece_two end = omega arith
piece_two left = omega arith
piece_two right = omega arith

pub piece_inside : {items : List ℕ} {at : ℕ} → SomePiece items at → at + 2 ≤ length items
piece_inside {items} {at} s =
    let l = length-append (piece_items s.piece) s.behind in
    let h = piece_two s.piece in
    let k = length-drop at items in
    let e = ap length s.is in
    omega arith

unit_back : (p : Piece) (r : List ℕ) → unit_at (get_or (piece_items p ++ r) 0 0) (get_or (piece_items p ++ r) 1 0) ≡ code_unit p
unfolding sign_at unit_at pick piece_items unit_code closure_code unit_operand
unit_back (element (literal b) once) r = refl
unit_back (element (literal b) one_or_more) r = refl
unit_back (element (literal b) zero_or_more) r = refl
unit_back (element (kind n) once) r = refl
unit_back (element (kind n) one_or_more) r = refl
unit_back (element (kind n) zero_or_more) r = refl
unit_back (element (class false ms) once) r = refl
unit_back (element (class false ms) one_or_more) r = refl
unit_back (element (class false ms) zero_or_more) r = refl
unit_back (element (class true ms) once) r = refl
unit_back (element (class true ms) one_or_more) r = refl
unit_back (element (class true ms) zero_or_more) r = refl
unit_back (element (call_of stack i) once) r = refl
unit_back (element (call_of stack i) one_or_more) r = refl
unit_back (element (call_of stack i) zero_or_more) r = refl
unit_back (element (call_of counter i) once) r = refl
unit_back (element (call_of counter i) one_or_more) r = refl
unit_back (element (call_of counter i) zero_or_more) r = refl
unit_back start r = refl
unit_back end r = refl
unit_back left r = refl
unit_back right r = refl

closure_back : (p : Piece) (r : List ℕ) → closure_at (get_or (piece_items p ++ r) 0 0) ≡ closure_of p
unfolding closure_at pick piece_items unit_code closure_code unit_operand
closure_back (element (literal b) once) r = refl
closure_back (element (literal b) one_or_more) r = refl
closure_back (element (literal b) zero_or_more) r = refl
closure_back (element (kind n) once) r = refl
closure_back (element (kind n) one_or_more) r = refl
closure_back (element (kind n) zero_or_more) r = refl
closure_back (element (class false ms) once) r = refl
closure_back (element (class false ms) one_or_more) r = refl
closure_back (element (class false ms) zero_or_more) r = refl
closure_back (element (class true ms) once) r = refl
closure_back (element (class true ms) one_or_more) r = refl
closure_back (element (class true ms) zero_or_more) r = refl
closure_back (element (call_of stack i) once) r = refl
closure_back (element (call_of stack i) one_or_more) r = refl
closure_back (element (call_of stack i) zero_or_more) r = refl
closure_back (element (call_of counter i) once) r = refl
closure_back (element (call_of counter i) one_or_more) r = refl
closure_back (element (call_of counter i) zero_or_more) r = refl
closure_back start r = refl
closure_back end r = refl
closure_back left r = refl
closure_back right r = refl

-- the k-th byte from a place on
from_place : (l v : List ℕ) (i : ℕ) → v ≡ drop i l → (k : ℕ) → get_or l (i + k) 0 ≡ get_or v k 0
from_place l v i e k = sym (get_or-drop i l k 0) ∙ ap (λ (x : List ℕ). get_or x k 0) (sym e)

pub element_decoded : (items : List ℕ) (at : ℕ) {u : CodeUnit} {k : CodeClosure} → u ≡ unit_at (get_or items at 0) (get_or items (at + 1) 0) → k ≡ closure_at (get_or items at 0)
    → AnyPiece items at (λ p. record { unit = u; closure = k } ≡ element_of p)
element_decoded items at {u} {k} f g p r e =
    let a : get_or items at 0 ≡ get_or (piece_items p ++ r) 0 0 = ap (λ (j : ℕ). get_or items j 0) (sym (add-zero at)) ∙ from_place items _ at e 0 in
    let b : get_or items (at + 1) 0 ≡ get_or (piece_items p ++ r) 1 0 = from_place items _ at e 1 in
    let x : u ≡ code_unit p = f ∙ (rw (a, b) (unit_back p r)) in
    let y : k ≡ closure_of p = g ∙ (rw a (closure_back p r)) in
    rw (x, y) refl
