-- The elements of a pattern, by its items.
-- Assumes nothing.
use mathlib.Core.Path.{◌≡◌, refl, ap, sym, ◌∙◌}
use mathlib.Core.Bool.{Bool, true, false}
use mathlib.Core.List.{List, [], ◌∷◌, ◌++◌}
use Prim.Native.Nat.{ℕ, suc, ◌+◌, ◌-◌, ◌*◌, ◌%◌, ◌≤◌, ◌<◌}
use native.Mathlib.Omega.{arith}
use lib.ListN.{length, get_or, take, drop}
use Rattle.macros.specs.Macro.{Closure, Member, PatternUnit, Piece, Macro, within, elements}
use Rattle.macros.specs.Macro.Closure.{once, one_or_more, zero_or_more}
use Rattle.macros.specs.Macro.Member.{single, range}
use Rattle.macros.specs.Macro.Mark.{stack, counter}
use Rattle.macros.specs.Macro.PatternUnit.{literal, kind, class, call_of}
use Rattle.macros.specs.Macro.Piece.{element, start, end, left, right}
use Rattle.form_table.specs.Form.{closure_code, unit_code, unit_operand, member_items, members_items, unit_rest, piece_items, pattern_items, slot, header}
use Rattle.form_table.specs.Check.{two_at, items_at}
use Rattle.form_table.proofs.Slots.{before_at, pattern_at_lem, pattern_part}
use Rattle.plans.specs.Measure.{macro_elements, macro_tags}
use Rattle.write_file.specs.Slots.{before_end, pattern_end, replacement_end, commands_end}
use Rattle.write_file.specs.Contract.{SomeMacro}
use Rattle.write_file.proofs.Onward.{macro_parts}
use Rattle.read_plan.specs.Elements.{begins_element, element_items, slot_elements}

-- one item
items_cons : (c o : ℕ) (l : List ℕ) (x : Bool) → begins_element c ≡ x → element_items (c ∷ o ∷ l) ≡ elim x [ true ↦ suc (element_items l) | false ↦ element_items l ]
unfolding element_items
items_cons c o l x e = ap (λ (y : Bool). elim y [ true ↦ suc (element_items l) | false ↦ element_items l ]) e

-- THE ITEMS OF A PATTERN

-- the members of a class begin none
members_none : (ms : List Member) (l : List ℕ) → element_items (members_items ms ++ l) ≡ element_items l
unfolding element_items begins_element within members_items member_items
members_none [] l = refl
members_none (single c ∷ ms) l = members_none ms l
members_none (range a z ∷ ms) l = members_none ms l

rest_none : (u : PatternUnit) (l : List ℕ) → element_items (unit_rest u ++ l) ≡ element_items l
unfolding unit_rest
rest_none (literal b) l = refl
rest_none (kind n) l = refl
rest_none (call_of m i) l = refl
rest_none (class neg ms) l = members_none ms l

-- every element's code
element_code : (u : PatternUnit) (c : Closure) → begins_element (4 * unit_code u + closure_code c) ≡ true
unfolding begins_element within unit_code closure_code
element_code (literal b) once = refl
element_code (literal b) one_or_more = refl
element_code (literal b) zero_or_more = refl
element_code (kind n) once = refl
element_code (kind n) one_or_more = refl
element_code (kind n) zero_or_more = refl
element_code (call_of stack i) once = refl
element_code (call_of stack i) one_or_more = refl
element_code (call_of stack i) zero_or_more = refl
element_code (call_of counter i) once = refl
element_code (call_of counter i) one_or_more = refl
element_code (call_of counter i) zero_or_more = refl
element_code (class false ms) once = refl
element_code (class false ms) one_or_more = refl
element_code (class false ms) zero_or_more = refl
element_code (class true ms) once = refl
element_code (class true ms) one_or_more = refl
element_code (class true ms) zero_or_more = refl

pub pattern_elements : (ps : List Piece) → element_items (pattern_items ps) ≡ elements ps
unfolding pattern_items piece_items element_items elements begins_element within
pattern_elements [] = refl
pattern_elements (element u c ∷ ps) =
    items_cons (4 * unit_code u + closure_code c) (unit_operand u) (unit_rest u ++ pattern_items ps) true (element_code u c)
    ∙ ap suc (rest_none u (pattern_items ps) ∙ pattern_elements ps)
pattern_elements (start ∷ ps) = ap suc (pattern_elements ps)
pattern_elements (end ∷ ps) = ap suc (pattern_elements ps)
pattern_elements (left ∷ ps) = pattern_elements ps
pattern_elements (right ∷ ps) = pattern_elements ps

-- of a macro's slot
pub slot_elements_lem : (m : Macro) → slot_elements (slot m) ≡ macro_elements m
unfolding slot_elements macro_elements
slot_elements_lem m = rw (before_at m, pattern_at_lem m, pattern_part m) (pattern_elements m.pattern)

pub slot_tags_lem : (m : Macro) → get_or (slot m) 1 0 ≡ macro_tags m
unfolding macro_tags slot header
slot_tags_lem m = refl

-- what the code takes for the items of a slot's pattern
module _ {t : List ℕ} (x : SomeMacro t) where
  pub slot_room : (10 + two_at t 2 + two_at t 4 ≤ 1024) × (length t ≡ 1024) × (two_at t 4 % 2 ≡ 0)
  unfolding before_end pattern_end replacement_end commands_end
  slot_room = let p = macro_parts x in (omega (arith, p.fits), p.size, p.even)

  module _ {y z : ℕ} (p : y ≡ two_at t 2) (q : z ≡ two_at t 4) where
    pub slot_here : {r : ℕ} → r ≡ element_items (take (10 + y + z - (10 + y)) (drop (10 + y) t)) → r ≡ slot_elements t
    unfolding slot_elements items_at
    slot_here e = let w : 10 + y + z - (10 + y) ≡ z = omega arith in e ∙ rw (w, p, q) refl

-- ITEM BY ITEM

-- less than an item
pub items_short : (l : List ℕ) → length l < 2 → element_items l ≡ 0
unfolding element_items
items_short [] h = refl
items_short (c ∷ []) h = refl
items_short (c ∷ o ∷ l) h = absurd (omega arith)

module _ (l rest : List ℕ) where
  -- an item that begins an element
  pub item_counted : (x : List ℕ) → length x ≡ 2 → l ≡ x ++ rest → true ≡ begins_element (get_or x 0 0) → element_items l ≡ suc (element_items rest)
  item_counted [] h e b = absurd (omega arith)
  item_counted (c ∷ []) h e b = absurd (omega arith)
  item_counted (c ∷ o ∷ []) h e b = ap element_items e ∙ items_cons c o rest true (sym b)
  item_counted (c ∷ o ∷ d ∷ x) h e b = absurd (omega arith)

  -- and one that does not
  pub item_passed : (x : List ℕ) → length x ≡ 2 → l ≡ x ++ rest → false ≡ begins_element (get_or x 0 0) → element_items l ≡ element_items rest
  item_passed [] h e b = absurd (omega arith)
  item_passed (c ∷ []) h e b = absurd (omega arith)
  item_passed (c ∷ o ∷ []) h e b = ap element_items e ∙ items_cons c o rest false (sym b)
  item_passed (c ∷ o ∷ d ∷ x) h e b = absurd (omega arith)
