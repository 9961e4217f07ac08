-- The elements of a slot's pattern, by its items.
use Rattle.std.specs.Prelude.{ℕ, suc, Bool, true, false, List, [], ◌∷◌}
use Rattle.macros.specs.Macro.{within}
use Rattle.form_table.specs.Check.{two_at, items_at}

-- whether an item begins an element: 3 is `^`, 4 `$`, 8 to 31 a unit with its closure; 1 and 2 are braces, 32 to 35 parts of a class
unfoldable pub begins_element : (code : ℕ) → Bool
begins_element c = within 3 31 c

-- the items of two bytes that do
unfoldable pub element_items : List ℕ → ℕ
element_items [] = 0
element_items (c ∷ []) = 0
element_items (c ∷ o ∷ l) = elim (begins_element c) [ true ↦ suc (element_items l) | false ↦ element_items l ]

-- those of a slot's pattern: the lengths of the calls before it and of itself stand in bytes 2 to 5
unfoldable pub slot_elements : (slot : List ℕ) → ℕ
slot_elements s = element_items (items_at s (two_at s 2) (two_at s 4))
