-- What the items of a pattern are written out as, item by item.
use Rattle.std.specs.Prelude.{ℕ, ◌+◌, ◌%◌, List, [], ◌∷◌, ◌++◌, ltb, eqb}
use Rattle.macros.specs.Macro.{pick, among}
use Rattle.macros.specs.Write.{pattern_marks, class_marks, byte}

-- `*` or `*-`, by an element's code
unfoldable pub closure_text : ℕ → List ℕ
closure_text c = pick (eqb (c % 4) 1) (42 ∷ []) (pick (eqb (c % 4) 2) (42 ∷ 45 ∷ []) [])

-- a literal, `?n` or a call; a kind has one digit
unfoldable pub unit_text : ℕ → ℕ → List ℕ
unit_text c b =
    pick (ltb c 12) (byte (among pattern_marks b) b)
    (pick (ltb c 16) (63 ∷ (48 + b % 10) ∷ [])
    (pick (ltb c 20) (38 ∷ 40 ∷ b ∷ 41 ∷ []) (35 ∷ 40 ∷ b ∷ 41 ∷ [])))

-- `{`, `}`, `^` or `$`
unfoldable pub brace_byte : ℕ → ℕ
brace_byte c = pick (eqb c 1) 123 (pick (eqb c 2) 125 (pick (eqb c 3) 94 36))

-- a member, one end of a range, or the class's end
unfoldable pub member_text : ℕ → ℕ → List ℕ
member_text c b =
    pick (eqb c 32) (byte (among class_marks b) b)
    (pick (eqb c 33) (b ∷ 45 ∷ [])
    (pick (eqb c 34) (b ∷ []) (93 ∷ [])))

-- an item without its closure
unfoldable pub head_text : ℕ → ℕ → List ℕ
head_text c b =
    pick (ltb c 8) (brace_byte c ∷ [])
    (pick (ltb c 24) (unit_text c b)
    (pick (ltb c 28) (91 ∷ [])
    (pick (ltb c 32) (91 ∷ 126 ∷ []) (member_text c b))))

-- the closure of an item; the class's end has the one that the class's code asks for
unfoldable pub tail_text : ℕ → ℕ → List ℕ
tail_text held c = pick (ltb c 8) [] (pick (ltb c 24) (closure_text c) (pick (ltb c 35) [] (closure_text held)))

-- an item, behind an element with the code held
unfoldable pub item_text : ℕ → ℕ → ℕ → List ℕ
item_text held c b = head_text c b ++ tail_text held c

-- the items of a pattern
unfoldable pub pattern_text : ℕ → List ℕ → List ℕ
pattern_text held [] = []
pattern_text held (c ∷ []) = []
pattern_text held (c ∷ b ∷ l) = item_text held c b ++ pattern_text (pick (ltb c 32) c held) l
