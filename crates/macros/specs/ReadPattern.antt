-- 01, part 2: reading a pattern.
use Rattle.std.specs.Prelude.{ℕ, ◌-◌, Bool, List, ◌∷◌, ltb, eqb}
use Prim.Native.Char.{code}
use Rattle.macros.specs.Quoted.{bytes, ◌is◌}
use Rattle.macros.specs.Bounds.{most_tags}
use Rattle.macros.specs.Refusals.FileRefusal.{incomplete, no_unit, bad_brace, no_element}
use Rattle.macros.specs.Macro.{PatternUnit, Piece, pick, among, within, mark_byte, tags, elements, depth}
use Rattle.macros.specs.Macro.Closure.{once, one_or_more, zero_or_more}
use Rattle.macros.specs.Macro.Mark.{stack, counter}
use Rattle.macros.specs.Macro.PatternUnit.{literal, kind}
use Rattle.macros.specs.Macro.Piece.{element, start, end, left, right}
use Rattle.macros.specs.ReadSoFar.{Joinable, Step, breaks}
use Rattle.macros.specs.ReadSoFar.Joinable.{nothing, unit, starred, query, marked}
use Rattle.macros.specs.ReadSoFar.Part.{pattern, pattern_escape, opened, pattern_call, await_symbol}
use Rattle.macros.specs.ReadSoFar.Step.{on, stop}

-- the bytes that, like `/`, are never literals without `\`
unfoldable pub signs : List ℕ
signs = bytes "';\n*\\[^${}"

-- "`?` with 1 to 6"
unfoldable pub kind_digit : ℕ → Bool
kind_digit = within (code "1") (code "6")

-- a literal, as far as it is known; `?`, `&` and `#` may turn out otherwise
unfoldable pub hold : ℕ → Joinable
hold b = pick (b is "?") query (pick (b is "&") (marked stack) (pick (b is "#") (marked counter) (unit (literal b))))

-- the closing quote: 15 where a brace is open, 17 where there is no element
unfoldable pub pattern_end : List Piece → Step
pattern_end ps = pick (eqb (depth ps) 0) (pick (ltb 0 (elements ps)) (on (await_symbol ps)) (stop no_element)) (stop bad_brace)

-- one of the signs, the last of them `}`: 12, 14, 15 and 17 show here
unfoldable pub sign : List Piece → ℕ → Step
sign ps b =
    pick (b is "'") (pattern_end ps)
    (pick (breaks b) (stop incomplete)
    (pick (b is "*") (stop no_unit)
    (pick (b is "\\") (on (pattern_escape ps))
    (pick (b is "[") (on (opened ps))
    (pick (b is "^") (on (pattern nothing (start ∷ ps)))
    (pick (b is "$") (on (pattern nothing (end ∷ ps)))
    (pick (b is "{") (pick (ltb (tags ps) most_tags) (on (pattern nothing (left ∷ ps))) (stop bad_brace))
    (pick (ltb 0 (depth ps)) (on (pattern nothing (right ∷ ps))) (stop bad_brace)))))))))

-- a byte that joins nothing
unfoldable pub fresh : List Piece → ℕ → Step
fresh ps b = pick (among signs b) (sign ps b) (on (pattern (hold b) ps))

-- a byte behind a unit: `*` is a closure of it
unfoldable pub closes : PatternUnit → List Piece → ℕ → Step
closes u ps b = pick (b is "*") (on (pattern (starred u) ps)) (fresh (element u once ∷ ps) b)

-- a byte of a pattern, by what it may join
unfoldable pub pattern_byte : Joinable → List Piece → ℕ → Step
pattern_byte nothing ps b = fresh ps b
pattern_byte (unit u) ps b = closes u ps b
pattern_byte (starred u) ps b = pick (b is "-") (on (pattern nothing (element u zero_or_more ∷ ps))) (fresh (element u one_or_more ∷ ps) b)
pattern_byte query ps b = pick (kind_digit b) (on (pattern (unit (kind (b - code "0"))) ps)) (closes (literal (code "?")) ps b)
pattern_byte (marked m) ps b = pick (b is "(") (on (pattern_call m ps)) (closes (literal (mark_byte m)) ps b)
