-- 01, part 2: reading a replacement.
use Rattle.std.specs.Prelude.{ℕ, ◌||◌, List, [], ◌∷◌}
use Rattle.std.proofs.Math.Option.{Option, none, some}
use Rattle.macros.specs.Quoted.{◌is◌}
use Rattle.macros.specs.Refusals.FileRefusal.{incomplete, bad_call}
use Rattle.macros.specs.Macro.{Mark, Action, pick, within, digit, mark_byte, tags}
use Rattle.macros.specs.Macro.Mark.{stack, counter}
use Rattle.macros.specs.Macro.Action.{text, tag}
use Rattle.macros.specs.ReadSoFar.{Front, Step, breaks}
use Rattle.macros.specs.ReadSoFar.CallSite.{replacement_so_far}
use Rattle.macros.specs.ReadSoFar.Phase.{begun}
use Rattle.macros.specs.ReadSoFar.Part.{replacement, replacement_escape, tag_number, calling, commands}
use Rattle.macros.specs.ReadSoFar.Step.{on, stop}
use Rattle.macros.specs.ReadCalls.{and_digit}

-- the `}` of `{n}`: 16 if there is no number, or no such tag
unfoldable pub tag_end : Option ℕ → Front → List Action → Step
tag_end none f as₁ = stop bad_call
tag_end (some n) f as₁ = pick (within 1 (tags f.pieces) n) (on (replacement none f (tag n ∷ as₁))) (stop bad_call)

-- a byte of `{n}`: a digit or `}`; 12 at a `;` or line feed, since the replacement is open, else 16
unfoldable pub tag_byte : Option ℕ → Front → List Action → ℕ → Step
tag_byte n f as₁ b =
    pick (digit b) (on (tag_number (some (and_digit n b)) f as₁))
    (pick (b is "}") (tag_end n f as₁) (pick (b is ";" || b is "\n") (stop incomplete) (stop bad_call)))

-- "`{n}`, calls, and every other byte a literal (`}` too; `{` always opens `{n}`)"
unfoldable pub replacement_fresh : Front → List Action → ℕ → Step
replacement_fresh f as₁ b =
    pick (b is "'") (on (commands none f as₁ []))
    (pick (breaks b) (stop incomplete)
    (pick (b is "\\") (on (replacement_escape f as₁))
    (pick (b is "{") (on (tag_number none f as₁))
    (pick (b is "&") (on (replacement (some stack) f as₁))
    (pick (b is "#") (on (replacement (some counter) f as₁))
    (on (replacement none f (text b ∷ as₁))))))))

-- a `(` behind `&` or `#` begins a call
unfoldable pub replacement_byte : Option Mark → Front → List Action → ℕ → Step
replacement_byte none f as₁ b = replacement_fresh f as₁ b
replacement_byte (some m) f as₁ b =
    pick (b is "(") (on (calling (replacement_so_far f as₁) (begun m))) (replacement_fresh f (text (mark_byte m) ∷ as₁) b)
