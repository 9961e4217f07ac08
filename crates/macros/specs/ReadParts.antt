-- 01, part 2: reading a macro, part after part: between the parts, and one byte of any part.
-- "Outside quotes each of these is looked for in turn .. other text is ignored, but a `'` or `;` out of turn is 12."
use Rattle.std.specs.Prelude.{ℕ, Bool, true, false, ◌||◌, List, [], ◌∷◌}
use Rattle.std.proofs.Math.Option.{Option, none, some}
use Rattle.macros.specs.Quoted.{◌is◌}
use Rattle.macros.specs.Bounds.{most_entry_bytes}
use Rattle.macros.specs.Refusals.FileRefusal.{incomplete}
use Rattle.macros.specs.Macro.{Mark, Piece, Call, Action, pick, ascii_lower}
use Rattle.macros.specs.Macro.Mark.{stack, counter}
use Rattle.macros.specs.Macro.PatternUnit.{literal, call_of}
use Rattle.macros.specs.Macro.Action.{text}
use Rattle.macros.specs.Macro.Symbol.{equal, less}
use Rattle.macros.specs.ReadSoFar.{Front, Part, Step, escaped}
use Rattle.macros.specs.ReadSoFar.Joinable.{unit}
use Rattle.macros.specs.ReadSoFar.CallSite.{calls_so_far, commands_so_far}
use Rattle.macros.specs.ReadSoFar.Phase.{begun}
use Rattle.macros.specs.ReadSoFar.Part.{pattern, pattern_escape, opened, members, members_escape, pattern_call, pattern_called}
use Rattle.macros.specs.ReadSoFar.Part.{calls, await_symbol, await_quote}
use Rattle.macros.specs.ReadSoFar.Part.{replacement, replacement_escape, tag_number, calling, call_text, call_text_escape, commands}
use Rattle.macros.specs.ReadSoFar.Step.{on, opens, done, stop}
use Rattle.macros.specs.ReadCalls.{otherwise, call_byte, site_of, turned, text_byte_by}
use Rattle.macros.specs.ReadReplacement.{tag_byte, replacement_byte}
use Rattle.macros.specs.ReadClass.{new_member, members_byte, opened_byte}
use Rattle.macros.specs.ReadPattern.{pattern_byte}

-- 02, N2: behind a call before a pattern a quote opens that, `&` or `#` may begin another call, "`;` .. is 12", other text is ignored
unfoldable pub calls_fresh : List Call → ℕ → Step
calls_fresh cs b =
    pick (b is "'") (opens cs)
    (pick (b is ";") (stop incomplete)
    (pick (b is "&") (on (calls (some stack) cs)) (pick (b is "#") (on (calls (some counter) cs)) (on (calls none cs)))))

-- "`&(` or `#(` before a pattern begins a command"
unfoldable pub calls_byte : Option Mark → List Call → ℕ → Step
calls_byte none cs b = calls_fresh cs b
calls_byte (some m) cs b = pick (b is "(") (on (calling (calls_so_far cs) (begun m))) (calls_fresh cs b)

-- before the symbol
unfoldable pub symbol_byte : List Piece → ℕ → Step
symbol_byte ps b =
    pick (b is "=") (on (await_quote (record { pieces = ps; symbol = equal })))
    (pick (b is "<") (on (await_quote (record { pieces = ps; symbol = less })))
    (pick (b is "'" || b is ";") (stop incomplete) (on (await_symbol ps))))

-- before the replacement
unfoldable pub quote_byte : Front → ℕ → Step
quote_byte f b = pick (b is "'") (on (replacement none f [])) (pick (b is ";") (stop incomplete) (on (await_quote f)))

-- among the commands: `;` ends the macro, `&` or `#` may begin a call
unfoldable pub commands_fresh : Front → List Action → List Call → ℕ → Step
commands_fresh f as₁ cs b =
    pick (b is ";") (done f as₁ cs)
    (pick (b is "'") (stop incomplete)
    (pick (b is "&") (on (commands (some stack) f as₁ cs))
    (pick (b is "#") (on (commands (some counter) f as₁ cs)) (on (commands none f as₁ cs)))))

-- "a command by its `&(` or `#(`"
unfoldable pub commands_byte : Option Mark → Front → List Action → List Call → ℕ → Step
commands_byte none f as₁ cs b = commands_fresh f as₁ cs b
commands_byte (some m) f as₁ cs b = pick (b is "(") (on (calling (commands_so_far f as₁ cs) (begun m))) (commands_fresh f as₁ cs b)

-- one byte of a macro's open part, with texts of at most `longest` bytes
unfoldable pub part_byte_by : (longest : ℕ) → Part → ℕ → Step
part_byte_by longest (calls a cs) b = calls_byte a cs b
part_byte_by longest (pattern h ps) b = pattern_byte h ps b
part_byte_by longest (pattern_escape ps) b = on (pattern (unit (literal (escaped b))) ps)
part_byte_by longest (opened ps) b = opened_byte ps b
part_byte_by longest (members ps neg l ms) b = members_byte ps neg l ms b
part_byte_by longest (members_escape ps neg l ms) b = new_member ps neg l ms (escaped b)
part_byte_by longest (pattern_call m ps) b = pick (ascii_lower b) (on (pattern_called m ps b)) (otherwise (pattern_call m ps) b)
part_byte_by longest (pattern_called m ps i) b = pick (b is ")") (on (pattern (unit (call_of m i)) ps)) (otherwise (pattern_called m ps i) b)
part_byte_by longest (await_symbol ps) b = symbol_byte ps b
part_byte_by longest (await_quote f) b = quote_byte f b
part_byte_by longest (replacement a f as₁) b = replacement_byte a f as₁ b
part_byte_by longest (replacement_escape f as₁) b = on (replacement none f (text (escaped b) ∷ as₁))
part_byte_by longest (tag_number n f as₁) b = tag_byte n f as₁ b
part_byte_by longest (calling pl ph) b = turned pl ph b (call_byte (site_of pl) ph b)
part_byte_by longest (call_text pl i v t) b = text_byte_by longest pl i v t b
part_byte_by longest (call_text_escape pl i v t) b = on (call_text pl i v (escaped b ∷ t))
part_byte_by longest (commands a f as₁ cs) b = commands_byte a f as₁ cs b

-- with texts of at most 100 bytes
abbrev pub part_byte : Part → ℕ → Step
part_byte = part_byte_by most_entry_bytes

-- "`/` skips to the next `/`, everywhere but in a class"; behind `\` it is literal
unfoldable pub skips : Part → Bool
skips (calls a cs) = true
skips (pattern h ps) = true
skips (pattern_escape ps) = false
skips (opened ps) = false
skips (members ps neg l ms) = false
skips (members_escape ps neg l ms) = false
skips (pattern_call m ps) = true
skips (pattern_called m ps i) = true
skips (await_symbol ps) = true
skips (await_quote f) = true
skips (replacement a f as₁) = true
skips (replacement_escape f as₁) = false
skips (tag_number n f as₁) = true
skips (calling pl ph) = true
skips (call_text pl i v t) = true
skips (call_text_escape pl i v t) = false
skips (commands a f as₁ cs) = true
