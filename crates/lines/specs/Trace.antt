-- 02, N1: the trace of a line, read off its history; and 36, which cuts the history where the trace no longer fits.
use Rattle.std.specs.Prelude.{ℕ, zero, suc, ◌-◌, Bool, true, false, List, [], ◌∷◌, ◌++◌, leb, length}
use Rattle.std.proofs.Math.Option.{Option, none, some}
use Prim.Native.String.{String}
use Rattle.macros.specs.Bounds.{most_trace_bytes}
use Rattle.macros.specs.Refusals.WorkRefusal.{trace_too_long}
use Rattle.macros.specs.Macro.{Table}
use Rattle.macros.specs.Write.{digits}
use Rattle.macros.specs.Quoted.{bytes}
use Rattle.lines.specs.State.{State}
use Rattle.lines.specs.Replacing.{Done}
use Rattle.lines.specs.Replacing.Done.{bad, good}
use Rattle.lines.specs.Pass.{occurred, outcome}
use Rattle.lines.specs.Line.{Sent, Pass, Line, text_of, line_of}
use Rattle.lines.specs.Line.Line.{ended, passed}
use Rattle.lines.specs.Line.Ending.{refused}

-- THE THREE LINES OF A PASS

-- "Text or number follows the colon directly; a line feed ends each."
unfoldable pub trace_line : String → List ℕ → List ℕ
trace_line word t = bytes word ++ (t ++ (10 ∷ []))

-- "`oldline:` with the text before, `macro #:` with the macro's number, oldest 1, and `newline:` with the text after"
unfoldable pub three_lines : (before : List ℕ) → (number : ℕ) → (after : List ℕ) → List ℕ
three_lines before n after = trace_line "oldline:" before ++ (trace_line "macro #:" (digits n) ++ trace_line "newline:" after)

-- "each pass with an occurrence gives three lines"; a refused pass has no text after it, and its line no trace. Numbered counts from 0
unfoldable pub lines_if : Bool → Pass → Done → List ℕ
lines_if true x (good w) = three_lines x.text (suc x.which.number) (text_of w)
lines_if true x (bad r w) = []
lines_if false x d = []

-- the lines of a pass
unfoldable pub lines_of : Pass → List ℕ
lines_of x = lines_if (occurred x.events) x (outcome x.events)

-- THE TRACE: "every such pass of the line, in order, and no other"
unfoldable pub trace_of : List Pass → List ℕ
trace_of [] = []
trace_of (x ∷ xs) = lines_of x ++ trace_of xs

-- 36, "the three lines of a pass do not fit, .. shows at that pass's end; the line is then refused whole": room is left for n bytes
unfoldable pub cut_at : ℕ → Line → Line
cut_at n (ended e) = ended e
cut_at n (passed x l) =
    passed x (elim (leb (length (lines_of x)) n) [ true ↦ cut_at (n - length (lines_of x)) l | false ↦ ended (refused trace_too_long) ])

-- "With TRACE 0 when the line comes" there is no trace
unfoldable pub is_on : ℕ → Bool
is_on zero = false
is_on (suc n) = true

-- the history, cut if there is a trace
unfoldable pub cut_if : Bool → ℕ → Line → Line
cut_if true n l = cut_at n l
cut_if false n l = l

-- A LINE'S HISTORY, from its start
unfoldable pub history_of : Table → State → Sent → Line
history_of ms st sent = cut_if (is_on st.trace) most_trace_bytes (line_of ms st sent)

-- the trace that the passes of a line write, by the flag
unfoldable pub trace_if : Bool → List Pass → Option (List ℕ)
trace_if true xs = some (trace_of xs)
trace_if false xs = none
