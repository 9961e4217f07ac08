-- 02, N1, computed: what a line under TRACE 1 is answered, and the trace that it writes. In a string `\n` is a line feed.
use Rattle.std.specs.Prelude.{◌≡◌, refl, ℕ, List, [], ◌∷◌}
use Rattle.std.proofs.Math.Option.{Option, none, some}
use Prim.Native.String.{String}
use Rattle.macros.specs.Read.{Read, read_file}
use Rattle.macros.specs.ReadFile.Read.{refused_at, table}
use Rattle.lines.specs.State.{fresh}
use Rattle.lines.specs.Line.{Sent}
use Rattle.lines.specs.Feeding.{Answer, bytes, feeds}
use Rattle.lines.specs.Cases.{everything, Shown, shown, says, withheld, control, refused}

-- an answer, and the trace that it writes
abbrev pub Traced : Type 0
Traced = Shown × Option (List ℕ)

-- what is shown of each answer, with its trace
abbrev pub traced : List Answer → List Traced
traced [] = []
traced (a ∷ as₁) = (shown a, a.trace_text) ∷ traced as₁

-- the answers to lines fed to the table of a file, with their traces
abbrev pub traced_by : List Sent → Read → List Traced
traced_by xs (refused_at r p) = []
traced_by xs (table ms) = traced (feeds ms fresh xs)

-- a line and its budget
abbrev pub within : ℕ → List ℕ → Sent
within n t = record { line = t; budget = n }

abbrev quoted : List String → List Sent
quoted [] = []
quoted (s ∷ ss) = within 10000 (bytes s) ∷ quoted ss

-- quoted lines behind `$TRACE 1`, each with the budget 10,000
abbrev pub traces : String → List String → List Traced
traces f ss = traced_by (quoted ("$TRACE 1" ∷ ss)) (read_file (bytes f))

-- one line behind `$TRACE 1`, by its bytes and its budget
abbrev pub traces_one : String → ℕ → List ℕ → List Traced
traces_one f n t = traced_by (within 0 (bytes "$TRACE 1") ∷ within n t ∷ []) (read_file (bytes f))

-- the answer to `$TRACE 1` itself: the flag is 0 when it comes, and nothing is written
abbrev pub first : Traced
first = (control 0, none)

-- each pass with an occurrence, in order
pub two_passes : traces "'a'='b';'c'<'d';" ("ac" ∷ "x" ∷ []) ≡ first
    ∷ (says "bd" 3, some (bytes "oldline:ac\nmacro #:2\nnewline:ad\noldline:ad\nmacro #:1\nnewline:bd\n"))
    ∷ (says "x" 2, some []) ∷ []
unfolding everything
two_passes = refl

-- the first macro is closed to the line when the second occurs, and still counts
pub closed_counts : traces "'c'<'a';'a'='b';" ("c" ∷ []) ≡ first
    ∷ (says "b" 4, some (bytes "oldline:c\nmacro #:1\nnewline:a\noldline:a\nmacro #:2\nnewline:b\n")) ∷ []
unfolding everything
closed_counts = refl

-- a number of two digits; a text that is empty after the pass, and one before it
pub tenth_macro : traces "'b'<'';'^$'<'x';'c'='c';'d'='d';'e'='e';'f'='f';'g'='g';'h'='h';'i'='i';'a'<'y';" ("b" ∷ "a" ∷ []) ≡ first
    ∷ (says "x" 27, some (bytes "oldline:b\nmacro #:1\nnewline:\noldline:\nmacro #:2\nnewline:x\n"))
    ∷ (says "y" 10, some (bytes "oldline:a\nmacro #:10\nnewline:y\n")) ∷ []
unfolding everything
tenth_macro = refl

-- an occurrence that leaves the text as it was; a line feed in a text
pub same_text : traces "'a'<'a';'b'<'\\n';" ("a" ∷ "b" ∷ []) ≡ first
    ∷ (says "a" 3, some (bytes "oldline:a\nmacro #:1\nnewline:a\n"))
    ∷ (says "\n" 2, some (bytes "oldline:b\nmacro #:2\nnewline:\n\n")) ∷ []
unfolding everything
same_text = refl

-- 02, N2: the calls before a pattern are no occurrence, and give no lines
pub calls_untraced : traces "#(v=2)'q'<'#(v)';#(w=3)'x'='';" ("z" ∷ "q" ∷ []) ≡ first
    ∷ (says "z" 2, some [])
    ∷ (says "2" 3, some (bytes "oldline:q\nmacro #:1\nnewline:2\n")) ∷ []
unfolding everything
calls_untraced = refl

-- only the flag when the line comes counts; control lines, made by passes too, and withheld lines write
pub the_flag : traces "'o'<'$TRACE 0';" ("o" ∷ "o" ∷ "$NFLAG 1" ∷ "$TRACE 1" ∷ "x" ∷ "$TRACE 0" ∷ "$TRACE 0" ∷ []) ≡ first
    ∷ (control 1, some (bytes "oldline:o\nmacro #:1\nnewline:$TRACE 0\n"))
    ∷ (control 1, none) ∷ (control 0, none) ∷ (control 0, none) ∷ (withheld 1, some []) ∷ (control 0, some []) ∷ (control 0, none) ∷ []
unfolding everything
the_flag = refl

-- a refused line writes nothing
pub refused_line_lem : traces "'q'<'$FOO';" ("q" ∷ "x" ∷ []) ≡ first ∷ (refused 23 0 1, none) ∷ (says "x" 1, some []) ∷ []
unfolding everything
refused_line_lem = refl
