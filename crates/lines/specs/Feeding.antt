-- 01, part 6 and "Who can cause a refusal": a line that is fed, and a list of lines.
use Rattle.std.specs.Prelude.{ℕ, zero, suc, Bool, true, false, ◌||◌, List, [], ◌∷◌, leb, eqb, length, drop}
use Rattle.std.proofs.Math.Option.{Option, none}
use Rattle.macros.specs.Bounds.{most_line_bytes, most_budget}
use Rattle.macros.specs.Refusals.{Refusal, number, place}
use Rattle.macros.specs.Refusals.Refusal.{of_host, of_line, of_file, of_work}
use Rattle.macros.specs.Refusals.HostRefusal.{budget_too_large}
use Rattle.macros.specs.Refusals.LineRefusal.{line_too_long, bad_byte, bad_control}
use Rattle.macros.specs.Macro.{Table, pick}
pub use Rattle.macros.specs.Quoted.{bytes}
use Rattle.macros.specs.Read.{Read, read_onto_by}
use Rattle.macros.specs.ReadFile.Read.{refused_at, table}
use Rattle.lines.specs.State.{State}
use Rattle.lines.specs.Matching.{begins}
use Rattle.lines.specs.Line.{Sent, Pass, Ending, Line, passes_of, had_occurrence, ending}
use Rattle.lines.specs.Line.Ending.{refused, done, control}
use Rattle.lines.specs.Trace.{is_on, history_of, trace_if}

-- CONTROL LINES

-- what a control line does to table and state, or its refusal
pub data Order : Type 0 where
  wrong : Refusal → Order
  orders : Table → State → Order

-- two texts are the same
unfoldable pub same : List ℕ → List ℕ → Bool
same [] [] = true
same [] (b ∷ bs) = false
same (a ∷ l) [] = false
same (a ∷ l) (b ∷ bs) = elim (eqb a b) [ true ↦ same l bs | false ↦ false ]

-- the state with this flag TRACE
unfoldable pub with_trace : ℕ → State → State
with_trace n st =
    record { stacks = st.stacks; counters = st.counters; trace = n; nflag = st.nflag; entry_bytes = st.entry_bytes }

-- the state with this flag NFLAG
unfoldable pub with_nflag : ℕ → State → State
with_nflag n st =
    record { stacks = st.stacks; counters = st.counters; trace = st.trace; nflag = n; entry_bytes = st.entry_bytes }

-- "`$TRACE 0`, `$TRACE 1`, `$NFLAG 0`, `$NFLAG 1`, exactly so, set a flag"; 23: "another word or value"
unfoldable pub flag_order : Table → State → List ℕ → Order
flag_order ms st t =
    pick (same t (bytes "$TRACE 0")) (orders ms (with_trace 0 st))
    (pick (same t (bytes "$TRACE 1")) (orders ms (with_trace 1 st))
    (pick (same t (bytes "$NFLAG 0")) (orders ms (with_nflag 0 st))
    (pick (same t (bytes "$NFLAG 1")) (orders ms (with_nflag 1 st)) (wrong (of_line bad_control)))))

-- "A fault found in that reading gives its own number; else a count other than one gives 23."
unfoldable pub macro_order : Table → State → Read → Order
macro_order ms st (refused_at r p) = wrong (of_file r p)
macro_order ms st (table ks) = pick (eqb (length ks) (suc (length ms))) (orders ks st) (wrong (of_line bad_control))

-- "`$MACRO` and the bytes after it, read as a macro file of one macro, adds the newest"; its texts may be as long as an entry of the state
unfoldable pub order_of : Table → State → List ℕ → Order
order_of ms st t =
    elim (begins (bytes "$MACRO") t) [
      | true ↦ macro_order ms st (read_onto_by st.entry_bytes ms (drop 6 t))
      | false ↦ flag_order ms st t
    ]

-- ANSWERS

-- a line is refused, goes out with its text, is withheld, or was a control line
pub data Kind : Type 0 where
  refused_with : Refusal → Kind
  out : List ℕ → Kind
  withheld controlled : Kind

-- a line's answer, with the table and the state after it; and the trace that it writes, if it writes one (02, N1)
pub record Answer : Type 0 where
  pub kind : Kind
  pub passes : ℕ
  pub table : Table
  pub state : State
  pub trace_text : Option (List ℕ)

-- 01's number, 0 if the line is taken
unfoldable pub number_of : Kind → ℕ
number_of (refused_with r) = number r
number_of (out t) = 0
number_of withheld = 0
number_of controlled = 0

-- 01's place, 0 if the line is taken
unfoldable pub place_of : Kind → ℕ
place_of (refused_with r) = place r
place_of (out t) = 0
place_of withheld = 0
place_of controlled = 0

-- "its kind (out, withheld, control)", as 1, 2 and 3, 0 if it is refused
unfoldable pub kind_number : Kind → ℕ
kind_number (refused_with r) = 0
kind_number (out t) = 1
kind_number withheld = 2
kind_number controlled = 3

-- the line that goes out, whose length the answer carries; "a withheld or control line has length 0"; a refused one writes no output
unfoldable pub output_of : Kind → List ℕ
output_of (refused_with r) = []
output_of (out t) = t
output_of withheld = []
output_of controlled = []

-- "withheld if NFLAG is 1 and it had no occurrence; otherwise it goes out"
unfoldable pub kind_of_done : ℕ → Bool → List ℕ → Kind
kind_of_done zero o t = out t
kind_of_done (suc n) true t = out t
kind_of_done (suc n) false t = withheld

-- a refusal after n passes begun leaves table and state, and writes no trace
unfoldable pub refusal : Table → State → ℕ → Refusal → Answer
refusal ms old n r = record { kind = refused_with r; passes = n; table = ms; state = old; trace_text = none }

-- the trace of the passes xs, by the flag "when the line comes" (02, N1)
unfoldable pub tracing : State → List Pass → Option (List ℕ)
tracing old xs = trace_if (is_on old.trace) xs

-- the answer to a control line behind the passes xs
unfoldable pub of_order : Table → State → List Pass → Order → Answer
of_order ms old xs (wrong r) = refusal ms old (length xs) r
of_order ms old xs (orders ks st) = record { kind = controlled; passes = length xs; table = ks; state = st; trace_text = tracing old xs }

-- the answer that a line's history makes: of its passes and its end
unfoldable pub answered : Table → State → List Pass → Ending → Answer
answered ms old xs (refused r) = refusal ms old (length xs) (of_work r)
answered ms old xs (done t st) =
    let k : Kind = kind_of_done st.nflag (had_occurrence xs) t in
    record { kind = k; passes = length xs; table = ms; state = st; trace_text = tracing old xs }
answered ms old xs (control t st) = of_order ms old xs (order_of ms st t)

-- the answer to a line with the history l
unfoldable pub answer : Table → State → Line → Answer
answer ms old l = answered ms old (passes_of l) (ending l)

-- FEEDING

-- 22: "holds byte 0 or line feed"
unfoldable pub has_bad_byte : List ℕ → Bool
has_bad_byte [] = false
has_bad_byte (b ∷ bs) = elim (eqb b 0 || eqb b 10) [ true ↦ true | false ↦ has_bad_byte bs ]

-- a line fed to a table and a state: 4, 21 and 22 before any pass
unfoldable pub feed : Table → State → Sent → Answer
feed ms st sent =
    elim (leb sent.budget most_budget) [
      | false ↦ refusal ms st 0 (of_host budget_too_large)
      | true ↦ elim (leb (length sent.line) most_line_bytes) [
        | false ↦ refusal ms st 0 (of_line line_too_long)
        | true ↦ elim (has_bad_byte sent.line) [
          | true ↦ refusal ms st 0 (of_line bad_byte)
          | false ↦ answer ms st (history_of ms st sent)
        ]
      ]
    ]

-- lines fed in turn, each to the table and state that the last returned or left
unfoldable pub feeds : Table → State → List Sent → List Answer
feeds ms st [] = []
feeds ms st (sent ∷ rest) = let a : Answer = feed ms st sent in a ∷ feeds a.table a.state rest
