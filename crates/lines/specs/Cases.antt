-- What a computed case of parts 3 to 6 is: a quoted file, and lines with their budgets, each beside its answer and the state after it.
-- The cases are in LineCases and in the crate m_cases.
use Rattle.std.specs.Prelude.{◌≡◌, ℕ, suc, Bool, List, [], ◌∷◌, eqb}
use Prim.Native.String.{String}
use Prim.Native.String as Str
use Prim.Native.Char.{Char}
use Rattle.kinds.specs.Kind.{kind_of}
use Rattle.macros.specs.Macro.{pick}
use Rattle.macros.specs.Read.{Read, read_file}
use Rattle.macros.specs.ReadFile.Read.{refused_at, table}
use Rattle.macros.specs.Refusals.{file_number}
use Rattle.macros.specs.Cases.{everything as macros_open}
use Rattle.lines.specs.State.{Stack, Counter, State, fresh_stack, fresh_counter, fresh, stack_of, counter_of, current_entry, contents}
use Rattle.lines.specs.Matching.{byte_fits, begins, is_member, in_class, fits, width, Copies, Allowed, Satisfies, Divides, end_of, Fewer}
use Rattle.lines.specs.Matching.{closing, tag_text}
use Rattle.lines.specs.Choosing.{then, more, spare, repeated, is_end, chosen}
use Rattle.lines.specs.Dividing.{divided_text}
use Rattle.lines.specs.Replacing.{unless, onto, puts, put, with_stack, with_counter, with_pointer, with_value, with_increment, with_entry}
use Rattle.lines.specs.Replacing.{fallen, moves, early, late, stores, call_acts, acts, replaces, commands_act, before_acts, occur}
use Rattle.lines.specs.Pass.{barred, unless_barred, counting, match, go_on, matched, at_end, onward, at_byte, walk, pass, occurrences}
use Rattle.lines.specs.Pass.{occurred, outcome}
use Rattle.lines.specs.Line.{Sent, is_in, unless_closed, open_from, newest_first, closing as closing_macro, closed_by, is_control, due}
use Rattle.lines.specs.Line.{prepares, pass_behind, pass_of, follow, after_pass, text_of, passes, line_of, passes_of, had_occurrence, ending}
use Rattle.lines.specs.Trace.{trace_line, three_lines, lines_if, lines_of, trace_of, cut_at, is_on, cut_if, history_of, trace_if}
use Rattle.lines.specs.Feeding.{Kind, Answer, bytes, same, with_trace, with_nflag, flag_order, macro_order, order_of, number_of, place_of}
use Rattle.lines.specs.Feeding.{kind_number, output_of, kind_of_done, refusal, tracing, of_order, answered, answer, has_bad_byte, feed, feeds}

-- the name that opens all definitions for a computed case
unfoldable pub everything : ℕ
unfolding macros_open kind_of fresh_stack fresh_counter fresh stack_of counter_of current_entry contents byte_fits begins is_member in_class fits
    width Copies Allowed Satisfies Divides end_of Fewer then more spare repeated is_end chosen closing tag_text divided_text unless onto puts put
    with_stack with_counter with_pointer with_value with_increment with_entry fallen moves early late stores call_acts acts replaces commands_act
    before_acts occur barred unless_barred counting match go_on matched at_end onward at_byte walk pass occurrences occurred outcome is_in
    unless_closed open_from newest_first closing_macro closed_by is_control due prepares pass_behind pass_of follow after_pass text_of passes line_of
    passes_of had_occurrence ending trace_line three_lines lines_if lines_of trace_of cut_at is_on cut_if history_of trace_if same with_trace with_nflag
    flag_order macro_order order_of number_of place_of kind_number output_of kind_of_done refusal tracing of_order answered answer has_bad_byte feed
    feeds
everything = 0

-- WHAT A CASE SHOWS

-- what 01 says of a line: its kind as a number, the refusal's number and place, the passes, and the output
pub record Shown : Type 0 where
  pub kind : ℕ
  pub number : ℕ
  pub place : ℕ
  pub passes : ℕ
  pub text : List ℕ

-- what is shown of an answer
abbrev pub shown : Answer → Shown
shown a =
    let k : Kind = a.kind in
    record { kind = kind_number k; number = number_of k; place = place_of k; passes = a.passes; text = output_of k }

-- a line that goes out
abbrev pub out : List ℕ → (passes : ℕ) → Shown
out t n = record { kind = 1; number = 0; place = 0; passes = n; text = t }

-- one that is withheld
abbrev pub withheld : (passes : ℕ) → Shown
withheld n = record { kind = 2; number = 0; place = 0; passes = n; text = [] }

-- a control line
abbrev pub control : (passes : ℕ) → Shown
control n = record { kind = 3; number = 0; place = 0; passes = n; text = [] }

-- one that is refused
abbrev pub refused : (number place passes : ℕ) → Shown
refused r p n = record { kind = 0; number = r; place = p; passes = n; text = [] }

-- a line that goes out with a quoted text
abbrev pub says : String → ℕ → Shown
says s n = out (bytes s) n

-- a part of a state that is not as in the fresh one: of the stack or the counter of a letter, or a flag
pub data Part : Type 0 where
  pointer value increment : Char → ℕ → Part
  entry : Char → (n : ℕ) → List ℕ → Part
  trace nflag : ℕ → Part

-- the n-th entry of a stack holds a quoted text
abbrev pub holds : Char → ℕ → String → Part
holds c n s = entry c n (bytes s)

-- a part is left out where it is as in the fresh state
abbrev part_unless : Bool → Part → List Part → List Part
part_unless b x xs = pick b xs (x ∷ xs)

abbrev entry_parts : Char → ℕ → List (List ℕ) → List Part → List Part
entry_parts c n [] xs = xs
entry_parts c n (e ∷ es) xs = part_unless (same e []) (entry c n e) (entry_parts c (suc n) es xs)

abbrev stack_parts : String → List Stack → List Part → List Part
stack_parts Str.[] ks xs = xs
stack_parts (Str.◌∷◌ c s) [] xs = xs
stack_parts (Str.◌∷◌ c s) (k ∷ ks) xs =
    part_unless (eqb k.pointer 1) (pointer c k.pointer) (entry_parts c 1 k.entries (stack_parts s ks xs))

abbrev counter_parts : String → List Counter → List Part → List Part
counter_parts Str.[] ks xs = xs
counter_parts (Str.◌∷◌ c s) [] xs = xs
counter_parts (Str.◌∷◌ c s) (k ∷ ks) xs =
    part_unless (eqb k.value 1) (value c k.value)
    (part_unless (eqb k.increment 1) (increment c k.increment) (counter_parts s ks xs))

-- the whole state: stacks from a to z, each with its pointer and its entries, then counters from a to z, then the flags
abbrev pub shown_state : State → List Part
shown_state st =
    stack_parts "abcdefghijklmnopqrstuvwxyz" st.stacks
    (counter_parts "abcdefghijklmnopqrstuvwxyz" st.counters
    (part_unless (eqb st.trace 0) (trace st.trace) (part_unless (eqb st.nflag 0) (nflag st.nflag) [])))

-- A CASE: a line, its budget, its answer, and the state after it
pub record Case : Type 0 where
  pub sent : Sent
  pub answer : Shown
  pub state : List Part

-- a line, by its bytes, and a budget
abbrev sent_with : ℕ → List ℕ → Sent
sent_with n t = record { line = t; budget = n }

-- a quoted line that is fed with the budget 10,000
abbrev pub fed : String → Shown → List Part → Case
fed s a st = record { sent = sent_with 10000 (bytes s); answer = a; state = st }

-- with another budget
abbrev pub fed_within : ℕ → String → Shown → List Part → Case
fed_within n s a st = record { sent = sent_with n (bytes s); answer = a; state = st }

-- a line that is given by its bytes, and its budget
abbrev pub fed_bytes : ℕ → List ℕ → Shown → List Part → Case
fed_bytes n t a st = record { sent = sent_with n t; answer = a; state = st }

abbrev sent_of : List Case → List Sent
sent_of [] = []
sent_of (c ∷ cs) = c.sent ∷ sent_of cs

abbrev told : List Case → List (Shown × List Part)
told [] = []
told (c ∷ cs) = (c.answer, c.state) ∷ told cs

abbrev computed : List Answer → List (Shown × List Part)
computed [] = []
computed (a ∷ as₁) = (shown a, shown_state a.state) ∷ computed as₁

abbrev computed_by : List Case → Read → List (Shown × List Part)
computed_by cs (refused_at r p) = (refused (file_number r) p 0, []) ∷ []
computed_by cs (table ms) = computed (feeds ms fresh (sent_of cs))

-- the file is read; the lines, fed to it in turn from the fresh state, are answered and leave the state as each case says.
-- A file that is refused has one case, which shows its refusal.
abbrev pub Tried : String → List Case → Type 0
Tried f cs = computed_by cs (read_file (bytes f)) ≡ told cs

-- ONE LINE, for the M cases: only its answer is shown, or the file's refusal

-- what is shown of each answer
abbrev pub shown_answers : List Answer → List Shown
shown_answers [] = []
shown_answers (a ∷ as₁) = shown a ∷ shown_answers as₁

-- the answers to lines fed to the table of a file, or the refusal of that file
abbrev pub fed_to : List Sent → Read → List Shown
fed_to xs (refused_at r p) = refused (file_number r) p 0 ∷ []
fed_to xs (table ms) = shown_answers (feeds ms fresh xs)

-- the answer to one line, fed with the budget n to the table of a file
abbrev pub song : String → ℕ → String → List Shown
song f n s = fed_to (sent_with n (bytes s) ∷ []) (read_file (bytes f))
