-- Demand 3, over every list of lines. It speaks of divisions (Divides, Fewer), never of the chooser, and of no function that makes passes.
-- Quoted is the demand, or the part of 01 that is named. In brackets stand the edits of must-fail/ that a clause rules out.
--
-- The demand says                                        | said here by
-- "a refused line leaves table, state and output"        | ByKind, clause refused_with; why it is refused: Reason
-- "no macro still open to it has a division at any        | Finished, nothing_left; its final text: Finished, final
--    place of its final text"                            |
-- 02, N2: that it is judged for each macro under "the    | Finished, nothing_left, by LastTried
--    state of its last try"                              |
-- 02, N2: when the calls before a pattern run            | PassHolds, begins (PassBegins)
-- "passed over exactly when no place has one"            | PassHolds, passed_over
-- "at the leftmost place still ahead that has one"       | Stands, ahead to leftmost; what is ahead: ahead_after
-- "with the tags of that division"                       | Replaces, acts, by steps_of (Steps); which they are: Stands, tags (Tags)
-- "every other one there has fewer repeats at the first  | Stands, most (Fewer of Matching; FewerMeans of Choice says it in full)
--    closure where they differ"                          |
-- "Each replacement"                                     | Replaces, acts (Steps)
-- "A pass ends only when no place ahead has one"         | Walks, clause ended (good v)
-- "the moment that 01 names for each"                    | the state in Nowhere, Stands and NoneAhead
-- "an empty division where the match .. ended"           | Counts
-- "by which 01's rules make the line's answer"           | LineHolds, History; that they are the only ones: OneLine
-- "its text and the new table and state"                 | Finished; of a control line Controlled (Controls)
-- "the number of passes"                                 | Run, number
-- "fed in turn from a fresh state and any accepted table"| Lines, Demand3; from any state: Resumed
-- 02, N1: what the trace holds; when 36 comes            | ByKind, WritesTrace; History, traces
--
-- Borrowed is what one copy of a unit is (fits, width; contents with digits), what of a state is looked at and how it is changed
-- (stack_of, counter_of; with_pointer, with_value, with_increment, with_entry), how a new line starts (start_in), where a division ends (end_of,
-- stops), a tag's text (tag_text), and reading (read_onto). Cases hold all but the last two; TagsRun holds tag_text, and crates/macros
-- reading.
-- OneLine needs size [size_free], newest [any_macro_next], used_up [any_budget], traces [trace_free] and PassBegins [begins_free].
use Rattle.std.specs.Prelude.{◌≡◌, ℕ, zero, suc, ◌+◌, ◌-◌, ◌≤◌, ◌<◌, Bool, true, false, ◌⊎◌, ◌↔◌, List, [], ◌∷◌, ◌++◌, reverse, eqb, length}
use Rattle.std.proofs.Math.Option.{Option, none, some}
use Rattle.std.proofs.Math.ListN.{get_elem?}
use Rattle.std.proofs.Math.Seq.{slice}
use Rattle.macros.specs.Bounds.{most_line_bytes, most_budget, most_trace_bytes}
use Rattle.macros.specs.Refusals.{WorkRefusal, Refusal}
use Rattle.macros.specs.Refusals.Refusal.{of_host, of_line, of_file, of_work}
use Rattle.macros.specs.Refusals.HostRefusal.{bad_memory, bad_table, bad_state, budget_too_large}
use Rattle.macros.specs.Refusals.LineRefusal.{line_too_long, bad_byte, bad_control}
use Rattle.macros.specs.Refusals.WorkRefusal.{budget_used_up, new_line_too_long, trace_too_long}
use Rattle.macros.specs.Macro.{Symbol, Macro, Table, pick}
use Rattle.macros.specs.Macro.Symbol.{equal, less}
use Rattle.macros.specs.Write.{digits}
use Rattle.macros.specs.Accepted.{Accepted}
use Rattle.lines.specs.State.{State, InRange, fresh}
use Rattle.lines.specs.Matching.{Division, Divides, Fewer, end_of}
use Rattle.lines.specs.Tags.{TagsOf}
use Rattle.lines.specs.Replacing.{Work, start_in}
use Rattle.lines.specs.Replacing.Done.{bad, good}
use Rattle.lines.specs.Pass.{Occurrence, Walk, occurred}
use Rattle.lines.specs.Pass.Walk.{ended, occurs}
use Rattle.lines.specs.Line.{Sent, Pass, Ending, Line}
use Rattle.lines.specs.Line.Ending.{refused, done, control}
use Rattle.lines.specs.Line.{Line.ended as line_ended, Line.passed as passed}
use Rattle.lines.specs.Feeding.{Kind, Answer, bytes, feeds}
use Rattle.lines.specs.Feeding.Kind.{refused_with, out, withheld, controlled}
use Rattle.lines.specs.Steps.{new_line, Copied, steps_of, steps_before, Acts, Breaks}
use Rattle.lines.specs.Controls.{Ordered, Misordered}

-- A PASS OF THE MACRO m OVER THE TEXT t

-- no place of the text has a division: "its places run from 0 to its length, both included" (01, contracts)
abbrev pub Nowhere : State → Macro → List ℕ → Type 0
Nowhere st m t = (p : ℕ) → p ≤ length t → (d : Division) → Divides st t m.pattern p d → ⊥

-- "an empty division where the match just made in the same pass ended does not count"; last: where that was, if there was a match
abbrev pub Counts : Option ℕ → ℕ → Division → Type 0
Counts last p d = last ≡ some p → end_of p d ≡ p → ⊥

-- where a pass is: the first place still ahead, and where the match just made in it ended, if there was one
pub record Ahead : Type 0 where
  pub from : ℕ
  pub last : Option ℕ

-- from the place p on, the match just made having ended at q
abbrev pub onward_from : ℕ → Option ℕ → Ahead
onward_from p q = record { from = p; last = q }

-- no place ahead has a division that counts, up to the place `to`, itself not
abbrev pub NoneAhead : Ahead → (to : ℕ) → State → Macro → List ℕ → Type 0
NoneAhead now to st m t = (p : ℕ) → now.from ≤ p → p < to → (d : Division) → Divides st t m.pattern p d → Counts now.last p d → ⊥

-- a match, at the place p with the division d, under the state st of the moment "when its place is tried" (01, contracts)
pub record Stands (m : Macro) (t : List ℕ) (now : Ahead) (p : ℕ) (d : Division) (st : State) : Type 0 where
  -- "stands at the leftmost place still ahead that has one" [not_leftmost, empty_match_counts]: its place is ahead,
  pub ahead : now.from ≤ p
  -- is a place of the text,
  pub inside : p ≤ length t
  -- has the division,
  pub divides : Divides st t m.pattern p d
  -- which counts,
  pub counts : Counts now.last p d
  -- and no place ahead and before it has one that counts
  pub leftmost : NoneAhead now p st m t
  -- "with .. that division against which every other one there has fewer repeats at the first closure where they differ" [fewest_repeats]
  pub most : (x : Division) → Divides st t m.pattern p x → (x ≡ d) ⊎ Fewer x d
  -- "with the tags of that division" [late_tag, inner_brace_ends]: which they are. Every division has them so (TagsRun of Tags), and this
  -- clause chooses none: it binds tag_text, by which the steps of Replaces and Fails take their texts from this division [no_tags]
  pub tags : TagsOf m.pattern t p d

-- "Each replacement": its steps, with the tags of the division, make the moment after (Steps)
pub record Replaces (m : Macro) (t : List ℕ) (now : Ahead) (o : Occurrence) : Type 0 where
  pub stands : Stands m t now o.place o.division o.before.state
  pub acts : Acts (steps_of m t o.division) o.before o.after

-- where an occurrence ends
abbrev pub stop_of : Occurrence → ℕ
stop_of o = end_of o.place o.division

-- the first place ahead after it: a match "goes on at its end", an empty one "after that byte" (01, part 5)
abbrev pub next_place : Occurrence → ℕ
next_place o = pick (eqb (stop_of o) o.place) (suc (stop_of o)) (stop_of o)

-- where the pass is after it
abbrev pub ahead_after : Occurrence → Ahead
ahead_after o = onward_from (next_place o) (some (stop_of o))

-- where the match just made ended, or else the line's start: what lies between there and the next match is copied
abbrev pub behind : Option ℕ → ℕ
behind none = 0
behind (some q) = q

-- WHY A PASS IS REFUSED with r, in the moment v: "at the first such step" (01, refusals), so all before it is as in a pass that is not

-- as where an occurrence comes next (the first clause of Walks below), but a step of it is refused: 32 to 35 (Steps)
pub record Fails (m : Macro) (t : List ℕ) (now : Ahead) (w : Work) (r : WorkRefusal) (v : Work) : Type 0 where
  pub place : ℕ
  pub division : Division
  pub before : Work
  pub copied : Copied (slice (behind now.last) place t) w before
  pub stands : Stands m t now place division before.state
  pub breaks : Breaks (steps_of m t division) before r v

-- a byte without a match is to be copied, and the new line is full: "32 the new line's 1,055th byte"
pub record Full (m : Macro) (t : List ℕ) (now : Ahead) (w : Work) (r : WorkRefusal) (v : Work) : Type 0 where
  pub place : ℕ
  pub reached : behind now.last ≤ place
  pub inside : place < length t
  pub copied : Copied (slice (behind now.last) place t) w v
  pub no_match : NoneAhead now (suc place) v.state m t
  -- [full_at_1054]
  pub full : most_line_bytes ≤ v.size
  pub number : r ≡ new_line_too_long

-- the pass from the moment w on
abbrev pub Walks : Macro → List ℕ → Ahead → Work → Walk → Type 0
-- it comes to an occurrence: what lies between is copied
Walks m t now w (occurs o k) =
    Copied (slice (behind now.last) o.place t) w o.before
    × Replaces m t now o
    × Walks m t (ahead_after o) o.after k
-- "A pass ends only when no place ahead has one", under the state at that end [early_end]
Walks m t now w (ended (good v)) =
    Copied (slice (behind now.last) (length t) t) w v × NoneAhead now (suc (length t)) v.state m t
-- it is refused, for one of the two reasons
Walks m t now w (ended (bad r v)) = Fails m t now w r v ⊎ Full m t now w r v

-- the moment in which the pass ends, after all its occurrences [first_occurrence_ends]
abbrev pub EndsIn : Walk → Work → Type 0
EndsIn (ended d) v = d ≡ good v
EndsIn (occurs o k) v = EndsIn k v

-- the pass is refused with r, in the moment v
abbrev pub FailsIn : Walk → WorkRefusal → Work → Type 0
FailsIn (ended d) r v = d ≡ bad r v
FailsIn (occurs o k) r v = FailsIn k r v

-- THE PASSES OF A LINE, from its text t and its state st on
-- closed: the numbers of the macros closed to it; since: of those that passed since its last occurrence; begun: of those that passed at all

-- i is none of the numbers: "all others are open" (01, part 6) [closed_from_start]
abbrev pub NotIn : ℕ → List ℕ → Type 0
NotIn i [] = Unit {0}
NotIn i (k ∷ ks) = (i ≡ k → ⊥) × NotIn i ks

-- the macro m with the number i is open, and has not passed since
abbrev pub Due : Table → List ℕ → List ℕ → ℕ → Macro → Type 0
Due ms closed since i m = (get_elem? ms i ≡ some m) × NotIn i closed × NotIn i since

-- "a line beginning with `$`" (01, part 6), byte 36
abbrev pub Dollar : List ℕ → Type 0
Dollar [] = ⊥
Dollar (b ∷ bs) = b ≡ 36

-- the pass x tries places, from place 0 on, with nothing of the new line made
abbrev pub Tries : List ℕ → Pass → Type 0
Tries t x = Walks x.which.macro t (onward_from 0 none) (start_in x.tried) x.events

-- how the pass x begins in the state st (02, N2): the calls before its pattern run "when the macro's first pass on the line begins",
-- before it tries place 0
pub data PassBegins (begun : List ℕ) (t : List ℕ) (st : State) (x : Pass) : Type 0 where
  -- its macro's first pass on the line: their steps, in turn, make the state in which it tries place 0 [calls_never, calls_tried_before]
  first : NotIn x.which.number begun → (v : Work) → Acts (steps_before x.which.macro) (start_in st) v → x.tried ≡ v.state
      → Tries t x → PassBegins begun t st x
  -- or else a step of them is refused (Steps), and it tries no place
  stopped : NotIn x.which.number begun → (r : WorkRefusal) (v : Work) → Breaks (steps_before x.which.macro) (start_in st) r v
      → x.tried ≡ v.state → x.events ≡ ended (bad r v) → PassBegins begun t st x
  -- any other pass of its macro: none of them runs [calls_every_pass]
  again : (NotIn x.which.number begun → ⊥) → x.tried ≡ st → Tries t x → PassBegins begun t st x

-- what holds of the pass x, begun with the text t and the state st
pub record PassHolds (ms : Table) (closed since begun : List ℕ) (t : List ℕ) (st : State) (x : Pass) : Type 0 where
  -- it begins with the text and the state that the last pass made
  pub text : x.text ≡ t
  pub state : x.state ≡ st
  -- a control line has "no more passes" (01, part 6) [control_passes]
  pub plain : Dollar t → ⊥
  -- "an open macro", the newest one whose pass is due (01, part 6) [oldest_first, no_restart]
  pub due : Due ms closed since x.which.number x.which.macro
  pub newest : (i : ℕ) (m : Macro) → Due ms closed since i m → i ≤ x.which.number
  -- "In its pass an open macro is passed over exactly when no place has one", under the state "when its pass tries place 0" (01,
  -- contracts); of a pass that is not refused
  pub passed_over : (v : Work) → EndsIn x.events v → (occurred x.events ≡ false) ↔ Nowhere x.tried x.which.macro t
  -- the calls before its pattern run, or do not, and it tries place 0 first
  pub begins : PassBegins begun t st x

-- "A `<` macro that occurred is closed to this line; all others are open." (01, part 6) [less_left_open, equal_closed]
abbrev pub closed_if : (occurred : Bool) → Symbol → ℕ → List ℕ → List ℕ
closed_if true less n closed = n ∷ closed
closed_if true equal n closed = closed
closed_if false y n closed = closed

-- the closed ones after a pass
abbrev pub closed_after : Pass → List ℕ → List ℕ
closed_after x closed = closed_if (occurred x.events) x.which.macro.symbol x.which.number closed

-- "after a pass with an occurrence, again with the newest" (01, part 6)
abbrev pub since_after : Pass → List ℕ → List ℕ
since_after x since = pick (occurred x.events) [] (x.which.number ∷ since)

-- the passes, and then the line's end, from the text t and the state st on
abbrev pub Passes : Table → (closed since begun : List ℕ) → List ℕ → State → Line → Type 0
-- a pass, and then the line from the text and the state that it makes; or else the pass is refused, with 32 to 35, and the line with it;
-- or 36 "shows at that pass's end" (02, N1): whether it does, says traces of History
Passes ms closed since begun t st (passed x l) =
    PassHolds ms closed since begun t st x
    × (((v : Work) × EndsIn x.events v
    × Passes ms (closed_after x closed) (since_after x since) (x.which.number ∷ begun) (new_line v) v.state l)
    ⊎ ((r : WorkRefusal) × (v : Work) × FailsIn x.events r v × (l ≡ line_ended (refused r)))
    ⊎ ((v : Work) × EndsIn x.events v × (l ≡ line_ended (refused trace_too_long))))
-- "The line is done when every open macro has passed without one since the line's last occurrence" (01, part 6)
Passes ms closed since begun t st (line_ended (done s x)) =
    (s ≡ t) × (x ≡ st) × (Dollar t → ⊥) × ((i : ℕ) (m : Macro) → Due ms closed since i m → ⊥)
-- "a line beginning with `$` is a control line: no more passes" (01, part 6)
Passes ms closed since begun t st (line_ended (control s x)) = (s ≡ t) × (x ≡ st) × Dollar t
-- "31 another pass is due" (01, refusals) [done_is_31]: no control line, and some macro is due; that the budget is used up says History
Passes ms closed since begun t st (line_ended (refused r)) =
    (r ≡ budget_used_up) × (Dollar t → ⊥) × ((i : ℕ) × (m : Macro) × Due ms closed since i m)

-- ONE LINE that is sent, fed to the table ms and the state st; its history l, and its answer a

-- the numbers of the macros that are closed to it at its end
abbrev pub closed_in : List ℕ → Line → List ℕ
closed_in closed (line_ended e) = closed
closed_in closed (passed x l) = closed_in (closed_after x closed) l

-- no pass of it is one of the macro i
abbrev pub NoPass : ℕ → Line → Type 0
NoPass i (line_ended e) = Unit {0}
NoPass i (passed x l) = (x.which.number ≡ i → ⊥) × NoPass i l

-- the last pass of the macro i, its "last try" (02, N2), tried place 0 in the state y
abbrev pub LastTried : ℕ → State → Line → Type 0
LastTried i y (line_ended e) = ⊥
LastTried i y (passed x l) = ((x.which.number ≡ i) × (x.tried ≡ y) × NoPass i l) ⊎ LastTried i y l

-- the number of its passes, those without an occurrence included: "Each pass costs one of the budget." (01, part 6)
abbrev pub pass_count : Line → ℕ
pass_count (line_ended e) = 0
pass_count (passed x l) = suc (pass_count l)

-- its end, behind all its passes: "done", "a control line" (01, part 6), or refused
abbrev pub end_of_line : Line → Ending
end_of_line (line_ended e) = e
end_of_line (passed x l) = end_of_line l

-- no pass of it had an occurrence
abbrev pub NoOccurrence : Line → Type 0
NoOccurrence (line_ended e) = Unit {0}
NoOccurrence (passed x l) = (occurred x.events ≡ false) × NoOccurrence l

-- it is to be "withheld if NFLAG is 1 and it had no occurrence" (01, part 6); NFLAG is 0 or 1 by InRange of State
abbrev pub Withholds : State → Line → Type 0
Withholds st l = (st.nflag ≡ 0 → ⊥) × NoOccurrence l

-- "holds byte 0 or line feed" (01, refusals) [tab_refused]
abbrev pub HasBadByte : List ℕ → Type 0
HasBadByte [] = ⊥
HasBadByte (b ∷ bs) = (b ≡ 0) ⊎ (b ≡ 10) ⊎ HasBadByte bs

-- nothing refuses the line before its passes: not 4, 21 or 22 (01, refusals) [line_too_long]
pub record Fits (sent : Sent) : Type 0 where
  pub few : sent.budget ≤ most_budget
  pub short : length sent.line ≤ most_line_bytes
  pub clean : HasBadByte sent.line → ⊥

-- THE TRACE OF A LINE (02, N1)

-- the lines that the pass x writes
pub record Tells (x : Pass) (s : List ℕ) : Type 0 where
  -- "each pass with an occurrence gives three lines", the text before it, "the macro's number, oldest 1", and the text after it
  pub three :
      (v : Work) → occurred x.events ≡ true → EndsIn x.events v
      → s
      ≡ bytes "oldline:" ++ x.text ++ bytes "\nmacro #:" ++ digits (suc x.which.number) ++ bytes "\nnewline:" ++ new_line v ++ bytes "\n"
  -- "and no other"
  pub without : occurred x.events ≡ false → s ≡ []
  -- a pass that is refused has no text after it, and its line no trace
  pub refused : (r : WorkRefusal) (v : Work) → FailsIn x.events r v → s ≡ []

-- the lines of each pass fit, room bytes being left for them; or "the three lines of a pass do not fit", and the line ends with 36
abbrev pub TraceFits : (room : ℕ) → Line → Type 0
TraceFits room (line_ended e) = e ≡ refused trace_too_long → ⊥
TraceFits room (passed x l) =
    (s : List ℕ) × Tells x s
    × (((length s ≤ room) × TraceFits (room - length s) l) ⊎ ((room < length s) × (l ≡ line_ended (refused trace_too_long))))

-- by the flag TRACE "when the line comes": without a trace 36 does not come
abbrev pub FitsIf : (flag room : ℕ) → Line → Type 0
FitsIf zero room l = end_of_line l ≡ refused trace_too_long → ⊥
FitsIf (suc n) room l = TraceFits room l

-- the line's trace: "every such pass of the line, in order, and no other"
abbrev pub TraceIs : Line → List ℕ → Type 0
TraceIs (line_ended e) t = t ≡ []
TraceIs (passed x l) t = (s : List ℕ) × (rest : List ℕ) × Tells x s × TraceIs l rest × (t ≡ s ++ rest)

-- what a line that is taken writes: its trace, or nothing "With TRACE 0 when the line comes" [trace_flag_at_end]
abbrev pub WritesTrace : (flag : ℕ) → Line → Option (List ℕ) → Type 0
WritesTrace zero l text = text ≡ none
WritesTrace (suc n) l text = (t : List ℕ) × TraceIs l t × (text ≡ some t)

-- the history of a line that nothing refuses before its passes
pub record History (ms : Table) (st : State) (sent : Sent) (l : Line) : Type 0 where
  pub fits : Fits sent
  pub passes : Passes ms [] [] [] sent.line st l
  -- "Each pass costs one of the budget" (01, part 6), and 31 says that it is used up [budget_off_by_one, budget_one_short]
  pub within : pass_count l ≤ sent.budget
  pub used_up : end_of_line l ≡ refused budget_used_up → pass_count l ≡ sent.budget
  -- 36 comes at the first pass whose lines do not fit behind those before, and only there (02, N1) [trace_one_more]
  pub traces : FitsIf st.trace most_trace_bytes l

-- its history, and "the answer carries the number of passes", also where it is refused [passes_not_counted, refused_passes_0]
pub record Run (ms : Table) (st : State) (sent : Sent) (l : Line) (a : Answer) : Type 0 where
  pub history : History ms st sent l
  pub number : a.passes ≡ pass_count l

-- one that goes out or is withheld, s its final text
pub record Finished (ms : Table) (l : Line) (a : Answer) (s : List ℕ) : Type 0 where
  -- its passes end with that text and with the new state [taken_line_loses_state]
  pub final : end_of_line l ≡ done s a.state
  -- it is withheld by that rule; "otherwise it goes out" (01, part 6), with that text
  pub kind : (Withholds a.state l × (a.kind ≡ withheld)) ⊎ ((Withholds a.state l → ⊥) × (a.kind ≡ out s))
  -- the table stays
  pub table : a.table ≡ ms
  -- "no macro still open to it has a division at any place of its final text" [no_restart, early_end]; 02, N2: "the promise that no open
  -- macro still fits is judged for each macro under the state of its last try", which it has
  pub nothing_left :
      (i : ℕ) (m : Macro) → get_elem? ms i ≡ some m → NotIn i (closed_in [] l) → (y : State) × LastTried i y l × Nowhere y m s

-- a control line: its final text s, given in its last state x, makes the new table and state (Controls)
pub record Controlled (ms : Table) (l : Line) (a : Answer) (s : List ℕ) (x : State) : Type 0 where
  pub final : end_of_line l ≡ control s x
  pub ordered : Ordered ms x s a.table a.state

-- a control line that is refused with r: its final text gives that refusal (Controls)
pub record Miscontrolled (ms : Table) (l : Line) (r : Refusal) (s : List ℕ) (x : State) : Type 0 where
  pub final : end_of_line l ≡ control s x
  pub misordered : Misordered ms x s r

-- WHY A LINE IS REFUSED (01, refusals), by the refusal
abbrev pub Reason : Table → State → Sent → Line → Answer → Refusal → Type 0
-- 1, 2 and 3 are about memories, and no line meets them here
Reason ms st sent l a (of_host bad_memory) = ⊥
Reason ms st sent l a (of_host bad_table) = ⊥
Reason ms st sent l a (of_host bad_state) = ⊥
-- "4 budget too large", first
Reason ms st sent l a (of_host budget_too_large) = (most_budget < sent.budget) × (a.passes ≡ 0)
-- "21 too long", next
Reason ms st sent l a (of_line line_too_long) = (sent.budget ≤ most_budget) × (most_line_bytes < length sent.line) × (a.passes ≡ 0)
-- "22 holds byte 0 or line feed"
Reason ms st sent l a (of_line bad_byte) =
    (sent.budget ≤ most_budget) × (length sent.line ≤ most_line_bytes) × HasBadByte sent.line × (a.passes ≡ 0)
-- 23, and 10 to 19 with their place: "Later, of a control line", behind its passes
Reason ms st sent l a (of_line bad_control) = Run ms st sent l a × ((s : List ℕ) × (x : State) × Miscontrolled ms l (of_line bad_control) s x)
Reason ms st sent l a (of_file r p) = Run ms st sent l a × ((s : List ℕ) × (x : State) × Miscontrolled ms l (of_file r p) s x)
-- 31: by used_up of History the passes are the budget, by Passes another one is due; 32 to 35: its last pass is refused so, by PassBegins or
-- Walks; 36: by traces of History
Reason ms st sent l a (of_work r) = Run ms st sent l a × (end_of_line l ≡ refused r)

-- what holds of a line and its answer, by the answer's kind
abbrev pub ByKind : Table → State → Sent → Line → Answer → Kind → Type 0
-- "a refused line leaves table, state and output as they were" (a refusal has no output) [refused_line_keeps_state], and the trace
-- [trace_of_refused]
ByKind ms st sent l a (refused_with r) = (a.table ≡ ms) × (a.state ≡ st) × Reason ms st sent l a r × (a.trace_text ≡ none)
-- "If it goes out or is withheld"
ByKind ms st sent l a (out s) = Run ms st sent l a × Finished ms l a s × WritesTrace st.trace l a.trace_text
ByKind ms st sent l a withheld = Run ms st sent l a × ((s : List ℕ) × Finished ms l a s) × WritesTrace st.trace l a.trace_text
-- or is a control line
ByKind ms st sent l a controlled =
    Run ms st sent l a × ((s : List ℕ) × (x : State) × Controlled ms l a s x) × WritesTrace st.trace l a.trace_text

-- "The passes and replacements meant are those by which 01's rules make the line's answer": some history's, and by OneLine no other's
abbrev pub LineHolds : Table → State → Sent → Answer → Type 0
LineHolds ms st sent a = (l : Line) × ByKind ms st sent l a a.kind

-- LINES "fed in turn", each to "the table and state that the last returned or left, refused or not" (01, contracts)
abbrev pub Lines : Table → State → List Sent → List Answer → Type 0
Lines ms st [] [] = Unit {0}
Lines ms st (x ∷ xs) (a ∷ as₁) = LineHolds ms st x a × Lines a.table a.state xs as₁
Lines ms st [] (a ∷ as₁) = ⊥
Lines ms st (x ∷ xs) [] = ⊥

-- RESUMED WORK: demand 3 from any state that 2 does not refuse, so that a list of lines may be cut anywhere
abbrev pub Resumed : Type 0
Resumed = (ms : Table) → Accepted ms → (st : State) → InRange st → (xs : List Sent) → Lines ms st xs (feeds ms st xs)

-- DEMAND 3: "For every list of lines .. fed in turn from a fresh state and any accepted table, each with any budget"
abbrev pub Demand3 : Type 0
Demand3 = (ms : Table) → Accepted ms → (xs : List Sent) → Lines ms fresh xs (feeds ms fresh xs)
