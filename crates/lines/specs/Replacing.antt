-- 01, part 4: what an occurrence inserts and changes; 02, N2: what the calls before a pattern change.
use Rattle.std.specs.Prelude.{ℕ, suc, ◌+◌, ◌-◌, Bool, true, false, List, [], ◌∷◌, leb, ltb, length, set}
use Rattle.macros.specs.Bounds.{most_line_bytes, most_entries, most_counter}
use Rattle.macros.specs.Refusals.{WorkRefusal}
use Rattle.macros.specs.Refusals.WorkRefusal.{new_line_too_long, tag_too_long, pointer_too_high, counter_too_high}
use Rattle.macros.specs.Macro.{Mark, Piece, Sign, Move, Call, Action, Macro}
use Rattle.macros.specs.Macro.Mark.{stack, counter}
use Rattle.macros.specs.Macro.Sign.{plus, minus}
use Rattle.macros.specs.Macro.Move.{still, before, after}
use Rattle.macros.specs.Macro.Call.{insert, store_tag, set_to, store_text, set_increment, divide}
use Rattle.macros.specs.Macro.Action.{text, tag, call}
use Rattle.lines.specs.State.{Stack, Counter, State, stack_of, counter_of, contents}
use Rattle.lines.specs.Matching.{Division, stops, tag_text}
use Rattle.lines.specs.Dividing.{divided_text}

infixl 20 ◌>>=◌
-- a moment of a pass: the new line so far, last byte first, its length, and the state
pub record Work : Type 0 where
  pub out : List ℕ
  pub size : ℕ
  pub state : State

-- nothing of the new line is made
abbrev pub start_in : State → Work
start_in st = record { out = []; size = 0; state = st }

-- a step is refused, in the moment that it finds, or done
pub data Done : Type 0 where
  bad : WorkRefusal → Work → Done
  good : Work → Done

-- one step, and then another
abbrev pub ◌>>=◌ : Done → (Work → Done) → Done
◌>>=◌ (bad r w) k = bad r w
◌>>=◌ (good w) k = k w

-- from one moment to the next, unless the step is refused
unfoldable pub unless : Bool → WorkRefusal → (now next : Work) → Done
unless true r w v = good v
unless false r w v = bad r w

-- THE NEW LINE

-- a text joined to the end of a line that stands last byte first
unfoldable pub onto : List ℕ → List ℕ → List ℕ
onto [] out = out
onto (b ∷ bs) out = onto bs (b ∷ out)

-- a text is inserted; 32: "the new line's 1,055th byte"
unfoldable pub puts : List ℕ → Work → Done
puts t w =
    let n : ℕ = w.size + length t in
    unless (leb n most_line_bytes) new_line_too_long w (record { out = onto t w.out; size = n; state = w.state })

-- the same of one byte
unfoldable pub put : ℕ → Work → Done
put b w = unless (ltb w.size most_line_bytes) new_line_too_long w (record { out = b ∷ w.out; size = suc w.size; state = w.state })

-- THE STATE

-- the stack of the letter i is k, and all else stays
unfoldable pub with_stack : ℕ → Stack → Work → Work
with_stack i k w =
    let st : State = w.state in
    let ks : List Stack = set st.stacks (i - 97) k in
    let new : State =
    record { stacks = ks; counters = st.counters; trace = st.trace; nflag = st.nflag; entry_bytes = st.entry_bytes } in
    record { out = w.out; size = w.size; state = new }

-- the counter of the letter i is k, and all else stays
unfoldable pub with_counter : ℕ → Counter → Work → Work
with_counter i k w =
    let st : State = w.state in
    let ks : List Counter = set st.counters (i - 97) k in
    let new : State = record { stacks = st.stacks; counters = ks; trace = st.trace; nflag = st.nflag; entry_bytes = st.entry_bytes } in
    record { out = w.out; size = w.size; state = new }

-- its pointer is n, and its entries stay
unfoldable pub with_pointer : ℕ → ℕ → Work → Work
with_pointer i n w = with_stack i (record { pointer = n; entries = (stack_of w.state i).entries }) w

-- its value is n, and its increment stays
unfoldable pub with_value : ℕ → ℕ → Work → Work
with_value i n w = with_counter i (record { value = n; increment = (counter_of w.state i).increment }) w

-- its increment is n, and its value stays
unfoldable pub with_increment : ℕ → ℕ → Work → Work
with_increment i n w = with_counter i (record { value = (counter_of w.state i).value; increment = n }) w

-- the entry that its pointer names is t; the pointer and the other entries stay
unfoldable pub with_entry : ℕ → List ℕ → Work → Work
with_entry i t w =
    let k : Stack = stack_of w.state i in
    with_stack i (record { pointer = k.pointer; entries = set k.entries (k.pointer - 1) t }) w

-- "A pointer or counter that would fall below 1 is 1."
unfoldable pub fallen : ℕ → ℕ → ℕ
fallen n by = elim (ltb by n) [ true ↦ n - by | false ↦ 1 ]

-- the pointer moves by 1, the counter by its increment; 34: "pointer past 20", 35: "counter past its end"
unfoldable pub moves : Mark → Sign → ℕ → Work → Done
moves stack plus i w = let n : ℕ = (stack_of w.state i).pointer + 1 in unless (leb n most_entries) pointer_too_high w (with_pointer i n w)
moves stack minus i w = good (with_pointer i (fallen (stack_of w.state i).pointer 1) w)
moves counter plus i w =
    let n : ℕ = (counter_of w.state i).value + (counter_of w.state i).increment in
    unless (leb n most_counter) counter_too_high w (with_value i n w)
moves counter minus i w = good (with_value i (fallen (counter_of w.state i).value (counter_of w.state i).increment) w)

-- the move before the access
unfoldable pub early : Mark → Move → ℕ → Work → Done
early m still i w = good w
early m (before s) i w = moves m s i w
early m (after s) i w = good w

-- the move after it
unfoldable pub late : Mark → Move → ℕ → Work → Done
late m still i w = good w
late m (before s) i w = good w
late m (after s) i w = moves m s i w

-- 33: a stored tag that is longer than an entry of the state may be: over 100 bytes (02, N6), in a state of the old engine over 50 (01).
-- A text of `&(i:text:)` is no longer where its table was read by the same bound
unfoldable pub stores : ℕ → List ℕ → Work → Done
stores i t w = unless (leb (length t) w.state.entry_bytes) tag_too_long w (with_entry i t w)

-- WHAT ACTS, for the division of the line t whose spans end at qs

-- a call
unfoldable pub call_acts : List ℕ → List Piece → List ℕ → Call → Work → Done
call_acts t es qs (insert m i v) w = early m v i w >>= (λ x. puts (contents x.state m i) x) >>= late m v i
call_acts t es qs (store_tag n i v) w = early stack v i w >>= stores i (tag_text t (n - 1) es qs) >>= late stack v i
call_acts t es qs (set_to stack i n) w = good (with_pointer i n w)
call_acts t es qs (set_to counter i n) w = good (with_value i n w)
call_acts t es qs (store_text i v x) w = early stack v i w >>= stores i x >>= late stack v i
call_acts t es qs (set_increment i n) w = good (with_increment i n w)
call_acts t es qs (divide i n) w = puts (divided_text (counter_of w.state i).value n) w

-- a part of the replacement
unfoldable pub acts : List ℕ → List Piece → List ℕ → Action → Work → Done
acts t es qs (text b) w = put b w
acts t es qs (tag n) w = puts (tag_text t (n - 1) es qs) w
acts t es qs (call c) w = call_acts t es qs c w

-- the replacement, left to right
unfoldable pub replaces : List ℕ → List Piece → List ℕ → List Action → Work → Done
replaces t es qs [] w = good w
replaces t es qs (a ∷ as₁) w = acts t es qs a w >>= replaces t es qs as₁

-- the commands, left to right
unfoldable pub commands_act : List ℕ → List Piece → List ℕ → List Call → Work → Done
commands_act t es qs [] w = good w
commands_act t es qs (c ∷ cs) w = call_acts t es qs c w >>= commands_act t es qs cs

-- 02, N2: the calls before a pattern, left to right; there is no division, and they store no tag
unfoldable pub before_acts : Macro → Work → Done
before_acts m w = commands_act [] [] [] m.before w

-- "For each occurrence replacement and then commands act, left to right, on the state that the next occurrence sees."
unfoldable pub occur : Macro → List ℕ → Division → Work → Done
occur m t d w = replaces t m.pattern (stops d) m.replacement w >>= commands_act t m.pattern (stops d) m.commands
