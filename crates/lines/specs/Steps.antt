-- 01, part 4 and "The table at work": an occurrence, or the calls before a pattern (02, N2), step by step, and why a step is refused, in notions of
-- its own. Laws join them to occur and before_acts of Replacing. In brackets stand the edits of must-fail/ that a clause rules out.
use Rattle.std.specs.Prelude.{ℕ, ◌+◌, ◌-◌, ◌≤◌, ◌<◌, ◌≡◌, ◌⊎◌, List, [], ◌∷◌, ◌++◌, reverse, length}
use Rattle.macros.specs.Bounds.{most_line_bytes, most_entries, most_counter}
use Rattle.macros.specs.Refusals.{WorkRefusal}
use Rattle.macros.specs.Refusals.WorkRefusal.{new_line_too_long, tag_too_long, pointer_too_high, counter_too_high}
use Rattle.macros.specs.Macro.{Mark, Piece, Sign, Move, Call, Action, Macro}
use Rattle.macros.specs.Macro.Mark.{stack, counter}
use Rattle.macros.specs.Macro.Sign.{plus, minus}
use Rattle.macros.specs.Macro.Move.{still, before, after}
use Rattle.macros.specs.Macro.Call.{insert, store_tag, set_to, store_text, set_increment, divide}
use Rattle.macros.specs.Macro.Action.{text, tag, call}
use Rattle.lines.specs.State.{stack_of, counter_of, contents}
use Rattle.lines.specs.Matching.{Division, stops, tag_text}
use Rattle.lines.specs.Dividing.{Divided}
use Rattle.lines.specs.Replacing.{Work, Done, with_pointer, with_value, with_increment, with_entry, before_acts, occur}
use Rattle.lines.specs.Replacing.Done.{bad, good}

-- THE NEW LINE

-- "the new line" (01, part 4) so far; out has its last byte first
abbrev pub new_line : Work → List ℕ
new_line w = reverse w.out

-- from the moment w to the moment v the new line grows by the bytes s and has room for them, and the state stays
pub record Copied (s : List ℕ) (w v : Work) : Type 0 where
  pub line : new_line v ≡ new_line w ++ s
  pub size : v.size ≡ w.size + length s
  pub room : 0 < length s → v.size ≤ most_line_bytes
  pub state : v.state ≡ w.state

-- THE STEPS

-- what one step of an occurrence does
pub data Step : Type 0 where
  -- a text is inserted: a byte of the replacement, or a tag's text
  inserts : List ℕ → Step
  -- the current entry, or the value's digits, as they then are
  inserts_current : Mark → ℕ → Step
  -- 02, N7: quotient and remainder of the value by a number
  inserts_divided : ℕ → ℕ → Step
  -- a text is stored as the current entry
  stores : ℕ → List ℕ → Step
  -- the pointer or the counter moves
  moves : Mark → Sign → ℕ → Step
  -- it is set
  sets : Mark → ℕ → ℕ → Step
  -- the increment is set
  sets_increment : ℕ → ℕ → Step

-- "one `+` or `-`, before or after i: the pointer moves before or after the access"
abbrev pub with_move : Mark → ℕ → Move → Step → List Step
with_move m i still x = x ∷ []
with_move m i (before s) x = moves m s i ∷ x ∷ []
with_move m i (after s) x = x ∷ moves m s i ∷ []

-- the steps of a call; tags has the tags' texts by their numbers
abbrev pub call_steps : (ℕ → List ℕ) → Call → List Step
call_steps tags (insert m i v) = with_move m i v (inserts_current m i)
call_steps tags (store_tag n i v) = with_move stack i v (stores i (tags n))
call_steps tags (store_text i v s) = with_move stack i v (stores i s)
call_steps tags (set_to m i n) = sets m i n ∷ []
call_steps tags (set_increment i n) = sets_increment i n ∷ []
call_steps tags (divide i n) = inserts_divided i n ∷ []

-- the steps of a part of the replacement
abbrev pub action_steps : (ℕ → List ℕ) → Action → List Step
action_steps tags (text b) = inserts (b ∷ []) ∷ []
action_steps tags (tag n) = inserts (tags n) ∷ []
action_steps tags (call c) = call_steps tags c

-- of the replacement
abbrev pub replacement_steps : (ℕ → List ℕ) → List Action → List Step
replacement_steps tags [] = []
replacement_steps tags (a ∷ as₁) = action_steps tags a ++ replacement_steps tags as₁

-- of the commands
abbrev pub command_steps : (ℕ → List ℕ) → List Call → List Step
command_steps tags [] = []
command_steps tags (c ∷ cs) = call_steps tags c ++ command_steps tags cs

-- the texts of the tags of the pattern es, in a division of the line t whose spans end at qs; what they are, Tags and TagsAtWork state
abbrev pub tag_texts : List ℕ → List Piece → List ℕ → ℕ → List ℕ
tag_texts t es qs n = tag_text t (n - 1) es qs

-- "For each occurrence replacement and then commands act, left to right"
abbrev pub steps_of : Macro → List ℕ → Division → List Step
steps_of m t d =
    let tags : ℕ → List ℕ = tag_texts t m.pattern (stops d) in
    replacement_steps tags m.replacement ++ command_steps tags m.commands

-- 02, N2: the steps of the calls before a pattern, left to right; no tag is stored there
abbrev pub steps_before : Macro → List Step
steps_before m = command_steps (λ n. []) m.before

-- WHAT A STEP DOES

-- "A pointer or counter that would fall below 1 is 1.": n falls by a number to k
abbrev pub FallsTo : ℕ → ℕ → ℕ → Type 0
FallsTo n by k = ((by < n) × (k ≡ n - by)) ⊎ ((n ≤ by) × (k ≡ 1))

-- the step makes the moment v of the moment w
abbrev pub Does : Step → Work → Work → Type 0
Does (inserts s) w v = (w.size + length s ≤ most_line_bytes) × Copied s w v
Does (inserts_current m i) w v = let s : List ℕ = contents w.state m i in (w.size + length s ≤ most_line_bytes) × Copied s w v
Does (inserts_divided i n) w v =
    (s : List ℕ) × Divided (counter_of w.state i).value n s × (w.size + length s ≤ most_line_bytes) × Copied s w v
Does (stores i s) w v = (length s ≤ w.state.entry_bytes) × (v ≡ with_entry i s w)
-- the pointer moves by 1, the counter by its increment
Does (moves stack plus i) w v = let n : ℕ = (stack_of w.state i).pointer + 1 in (n ≤ most_entries) × (v ≡ with_pointer i n w)
Does (moves stack minus i) w v = (k : ℕ) × FallsTo (stack_of w.state i).pointer 1 k × (v ≡ with_pointer i k w)
Does (moves counter plus i) w v =
    let n : ℕ = (counter_of w.state i).value + (counter_of w.state i).increment in
    (n ≤ most_counter) × (v ≡ with_value i n w)
Does (moves counter minus i) w v =
    (k : ℕ) × FallsTo (counter_of w.state i).value (counter_of w.state i).increment k × (v ≡ with_value i k w)
Does (sets stack i n) w v = v ≡ with_pointer i n w
Does (sets counter i n) w v = v ≡ with_value i n w
Does (sets_increment i n) w v = v ≡ with_increment i n w

-- the step is refused with r in the moment w
abbrev pub Why : Step → Work → WorkRefusal → Type 0
-- "32 the new line's 1,055th byte" [inserted_1054]
Why (inserts s) w r = (r ≡ new_line_too_long) × (most_line_bytes < w.size + length s)
Why (inserts_current m i) w r = (r ≡ new_line_too_long) × (most_line_bytes < w.size + length (contents w.state m i))
Why (inserts_divided i n) w r =
    (s : List ℕ) × Divided (counter_of w.state i).value n s × (r ≡ new_line_too_long) × (most_line_bytes < w.size + length s)
-- 33, a stored tag over the state's own bound, 100 bytes (02, N6) [tag_of_100]; reading keeps a text of the macro's own to the same bound
Why (stores i s) w r = (r ≡ tag_too_long) × (w.state.entry_bytes < length s)
-- "34 pointer past 20" [pointer_past_19]
Why (moves stack plus i) w r = (r ≡ pointer_too_high) × (most_entries < (stack_of w.state i).pointer + 1)
-- "35 counter past its end" [counter_as_34]
Why (moves counter plus i) w r =
    (r ≡ counter_too_high) × (most_counter < (counter_of w.state i).value + (counter_of w.state i).increment)
-- nothing else is refused
Why (moves stack minus i) w r = ⊥
Why (moves counter minus i) w r = ⊥
Why (sets m i n) w r = ⊥
Why (sets_increment i n) w r = ⊥

-- the steps are done in turn, from the moment w to the moment v [commands_first]
abbrev pub Acts : List Step → Work → Work → Type 0
Acts [] w v = v ≡ w
Acts (x ∷ xs) w v = (u : Work) × Does x w u × Acts xs u v

-- "at the first such step": one of them is refused with r in the moment v, and those before it are done
abbrev pub Breaks : List Step → Work → WorkRefusal → Work → Type 0
Breaks [] w r v = ⊥
Breaks (x ∷ xs) w r v = ((v ≡ w) × Why x w r) ⊎ ((u : Work) × Does x w u × Breaks xs u r v)

-- what the steps come to
abbrev pub ComesTo : List Step → Work → Done → Type 0
ComesTo xs w (good v) = Acts xs w v
ComesTo xs w (bad r v) = Breaks xs w r v

-- THE LAW: of every macro, line, division and moment
abbrev pub OccurSteps : Type 0
OccurSteps = (m : Macro) (t : List ℕ) (d : Division) (w : Work) → ComesTo (steps_of m t d) w (occur m t d w)

-- THE LAW: of every macro and moment, the calls before its pattern
abbrev pub CallsSteps : Type 0
CallsSteps = (m : Macro) (w : Work) → ComesTo (steps_before m) w (before_acts m w)
