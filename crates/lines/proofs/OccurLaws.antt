-- The laws of specs/Steps: an occurrence, and the calls before a pattern, come to what their steps come to; and no step is refused with 31.
use mathlib.Core.Path.{◌≡◌, refl, sym, ap, ◌∙◌, subst}
use mathlib.Core.Bool.{Bool, true, false}
use mathlib.Core.Logic.{◌⊎◌, inl, inr}
use mathlib.Core.List.{List, [], ◌∷◌, ◌++◌, reverse, reverse-reverse, append-nil}
use Prim.Native.Nat.{ℕ, ◌+◌, ◌-◌, ◌≤◌, ◌<◌}
use native.Mathlib.Omega.{arith}
use borrow.Author.Tests.{leb-true, leb-false, ltb-true, ltb-false}
use lib.Dec.{leb, ltb}
use lib.ListN.{length}
use Rattle.macros.specs.Bounds.{most_line_bytes, most_entries, most_counter}
use Rattle.macros.specs.Refusals.{WorkRefusal}
use Rattle.macros.specs.Refusals.WorkRefusal.{budget_used_up, new_line_too_long, tag_too_long, pointer_too_high, counter_too_high, trace_too_long}
use Rattle.macros.specs.Macro.{Mark, Piece, Sign, Move, Call, Action, Macro}
use Rattle.macros.specs.Macro.Mark.{stack, counter}
use Rattle.macros.specs.Macro.Sign.{plus, minus}
use Rattle.macros.specs.Macro.Move.{still, before, after}
use Rattle.macros.specs.Macro.Call.{insert, store_tag, set_to, store_text, set_increment, divide}
use Rattle.macros.specs.Macro.Action.{text, tag, call}
use Rattle.lines.specs.State.{stack_of, counter_of, contents}
use Rattle.lines.specs.Matching.{Division, stops, tag_text}
use Rattle.lines.specs.Dividing.{divided_text, Divided}
use Rattle.lines.specs.Replacing.{Work, Done, bad, good, ◌>>=◌, unless, onto, puts, put, with_pointer, with_value, with_entry}
use Rattle.lines.specs.Replacing.{fallen, moves, early, late, stores, call_acts, acts, replaces, commands_act, before_acts, occur}
use Rattle.lines.specs.Steps.{Copied, Step, with_move, call_steps, action_steps, replacement_steps, command_steps, tag_texts, steps_of, steps_before}
use Rattle.lines.specs.Steps.{FallsTo, Does, Why, Acts, Breaks, ComesTo, OccurSteps, CallsSteps}
use Rattle.lines.specs.Steps.{Step.inserts as inserts_text, Step.inserts_current as inserts_current, Step.inserts_divided as inserts_divided, Step.stores as stores_text, Step.moves as moves_it}
use Rattle.lines.specs.Steps.{Step.sets as sets_it, Step.sets_increment as sets_increment}
use Rattle.lines.proofs.DividingLaws.{divided_text_lem, divided_is}
use Rattle.lines.proofs.CopiedLaws.{put_copied, put_full, puts_copied}

-- STEPS ONE AFTER THE OTHER

-- a step that is done, before what the others come to
step_first : (x : Step) (xs : List Step) (w u : Work) → Does x w u → (a : Done) → ComesTo xs u a → ComesTo (x ∷ xs) w a
step_first x xs w u h (good v) g = (u, h, g)
step_first x xs w u h (bad r v) g = inr (u, h, g)

acts_then : (xs ys : List Step) (w u : Work) → Acts xs w u → (a : Done) → ComesTo ys u a → ComesTo (xs ++ ys) w a
acts_then [] ys w u h a g = subst (λ (z : Work). ComesTo ys z a) h g
acts_then (x ∷ xs) ys w u h a g = step_first x (xs ++ ys) w h.0 h.1 a (acts_then xs ys h.0 u h.2 a g)

breaks_then : (xs ys : List Step) (w : Work) (r : WorkRefusal) (v : Work) → Breaks xs w r v → Breaks (xs ++ ys) w r v
breaks_then [] ys w r v h = absurd h
breaks_then (x ∷ xs) ys w r v (inl h) = inl h
breaks_then (x ∷ xs) ys w r v (inr h) = inr (h.0, h.1, breaks_then xs ys h.0 r v h.2)

bind : (xs ys : List Step) (w : Work) (a : Done) (k : Work → Done) → ComesTo xs w a → ((u : Work) → ComesTo ys u (k u)) → ComesTo (xs ++ ys) w (a >>= k)
bind xs ys w (bad r v) k h g = breaks_then xs ys w r v h
bind xs ys w (good u) k h g = acts_then xs ys w u h (k u) (g u)

-- SINGLE STEPS

one : (x : Step) (w v : Work) → Does x w v → ComesTo (x ∷ []) w (good v)
one x w v h = (v, h, refl)

by_unless : (x : Step) (b : Bool) (r : WorkRefusal) (w v : Work) → (b ≡ true → Does x w v) → (b ≡ false → Why x w r) → ComesTo (x ∷ []) w (unless b r w v)
unfolding unless
by_unless x true r w v h g = (v, h refl, refl)
by_unless x false r w v h g = inl (refl, g refl)

-- a text is inserted, by a step that does just that
text_step_lem : (x : Step) (s : List ℕ) (w : Work) → ((v : Work) → (w.size + length s ≤ most_line_bytes) × Copied s w v → Does x w v)
    → (most_line_bytes < w.size + length s → Why x w new_line_too_long) → ComesTo (x ∷ []) w (puts s w)
unfolding puts
text_step_lem x s w h g =
    let n : ℕ = w.size + length s in
    by_unless x (leb n most_line_bytes) new_line_too_long w _ (λ e. h _ (leb-true n most_line_bytes e, puts_copied s w (leb-true n most_line_bytes e)))
    (λ e. g (leb-false n most_line_bytes e))

pub puts_step : (s : List ℕ) (w : Work) → ComesTo (inserts_text s ∷ []) w (puts s w)
puts_step s w = text_step_lem (inserts_text s) s w (λ v h. h) (λ h. (refl, h))

current_step : (m : Mark) (i : ℕ) (w : Work) → ComesTo (inserts_current m i ∷ []) w (puts (contents w.state m i) w)
current_step m i w = text_step_lem (inserts_current m i) (contents w.state m i) w (λ v h. h) (λ h. (refl, h))

divided_step : (i n : ℕ) (w : Work) → ComesTo (inserts_divided i n ∷ []) w (puts (divided_text (counter_of w.state i).value n) w)
divided_step i n w =
    let k : ℕ = (counter_of w.state i).value in
    text_step_lem (inserts_divided i n) (divided_text k n) w (λ v h. (divided_text k n, divided_text_lem k n, h.0, h.1)) (λ h. (divided_text k n, divided_text_lem k n, refl, h))

put_step : (b : ℕ) (w : Work) → ComesTo (inserts_text (b ∷ []) ∷ []) w (put b w)
put_step b w = go (put b w) refl
  where
    go : (a : Done) → put b w ≡ a → ComesTo (inserts_text (b ∷ []) ∷ []) w a
    go (good v) e =
        let h = put_copied b w v e in
        let l : v.size ≤ most_line_bytes = h.room (omega arith) in
        let n = h.size in
        (v, (omega arith, h), refl)
    go (bad r v) e = let f = put_full b w r v e in inl (f.0, (f.2, (let l : most_line_bytes ≤ w.size = f.1 in omega arith)))

pub store_step : (i : ℕ) (s : List ℕ) (w : Work) → ComesTo (stores_text i s ∷ []) w (stores i s w)
unfolding stores
store_step i s w =
    by_unless (stores_text i s) (leb (length s) w.state.entry_bytes) tag_too_long w _ (λ e. (leb-true (length s) w.state.entry_bytes e, refl))
    (λ e. (refl, leb-false (length s) w.state.entry_bytes e))

falls : (n by : ℕ) → FallsTo n by (fallen n by)
unfolding fallen
falls n by = go (ltb by n) refl
  where
    go : (b : Bool) → ltb by n ≡ b → FallsTo n by (elim b [ true ↦ n - by | false ↦ 1 ])
    go true e = inl (ltb-true by n e, refl)
    go false e = inr (ltb-false by n e, refl)

move_step : (m : Mark) (s : Sign) (i : ℕ) (w : Work) → ComesTo (moves_it m s i ∷ []) w (moves m s i w)
unfolding moves
move_step stack plus i w =
    let n : ℕ = (stack_of w.state i).pointer + 1 in
    by_unless (moves_it stack plus i) (leb n most_entries) pointer_too_high w _ (λ e. (leb-true n most_entries e, refl)) (λ e. (refl, leb-false n most_entries e))
move_step stack minus i w = one (moves_it stack minus i) w _ (fallen (stack_of w.state i).pointer 1, falls (stack_of w.state i).pointer 1, refl)
move_step counter plus i w =
    let n : ℕ = (counter_of w.state i).value + (counter_of w.state i).increment in
    by_unless (moves_it counter plus i) (leb n most_counter) counter_too_high w _ (λ e. (leb-true n most_counter e, refl)) (λ e. (refl, leb-false n most_counter e))
move_step counter minus i w =
    one (moves_it counter minus i) w _
    (fallen (counter_of w.state i).value (counter_of w.state i).increment, falls (counter_of w.state i).value (counter_of w.state i).increment, refl)

-- an access with its move
bind_good : (a : Done) → a ≡ (a >>= good)
bind_good (bad r v) = refl
bind_good (good v) = refl

pub moved_step : (m : Mark) (i : ℕ) (v : Move) (x : Step) (step : Work → Done) → ((u : Work) → ComesTo (x ∷ []) u (step u)) → (w : Work)
    → ComesTo (with_move m i v x) w (early m v i w >>= step >>= late m v i)
unfolding early late
moved_step m i still x step h w = subst (ComesTo (x ∷ []) w) (bind_good (step w)) (h w)
moved_step m i (before s) x step h w =
    subst (ComesTo (moves_it m s i ∷ x ∷ []) w) (bind_good (moves m s i w >>= step)) (bind (moves_it m s i ∷ []) (x ∷ []) w (moves m s i w) step (move_step m s i w) h)
moved_step m i (after s) x step h w = bind (x ∷ []) (moves_it m s i ∷ []) w (step w) (moves m s i) (h w) (move_step m s i)

-- AN OCCURRENCE

module _ (t : List ℕ) (es : List Piece) (qs : List ℕ) where
  abbrev texts : ℕ → List ℕ
  texts = tag_texts t es qs

  call_steps_lem : (c : Call) (w : Work) → ComesTo (call_steps texts c) w (call_acts t es qs c w)
  unfolding call_acts
  call_steps_lem (insert m i v) w = moved_step m i v (inserts_current m i) (λ x. puts (contents x.state m i) x) (current_step m i) w
  call_steps_lem (store_tag n i v) w = moved_step stack i v (stores_text i (texts n)) (stores i (texts n)) (store_step i (texts n)) w
  call_steps_lem (set_to stack i n) w = one (sets_it stack i n) w _ refl
  call_steps_lem (set_to counter i n) w = one (sets_it counter i n) w _ refl
  call_steps_lem (store_text i v s) w = moved_step stack i v (stores_text i s) (stores i s) (store_step i s) w
  call_steps_lem (set_increment i n) w = one (sets_increment i n) w _ refl
  call_steps_lem (divide i n) w = divided_step i n w

  action_steps_lem : (a : Action) (w : Work) → ComesTo (action_steps texts a) w (acts t es qs a w)
  unfolding acts
  action_steps_lem (text b) w = put_step b w
  action_steps_lem (tag n) w = puts_step (texts n) w
  action_steps_lem (call c) w = call_steps_lem c w

  replacement_steps_lem : (as₁ : List Action) (w : Work) → ComesTo (replacement_steps texts as₁) w (replaces t es qs as₁ w)
  unfolding replaces
  replacement_steps_lem [] w = refl
  replacement_steps_lem (a ∷ as₁) w =
      bind (action_steps texts a) (replacement_steps texts as₁) w (acts t es qs a w) (replaces t es qs as₁) (action_steps_lem a w) (replacement_steps_lem as₁)

  command_steps_lem : (cs : List Call) (w : Work) → ComesTo (command_steps texts cs) w (commands_act t es qs cs w)
  unfolding commands_act
  command_steps_lem [] w = refl
  command_steps_lem (c ∷ cs) w =
      bind (call_steps texts c) (command_steps texts cs) w (call_acts t es qs c w) (commands_act t es qs cs) (call_steps_lem c w) (command_steps_lem cs)

-- THE LAW
pub occur_steps : OccurSteps
unfolding occur
occur_steps m t d w =
    let es : List Piece = m.pattern in
    let qs : List ℕ = stops d in
    bind (replacement_steps (tag_texts t es qs) m.replacement) (command_steps (tag_texts t es qs) m.commands) w
    (replaces t es qs m.replacement w) (commands_act t es qs m.commands) (replacement_steps_lem t es qs m.replacement w) (command_steps_lem t es qs m.commands)

-- THE LAW: with no tags, since there is no division
pub calls_steps : CallsSteps
unfolding before_acts tag_text
calls_steps m w = command_steps_lem [] [] [] m.before w

-- STEPS COME TO ONE THING

pub copied_same : (s : List ℕ) (w v x : Work) → Copied s w v → Copied s w x → v ≡ x
copied_same s w v x h g = λ i. record { out = o i; size = n i; state = z i }
  where
    o : v.out ≡ x.out
    o = sym (reverse-reverse v.out) ∙ ap reverse (h.line ∙ sym g.line) ∙ reverse-reverse x.out

    n : v.size ≡ x.size
    n = h.size ∙ sym g.size

    z : v.state ≡ x.state
    z = h.state ∙ sym g.state

falls_same : (n by k j : ℕ) → FallsTo n by k → FallsTo n by j → k ≡ j
falls_same n by k j (inl h) (inl g) = h.1 ∙ sym g.1
falls_same n by k j (inl h) (inr g) = absurd (let a = h.0 in let b = g.0 in omega arith)
falls_same n by k j (inr h) (inl g) = absurd (let a = h.0 in let b = g.0 in omega arith)
falls_same n by k j (inr h) (inr g) = h.1 ∙ sym g.1

divided_same : (v n : ℕ) (s t : List ℕ) → Divided v n s → Divided v n t → s ≡ t
divided_same v n s t h g = divided_is v n s h ∙ sym (divided_is v n t g)

does_same : (x : Step) (w v u : Work) → Does x w v → Does x w u → v ≡ u
does_same (inserts_text s) w v u h g = copied_same s w v u h.1 g.1
does_same (inserts_current m i) w v u h g = copied_same (contents w.state m i) w v u h.1 g.1
does_same (inserts_divided i n) w v u h g =
    copied_same h.0 w v u h.3 (subst (λ (s : List ℕ). Copied s w u) (divided_same _ n g.0 h.0 g.1 h.1) g.3)
does_same (stores_text i s) w v u h g = h.1 ∙ sym g.1
does_same (moves_it stack plus i) w v u h g = h.1 ∙ sym g.1
does_same (moves_it stack minus i) w v u h g =
    h.2 ∙ ap (λ (k : ℕ). with_pointer i k w) (falls_same (stack_of w.state i).pointer 1 h.0 g.0 h.1 g.1) ∙ sym g.2
does_same (moves_it counter plus i) w v u h g = h.1 ∙ sym g.1
does_same (moves_it counter minus i) w v u h g =
    h.2
    ∙ ap (λ (k : ℕ). with_value i k w) (falls_same (counter_of w.state i).value (counter_of w.state i).increment h.0 g.0 h.1 g.1)
    ∙ sym g.2
does_same (sets_it stack i n) w v u h g = h ∙ sym g
does_same (sets_it counter i n) w v u h g = h ∙ sym g
does_same (sets_increment i n) w v u h g = h ∙ sym g

-- what is done is not refused
does_why : (x : Step) (w v : Work) (r : WorkRefusal) → Does x w v → Why x w r → ⊥
does_why (inserts_text s) w v r h g = omega (arith, h.0, g.1)
does_why (inserts_current m i) w v r h g = omega (arith, h.0, g.1)
does_why (inserts_divided i n) w v r h g =
    let e : length h.0 ≡ length g.0 = ap length (divided_same _ n h.0 g.0 h.1 g.1) in
    omega (arith, e, h.2, g.3)
does_why (stores_text i s) w v r h g = omega (arith, h.0, g.1)
does_why (moves_it stack plus i) w v r h g = omega (arith, h.0, g.1)
does_why (moves_it stack minus i) w v r h g = g
does_why (moves_it counter plus i) w v r h g = omega (arith, h.0, g.1)
does_why (moves_it counter minus i) w v r h g = g
does_why (sets_it m i n) w v r h g = g
does_why (sets_increment i n) w v r h g = g

why_same : (x : Step) (w : Work) (r s : WorkRefusal) → Why x w r → Why x w s → r ≡ s
why_same (inserts_text l) w r s h g = h.0 ∙ sym g.0
why_same (inserts_current m i) w r s h g = h.0 ∙ sym g.0
why_same (inserts_divided i n) w r s h g = h.2 ∙ sym g.2
why_same (stores_text i l) w r s h g = h.0 ∙ sym g.0
why_same (moves_it stack plus i) w r s h g = h.0 ∙ sym g.0
why_same (moves_it stack minus i) w r s h g = absurd h
why_same (moves_it counter plus i) w r s h g = h.0 ∙ sym g.0
why_same (moves_it counter minus i) w r s h g = absurd h
why_same (sets_it m i n) w r s h g = absurd h
why_same (sets_increment i n) w r s h g = absurd h

acts_same : (xs : List Step) (w v u : Work) → Acts xs w v → Acts xs w u → v ≡ u
acts_same [] w v u h g = h ∙ sym g
acts_same (x ∷ xs) w v u h g = acts_same xs g.0 v u (subst (λ (z : Work). Acts xs z v) (does_same x w h.0 g.0 h.1 g.1) h.2) g.2

acts_break : (xs : List Step) (w v : Work) (r : WorkRefusal) (u : Work) → Acts xs w v → Breaks xs w r u → ⊥
acts_break [] w v r u h g = g
acts_break (x ∷ xs) w v r u h (inl g) = does_why x w h.0 r h.1 g.1
acts_break (x ∷ xs) w v r u h (inr g) =
    acts_break xs g.0 v r u (subst (λ (z : Work). Acts xs z v) (does_same x w h.0 g.0 h.1 g.1) h.2) g.2

breaks_same : (xs : List Step) (w : Work) (r : WorkRefusal) (v : Work) (s : WorkRefusal) (u : Work) → Breaks xs w r v → Breaks xs w s u → bad r v ≡ bad s u
breaks_same [] w r v s u h g = absurd h
breaks_same (x ∷ xs) w r v s u (inl h) (inl g) =
    let a : r ≡ s = why_same x w r s h.1 g.1 in
    let b : v ≡ u = h.0 ∙ sym g.0 in
    cc
breaks_same (x ∷ xs) w r v s u (inl h) (inr g) = absurd (does_why x w g.0 r g.1 h.1)
breaks_same (x ∷ xs) w r v s u (inr h) (inl g) = absurd (does_why x w h.0 s h.1 g.1)
breaks_same (x ∷ xs) w r v s u (inr h) (inr g) =
    breaks_same xs g.0 r v s u (subst (λ (z : Work). Breaks xs z r v) (does_same x w h.0 g.0 h.1 g.1) h.2) g.2

comes_same : (xs : List Step) (w : Work) (a b : Done) → ComesTo xs w a → ComesTo xs w b → a ≡ b
comes_same xs w (good v) (good u) h g = ap good (acts_same xs w v u h g)
comes_same xs w (good v) (bad s u) h g = absurd (acts_break xs w v s u h g)
comes_same xs w (bad r v) (good u) h g = absurd (acts_break xs w u r v g h)
comes_same xs w (bad r v) (bad s u) h g = breaks_same xs w r v s u h g

-- what the steps come to is what the occurrence comes to
pub occur_is : (m : Macro) (t : List ℕ) (d : Division) (w : Work) (a : Done) → ComesTo (steps_of m t d) w a → occur m t d w ≡ a
occur_is m t d w a h = comes_same (steps_of m t d) w (occur m t d w) a (occur_steps m t d w) h

-- and of the calls before a pattern
pub calls_are : (m : Macro) (w : Work) (a : Done) → ComesTo (steps_before m) w a → before_acts m w ≡ a
calls_are m w a h = comes_same (steps_before m) w (before_acts m w) a (calls_steps m w) h

-- NO STEP IS REFUSED WITH 31 OR 36

-- 32 to 35 alone
abbrev pub OfStep : WorkRefusal → Type 0
OfStep r = (r ≡ budget_used_up → ⊥) × (r ≡ trace_too_long → ⊥)

-- the refusal of a step, if it is refused, is one of them
abbrev pub NoBudget : Done → Type 0
NoBudget (bad r w) = OfStep r
NoBudget (good w) = Unit {0}

pub of_room : OfStep new_line_too_long
of_room = (λ e. let z : ◌≡◌ {A = ℕ} 0 1 = cc in omega arith, λ e. let z : ◌≡◌ {A = ℕ} 0 1 = cc in omega arith)

of_tag : OfStep tag_too_long
of_tag = (λ e. let z : ◌≡◌ {A = ℕ} 0 1 = cc in omega arith, λ e. let z : ◌≡◌ {A = ℕ} 0 1 = cc in omega arith)

of_pointer : OfStep pointer_too_high
of_pointer = (λ e. let z : ◌≡◌ {A = ℕ} 0 1 = cc in omega arith, λ e. let z : ◌≡◌ {A = ℕ} 0 1 = cc in omega arith)

of_counter : OfStep counter_too_high
of_counter = (λ e. let z : ◌≡◌ {A = ℕ} 0 1 = cc in omega arith, λ e. let z : ◌≡◌ {A = ℕ} 0 1 = cc in omega arith)

why_step : (x : Step) (w : Work) (r : WorkRefusal) → Why x w r → OfStep r
why_step (inserts_text s) w r h = subst OfStep (sym h.0) of_room
why_step (inserts_current m i) w r h = subst OfStep (sym h.0) of_room
why_step (inserts_divided i n) w r h = subst OfStep (sym h.2) of_room
why_step (stores_text i s) w r h = subst OfStep (sym h.0) of_tag
why_step (moves_it stack plus i) w r h = subst OfStep (sym h.0) of_pointer
why_step (moves_it stack minus i) w r h = absurd h
why_step (moves_it counter plus i) w r h = subst OfStep (sym h.0) of_counter
why_step (moves_it counter minus i) w r h = absurd h
why_step (sets_it m i n) w r h = absurd h
why_step (sets_increment i n) w r h = absurd h

pub breaks_step : (xs : List Step) (w : Work) (r : WorkRefusal) (v : Work) → Breaks xs w r v → OfStep r
breaks_step [] w r v h = absurd h
breaks_step (x ∷ xs) w r v (inl h) = why_step x w r h.1
breaks_step (x ∷ xs) w r v (inr h) = breaks_step xs h.0 r v h.2
