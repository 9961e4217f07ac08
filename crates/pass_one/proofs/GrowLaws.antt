-- An occurrence only adds to the new line.
use Prim.Native.Nat.{ℕ, ◌-◌, ◌≤◌}
use mathlib.Core.Bool.{Bool, true, false}
use mathlib.Core.List.{List, [], ◌∷◌}
use native.Mathlib.Omega.{arith}
use Rattle.macros.specs.Refusals.{WorkRefusal}
use Rattle.macros.specs.Macro.{Mark, Piece, Sign, Move, Call, Action, Macro}
use Rattle.macros.specs.Macro.Mark.{stack, counter}
use Rattle.macros.specs.Macro.Sign.{plus, minus}
use Rattle.macros.specs.Macro.Move.{still, before, after}
use Rattle.macros.specs.Macro.Call.{insert, store_tag, set_to, store_text, set_increment, divide}
use Rattle.macros.specs.Macro.Action.{text, tag, call}
use Rattle.lines.specs.State.{counter_of, contents}
use Rattle.lines.specs.Matching.{Division, stops, tag_text}
use Rattle.lines.specs.Dividing.{divided_text}
use Rattle.lines.specs.Replacing.{Work, Done, ◌>>=◌, unless, puts, put, with_stack, with_counter, with_pointer, with_value, with_increment, with_entry, moves, early, late, stores, call_acts, acts, replaces, commands_act, occur}
use Rattle.lines.specs.Replacing.Done.{bad, good}

-- at least n bytes, done or refused
abbrev pub Grown : ℕ → Done → Type 0
Grown n (bad r w) = n ≤ w.size
Grown n (good w) = n ≤ w.size

module _ (n : ℕ) where
  bind_grown : (a : Done) (k : Work → Done) → Grown n a → ((w : Work) → n ≤ w.size → Grown n (k w)) → Grown n (a >>= k)
  bind_grown (bad r w) k h g = h
  bind_grown (good w) k h g = g w h

  unless_grown : (b : Bool) (r : WorkRefusal) (w v : Work) → n ≤ w.size → n ≤ v.size → Grown n (unless b r w v)
  unfolding unless
  unless_grown true r w v h g = g
  unless_grown false r w v h g = h

  puts_grown : (l : List ℕ) (w : Work) → n ≤ w.size → Grown n (puts l w)
  unfolding puts
  puts_grown l w h = unless_grown _ _ w _ h (omega arith)

  put_grown : (b : ℕ) (w : Work) → n ≤ w.size → Grown n (put b w)
  unfolding put
  put_grown b w h = unless_grown _ _ w _ h (omega arith)

  moves_grown : (k : Mark) (s : Sign) (i : ℕ) (w : Work) → n ≤ w.size → Grown n (moves k s i w)
  unfolding moves with_pointer with_value with_stack with_counter
  moves_grown stack plus i w h = unless_grown _ _ w _ h h
  moves_grown stack minus i w h = h
  moves_grown counter plus i w h = unless_grown _ _ w _ h h
  moves_grown counter minus i w h = h

  early_grown : (k : Mark) (v : Move) (i : ℕ) (w : Work) → n ≤ w.size → Grown n (early k v i w)
  unfolding early
  early_grown k still i w h = h
  early_grown k (before s) i w h = moves_grown k s i w h
  early_grown k (after s) i w h = h

  late_grown : (k : Mark) (v : Move) (i : ℕ) (w : Work) → n ≤ w.size → Grown n (late k v i w)
  unfolding late
  late_grown k still i w h = h
  late_grown k (before s) i w h = h
  late_grown k (after s) i w h = moves_grown k s i w h

  stores_grown : (i : ℕ) (l : List ℕ) (w : Work) → n ≤ w.size → Grown n (stores i l w)
  unfolding stores with_entry with_stack
  stores_grown i l w h = unless_grown _ _ w _ h h

  access_grown : (k : Mark) (v : Move) (i : ℕ) (step : Work → Done) (w : Work) → ((x : Work) → n ≤ x.size → Grown n (step x)) → n ≤ w.size → Grown n (early k v i w >>= step >>= late k v i)
  access_grown k v i step w g h = bind_grown (early k v i w >>= step) (late k v i) (bind_grown (early k v i w) step (early_grown k v i w h) g) (late_grown k v i)

  module _ (t : List ℕ) (es : List Piece) (qs : List ℕ) where
    call_grown : (c : Call) (w : Work) → n ≤ w.size → Grown n (call_acts t es qs c w)
    unfolding call_acts with_pointer with_value with_increment with_stack with_counter
    call_grown (insert k i v) w h = access_grown k v i (λ x. puts (contents x.state k i) x) w (λ x. puts_grown (contents x.state k i) x) h
    call_grown (store_tag j i v) w h = access_grown stack v i (stores i (tag_text t (j - 1) es qs)) w (stores_grown i (tag_text t (j - 1) es qs)) h
    call_grown (set_to stack i j) w h = h
    call_grown (set_to counter i j) w h = h
    call_grown (store_text i v x) w h = access_grown stack v i (stores i x) w (stores_grown i x) h
    call_grown (set_increment i j) w h = h
    call_grown (divide i j) w h = puts_grown (divided_text (counter_of w.state i).value j) w h

    acts_grown : (a : Action) (w : Work) → n ≤ w.size → Grown n (acts t es qs a w)
    unfolding acts
    acts_grown (text b) w h = put_grown b w h
    acts_grown (tag j) w h = puts_grown (tag_text t (j - 1) es qs) w h
    acts_grown (call c) w h = call_grown c w h

    replaces_grown : (as₁ : List Action) (w : Work) → n ≤ w.size → Grown n (replaces t es qs as₁ w)
    unfolding replaces
    replaces_grown [] w h = h
    replaces_grown (a ∷ as₁) w h = bind_grown (acts t es qs a w) (replaces t es qs as₁) (acts_grown a w h) (replaces_grown as₁)

    commands_grown : (cs : List Call) (w : Work) → n ≤ w.size → Grown n (commands_act t es qs cs w)
    unfolding commands_act
    commands_grown [] w h = h
    commands_grown (c ∷ cs) w h = bind_grown (call_acts t es qs c w) (commands_act t es qs cs) (call_grown c w h) (commands_grown cs)

  pub occur_grown : (m : Macro) (t : List ℕ) (d : Division) (w : Work) → n ≤ w.size → Grown n (occur m t d w)
  unfolding occur
  occur_grown m t d w h =
      bind_grown (replaces t m.pattern (stops d) m.replacement w) (commands_act t m.pattern (stops d) m.commands) (replaces_grown t m.pattern (stops d) m.replacement w h)
      (commands_grown t m.pattern (stops d) m.commands)
