-- At every moment of an occurrence the new line is within its bounds and the state in range.
use Prim.Native.Nat.{ℕ, suc, ◌-◌, ◌≤◌}
use mathlib.Core.Path.{◌≡◌, refl, ap, ◌∙◌}
use mathlib.Core.Bool.{Bool, true, false}
use mathlib.Core.List.{List, [], ◌∷◌}
use native.Mathlib.Omega.{arith}
use borrow.Author.Tests.{leb-true, ltb-true}
use lib.ListN.{length, length-set}
use Rattle.macros.specs.Bounds.{most_line_bytes, most_entries, most_counter}
use Rattle.macros.specs.Refusals.{WorkRefusal}
use Rattle.macros.specs.Refusals.WorkRefusal.{new_line_too_long, tag_too_long, pointer_too_high, counter_too_high}
use Rattle.macros.specs.Macro.{Mark, Piece, Sign, Move, Call, Action, Macro}
use Rattle.macros.specs.Macro.Mark.{stack, counter}
use Rattle.macros.specs.Macro.Sign.{plus, minus}
use Rattle.macros.specs.Macro.Move.{still, before, after}
use Rattle.macros.specs.Macro.Call.{insert, store_tag, set_to, store_text, set_increment, divide}
use Rattle.macros.specs.Macro.Action.{text, tag, call}
use Rattle.macros.specs.Formed.{Between, Byte, Bytes, limit, number_fits, FormedCall, FormedAction, FormedReplacement, FormedCommands, Formed}
use Rattle.lines.specs.State.{Stack, Counter, stack_of, counter_of, contents, EntryInRange, StackInRange, CounterInRange, InRange}
use Rattle.lines.specs.Matching.{Division, stops, tag_text}
use Rattle.lines.specs.Replacing.{Work, Done, ◌>>=◌, unless, puts, put, with_stack, with_counter, with_pointer, with_value, with_increment, with_entry, moves, early, late, stores, call_acts, acts, replaces, commands_act, before_acts, occur}
use Rattle.lines.specs.Replacing.Done.{bad, good}
use Rattle.lines.proofs.KeepTests.{within_between}
use Rattle.lines.proofs.KeepBytes.{all_set, bytes_onto, length_onto, bytes_divided, bytes_tag}
use Rattle.lines.proofs.KeepState.{stack_in_range, counter_in_range, bytes_contents, set_stack, set_counter, fallen_between}

-- A MOMENT THAT IS SOUND

pub record Sound (w : Work) : Type 0 where
  pub exact : w.size ≡ length w.out
  pub fits : w.size ≤ most_line_bytes
  pub bytes : Bytes w.out
  pub state : InRange w.state

abbrev pub SoundDone : Done → Type 0
SoundDone (bad r w) = Unit {0}
SoundDone (good w) = Sound w

then_sound : (a : Done) (k : Work → Done) → SoundDone a → ((w : Work) → Sound w → SoundDone (k w)) → SoundDone (a >>= k)
then_sound (bad r w) k h g = tt
then_sound (good w) k h g = g w h

unless_sound : (c : Bool) (r : WorkRefusal) (w v : Work) → (c ≡ true → Sound v) → SoundDone (unless c r w v)
unfolding unless
unless_sound true r w v h = h refl
unless_sound false r w v h = tt

-- THE NEW LINE

puts_sound : (t : List ℕ) (w : Work) → Bytes t → Sound w → SoundDone (puts t w)
unfolding puts
puts_sound t w b h =
    unless_sound _ new_line_too_long _ _
    (λ e. record {
      exact = omega (arith, length_onto t w.out, h.exact);
      fits = leb-true _ most_line_bytes e;
      bytes = bytes_onto t w.out b h.bytes;
      state = h.state;
    })

pub put_sound : (b : ℕ) (w : Work) → Byte b → Sound w → SoundDone (put b w)
unfolding put
put_sound b w g h =
    unless_sound _ new_line_too_long _ _
    (λ e. record { exact = ap suc h.exact; fits = ltb-true w.size most_line_bytes e; bytes = (g, h.bytes); state = h.state })

-- THE STATE

with_stack_lem : (i : ℕ) (k : Stack) (w : Work) → StackInRange k → Sound w → Sound (with_stack i k w)
unfolding with_stack
with_stack_lem i k w g h = record { exact = h.exact; fits = h.fits; bytes = h.bytes; state = set_stack w.state i k h.state g }

with_counter_lem : (i : ℕ) (k : Counter) (w : Work) → CounterInRange k → Sound w → Sound (with_counter i k w)
unfolding with_counter
with_counter_lem i k w g h = record { exact = h.exact; fits = h.fits; bytes = h.bytes; state = set_counter w.state i k h.state g }

with_pointer_lem : (i n : ℕ) (w : Work) → Between 1 most_entries n → Sound w → Sound (with_pointer i n w)
unfolding with_pointer
with_pointer_lem i n w g h = let k = stack_in_range w.state i h.state in with_stack_lem i _ w (record { pointer = g; count = k.count; entries = k.entries }) h

with_value_lem : (i n : ℕ) (w : Work) → Between 1 most_counter n → Sound w → Sound (with_value i n w)
unfolding with_value
with_value_lem i n w g h = with_counter_lem i _ w (record { value = g; increment = (counter_in_range w.state i h.state).increment }) h

with_increment_lem : (i n : ℕ) (w : Work) → Between 1 most_counter n → Sound w → Sound (with_increment i n w)
unfolding with_increment
with_increment_lem i n w g h = with_counter_lem i _ w (record { value = (counter_in_range w.state i h.state).value; increment = g }) h

with_entry_lem : (i : ℕ) (t : List ℕ) (w : Work) → EntryInRange t → Sound w → Sound (with_entry i t w)
unfolding with_entry
with_entry_lem i t w g h =
    let k = stack_in_range w.state i h.state in
    let s = stack_of w.state i in
    with_stack_lem i _ w
    (record {
      pointer = k.pointer;
      count = length-set s.entries (s.pointer - 1) t ∙ k.count;
      entries = all_set EntryInRange s.entries (s.pointer - 1) t k.entries g;
    })
    h

moves_sound : (m : Mark) (s : Sign) (i : ℕ) (w : Work) → Sound w → SoundDone (moves m s i w)
unfolding moves
moves_sound stack plus i w h = unless_sound _ pointer_too_high _ _ (λ e. with_pointer_lem i _ w (omega arith, leb-true _ most_entries e) h)
moves_sound stack minus i w h = with_pointer_lem i _ w (fallen_between _ 1 most_entries (stack_in_range w.state i h.state).pointer) h
moves_sound counter plus i w h =
    let k = counter_in_range w.state i h.state in
    unless_sound _ counter_too_high _ _ (λ e. with_value_lem i _ w (omega arith, leb-true _ most_counter e) h)
moves_sound counter minus i w h = with_value_lem i _ w (fallen_between _ _ most_counter (counter_in_range w.state i h.state).value) h

early_sound : (m : Mark) (v : Move) (i : ℕ) (w : Work) → Sound w → SoundDone (early m v i w)
unfolding early
early_sound m still i w h = h
early_sound m (before s) i w h = moves_sound m s i w h
early_sound m (after s) i w h = h

late_sound : (m : Mark) (v : Move) (i : ℕ) (w : Work) → Sound w → SoundDone (late m v i w)
unfolding late
late_sound m still i w h = h
late_sound m (before s) i w h = h
late_sound m (after s) i w h = moves_sound m s i w h

stores_sound : (i : ℕ) (t : List ℕ) (w : Work) → Bytes t → Sound w → SoundDone (stores i t w)
unfolding stores
stores_sound i t w b h = unless_sound _ tag_too_long _ _ (λ e. with_entry_lem i t w (b, omega (arith, leb-true (length t) w.state.entry_bytes e, h.state.entry_bytes)) h)

-- a call's access, between its two moves
access_sound : (m : Mark) (v : Move) (i : ℕ) (f : Work → Done) (w : Work) → ((x : Work) → Sound x → SoundDone (f x)) → Sound w → SoundDone (early m v i w >>= f >>= late m v i)
access_sound m v i f w g h =
    then_sound (early m v i w >>= f) (late m v i) (then_sound (early m v i w) f (early_sound m v i w h) g) (late_sound m v i)

-- WHAT ACTS, for a line t without byte 0 and a macro of k tags

module _ (t : List ℕ) (es : List Piece) (qs : List ℕ) (k : ℕ) (b : Bytes t) where
  call_sound : (c : Call) (w : Work) → FormedCall k c → Sound w → SoundDone (call_acts t es qs c w)
  unfolding call_acts number_fits limit
  call_sound (insert m i v) w f h = access_sound m v i _ w (λ x g. puts_sound (contents x.state m i) x (bytes_contents x.state m i g.state) g) h
  call_sound (store_tag n i v) w f h = access_sound stack v i _ w (λ x g. stores_sound i (tag_text t (n - 1) es qs) x (bytes_tag t es (n - 1) qs b) g) h
  call_sound (set_to stack i n) w f h = with_pointer_lem i n w (within_between 1 most_entries n f.numbers) h
  call_sound (set_to counter i n) w f h = with_value_lem i n w (within_between 1 most_counter n f.numbers) h
  call_sound (store_text i v x) w f h = access_sound stack v i _ w (λ y g. stores_sound i x y f.names.1 g) h
  call_sound (set_increment i n) w f h = with_increment_lem i n w (within_between 1 most_counter n f.numbers) h
  call_sound (divide i n) w f h = puts_sound _ w (bytes_divided (counter_of w.state i).value n) h

  acts_sound : (a : Action) (w : Work) → FormedAction k a → Sound w → SoundDone (acts t es qs a w)
  unfolding acts
  acts_sound (text c) w f h = put_sound c w f h
  acts_sound (tag n) w f h = puts_sound (tag_text t (n - 1) es qs) w (bytes_tag t es (n - 1) qs b) h
  acts_sound (call c) w f h = call_sound c w f h

  replaces_sound : (as₁ : List Action) (w : Work) → FormedReplacement k as₁ → Sound w → SoundDone (replaces t es qs as₁ w)
  unfolding replaces
  replaces_sound [] w f h = h
  replaces_sound (a ∷ as₁) w f h = then_sound (acts t es qs a w) _ (acts_sound a w f.0 h) (λ x g. replaces_sound as₁ x f.1 g)

  commands_sound : (cs : List Call) (w : Work) → FormedCommands k cs → Sound w → SoundDone (commands_act t es qs cs w)
  unfolding commands_act
  commands_sound [] w f h = h
  commands_sound (c ∷ cs) w f h = then_sound (call_acts t es qs c w) _ (call_sound c w f.0.1 h) (λ x g. commands_sound cs x f.1 g)

pub occur_sound : (m : Macro) (t : List ℕ) (d : Division) (w : Work) → Formed m → Bytes t → Sound w → SoundDone (occur m t d w)
unfolding occur
occur_sound m t d w f b h =
    then_sound (replaces t m.pattern (stops d) m.replacement w) _
    (replaces_sound t m.pattern (stops d) _ b m.replacement w f.replacement h)
    (λ x g. commands_sound t m.pattern (stops d) _ b m.commands x f.commands g)

-- the calls before a pattern: no line and no tags
pub calls_sound : (m : Macro) (w : Work) → Formed m → Sound w → SoundDone (before_acts m w)
unfolding before_acts
calls_sound m w f h = commands_sound [] [] [] 0 tt m.before w f.before h
