-- The law of specs/Room: the new line's length is kept right and within its room, whatever the macro does.
use mathlib.Core.Path.{◌≡◌, refl, sym, ap, ◌∙◌}
use mathlib.Core.Bool.{Bool, true, false}
use mathlib.Core.List.{List, [], ◌∷◌}
use mathlib.Core.Option.{Option, none, some}
use Prim.Native.Nat.{ℕ, zero, suc, ◌+◌, ◌-◌, ◌≤◌}
use native.Mathlib.Omega.{arith}
use borrow.Author.Tests.{leb-true, ltb-true}
use lib.Dec.{leb, ltb}
use lib.ListN.{length}
use Rattle.macros.specs.Bounds.{most_line_bytes}
use Rattle.macros.specs.Refusals.{WorkRefusal}
use Rattle.macros.specs.Refusals.WorkRefusal.{new_line_too_long}
use Rattle.macros.specs.Macro.{Mark, Piece, Sign, Move, Call, Action, Macro}
use Rattle.macros.specs.Macro.Mark.{stack, counter}
use Rattle.macros.specs.Macro.Sign.{plus, minus}
use Rattle.macros.specs.Macro.Move.{still, before, after}
use Rattle.macros.specs.Macro.Call.{insert, store_tag, set_to, store_text, set_increment, divide}
use Rattle.macros.specs.Macro.Action.{text, tag, call}
use Rattle.lines.specs.State.{State, counter_of, contents}
use Rattle.lines.specs.Dividing.{divided_text}
use Rattle.lines.specs.Matching.{Division, end_of, stops, tag_text}
use Rattle.lines.specs.Replacing.{Work, Done, bad, good, ◌>>=◌, unless, onto, puts, put, with_stack, with_counter, with_pointer, with_value, with_increment, with_entry, moves, early, late, stores, call_acts, acts, replaces, commands_act, occur}
use Rattle.lines.specs.Pass.{Walk, ended, occurs, match, go_on, matched, at_end, onward, at_byte, walk, pass, outcome}
use Rattle.lines.specs.Line.{text_of}
use Rattle.lines.specs.Room.{Room, DoneRoom, WalkRoom, PassRoom}

-- STEPS

bind_room : (a : Done) (k : Work → Done) → DoneRoom a → ((w : Work) → Room w → DoneRoom (k w)) → DoneRoom (a >>= k)
bind_room (bad r w) k h g = tt
bind_room (good w) k h g = g w h

unless_room : (b : Bool) (r : WorkRefusal) (w v : Work) → (b ≡ true → Room v) → DoneRoom (unless b r w v)
unfolding unless
unless_room true r w v h = h refl
unless_room false r w v h = tt

onto_length : (l o : List ℕ) → length (onto l o) ≡ length l + length o
unfolding onto
onto_length [] o = omega arith
onto_length (b ∷ l) o = let h : length (onto l (b ∷ o)) ≡ length l + suc (length o) = onto_length l (b ∷ o) in omega arith

puts_room : (l : List ℕ) (w : Work) → Room w → DoneRoom (puts l w)
unfolding puts
puts_room l w h =
    unless_room (leb (w.size + length l) most_line_bytes) new_line_too_long w (record { out = onto l w.out; size = w.size + length l; state = w.state })
    (λ e. record { exact = let a : length (onto l w.out) ≡ length l + length w.out = onto_length l w.out in let b = h.exact in omega arith; fits = leb-true (w.size + length l) most_line_bytes e })

put_room : (b : ℕ) (w : Work) → Room w → DoneRoom (put b w)
unfolding put
put_room b w h =
    unless_room (ltb w.size most_line_bytes) new_line_too_long w (record { out = b ∷ w.out; size = suc w.size; state = w.state })
    (λ e. record { exact = ap suc h.exact; fits = ltb-true w.size most_line_bytes e })

-- what changes the state only
same_room : (w v : Work) → v.out ≡ w.out → v.size ≡ w.size → Room w → Room v
same_room w v e f h = record { exact = f ∙ h.exact ∙ ap length (sym e); fits = let a = h.fits in omega arith }

moves_room : (k : Mark) (s : Sign) (i : ℕ) (w : Work) → Room w → DoneRoom (moves k s i w)
unfolding moves with_pointer with_value with_stack with_counter
moves_room stack plus i w h = unless_room _ _ _ _ (λ e. same_room w _ refl refl h)
moves_room stack minus i w h = same_room w _ refl refl h
moves_room counter plus i w h = unless_room _ _ _ _ (λ e. same_room w _ refl refl h)
moves_room counter minus i w h = same_room w _ refl refl h

early_room : (k : Mark) (v : Move) (i : ℕ) (w : Work) → Room w → DoneRoom (early k v i w)
unfolding early
early_room k still i w h = h
early_room k (before s) i w h = moves_room k s i w h
early_room k (after s) i w h = h

late_room : (k : Mark) (v : Move) (i : ℕ) (w : Work) → Room w → DoneRoom (late k v i w)
unfolding late
late_room k still i w h = h
late_room k (before s) i w h = h
late_room k (after s) i w h = moves_room k s i w h

stores_room : (i : ℕ) (l : List ℕ) (w : Work) → Room w → DoneRoom (stores i l w)
unfolding stores with_entry with_stack
stores_room i l w h = unless_room _ _ _ _ (λ e. same_room w _ refl refl h)

-- an access between its two moves
access_room : (k : Mark) (v : Move) (i : ℕ) (step : Work → Done) (w : Work) → ((x : Work) → Room x → DoneRoom (step x)) → Room w → DoneRoom (early k v i w >>= step >>= late k v i)
access_room k v i step w g h = bind_room (early k v i w >>= step) (late k v i) (bind_room (early k v i w) step (early_room k v i w h) g) (late_room k v i)

-- WHAT ACTS

module _ (t : List ℕ) (es : List Piece) (qs : List ℕ) where
  call_room : (c : Call) (w : Work) → Room w → DoneRoom (call_acts t es qs c w)
  unfolding call_acts with_pointer with_value with_increment with_stack with_counter
  call_room (insert k i v) w h = access_room k v i (λ x. puts (contents x.state k i) x) w (λ x. puts_room (contents x.state k i) x) h
  call_room (store_tag n i v) w h = access_room stack v i (stores i (tag_text t (n - 1) es qs)) w (stores_room i (tag_text t (n - 1) es qs)) h
  call_room (set_to stack i n) w h = same_room w _ refl refl h
  call_room (set_to counter i n) w h = same_room w _ refl refl h
  call_room (store_text i v x) w h = access_room stack v i (stores i x) w (stores_room i x) h
  call_room (set_increment i n) w h = same_room w _ refl refl h
  call_room (divide i n) w h = puts_room (divided_text (counter_of w.state i).value n) w h

  acts_room : (a : Action) (w : Work) → Room w → DoneRoom (acts t es qs a w)
  unfolding acts
  acts_room (text b) w h = put_room b w h
  acts_room (tag n) w h = puts_room (tag_text t (n - 1) es qs) w h
  acts_room (call c) w h = call_room c w h

  replaces_room : (as₁ : List Action) (w : Work) → Room w → DoneRoom (replaces t es qs as₁ w)
  unfolding replaces
  replaces_room [] w h = h
  replaces_room (a ∷ as₁) w h = bind_room (acts t es qs a w) (replaces t es qs as₁) (acts_room a w h) (replaces_room as₁)

  commands_room : (cs : List Call) (w : Work) → Room w → DoneRoom (commands_act t es qs cs w)
  unfolding commands_act
  commands_room [] w h = h
  commands_room (c ∷ cs) w h = bind_room (call_acts t es qs c w) (commands_act t es qs cs) (call_room c w h) (commands_room cs)

occur_room : (m : Macro) (t : List ℕ) (d : Division) (w : Work) → Room w → DoneRoom (occur m t d w)
unfolding occur
occur_room m t d w h =
    bind_room (replaces t m.pattern (stops d) m.replacement w) (commands_act t m.pattern (stops d) m.commands) (replaces_room t m.pattern (stops d) m.replacement w h)
    (commands_room t m.pattern (stops d) m.commands)

-- A PASS

go_room : (a : Done) (k : Work → Walk) → DoneRoom a → ((w : Work) → Room w → WalkRoom (k w)) → WalkRoom (go_on a k)
unfolding go_on
go_room (bad r w) k h g = tt
go_room (good w) k h g = g w h

matched_room : (m : Macro) (t : List ℕ) (p : ℕ) (d : Division) (w : Work) (k : Work → Walk) → Room w → ((v : Work) → Room v → WalkRoom (k v)) → WalkRoom (matched m t p d w k)
unfolding matched
matched_room m t p d w k h g = go_room (occur m t d w) _ (occur_room m t d w h) (λ v a. (h, a, g v a))

end_room : (m : Macro) (t : List ℕ) (p : ℕ) (w : Work) (a : Option Division) → Room w → WalkRoom (at_end m t p w a)
unfolding at_end
end_room m t p w none h = h
end_room m t p w (some d) h = matched_room m t p d w (λ v. ended (good v)) h (λ v a. a)

onward_room : (q b k : ℕ) (go : ℕ → Option ℕ → Work → Walk) → ((s : ℕ) (l : Option ℕ) (v : Work) → Room v → WalkRoom (go s l v)) → (w : Work) → Room w → WalkRoom (onward q b k go w)
unfolding onward
onward_room q b zero go g w h = go_room (put b w) _ (put_room b w h) (λ v a. g zero (some q) v a)
onward_room q b (suc k) go g w h = g k (some q) w h

byte_room : (m : Macro) (t : List ℕ) (p b : ℕ) (last : Option ℕ) (w : Work) (go : ℕ → Option ℕ → Work → Walk) → ((s : ℕ) (l : Option ℕ) (v : Work) → Room v → WalkRoom (go s l v))
    → (a : Option Division) → Room w → WalkRoom (at_byte m t p b last w go a)
unfolding at_byte
byte_room m t p b last w go g none h = go_room (put b w) _ (put_room b w h) (λ v a. g zero last v a)
byte_room m t p b last w go g (some d) h = matched_room m t p d w (onward (end_of p d) b (end_of p d - p) go) h (λ v a. onward_room (end_of p d) b (end_of p d - p) go g v a)

walk_room : (m : Macro) (t s : List ℕ) (skip : ℕ) (last : Option ℕ) (p : ℕ) (w : Work) → Room w → WalkRoom (walk m t skip last p w s)
unfolding walk
walk_room m t [] skip last p w h = end_room m t p w (match w.state m.pattern last p []) h
walk_room m t (b ∷ bs) (suc skip) last p w h = walk_room m t bs skip last (suc p) w h
walk_room m t (b ∷ bs) zero last p w h =
    byte_room m t p b last w (λ k l v. walk m t k l (suc p) v bs) (λ k l v a. walk_room m t bs k l (suc p) v a) (match w.state m.pattern last p (b ∷ bs)) h

-- THE LAW
pub pass_room : PassRoom
unfolding pass
pass_room m t st = walk_room m t t 0 none 0 (record { out = []; size = 0; state = st }) (record { exact = refl; fits = omega arith })

-- the moment at a pass's end, and the text that it makes
pub outcome_room : (k : Walk) → WalkRoom k → DoneRoom (outcome k)
unfolding outcome
outcome_room (ended d) h = h
outcome_room (occurs o k) h = outcome_room k h.2

pub text_room : (w : Work) → Room w → length (text_of w) ≤ most_line_bytes
unfolding text_of
text_room w h =
    let a : length (onto w.out []) ≡ length w.out + 0 = onto_length w.out [] in
    let b = h.exact in
    let c = h.fits in
    omega arith
