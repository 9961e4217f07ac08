-- A walk's next item, and how far its numbers can grow. Assumes nothing.
use Prim.Native.Nat.{ℕ, suc, ◌+◌, ◌*◌, ◌/◌, ◌%◌, ◌≤◌, ◌<◌}
use mathlib.Core.Path.{◌≡◌, refl, sym, ap, ◌∙◌}
use mathlib.Core.Bool.{Bool, true, false, not, ◌&&◌, ◌||◌}
use mathlib.Core.List.{List, [], ◌∷◌}
use mathlib.Core.Option.{Option, none, some}
use native.Mathlib.Numerals.{add-one}
use native.Mathlib.Omega.{arith}
use lib.Dec.{eqb, ltb}
use lib.ListN.{length, get_or, drop, drop_of_length-le}
use lib.Seq.{drop-cons}
use Rattle.macros.specs.Macro.{Closure, PatternUnit, Move, Call, pick, among, within, ascii_lower}
use Rattle.macros.specs.Macro.Closure.{once, one_or_more, zero_or_more}
use Rattle.macros.specs.Macro.PatternUnit.{literal, kind, class, call_of}
use Rattle.macros.specs.Macro.Move.{still, before, after}
use Rattle.macros.specs.Macro.Call.{insert, store_tag, set_to, store_text, set_increment, divide}
use Rattle.macros.specs.Read.{signs}
use Rattle.std.specs.Prelude.{Option as Found, Some}
use Rattle.form_table.specs.Walk.{given, bit, walk}
use Rattle.form_table.specs.PatternWalk.{Joint, Inside, PatternState, closure_length, literal_length, joins_at, element_at, element_step, sign_step, piece_step, owed, at_start, member_length, member_step, range_step, pattern_step, pattern_start, unit_of, closure_of}
use Rattle.form_table.specs.PatternWalk.Inside.{at_bracket, at_tilde, at_single, at_dash, at_range}
use Rattle.form_table.specs.PatternWalk.PatternSpot.{behind_piece, in_class, in_range}
use Rattle.form_table.specs.PatternWalk.PatternState.{pattern_at}
use Rattle.form_table.specs.ActionWalk as actions
use Rattle.form_table.specs.ActionWalk.{ActionState, move_length, text_length, move_of, call_as, call_at, called_step, call_step, begin_step, text_step, high_step, action_step, action_start}
use Rattle.form_table.specs.ActionWalk.ActionSpot.{behind_action, tag_due, length_due, text_due, low_due, high_due}
use Rattle.form_table.specs.ActionWalk.ActionState.{action_at}
use Rattle.check_table.specs.declared.pattern.PatternState.{PatternState as PatternCode}
use Rattle.check_table.specs.declared.actions.ActionState.{ActionState as ActionCode}
use Rattle.check_table.specs.PatternCode.{state_of as state_of_pattern, next_of as next_of_pattern}
use Rattle.check_table.specs.ActionCode.{state_of as state_of_action, next_of as next_of_action}
use Rattle.check_table.proofs.ActionLaws.{figures_small}

-- ITEMS

two_more : (l : List ℕ) (i : ℕ) → i + 1 < length l → drop i l ≡ get_or l i 0 ∷ get_or l (i + 1) 0 ∷ drop (i + 2) l
two_more l i h =
    drop-cons l i 0 (omega arith)
    ∙ ap (λ (x : List ℕ). get_or l i 0 ∷ x) (ap (λ (x : ℕ). drop x l) (sym (add-one i)) ∙ drop-cons l (i + 1) 0 h ∙ ap (λ (x : ℕ). get_or l (i + 1) 0 ∷ drop x l) (let z : suc (i + 1) ≡ i + 2 = omega arith in z))

one_more : (l : List ℕ) (i : ℕ) → i < length l → length l ≤ i + 1 → drop i l ≡ get_or l i 0 ∷ []
one_more l i h g = drop-cons l i 0 h ∙ ap (λ (x : List ℕ). get_or l i 0 ∷ x) (drop_of_length-le l {i = suc i} (omega arith))

module _ {S : Type 0} (step : S → ℕ → ℕ → Option S) (l : List ℕ) (s : S) (i : ℕ) where
  pub walk_on : (s' : S) → i + 1 < length l → step s (get_or l i 0) (get_or l (i + 1) 0) ≡ some s' → walk step s (drop i l) ≡ walk step s' (drop (i + 2) l)
  unfolding walk
  walk_on s' h e = rw (two_more l i h, e, walk)

  pub walk_refused : i + 1 < length l → step s (get_or l i 0) (get_or l (i + 1) 0) ≡ none → walk step s (drop i l) ≡ none
  unfolding walk
  walk_refused h e = rw (two_more l i h, e, walk)

  pub walk_odd : i < length l → length l ≤ i + 1 → walk step s (drop i l) ≡ none
  unfolding walk
  walk_odd h g = rw (one_more l i h g)

  pub walk_done : length l ≤ i → walk step s (drop i l) ≡ some s
  unfolding walk
  walk_done h = rw (drop_of_length-le l {i = i} h)

-- BOUNDS

-- an answer, if there is one, is of at most b
abbrev pub Within : {S : Type 0} → (S → ℕ) → ℕ → Option S → Type 0
Within size b none = Unit {0}
Within size b (some s) = size s ≤ b

within_pick : {S : Type 0} (size : S → ℕ) (b : ℕ) (t : Bool) (x y : Option S) → Within size b x → Within size b y → Within size b (pick t x y)
unfolding pick
within_pick size b true x y p q = p
within_pick size b false x y p q = q

within_given : {S : Type 0} (size : S → ℕ) (b : ℕ) (t : Bool) {s : S} → size s ≤ b → Within size b (given t s)
unfolding given
within_given size b true p = p
within_given size b false p = tt

widen : {S : Type 0} (size : S → ℕ) (a b : ℕ) (x : Option S) → a ≤ b → Within size a x → Within size b x
widen size a b none h w = tt
widen size a b (some s) h w = omega arith

module _ {S : Type 0} (size : S → ℕ) (step : S → ℕ → ℕ → Option S) where
  steps_grow :
      (l : List ℕ) (b : ℕ) (x : Option S) → Within size (b + 11) x → ((s : S) → Within size (size s + 11 * length l) (walk step s l))
      → Within size (b + 11 * suc (suc (length l))) (elim x [ none ↦ none | some s ↦ walk step s l ])
  steps_grow l b none h f = tt
  steps_grow l b (some s) h f = widen size (size s + 11 * length l) (b + 11 * suc (suc (length l))) (walk step s l) (omega arith) (f s)

  pub walk_grows : ((s : S) (c o : ℕ) → Within size (size s + 11) (step s c o)) → (l : List ℕ) (s : S) → Within size (size s + 11 * length l) (walk step s l)
  unfolding walk
  walk_grows grow [] s = omega arith
  walk_grows grow (c ∷ []) s = tt
  walk_grows grow (c ∷ o ∷ l) s = steps_grow l (size s) (step s c o) (grow s c o) (λ s'. walk_grows grow l s')

bit_most : (t : Bool) → bit t ≤ 1
unfolding bit
bit_most true = omega arith
bit_most false = omega arith

closure_most : (k : Closure) → closure_length k ≤ 2
unfolding closure_length
closure_most once = omega arith
closure_most one_or_more = omega arith
closure_most zero_or_more = omega arith

owed_most : (w : Inside) → owed w ≤ 1
unfolding owed
owed_most at_bracket = omega arith
owed_most at_tilde = omega arith
owed_most at_single = omega arith
owed_most at_dash = omega arith
owed_most at_range = omega arith

move_most : (v : Move) → move_length v ≤ 1
unfolding move_length
move_most still = omega arith
move_most (before s) = omega arith
move_most (after s) = omega arith

literal_most : (j : Joint) (b : ℕ) → literal_length j b ≤ 2
unfolding literal_length
literal_most j b = omega (arith, bit_most (among (47 ∷ signs) b || joins_at j b))

member_most : (w : Inside) (b : ℕ) → member_length w b ≤ 2
unfolding member_length
member_most w b = omega (arith, bit_most (among (93 ∷ 39 ∷ 59 ∷ 10 ∷ 92 ∷ []) b || eqb b 126 && at_start w))

replacement_most : (a : Bool) (b : ℕ) → actions.literal_length a b ≤ 2
unfolding actions.literal_length
replacement_most a b = omega (arith, bit_most (among (47 ∷ 39 ∷ 59 ∷ 10 ∷ 92 ∷ 123 ∷ []) b || eqb b 40 && a))

text_most : (b : ℕ) → text_length b ≤ 2
unfolding text_length
text_most b = omega (arith, bit_most (among (47 ∷ 58 ∷ 39 ∷ 59 ∷ 10 ∷ 92 ∷ []) b))

-- the same of a number that the code has
pub literal_small : (r : ℕ) (j : Joint) (b : ℕ) → r ≡ literal_length j b → r ≤ 2
literal_small r j b e = omega (arith, literal_most j b)

pub member_small : (r : ℕ) (w : Inside) (b : ℕ) → r ≡ member_length w b → r ≤ 2
member_small r w b e = omega (arith, member_most w b)

pub owed_small : (r : ℕ) (w : Inside) → r ≡ owed w → r ≤ 1
owed_small r w e = omega (arith, owed_most w)

pub replacement_small : (r : ℕ) (a : Bool) (b : ℕ) → r ≡ actions.literal_length a b → r ≤ 2
replacement_small r a b e = omega (arith, replacement_most a b)

pub text_small : (r b : ℕ) → r ≡ text_length b → r ≤ 2
text_small r b e = omega (arith, text_most b)

-- PATTERNS

-- what grows in a pattern's state; its tags are at most 99
unfoldable pub bulk : PatternState → ℕ
bulk (pattern_at n t d e at) = n + d + e

module _ (n t d e : ℕ) where
  element_grows : (j : Joint) (u : Option PatternUnit) (k : Option Closure) → Within bulk (n + d + e + 11) (element_step n t d e j u k)
  unfolding element_step element_at bulk
  element_grows j none k = tt
  element_grows j (some u) none = tt
  element_grows j (some (literal b)) (some k) = omega (arith, literal_most j b, closure_most k)
  element_grows j (some (kind m)) (some k) = omega (arith, closure_most k)
  element_grows j (some (call_of m i)) (some k) = omega (arith, closure_most k)
  element_grows j (some (class neg ms)) (some k) = omega (arith, bit_most neg, closure_most k)

  sign_grows : (c : ℕ) → Within bulk (n + d + e + 11) (sign_step n t d e c)
  unfolding sign_step bulk
  sign_grows c =
      within_pick bulk _ (eqb c 1) _ _ (within_given bulk _ (ltb t 99) (omega arith))
      (within_pick bulk _ (eqb c 2) _ _ (within_given bulk _ (ltb 0 d) (omega arith)) (within_pick bulk _ (eqb c 3) _ _ (omega arith) (within_pick bulk _ (eqb c 4) _ _ (omega arith) tt)))

  piece_grows : (j : Joint) (c o : ℕ) → Within bulk (n + d + e + 11) (piece_step n t d e j c o)
  unfolding piece_step
  piece_grows j c o = within_pick bulk _ (ltb c 8) _ _ (within_pick bulk _ (eqb o 0) _ _ (sign_grows c) tt) (element_grows j (unit_of (c / 4) o) (closure_of (c % 4)))

  member_grows : (j : Joint) (w : Inside) (c o : ℕ) → Within bulk (n + d + e + 11) (member_step n t d e j w c o)
  unfolding member_step bulk
  member_grows j w c o =
      within_pick bulk _ (eqb c 32) _ _ (within_given bulk _ (within 1 255 o) (omega (arith, owed_most w, member_most w o)))
      (within_pick bulk _ (eqb c 33) _ _ (omega (arith, owed_most w)) (within_pick bulk _ (eqb c 35) _ _ (within_given bulk _ _ (omega arith)) tt))

  range_grows : (j : Joint) (a c o : ℕ) → Within bulk (n + d + e + 11) (range_step n t d e j a c o)
  unfolding range_step bulk
  range_grows j a c o = within_given bulk _ _ (omega arith)

pub pattern_grows : (s : PatternState) (c o : ℕ) → Within bulk (bulk s + 11) (pattern_step s c o)
unfolding pattern_step bulk
pattern_grows (pattern_at n t d e (behind_piece j)) c o = piece_grows n t d e j c o
pattern_grows (pattern_at n t d e (in_class j w)) c o = member_grows n t d e j w c o
pattern_grows (pattern_at n t d e (in_range j a)) c o = range_grows n t d e j a c o

-- ACTIONS

unfoldable pub size : ActionState → ℕ
size (action_at n at) = n

module _ (cmd : Bool) (n : ℕ) where
  call_grows : (c : Call) → Within size (n + 11) (call_at cmd n c)
  unfolding call_at size
  call_grows (insert m i v) = within_given size _ (not cmd) (omega (arith, move_most v))
  call_grows (store_tag t i v) = omega (arith, move_most v)
  call_grows (store_text i v t) = omega (arith, move_most v)
  call_grows (set_to m i k) = omega arith
  call_grows (set_increment i k) = omega arith
  call_grows (divide i k) = within_given size _ (not cmd) (omega arith)

  called_grows : (c : Option Call) → Within size (n + 11) (called_step cmd n c)
  unfolding called_step
  called_grows none = tt
  called_grows (some c) = call_grows c

  moved_grows : (c o : ℕ) (v : Option Move) → Within size (n + 11) (call_step cmd n c o v)
  unfolding call_step
  moved_grows c o none = tt
  moved_grows c o (some v) = within_pick size _ (ascii_lower o) _ _ (called_grows (call_as c o v)) tt

  begin_grows : (k : ℕ) (a : Bool) (c o : ℕ) → Within size (n + 11) (begin_step cmd k n a c o)
  unfolding begin_step size
  begin_grows k a c o =
      within_pick size _ (eqb c 40) _ _ (within_given size _ _ (omega (arith, replacement_most a o)))
      (within_pick size _ (eqb c 41) _ _ (within_given size _ _ (omega (arith, figures_small _ o refl))) (moved_grows (c / 8) o (move_of (c % 8))))

text_grows : (n q c o : ℕ) → Within size (n + 11) (text_step n q c o)
unfolding text_step size
text_grows n q c o =
    within_pick size _ (eqb q 1) _ _ (within_given size _ _ (omega (arith, text_most c))) (within_given size _ _ (omega (arith, text_most c, text_most o)))

pub action_grows : (cmd : Bool) (k : ℕ) (s : ActionState) (c o : ℕ) → Within size (size s + 11) (action_step cmd k s c o)
unfolding action_step high_step size
action_grows cmd k (action_at n (behind_action a)) c o = begin_grows cmd n k a c o
action_grows cmd k (action_at n tag_due) c o = within_given size _ _ (omega (arith, figures_small _ o refl))
action_grows cmd k (action_at n length_due) c o = within_given size _ _ (omega arith)
action_grows cmd k (action_at n (text_due q)) c o = text_grows n q c o
action_grows cmd k (action_at n (low_due l)) c o = omega arith
action_grows cmd k (action_at n (high_due l v)) c o = within_given size _ _ (omega (arith, figures_small _ (v + 65536 * c + 16777216 * o) refl))

-- THE CODE'S STATES

module _ (s : PatternCode) (r : Found PatternCode) (is : r ≡ Some s) where
  pub pattern_next : (x : Option PatternState) → next_of_pattern r ≡ x → x ≡ some (state_of_pattern s)
  unfolding next_of_pattern
  pattern_next x e = sym e ∙ ap next_of_pattern is

  pub pattern_bound :
      (b : PatternCode) (c o : ℕ) → next_of_pattern r ≡ pattern_step (state_of_pattern b) c o
      → s.spelled + s.braces + s.elements ≤ b.spelled + b.braces + b.elements + 11
  unfolding state_of_pattern bulk
  pattern_bound b c o e = rw (pattern_next (pattern_step (state_of_pattern b) c o) e) at (pattern_grows (state_of_pattern b) c o)

  pub pattern_fits : (l : List ℕ) → next_of_pattern r ≡ walk pattern_step pattern_start l → s.spelled ≤ 6 + 11 * length l
  unfolding state_of_pattern bulk pattern_start
  pattern_fits l e =
      let h : bulk (state_of_pattern s) ≤ bulk pattern_start + 11 * length l = rw (pattern_next (walk pattern_step pattern_start l) e) at (walk_grows bulk pattern_step pattern_grows l pattern_start) in
      omega arith

module _ (s : ActionCode) (r : Found ActionCode) (is : r ≡ Some s) where
  pub action_next : (x : Option ActionState) → next_of_action r ≡ x → x ≡ some (state_of_action s)
  unfolding next_of_action
  action_next x e = sym e ∙ ap next_of_action is

  pub action_bound : (b : ActionCode) (cmd : Bool) (k c o : ℕ) → next_of_action r ≡ action_step cmd k (state_of_action b) c o → s.spelled ≤ b.spelled + 11
  unfolding state_of_action size
  action_bound b cmd k c o e = rw (action_next (action_step cmd k (state_of_action b) c o) e) at (action_grows cmd k (state_of_action b) c o)

  pub actions_fit : (cmd : Bool) (k n : ℕ) (l : List ℕ) → next_of_action r ≡ walk (action_step cmd k) (action_start n) l → s.spelled ≤ n + 11 * length l
  unfolding state_of_action size action_start
  actions_fit cmd k n l e = rw (action_next (walk (action_step cmd k) (action_start n) l) e) at (walk_grows size (action_step cmd k) (action_grows cmd k) l (action_start n))
