-- The states of the walk over a replacement or commands, each by what has been walked over, newest first.
use mathlib.Core.Path.{◌≡◌, refl, sym, ◌∙◌}
use mathlib.Core.Bool.{Bool, true, false, ◌||◌}
use mathlib.Core.List.{List, [], ◌∷◌, ◌++◌, append_assoc, append-nil, reverse, reverse_aux, reverse-cons}
use mathlib.Core.Option.{Option, none, some}
use Prim.Native.Nat.{ℕ, ◌+◌, ◌*◌, ◌%◌, ◌≤◌, ◌<◌}
use native.Mathlib.Omega.{arith}
use lib.Dec.{eqb}
use lib.ListN.{length, length-append}
use Rattle.macros.specs.Bounds.{most_entry_bytes}
use Rattle.macros.specs.Macro.{Mark, Move, Call, Action, pick, among}
use Rattle.macros.specs.Macro.Mark.{stack, counter}
use Rattle.macros.specs.Macro.Move.{still, before, after}
use Rattle.macros.specs.Macro.Call.{insert, store_tag, set_to, store_text, set_increment, divide}
use Rattle.macros.specs.Macro.Action.{text, tag, call}
use Rattle.macros.specs.Write.{byte, digits, name_bytes, inner_bytes, call_bytes}
use Rattle.macros.specs.Formed.{Bytes, Letter, FormedAction, Commands, limit}
use Rattle.macros.specs.Spell.{spell_text, is_mark, needs_text, mark_in, leaves_mark, spell_action, spell_replacement}
use Rattle.form_table.specs.Form.{move_code, action_items, replacement_items}
use Rattle.form_table.specs.ActionWalk.{ActionState, figures, move_length, literal_length, text_length}
use Rattle.form_table.specs.ActionWalk.ActionSpot.{behind_action, tag_due, length_due, text_due, low_due, high_due}
use Rattle.form_table.specs.ActionWalk.ActionState.{action_at}
use Rattle.form_table.proofs.Walks.{byte_length}
use Rattle.form_table.proofs.Figures.{digits_figures}

-- a call with a number of four bytes
pub data Numbered : Type 0 where
  sets : Mark → ℕ → Numbered
  increases : ℕ → Numbered
  divides : ℕ → Numbered

abbrev pub numbered : Numbered → ℕ → Call
numbered (sets m i) n = set_to m i n
numbered (increases i) n = set_increment i n
numbered (divides i) n = divide i n

abbrev pub limit_of : Numbered → ℕ
limit_of (sets m i) = limit m
limit_of (increases i) = limit counter
limit_of (divides i) = limit counter

abbrev pub letter_in : Numbered → ℕ
letter_in (sets m i) = i
letter_in (increases i) = i
letter_in (divides i) = i

abbrev pub first_code : Numbered → ℕ
first_code (sets stack i) = 80
first_code (sets counter i) = 88
first_code (increases i) = 96
first_code (divides i) = 104

-- its letter, and where it may stand; cmd: among commands
abbrev pub FormedNumbered : (cmd : Bool) → Numbered → Type 0
FormedNumbered cmd (sets m i) = Letter i
FormedNumbered cmd (increases i) = Letter i
FormedNumbered cmd (divides i) = Letter i × (cmd ≡ true → ⊥)

-- actions; in a call, with its letter and move: its tag, its length, so many bytes of its text to come; a number's halves
pub data Walked : Type 0 where
  acts : List Action → Walked
  tagging : List Action → ℕ → Move → Walked
  measuring : List Action → ℕ → Move → Walked
  texting : List Action → ℕ → Move → (t : List ℕ) → (q : ℕ) → Walked
  low : List Action → Numbered → Walked
  high : List Action → Numbered → (a b : ℕ) → Walked

abbrev pub AsCommand : Action → Type 0
AsCommand (text b) = ⊥
AsCommand (tag n) = ⊥
AsCommand (call c) = Commands c

-- an action behind a pattern of k tags, in a replacement or, if cmd, as a command
abbrev pub Allowed : Bool → ℕ → Action → Type 0
Allowed cmd k x = FormedAction k x × (cmd ≡ true → AsCommand x)

abbrev pub AllAllowed : Bool → ℕ → List Action → Type 0
AllAllowed cmd k [] = Unit {0}
AllAllowed cmd k (x ∷ xs) = Allowed cmd k x × AllAllowed cmd k xs

-- a text of which q bytes are still to come
pub record Texting (i : ℕ) (t : List ℕ) (q : ℕ) : Type 0 where
  pub letter : Letter i
  pub bytes : Bytes t
  pub even : length t % 2 ≡ 0
  pub more : 0 < q
  pub short : length t + q ≤ most_entry_bytes

abbrev pub FormedWalked : Bool → ℕ → Walked → Type 0
FormedWalked cmd k (acts xs) = AllAllowed cmd k xs
FormedWalked cmd k (tagging xs i v) = AllAllowed cmd k xs × Letter i
FormedWalked cmd k (measuring xs i v) = AllAllowed cmd k xs × Letter i
FormedWalked cmd k (texting xs i v t q) = AllAllowed cmd k xs × Texting i t q
FormedWalked cmd k (low xs c) = AllAllowed cmd k xs × FormedNumbered cmd c
FormedWalked cmd k (high xs c a b) = AllAllowed cmd k xs × FormedNumbered cmd c × (a ≤ 255) × (b ≤ 255)

unfoldable pub items_of : Walked → List ℕ
items_of (acts xs) = replacement_items (reverse xs)
items_of (tagging xs i v) = replacement_items (reverse xs) ++ ((64 + move_code v) ∷ i ∷ [])
items_of (measuring xs i v) = replacement_items (reverse xs) ++ ((72 + move_code v) ∷ i ∷ [])
items_of (texting xs i v t q) = replacement_items (reverse xs) ++ ((72 + move_code v) ∷ i ∷ 43 ∷ (length t + q) ∷ reverse t)
items_of (low xs c) = replacement_items (reverse xs) ++ (first_code c ∷ letter_in c ∷ [])
items_of (high xs c a b) = replacement_items (reverse xs) ++ (first_code c ∷ letter_in c ∷ a ∷ b ∷ [])

-- COSTS

abbrev pub top : List Action → Option Mark
top [] = none
top (x ∷ xs) = leaves_mark x

unfoldable pub cost : List Action → ℕ
cost [] = 0
cost (x ∷ xs) = cost xs + length (spell_action (top xs) x)

cost_onto : (xs l : List Action) → length (spell_replacement none (reverse_aux xs l)) ≡ cost xs + length (spell_replacement (top xs) l)
unfolding cost spell_replacement
cost_onto [] l = omega arith
cost_onto (x ∷ xs) l = cost_onto xs (x ∷ l) ∙ omega (arith, length-append (spell_action (top xs) x) (spell_replacement (leaves_mark x) l))

pub cost_spelled : (xs : List Action) → length (spell_replacement none (reverse xs)) ≡ cost xs
unfolding spell_replacement
cost_spelled xs = cost_onto xs [] ∙ omega arith

unfoldable pub text_cost : List ℕ → ℕ
text_cost [] = 0
text_cost (b ∷ t) = text_cost t + text_length b

text_length_lem : (b : ℕ) → length (byte (among (47 ∷ 58 ∷ 39 ∷ 59 ∷ 10 ∷ 92 ∷ []) b) b) ≡ text_length b
unfolding text_length
text_length_lem b = byte_length (among (47 ∷ 58 ∷ 39 ∷ 59 ∷ 10 ∷ 92 ∷ []) b) b

text_onto : (t l : List ℕ) → length (spell_text (reverse_aux t l)) ≡ text_cost t + length (spell_text l)
unfolding text_cost spell_text
text_onto [] l = omega arith
text_onto (b ∷ t) l =
    text_onto t (b ∷ l) ∙ omega (arith, text_length_lem b, length-append (byte (among (47 ∷ 58 ∷ 39 ∷ 59 ∷ 10 ∷ 92 ∷ []) b) b) (spell_text l))

pub text_cost_lem : (t : List ℕ) → length (spell_text (reverse t)) ≡ text_cost t
unfolding spell_text
text_cost_lem t = text_onto t [] ∙ omega arith

pub move_length_lem : (i : ℕ) (v : Move) → length (name_bytes i v) ≡ 1 + move_length v
unfolding name_bytes move_length
move_length_lem i still = refl
move_length_lem i (before s) = refl
move_length_lem i (after s) = refl

-- STATES, behind n bytes spelled before

abbrev pub state_of : ℕ → Walked → ActionState
state_of n (acts xs) = action_at (n + cost xs) (behind_action (is_mark (top xs)))
state_of n (tagging xs i v) = action_at (n + cost xs + 5 + move_length v) tag_due
state_of n (measuring xs i v) = action_at (n + cost xs + 6 + move_length v) length_due
state_of n (texting xs i v t q) = action_at (n + cost xs + 6 + move_length v + text_cost t) (text_due q)
state_of n (low xs c) = action_at (n + cost xs + 5) (low_due (limit_of c))
state_of n (high xs c a b) = action_at (n + cost xs + 5) (high_due (limit_of c) (a + 256 * b))

same : (n m : ℕ) (i j : Bool) → n ≡ m → i ≡ j → action_at n (behind_action i) ≡ action_at m (behind_action j)
same n m i j p q = cc

mark_in_lem : (b : ℕ) → (eqb b 38 || eqb b 35) ≡ is_mark (mark_in b)
unfolding is_mark mark_in pick
mark_in_lem b = by (eqb b 38) (eqb b 35)
  where
    by : (x y : Bool) → (x || y) ≡ is_mark (pick x (some stack) (pick y (some counter) none))
    by true y = refl
    by false true = refl
    by false false = refl

module _ (n : ℕ) (xs : List Action) where
  pub at_text : (b : ℕ) → action_at (n + cost xs + literal_length (is_mark (top xs)) b) (behind_action (eqb b 38 || eqb b 35)) ≡ state_of n (acts (text b ∷ xs))
  unfolding cost spell_action leaves_mark literal_length needs_text
  at_text b = same _ _ _ _ (omega (arith, byte_length (needs_text (top xs) b) b)) (mark_in_lem b)

  pub at_tag : (t : ℕ) → t ≤ 999999999 → action_at (n + cost xs + 2 + figures t) (behind_action false) ≡ state_of n (acts (tag t ∷ xs))
  unfolding cost spell_action leaves_mark is_mark
  at_tag t h = same _ _ _ _ (omega (arith, digits_figures t h, length-append (digits t) (125 ∷ []))) refl

  pub at_insert : (m : Mark) (i : ℕ) (v : Move) → action_at (n + cost xs + 4 + move_length v) (behind_action false) ≡ state_of n (acts (call (insert m i v) ∷ xs))
  unfolding cost spell_action leaves_mark is_mark call_bytes inner_bytes
  at_insert m i v = same _ _ _ _ (omega (arith, move_length_lem i v, length-append (name_bytes i v) (41 ∷ []))) refl

  pub at_store_tag : (t i : ℕ) (v : Move) → t ≤ 999999999
      → action_at (n + cost xs + 5 + move_length v + figures t) (behind_action false) ≡ state_of n (acts (call (store_tag t i v) ∷ xs))
  unfolding cost spell_action leaves_mark is_mark call_bytes inner_bytes
  at_store_tag t i v h =
      same _ _ _ _
      (omega (arith, digits_figures t h, move_length_lem i v, length-append (digits t) (44 ∷ (name_bytes i v ++ (41 ∷ []))), length-append (name_bytes i v) (41 ∷ []))) refl

  pub at_number : (c : Numbered) (w : ℕ) → w ≤ 999999999 → action_at (n + cost xs + 5 + figures w) (behind_action false) ≡ state_of n (acts (call (numbered c w) ∷ xs))
  unfolding cost spell_action leaves_mark is_mark call_bytes inner_bytes
  at_number (sets m i) w h = same _ _ _ _ (omega (arith, digits_figures w h, length-append (digits w) (41 ∷ []))) refl
  at_number (increases i) w h = same _ _ _ _ (omega (arith, digits_figures w h, length-append (digits w) (41 ∷ []))) refl
  at_number (divides i) w h = same _ _ _ _ (omega (arith, digits_figures w h, length-append (digits w) (41 ∷ []))) refl

  pub at_store_text : (i : ℕ) (v : Move) (t : List ℕ)
      → action_at (n + cost xs + 6 + move_length v + text_cost t) (behind_action false) ≡ state_of n (acts (call (store_text i v (reverse t)) ∷ xs))
  unfolding cost spell_action leaves_mark is_mark call_bytes inner_bytes
  at_store_text i v t =
      same _ _ _ _
      (omega (
        arith,
        text_cost_lem t,
        move_length_lem i v,
        length-append (name_bytes i v) (58 ∷ (spell_text (reverse t) ++ (58 ∷ 41 ∷ []))),
        length-append (spell_text (reverse t)) (58 ∷ 41 ∷ []),
      )) refl

-- ITEMS

pub items_append : (xs ys : List Action) → replacement_items (xs ++ ys) ≡ replacement_items xs ++ replacement_items ys
unfolding replacement_items
items_append [] ys = refl
items_append (x ∷ xs) ys = rw (items_append xs ys) (sym (append_assoc (action_items x) (replacement_items xs) (replacement_items ys)))

pub more_acts : (x : Action) (xs : List Action) → items_of (acts (x ∷ xs)) ≡ items_of (acts xs) ++ action_items x
unfolding items_of replacement_items
more_acts x xs = rw (reverse-cons x xs, items_append (reverse xs) (x ∷ [])) (rw (append-nil (action_items x)))
