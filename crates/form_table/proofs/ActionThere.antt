-- The walk over a replacement or commands accepts the items of well formed actions.
use mathlib.Core.Path.{◌≡◌, refl, ap, ◌∙◌}
use mathlib.Core.Bool.{Bool, true, false, not}
use mathlib.Core.List.{List, [], ◌∷◌, ◌++◌, reverse, reverse_aux}
use mathlib.Core.Option.{some}
use Prim.Native.Nat.{ℕ, suc, ◌+◌, ◌-◌, ◌*◌, ◌/◌, ◌%◌, ◌≤◌}
use native.Mathlib.Omega.{arith}
use lib.ListN.{length}
use borrow.Author.Tests.{ne_eqb, le-leb}
use Rattle.macros.specs.Bounds.{most_tags, most_entry_bytes}
use Rattle.macros.specs.Macro.{Move, Call, Action, pick, within, ascii_lower}
use Rattle.macros.specs.Macro.Call.{insert, store_tag, set_to, store_text, set_increment, divide}
use Rattle.macros.specs.Macro.Action.{text, tag, call}
use Rattle.macros.specs.Formed.{Bytes, Letter, number_fits}
use Rattle.macros.specs.Spell.{is_mark}
use Rattle.form_bytes.specs.Fours.{four}
use Rattle.form_bytes.proofs.Laws.{four_there}
use Rattle.form_table.specs.Form.{move_code, evened, call_items, action_items, replacement_items}
use Rattle.form_table.specs.Walk.{given, walk}
use Rattle.form_table.specs.ActionWalk.{ActionState, move_length, call_at, called_step, call_step, begin_step, text_spot, text_step, high_step, action_step, action_start}
use Rattle.form_table.specs.ActionWalk.ActionSpot.{behind_action}
use Rattle.form_table.specs.ActionWalk.ActionState.{action_at}
use Rattle.form_table.proofs.Basics.{within_of, within_high}
use Rattle.form_table.proofs.Walks.{walk_on}
use Rattle.form_table.proofs.ActionCodes.{move_of_lem, code_of, letter_of, move_in, head_call, call_split, call_as_lem, code_call, code_move, code_range}
use Rattle.form_table.proofs.ActionStates.{Numbered, numbered, limit_of, Walked, Allowed, AllAllowed, cost, text_cost, state_of, at_text, at_tag, at_insert, at_store_tag, at_number, at_store_text}
use Rattle.form_table.proofs.ActionStates.Numbered.{sets, increases, divides}
use Rattle.form_table.proofs.ActionStates.Walked.{acts, tagging, measuring, low, high}
use Rattle.form_table.proofs.ActionSound.{numbered_limit}
use Rattle.form_table.proofs.Texts.{evened_even, evened_odd, evened_two}

replaces : (cmd : Bool) → (cmd ≡ true → ⊥) → not cmd ≡ true
replaces true f = absurd (f refl)
replaces false f = refl

module _ (cmd : Bool) (k n : ℕ) (xs : List Action) (l : List ℕ) where
  -- one step, to a state by what has been walked over
  on : (w v : Walked) (c o : ℕ) (r : List ℕ) → action_step cmd k (state_of n w) c o ≡ some (state_of n v)
      → walk (action_step cmd k) (state_of n w) (c ∷ o ∷ r) ≡ walk (action_step cmd k) (state_of n v) r
  on w v c o r e = walk_on (action_step cmd k) (state_of n w) (state_of n v) c o r e

  -- TEXTS

  texts_there : (i : ℕ) (v : Move) (t u : List ℕ) → Bytes t
      → walk (action_step cmd k) (action_at (n + cost xs + 6 + move_length v + text_cost u) (text_spot (length t))) (evened t ++ l)
      ≡ walk (action_step cmd k) (state_of n (acts (call (store_text i v (reverse_aux u t)) ∷ xs))) l
  unfolding text_spot pick action_step text_step text_cost given
  texts_there i v [] u b = rw (evened_even [] refl) (ap (λ (s : ActionState). walk (action_step cmd k) s l) (at_store_text n xs i v u))
  texts_there i v (a ∷ []) u b =
      rw (evened_odd (a ∷ []) refl)
      (walk_on (action_step cmd k) _ (state_of n (acts (call (store_text i v (reverse (a ∷ u))) ∷ xs))) a 0 l
      (rw (within_of 1 255 a b.0.0 b.0.1) (ap some (ap (λ (m : ℕ). action_at m (behind_action false)) (omega arith) ∙ at_store_text n xs i v (a ∷ u)))))
  texts_there i v (a ∷ c ∷ t) u b =
      rw (evened_two a c t, ne_eqb (suc (suc (length t))) 0 (omega arith))
      (walk_on (action_step cmd k) _ (action_at (n + cost xs + 6 + move_length v + text_cost (c ∷ a ∷ u)) (text_spot (length t))) a c (evened t ++ l)
      (rw (ne_eqb (suc (suc (length t))) 1 (omega arith), within_of 1 255 a b.0.0 b.0.1, within_of 1 255 c b.1.0.0 b.1.0.1, e)
      (ap (λ (m : ℕ). some (action_at m (text_spot (length t)))) (omega arith)))
      ∙ texts_there i v t (c ∷ a ∷ u) b.1.1)
    where
      e : suc (suc (length t)) - 2 ≡ length t
      e = omega arith

  -- CALLS

  call_begins : (c : Call) → Letter (letter_of c) → action_step cmd k (state_of n (acts xs)) (8 * code_of c + move_code (move_in c)) (letter_of c) ≡ call_at cmd (n + cost xs) (head_call c)
  unfolding action_step begin_step call_step called_step ascii_lower pick
  call_begins c h =
      rw (
        ne_eqb (8 * code_of c + move_code (move_in c)) 40 (omega (arith, code_range c)),
        ne_eqb (8 * code_of c + move_code (move_in c)) 41 (omega (arith, code_range c)),
        code_call (code_of c) (move_in c),
        code_move (code_of c) (move_in c),
        move_of_lem (move_in c),
        within_of 97 122 (letter_of c) h.0 h.1,
        call_as_lem c,
      )

  -- a number's two halves
  number_there : (d : Numbered) (w : ℕ) → within 1 (limit_of d) w ≡ true
      → walk (action_step cmd k) (state_of n (low xs d)) (four w ++ l) ≡ walk (action_step cmd k) (state_of n (acts (call (numbered d w) ∷ xs))) l
  unfolding four action_step high_step given
  number_there d w e =
      on (low xs d) (high xs d (w % 256) (w / 256 % 256)) _ _ _ refl
      ∙ on (high xs d (w % 256) (w / 256 % 256)) (acts (call (numbered d w) ∷ xs)) _ _ l
      (rw (four_there w, e) (ap some (at_number n xs d w (omega (arith, numbered_limit d, within_high 1 (limit_of d) w e)))))

  first : (c : Call) (s : ActionState) (r : List ℕ) → Letter (letter_of c) → call_at cmd (n + cost xs) (head_call c) ≡ some s
      → walk (action_step cmd k) (state_of n (acts xs)) ((8 * code_of c + move_code (move_in c)) ∷ letter_of c ∷ r) ≡ walk (action_step cmd k) s r
  first c s r h e = walk_on (action_step cmd k) (state_of n (acts xs)) s _ _ r (call_begins c h ∙ e)

  call_there : (c : Call) → k ≤ most_tags → Allowed cmd k (call c)
      → walk (action_step cmd k) (state_of n (acts xs)) (call_items c ++ l) ≡ walk (action_step cmd k) (state_of n (acts (call c ∷ xs))) l
  unfolding call_at action_step given number_fits text_cost
  call_there (insert m i v) h f =
      rw (call_split (insert m i v))
      (first (insert m i v) (state_of n (acts (call (insert m i v) ∷ xs))) l f.0.names (rw (replaces cmd f.1) (ap some (at_insert n xs m i v))))
  call_there (store_tag t i v) h f =
      rw (call_split (store_tag t i v))
      (first (store_tag t i v) (state_of n (tagging xs i v)) (42 ∷ t ∷ l) f.0.names refl
      ∙ on (tagging xs i v) (acts (call (store_tag t i v) ∷ xs)) 42 t l
      (rw f.0.numbers (ap some (at_store_tag n xs t i v (omega (arith, within_high 1 k t f.0.numbers))))))
  call_there (store_text i v t) h f =
      rw (call_split (store_text i v t))
      (first (store_text i v t) (state_of n (measuring xs i v)) (43 ∷ length t ∷ (evened t ++ l)) f.0.names.0 refl
      ∙ (walk_on (action_step cmd k) (state_of n (measuring xs i v)) (action_at (n + cost xs + 6 + move_length v + text_cost []) (text_spot (length t))) 43 (length t) (evened t ++ l)
      measured
      ∙ texts_there i v t [] f.0.names.1))
    where
      measured : action_step cmd k (state_of n (measuring xs i v)) 43 (length t) ≡ some (action_at (n + cost xs + 6 + move_length v + text_cost []) (text_spot (length t)))
      measured = rw (le-leb (length t) most_entry_bytes f.0.names.2) (ap (λ (m : ℕ). some (action_at m (text_spot (length t)))) (omega arith))
  call_there (set_to m i w) h f =
      rw (call_split (set_to m i w))
      (first (set_to m i w) (state_of n (low xs (sets m i))) (four w ++ l) f.0.names refl ∙ number_there (sets m i) w f.0.numbers)
  call_there (set_increment i w) h f =
      rw (call_split (set_increment i w))
      (first (set_increment i w) (state_of n (low xs (increases i))) (four w ++ l) f.0.names refl ∙ number_there (increases i) w f.0.numbers)
  call_there (divide i w) h f =
      rw (call_split (divide i w))
      (first (divide i w) (state_of n (low xs (divides i))) (four w ++ l) f.0.names (rw (replaces cmd f.1))
      ∙ number_there (divides i) w f.0.numbers)

  -- ACTIONS

  action_there : (x : Action) → k ≤ most_tags → Allowed cmd k x
      → walk (action_step cmd k) (state_of n (acts xs)) (action_items x ++ l) ≡ walk (action_step cmd k) (state_of n (acts (x ∷ xs))) l
  unfolding action_items action_step begin_step pick given
  action_there (text b) h f =
      on (acts xs) (acts (text b ∷ xs)) 40 b l (rw (replaces cmd f.1, within_of 1 255 b f.0.0 f.0.1) (ap some (at_text n xs b)))
  action_there (tag t) h f =
      on (acts xs) (acts (tag t ∷ xs)) 41 t l (rw (replaces cmd f.1, within_of 1 k t f.0.0 f.0.1) (ap some (at_tag n xs t (omega arith))))
  action_there (call c) h f = call_there c h f

acts_there : (cmd : Bool) (k n : ℕ) (ys xs : List Action) → k ≤ most_tags → AllAllowed cmd k ys
    → walk (action_step cmd k) (state_of n (acts xs)) (replacement_items ys) ≡ some (state_of n (acts (reverse_aux ys xs)))
unfolding replacement_items walk
acts_there cmd k n [] xs h f = refl
acts_there cmd k n (y ∷ ys) xs h f = action_there cmd k n xs (replacement_items ys) y h f.0 ∙ acts_there cmd k n ys (y ∷ xs) h f.1

pub actions_there : (cmd : Bool) (k n : ℕ) (ys : List Action) → k ≤ most_tags → AllAllowed cmd k ys
    → walk (action_step cmd k) (action_start n) (replacement_items ys) ≡ some (state_of n (acts (reverse ys)))
unfolding action_start cost is_mark
actions_there cmd k n ys h f =
    let e : n ≡ n + 0 = omega arith in
    ap (λ (m : ℕ). walk (action_step cmd k) (action_at m (behind_action false)) (replacement_items ys)) e ∙ acts_there cmd k n ys [] h f
