-- The items of an action do what the action does, and fit where it is well formed.
use Prim.Native.Nat.{ℕ, ◌-◌, ◌≤◌}
use mathlib.Core.Path.{◌≡◌, refl, sym, ap, ◌∙◌, subst}
use mathlib.Core.List.{List, [], ◌∷◌, ◌++◌, map, append_assoc}
use native.Mathlib.Omega.{arith}
use native.Mathlib.Numerals.{add-one}
use lib.Dec.{leb}
use lib.ListN.{length-append}
use Rattle.macros.specs.Bounds.{most_line_bytes, most_entries, most_counter}
use Rattle.macros.specs.Refusals.WorkRefusal.{new_line_too_long}
use Rattle.macros.specs.Macro.{Piece, Move, Call, Action, pick, within}
use Rattle.macros.specs.Macro.Mark.{stack, counter}
use Rattle.macros.specs.Macro.Sign.{plus, minus}
use Rattle.macros.specs.Macro.Move.{still, before, after}
use Rattle.macros.specs.Macro.Call.{insert, store_tag, set_to, store_text, set_increment, divide}
use Rattle.macros.specs.Macro.Action.{text, tag, call}
use Rattle.macros.specs.Formed.{limit, number_fits, FormedCall, FormedAction, FormedReplacement, FormedCommands}
use Rattle.form_bytes.specs.Fours.{four}
use Rattle.form_bytes.proofs.Laws.{four_there}
use Rattle.form_table.specs.Form.{move_code, call_items, action_items, replacement_items}
use Rattle.lines.specs.State.{counter_of}
use Rattle.lines.specs.Matching.{tag_text}
use Rattle.lines.specs.Dividing.{divided_text}
use Rattle.lines.specs.Replacing.{Work, Done, ◌>>=◌, unless, onto, puts, put, early, late, stores, call_acts, acts, replaces, commands_act}
use Rattle.lines.specs.Replacing.Done.{bad, good}
use Rattle.lines.proofs.KeepTests.{within_between}
use Rattle.form_table.specs.Actions.{number_in, text_in, Held}
use Rattle.form_table.proofs.Actions.{even_taken, action_size_lem, action_some, action_rest}
use Rattle.pass_replace.specs.Tags.{tag_in}
use Rattle.pass_replace.specs.Acting.{tagged_in, act_in, stored_in, divides_in, access_in, action_in, acts_in, Fits}
use Rattle.pass_steps.specs.Codes.{mark_in}
use Rattle.pass_call.specs.Moving.{move_in, moves_in, sets_in}
use Rattle.pass_texts.specs.Inserting.{contents_in, inserts_in, Fit}
use Rattle.pass_replace.specs.Acting.Fits.{none, next}
use Rattle.pass_replace.proofs.Acting.{acts_cons}

-- THE SAME STEP

bind_same : (a : Done) (f g : Work → Done) → ((w : Work) → f w ≡ g w) → (a >>= f) ≡ (a >>= g)
bind_same (bad r w) f g h = refl
bind_same (good w) f g h = h w

bind_good : (a : Done) → (a >>= good) ≡ a
bind_good (bad r w) = refl
bind_good (good w) = refl

bind_twice : (a : Done) (f g : Work → Done) → (a >>= (λ w. f w >>= g)) ≡ (a >>= f >>= g)
bind_twice (bad r w) f g = refl
bind_twice (good w) f g = refl

-- a byte is a text of one byte
put_puts : (b : ℕ) (w : Work) → puts (b ∷ []) w ≡ put b w
unfolding puts put onto
put_puts b w = ap (λ (n : ℕ). unless (leb n most_line_bytes) new_line_too_long w (record { out = b ∷ w.out; size = n; state = w.state })) (add-one w.size)

module _ (line pat ends : List ℕ) (es : List Piece) (qs : List ℕ) (same : (n : ℕ) → tag_in line n pat ends ≡ tag_text line n es qs) where
  call_does : (c : Call) (r : List ℕ) (w : Work) → acts_in line pat ends (call_items c ++ r) w ≡ call_acts line es qs c w
  unfolding acts_in tagged_in action_in moves_in move_in access_in inserts_in contents_in stored_in sets_in divides_in mark_in call_items move_code four number_in text_in call_acts early late pick within
  call_does (insert stack i still) r w = refl
  call_does (insert stack i (before plus)) r w = refl
  call_does (insert stack i (before minus)) r w = refl
  call_does (insert stack i (after plus)) r w = refl
  call_does (insert stack i (after minus)) r w = refl
  call_does (insert counter i still) r w = refl
  call_does (insert counter i (before plus)) r w = refl
  call_does (insert counter i (before minus)) r w = refl
  call_does (insert counter i (after plus)) r w = refl
  call_does (insert counter i (after minus)) r w = refl
  call_does (store_tag n i still) r w = ap (λ (x : List ℕ). early stack still i w >>= stores i x >>= late stack still i) (same (n - 1))
  call_does (store_tag n i (before plus)) r w = ap (λ (x : List ℕ). early stack (before plus) i w >>= stores i x >>= late stack (before plus) i) (same (n - 1))
  call_does (store_tag n i (before minus)) r w = ap (λ (x : List ℕ). early stack (before minus) i w >>= stores i x >>= late stack (before minus) i) (same (n - 1))
  call_does (store_tag n i (after plus)) r w = ap (λ (x : List ℕ). early stack (after plus) i w >>= stores i x >>= late stack (after plus) i) (same (n - 1))
  call_does (store_tag n i (after minus)) r w = ap (λ (x : List ℕ). early stack (after minus) i w >>= stores i x >>= late stack (after minus) i) (same (n - 1))
  call_does (set_to stack i n) r w = rw (four_there n)
  call_does (set_to counter i n) r w = rw (four_there n)
  call_does (store_text i still t) r w = ap (λ (x : List ℕ). early stack still i w >>= stores i x >>= late stack still i) (even_taken t r)
  call_does (store_text i (before plus) t) r w = ap (λ (x : List ℕ). early stack (before plus) i w >>= stores i x >>= late stack (before plus) i) (even_taken t r)
  call_does (store_text i (before minus) t) r w = ap (λ (x : List ℕ). early stack (before minus) i w >>= stores i x >>= late stack (before minus) i) (even_taken t r)
  call_does (store_text i (after plus) t) r w = ap (λ (x : List ℕ). early stack (after plus) i w >>= stores i x >>= late stack (after plus) i) (even_taken t r)
  call_does (store_text i (after minus) t) r w = ap (λ (x : List ℕ). early stack (after minus) i w >>= stores i x >>= late stack (after minus) i) (even_taken t r)
  call_does (set_increment i n) r w = rw (four_there n)
  call_does (divide i n) r w = rw (four_there n) (bind_good (puts (divided_text (counter_of w.state i).value n) w))

  action_does : (a : Action) (r : List ℕ) (w : Work) → acts_in line pat ends (action_items a ++ r) w ≡ acts line es qs a w
  unfolding acts_in tagged_in action_in moves_in move_in access_in inserts_in contents_in action_items acts pick within
  action_does (text b) r w = bind_good (puts (b ∷ []) w) ∙ put_puts b w
  action_does (tag n) r w = bind_good (puts (tag_in line (n - 1) pat ends) w) ∙ ap (λ (x : List ℕ). puts x w) (same (n - 1))
  action_does (call c) r w = call_does c r w

  pub actions_do : (as₁ : List Action) (w : Work) → act_in (acts_in line pat ends) 0 (replacement_items as₁) w ≡ replaces line es qs as₁ w
  unfolding replacement_items act_in replaces
  actions_do [] w = refl
  actions_do (a ∷ as₁) w =
      let items : List ℕ = action_items a ++ replacement_items as₁ in
      acts_cons (acts_in line pat ends) items w (let l = length-append (action_items a) (replacement_items as₁) in let z = action_some a in omega arith)
      ∙ ap (λ (x : List ℕ). acts_in line pat ends items w >>= act_in (acts_in line pat ends) 0 x) (action_rest a (replacement_items as₁))
      ∙ ap (λ (x : Done). x >>= act_in (acts_in line pat ends) 0 (replacement_items as₁)) (action_does a (replacement_items as₁) w)
      ∙ bind_same (acts line es qs a w) _ _ (λ v. actions_do as₁ v)

-- the replacement, and then the commands
pub commands_as : (line : List ℕ) (es : List Piece) (qs : List ℕ) (cs : List Call) (w : Work) → replaces line es qs (map call cs) w ≡ commands_act line es qs cs w
unfolding replaces acts commands_act
commands_as line es qs [] w = refl
commands_as line es qs (c ∷ cs) w = bind_same (call_acts line es qs c w) _ _ (λ v. commands_as line es qs cs v)

pub both_do : (line : List ℕ) (es : List Piece) (qs : List ℕ) (as₁ : List Action) (cs : List Call) (w : Work)
    → replaces line es qs (as₁ ++ map call cs) w ≡ (replaces line es qs as₁ w >>= commands_act line es qs cs)
unfolding replaces
both_do line es qs [] cs w = commands_as line es qs cs w
both_do line es qs (a ∷ as₁) cs w = bind_same (acts line es qs a w) _ _ (λ v. both_do line es qs as₁ cs v) ∙ bind_twice (acts line es qs a w) (replaces line es qs as₁) (commands_act line es qs cs)

pub both_items : (as₁ bs : List Action) → replacement_items (as₁ ++ bs) ≡ replacement_items as₁ ++ replacement_items bs
unfolding replacement_items
both_items [] bs = refl
both_items (a ∷ as₁) bs = ap (λ (x : List ℕ). action_items a ++ x) (both_items as₁ bs) ∙ sym (append_assoc (action_items a) (replacement_items as₁) (replacement_items bs))

-- WHAT FITS

move_small : (v : Move) → move_code v ≤ 4
unfolding move_code
move_small still = omega arith
move_small (before plus) = omega arith
move_small (before minus) = omega arith
move_small (after plus) = omega arith
move_small (after minus) = omega arith

held : (a : Action) (r : List ℕ) → Held (action_items a ++ r)
held a r = let s = action_size_lem a r in let l = length-append (action_items a) r in omega arith

call_fit : (n : ℕ) (c : Call) (r : List ℕ) → FormedCall n c → Held (call_items c ++ r) → Fit (call_items c ++ r)
unfolding call_items four number_in text_in number_fits limit
call_fit n (insert stack i v) r f h =
    let m = move_small v in
    record { held = h; letter = λ p q. f.names; text = λ p q. absurd (omega arith); pointer = λ p q. absurd (omega arith); number = λ p. absurd (omega arith) }
call_fit n (insert counter i v) r f h =
    let m = move_small v in
    record { held = h; letter = λ p q. f.names; text = λ p q. absurd (omega arith); pointer = λ p q. absurd (omega arith); number = λ p. absurd (omega arith) }
call_fit n (store_tag k i v) r f h =
    let m = move_small v in
    record { held = h; letter = λ p q. f.names; text = λ p q. absurd (omega arith); pointer = λ p q. absurd (omega arith); number = λ p. absurd (omega arith) }
call_fit n (store_text i v t) r f h =
    let m = move_small v in
    record { held = h; letter = λ p q. f.names.0; text = λ p q. rw (even_taken t r) f.names.1; pointer = λ p q. absurd (omega arith); number = λ p. absurd (omega arith) }
call_fit n (set_to stack i k) r f h =
    record { held = h; letter = λ p q. f.names; text = λ p q. absurd (omega arith); pointer = λ p q. rw (four_there k) (within_between 1 most_entries k f.numbers); number = λ p. absurd (omega arith) }
call_fit n (set_to counter i k) r f h =
    record { held = h; letter = λ p q. f.names; text = λ p q. absurd (omega arith); pointer = λ p q. absurd (omega arith); number = λ p. rw (four_there k) (within_between 1 most_counter k f.numbers) }
call_fit n (set_increment i k) r f h =
    record { held = h; letter = λ p q. f.names; text = λ p q. absurd (omega arith); pointer = λ p q. absurd (omega arith); number = λ p. rw (four_there k) (within_between 1 most_counter k f.numbers) }
call_fit n (divide i k) r f h =
    record { held = h; letter = λ p q. f.names; text = λ p q. absurd (omega arith); pointer = λ p q. absurd (omega arith); number = λ p. rw (four_there k) (within_between 1 most_counter k f.numbers) }

action_fit : (n : ℕ) (a : Action) (r : List ℕ) → FormedAction n a → Held (action_items a ++ r) → Fit (action_items a ++ r)
unfolding action_items
action_fit n (text b) r f h =
    record { held = h; letter = λ p q. absurd (p refl); text = λ p q. absurd (omega arith); pointer = λ p q. absurd (omega arith); number = λ p. absurd (omega arith) }
action_fit n (tag k) r f h =
    record { held = h; letter = λ p q. absurd (q refl); text = λ p q. absurd (omega arith); pointer = λ p q. absurd (omega arith); number = λ p. absurd (omega arith) }
action_fit n (call c) r f h = call_fit n c r f h

pub actions_fit : (n : ℕ) (as₁ : List Action) → FormedReplacement n as₁ → Fits (replacement_items as₁)
unfolding replacement_items
actions_fit n [] f = none
actions_fit n (a ∷ as₁) f =
    next {t = action_items a ++ replacement_items as₁} (let l = length-append (action_items a) (replacement_items as₁) in let z = action_some a in omega arith)
    (action_fit n a (replacement_items as₁) f.0 (held a (replacement_items as₁)))
    (subst Fits (sym (action_rest a (replacement_items as₁))) (actions_fit n as₁ f.1))

pub both_formed : (n : ℕ) (as₁ : List Action) (cs : List Call) → FormedReplacement n as₁ → FormedCommands n cs → FormedReplacement n (as₁ ++ map call cs)
both_formed n [] [] f g = tt
both_formed n [] (c ∷ cs) f g = (g.0.1, both_formed n [] cs f g.1)
both_formed n (a ∷ as₁) cs f g = (f.0, both_formed n as₁ cs f.1 g)
