-- What the walk over a replacement or commands accepts are the items of well formed actions.
use mathlib.Core.Path.{◌≡◌, refl, sym, ap, ◌∙◌}
use mathlib.Core.Bool.{Bool, true, false, not, ◌&&◌}
use mathlib.Core.List.{List, [], ◌∷◌, ◌++◌, append_assoc, reverse, reverse-cons}
use mathlib.Core.Option.{Option, none, some}
use Prim.Native.Nat.{ℕ, ◌+◌, ◌-◌, ◌*◌, ◌/◌, ◌%◌, ◌≤◌}
use native.Mathlib.Omega.{arith}
use lib.Dec.{eqb, leb}
use lib.ListN.{length, length-reverse}
use borrow.Author.Tests.{eqb-true, eqb-false, leb-true, not-true}
use Rattle.macros.specs.Bounds.{most_entry_bytes}
use Rattle.macros.specs.Macro.{Move, Call, Action, pick, within, ascii_lower}
use Rattle.macros.specs.Macro.Mark.{stack, counter}
use Rattle.macros.specs.Macro.Call.{insert, store_tag, set_to, store_text, set_increment, divide}
use Rattle.macros.specs.Macro.Action.{text, tag, call}
use Rattle.macros.specs.Formed.{Octets, Byte, Bytes, Letter, FormedCall, number_fits}
use Rattle.macros.specs.Spell.{is_mark}
use Rattle.form_bytes.specs.Fours.{four}
use Rattle.form_bytes.proofs.Laws.{four_back}
use Rattle.form_table.specs.Form.{move_code, call_items, action_items, replacement_items}
use Rattle.form_table.specs.Walk.{walk}
use Rattle.form_table.specs.ActionWalk.{ActionState, move_length, move_of, call_as, call_at, called_step, call_step, begin_step, text_spot, text_step, high_step, action_step, action_start, action_ends, action_spelled}
use Rattle.form_table.specs.ActionWalk.ActionSpot.{behind_action}
use Rattle.form_table.specs.ActionWalk.ActionState.{action_at}
use Rattle.form_table.proofs.Basics.{clash, not_some, and_left, and_right, picked, within_low, within_high}
use Rattle.form_table.proofs.Texts.{bytes_onto, evened_even, evened_odd}
use Rattle.form_table.proofs.Octet.{limit_fits}
use Rattle.form_table.proofs.Walks.{granted, some_same, walk_kept}
use Rattle.form_table.proofs.ActionCodes.{of_move, code_of, letter_of, move_in, Says, as_call}
use Rattle.form_table.proofs.ActionStates.{Numbered, numbered, limit_of, letter_in, first_code, FormedNumbered, Walked, AsCommand, AllAllowed, Texting, FormedWalked, items_of, top, cost, text_cost, state_of, at_text, at_tag, at_insert, at_store_tag, at_number, at_store_text, more_acts}
use Rattle.form_table.proofs.ActionStates.Numbered.{sets, increases, divides}
use Rattle.form_table.proofs.ActionStates.Walked.{acts, tagging, measuring, texting, low, high}

-- a call with a number
pub numbered_items : (c : Numbered) (w : ℕ) → call_items (numbered c w) ≡ first_code c ∷ letter_in c ∷ four w
unfolding call_items
numbered_items (sets stack i) w = refl
numbered_items (sets counter i) w = refl
numbered_items (increases i) w = refl
numbered_items (divides i) w = refl

pub numbered_limit : (c : Numbered) → limit_of c ≤ 999999999
numbered_limit (sets m i) = limit_fits m
numbered_limit (increases i) = limit_fits counter
numbered_limit (divides i) = limit_fits counter

numbered_formed : (cmd : Bool) (k : ℕ) (c : Numbered) (w : ℕ) → FormedNumbered cmd c → within 1 (limit_of c) w ≡ true
    → FormedCall k (numbered c w) × (cmd ≡ true → AsCommand (call (numbered c w)))
unfolding number_fits
numbered_formed cmd k (sets m i) w l e = (record { names = l; numbers = e }, λ t. tt)
numbered_formed cmd k (increases i) w l e = (record { names = l; numbers = e }, λ t. tt)
numbered_formed cmd k (divides i) w l e = (record { names = l.0; numbers = e }, l.1)

-- STEPS, behind n bytes spelled before

module _ (cmd : Bool) (k n : ℕ) where
  -- behind two more bytes
  abbrev Next : Walked → ℕ → ℕ → ActionState → Type 0
  Next w c o s = (v : Walked) × FormedWalked cmd k v × (s ≡ state_of n v) × (items_of v ≡ items_of w ++ (c ∷ o ∷ []))

  module _ (xs : List Action) (f : AllAllowed cmd k xs) (c o : ℕ) (s : ActionState) where
    next_called : (h : Call) → Letter o → c ≡ 8 * code_of h + move_code (move_in h) → o ≡ letter_of h → call_at cmd (n + cost xs) h ≡ some s → Next (acts xs) c o s
    unfolding call_at number_fits action_items call_items items_of move_code
    next_called (insert stack i v) l p r e =
        granted (not cmd) e λ w q. (
          acts (call (insert stack i v) ∷ xs),
          ((record { names = rw r at l; numbers = refl }, λ t. clash t (not-true cmd w)), f),
          sym q ∙ at_insert n xs stack i v,
          rw (p, r) (more_acts (call (insert stack i v)) xs),
        )
    next_called (insert counter i v) l p r e =
        granted (not cmd) e λ w q. (
          acts (call (insert counter i v) ∷ xs),
          ((record { names = rw r at l; numbers = refl }, λ t. clash t (not-true cmd w)), f),
          sym q ∙ at_insert n xs counter i v,
          rw (p, r) (more_acts (call (insert counter i v)) xs),
        )
    next_called (store_tag t i v) l p r e = (tagging xs i v, (f, rw r at l), sym (some_same e), rw (p, r))
    next_called (store_text i v t) l p r e = (measuring xs i v, (f, rw r at l), sym (some_same e), rw (p, r))
    next_called (set_to stack i t) l p r e = (low xs (sets stack i), (f, rw r at l), sym (some_same e), rw (p, r))
    next_called (set_to counter i t) l p r e = (low xs (sets counter i), (f, rw r at l), sym (some_same e), rw (p, r))
    next_called (set_increment i t) l p r e = (low xs (increases i), (f, rw r at l), sym (some_same e), rw (p, r))
    next_called (divide i t) l p r e =
        granted (not cmd) e λ w q. (low xs (divides i), (f, (rw r at l, λ t. clash t (not-true cmd w))), sym q, rw (p, r))

    next_call : call_step cmd (n + cost xs) (c / 8) o (move_of (c % 8)) ≡ some s → Next (acts xs) c o s
    unfolding call_step ascii_lower called_step
    next_call e = by (move_of (c % 8)) refl e
      where
        heads : (v : Move) (x : Option Call) → move_code v ≡ c % 8 → Letter o → call_as (c / 8) o v ≡ x → called_step cmd (n + cost xs) x ≡ some s → Next (acts xs) c o s
        heads v none m l p e = not_some e
        heads v (some h) m l p e =
            let g : Says (c / 8) o v h = as_call (c / 8) o v h p in
            next_called h l (rw g.move (omega (arith, g.code))) (sym g.letter) e

        by : (x : Option Move) → move_of (c % 8) ≡ x → call_step cmd (n + cost xs) (c / 8) o x ≡ some s → Next (acts xs) c o s
        by none p e = not_some e
        by (some v) p e =
            picked (within 97 122 o) e
            (λ l e. heads v (call_as (c / 8) o v) (of_move (c % 8) v p) (within_low 97 122 o l, within_high 97 122 o l) refl e)
            (λ x e. not_some e)

    next_begin : o ≤ 255 → begin_step cmd k (n + cost xs) (is_mark (top xs)) c o ≡ some s → Next (acts xs) c o s
    unfolding begin_step action_items
    next_begin h e =
        picked (eqb c 40) e
        (λ t e. granted (not cmd && within 1 255 o) e λ w q. (
          acts (text o ∷ xs),
          (((within_low 1 255 o (and_right (not cmd) _ w), within_high 1 255 o (and_right (not cmd) _ w)), λ x. clash x (not-true cmd (and_left (not cmd) _ w))), f),
          sym q ∙ at_text n xs o,
          rw (eqb-true c 40 t) (more_acts (text o) xs),
        ))
        λ x e. picked (eqb c 41) e
        (λ t e. granted (not cmd && within 1 k o) e λ w q. (
          acts (tag o ∷ xs),
          (((within_low 1 k o (and_right (not cmd) _ w), within_high 1 k o (and_right (not cmd) _ w)), λ x. clash x (not-true cmd (and_left (not cmd) _ w))), f),
          sym q ∙ at_tag n xs o (omega arith),
          rw (eqb-true c 41 t) (more_acts (tag o) xs),
        ))
        λ x e. next_call e

    module _ (i : ℕ) (v : Move) where
      next_tag : Letter i → o ≤ 255 → action_step cmd k (state_of n (tagging xs i v)) c o ≡ some s → Next (tagging xs i v) c o s
      unfolding action_step action_items call_items items_of number_fits
      next_tag l h e =
          granted (eqb c 42 && within 1 k o) e λ w q. (
            acts (call (store_tag o i v) ∷ xs),
            ((record { names = l; numbers = and_right (eqb c 42) _ w }, λ t. tt), f),
            sym q ∙ at_store_tag n xs o i v (omega arith),
            rw (eqb-true c 42 (and_left (eqb c 42) _ w), append_assoc (replacement_items (reverse xs))) (more_acts (call (store_tag o i v)) xs),
          )

      -- behind the bytes t of a text of m
      abbrev Landed : List ℕ → ℕ → Type 0
      Landed t m =
          (w : Walked) × FormedWalked cmd k w × (s ≡ state_of n w) × (items_of w ≡ replacement_items (reverse xs) ++ ((72 + move_code v) ∷ i ∷ 43 ∷ m ∷ reverse t))

      -- q of them are still to come
      landed : (t : List ℕ) (q m : ℕ) → Letter i → Bytes t → length t % 2 ≡ 0 → length t + q ≡ m → m ≤ most_entry_bytes
          → action_at (n + cost xs + 6 + move_length v + text_cost t) (text_spot q) ≡ s → Landed t m
      unfolding text_spot action_items call_items items_of number_fits pick
      landed t q m l b g d h e = by (eqb q 0) refl
        where
          by : (x : Bool) → eqb q 0 ≡ x → Landed t m
          by true z =
              let r : length (reverse t) ≡ m = length-reverse t ∙ omega (arith, eqb-true q 0 z) in (
                acts (call (store_text i v (reverse t)) ∷ xs),
                ((record { names = (l, bytes_onto t [] b tt, rw r h); numbers = refl }, λ x. tt), f),
                sym e ∙ rw z (at_store_text n xs i v t),
                more_acts (call (store_text i v (reverse t))) xs ∙ rw (evened_even (reverse t) (rw (length-reverse t) g), r),
              )
          by false z =
              (texting xs i v t q, (f, record { letter = l; bytes = b; even = g; more = omega (arith, eqb-false q 0 z); short = omega arith }), sym e ∙ rw z refl, rw d refl)

      next_length : Letter i → action_step cmd k (state_of n (measuring xs i v)) c o ≡ some s → Next (measuring xs i v) c o s
      unfolding action_step items_of text_cost
      next_length l e =
          granted (eqb c 43 && leb o most_entry_bytes) e λ w q.
          rw (eqb-true c 43 (and_left (eqb c 43) _ w), append_assoc (replacement_items (reverse xs)))
          (landed [] o o l tt refl (omega arith) (leb-true o most_entry_bytes (and_right (eqb c 43) _ w))
          (ap (λ (m : ℕ). action_at m (text_spot o)) (omega arith) ∙ q))

      two_more : (t : List ℕ) (q : ℕ) → Landed (o ∷ c ∷ t) (length t + q) → Next (texting xs i v t q) c o s
      unfolding items_of
      two_more t q x = (x.0, x.1, x.2, x.3 ∙ rw (reverse-cons o (c ∷ t), reverse-cons c t) (simp append_assoc))

      next_text : (t : List ℕ) (q : ℕ) → Texting i t q → action_step cmd k (state_of n (texting xs i v t q)) c o ≡ some s → Next (texting xs i v t q) c o s
      unfolding action_step text_step items_of text_cost action_items call_items number_fits
      next_text t q g e =
          picked (eqb q 1) e
          (λ y e. granted (within 1 255 c && eqb o 0) e λ w r.
          let b : Byte c = (within_low 1 255 c (and_left _ _ w), within_high 1 255 c (and_left _ _ w)) in
          let u : length (reverse (c ∷ t)) ≡ length t + q = length-reverse (c ∷ t) ∙ omega (arith, eqb-true q 1 y) in
          let z : length (reverse (c ∷ t)) % 2 ≡ 1 = rw (length-reverse (c ∷ t)) (omega (arith, g.even)) in (
            acts (call (store_text i v (reverse (c ∷ t))) ∷ xs),
            ((record { names = (g.letter, bytes_onto (c ∷ t) [] (b, g.bytes) tt, rw u g.short); numbers = refl }, λ x. tt), f),
            sym r ∙ (ap (λ (m : ℕ). action_at m (behind_action false)) (omega arith) ∙ at_store_text n xs i v (c ∷ t)),
            more_acts (call (store_text i v (reverse (c ∷ t)))) xs
                ∙ rw (evened_odd (reverse (c ∷ t)) z, u, reverse-cons c t, eqb-true o 0 (and_right (within 1 255 c) _ w)) (simp append_assoc),
          ))
          λ y e. granted (within 1 255 c && within 1 255 o) e λ w r.
          let b : Byte c = (within_low 1 255 c (and_left _ _ w), within_high 1 255 c (and_left _ _ w)) in
          let a : Byte o = (within_low 1 255 o (and_right (within 1 255 c) _ w), within_high 1 255 o (and_right (within 1 255 c) _ w)) in
          two_more t q
          (landed (o ∷ c ∷ t) (q - 2) (length t + q) g.letter (a, (b, g.bytes)) (omega (arith, g.even)) (omega (arith, g.more, eqb-false q 1 y)) g.short
          (ap (λ (m : ℕ). action_at m (text_spot (q - 2))) (omega arith) ∙ r))

    module _ (d : Numbered) where
      next_low : FormedNumbered cmd d → c ≤ 255 → o ≤ 255 → action_step cmd k (state_of n (low xs d)) c o ≡ some s → Next (low xs d) c o s
      unfolding action_step items_of
      next_low l g h e = (high xs d c o, (f, l, g, h), sym (some_same e), rw (append_assoc (replacement_items (reverse xs))))

      next_high : (a b : ℕ) → FormedNumbered cmd d → a ≤ 255 → b ≤ 255 → c ≤ 255 → action_step cmd k (state_of n (high xs d a b)) c o ≡ some s → Next (high xs d a b) c o s
      unfolding action_step high_step items_of action_items
      next_high a b l g h j e =
          let w : ℕ = a + 256 * b + 65536 * c + 16777216 * o in
          granted (within 1 (limit_of d) w) e λ y q. (
            acts (call (numbered d w) ∷ xs),
            (numbered_formed cmd k d w l y, f),
            sym q ∙ at_number n xs d w (omega (arith, within_high 1 (limit_of d) w y, numbered_limit d)),
            more_acts (call (numbered d w)) xs ∙ rw (numbered_items d w, four_back a b c o g h j, append_assoc (replacement_items (reverse xs))),
          )

  next : (w : Walked) (c o : ℕ) (s : ActionState) → FormedWalked cmd k w → c ≤ 255 → o ≤ 255 → action_step cmd k (state_of n w) c o ≡ some s → Next w c o s
  unfolding action_step
  next (acts xs) c o s f g h e = next_begin xs f c o s h e
  next (tagging xs i v) c o s f g h e = next_tag xs f.0 c o s i v f.1 h e
  next (measuring xs i v) c o s f g h e = next_length xs f.0 c o s i v f.1 e
  next (texting xs i v t q) c o s f g h e = next_text xs f.0 c o s i v t q f.1 e
  next (low xs d) c o s f g h e = next_low xs f.0 c o s d f.1 g h e
  next (high xs d a b) c o s f g h e = next_high xs f.0 c o s d a b f.1 f.2 f.3 g e

  -- a state behind the bytes d
  data Stands (s : ActionState) (d : List ℕ) : Type 0 where
    stands : (w : Walked) → FormedWalked cmd k w → s ≡ state_of n w → items_of w ≡ d → Stands s d

  kept : (s s' : ActionState) (d : List ℕ) (c o : ℕ) → Stands s d → c ≤ 255 → o ≤ 255 → action_step cmd k s c o ≡ some s' → Stands s' (d ++ (c ∷ o ∷ []))
  kept s s' d c o (stands w f p q) g h e =
      let x : Next w c o s' = next w c o s' f g h (rw p at e) in
      stands x.0 x.1 x.2 (x.3 ∙ rw q)

-- THE WHOLE

-- a whole replacement, or commands, newest action first, and the bytes spelled behind it
pub record ActionsOf (cmd : Bool) (k n m : ℕ) (l : List ℕ) : Type 0 where
  pub newest : List Action
  pub allowed : AllAllowed cmd k newest
  pub items : replacement_items (reverse newest) ≡ l
  pub spelled : m ≡ n + cost newest

module _ (cmd : Bool) (k n : ℕ) (l : List ℕ) (st : ActionState) where
  ended : Stands cmd k n st l → action_ends st ≡ true → ActionsOf cmd k n (action_spelled st) l
  unfolding action_ends action_spelled items_of
  ended (stands (acts xs) f p q) e = record { newest = xs; allowed = f; items = q; spelled = rw p }
  ended (stands (tagging xs i v) f p q) e = clash e (rw p)
  ended (stands (measuring xs i v) f p q) e = clash e (rw p)
  ended (stands (texting xs i v t b) f p q) e = clash e (rw p)
  ended (stands (low xs d) f p q) e = clash e (rw p)
  ended (stands (high xs d a b) f p q) e = clash e (rw p)

  pub actions_sound : Octets l → walk (action_step cmd k) (action_start n) l ≡ some st → action_ends st ≡ true → ActionsOf cmd k n (action_spelled st) l
  unfolding action_start cost is_mark items_of replacement_items
  actions_sound o e h =
      ended (walk_kept (action_step cmd k) (Stands cmd k n) (kept cmd k n) l [] (action_start n) st
      (stands (acts []) tt (ap (λ (m : ℕ). action_at m (behind_action false)) (omega arith)) refl) o e) h
