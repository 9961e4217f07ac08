-- The items of an action: how many bytes they are, and what stands in and behind them. The size of a slot.
-- Assumes nothing.
use Prim.Native.Nat.{ℕ, ◌+◌, ◌-◌, ◌%◌, ◌≤◌, ◌<◌}
use mathlib.Core.Path.{◌≡◌, refl, ap, sym, ◌∙◌}
use mathlib.Core.Bool.{Bool, true, false}
use mathlib.Core.List.{List, [], ◌∷◌, ◌++◌, append_assoc, map}
use native.Mathlib.Omega.{arith}
use native.Mathlib.Decide.{ℕ_discrete}
use borrow.Author.Tests.{lt-ltb, le-ltb, eq-eqb, ne_eqb}
use lib.Dec.{ltb, eqb}
use lib.ListN.{length, get_or, take, drop, replicate, length-append, length-drop, length-replicate}
use lib.Seq.{take_all, take-append_seam, drop_at}
use Rattle.macros.specs.Macro.{Call, Action, Macro, pick}
use Rattle.macros.specs.Macro.Mark.{stack, counter}
use Rattle.macros.specs.Macro.Sign.{plus, minus}
use Rattle.macros.specs.Macro.Move.{still, before, after}
use Rattle.macros.specs.Macro.Call.{insert, store_tag, set_to, store_text, set_increment, divide}
use Rattle.macros.specs.Macro.Action.{text, tag, call}
use Rattle.form_bytes.specs.Fours.{four}
use Rattle.form_table.specs.Form.{two, move_code, evened, call_items, calls_items, action_items, replacement_items, header, body, body_bytes, slot, slot_bytes}
use Rattle.form_table.specs.Actions.{action_size, text_in}

-- ACTIONS

pub some_size : (t : List ℕ) → 2 ≤ action_size t
unfolding action_size pick
some_size t = by (ltb (get_or t 0 0) 64) (ltb (get_or t 0 0) 72) (ltb (get_or t 0 0) 80)
  where
    by : (p q r : Bool) → 2 ≤ pick p 2 (pick q 4 (pick r (4 + get_or t 3 0 + get_or t 3 0 % 2) 6))
    by true q r = omega arith
    by false true r = omega arith
    by false false true = omega arith
    by false false false = omega arith

module _ (t : List ℕ) where
  pub size_short : get_or t 0 0 < 64 → action_size t ≡ 2
  unfolding action_size pick
  size_short h = rw (lt-ltb (get_or t 0 0) 64 h)

  pub size_call : 64 ≤ get_or t 0 0 → 4 ≤ action_size t
  unfolding action_size pick
  size_call h = rw (le-ltb (get_or t 0 0) 64 h) (by (ltb (get_or t 0 0) 72) (ltb (get_or t 0 0) 80))
    where
      by : (q r : Bool) → 4 ≤ pick q 4 (pick r (4 + get_or t 3 0 + get_or t 3 0 % 2) 6)
      by true r = omega arith
      by false true = omega arith
      by false false = omega arith

  pub size_tag : 64 ≤ get_or t 0 0 → get_or t 0 0 < 72 → action_size t ≡ 4
  unfolding action_size pick
  size_tag g h = rw (le-ltb (get_or t 0 0) 64 g, lt-ltb (get_or t 0 0) 72 h)

  pub size_text : 72 ≤ get_or t 0 0 → get_or t 0 0 < 80 → action_size t ≡ 4 + get_or t 3 0 + get_or t 3 0 % 2
  unfolding action_size pick
  size_text g h = rw (le-ltb (get_or t 0 0) 64 (omega arith), le-ltb (get_or t 0 0) 72 g, lt-ltb (get_or t 0 0) 80 h)

  pub size_set : 80 ≤ get_or t 0 0 → action_size t ≡ 6
  unfolding action_size pick
  size_set g = rw (le-ltb (get_or t 0 0) 64 (omega arith), le-ltb (get_or t 0 0) 72 (omega arith), le-ltb (get_or t 0 0) 80 g)

pub even_taken : (t r : List ℕ) → take (length t) (evened t ++ r) ≡ t
unfolding evened
even_taken t r = rw (append_assoc t _ r) (take-append_seam t _)

abbrev even_end : List ℕ → List ℕ
even_end t = pick (eqb (length t % 2) 0) [] (0 ∷ [])

even_none : (t : List ℕ) → length t % 2 ≡ 0 → length (even_end t) ≡ 0
unfolding pick
even_none t e = rw (eq-eqb (length t % 2) 0 e)

even_one : (t : List ℕ) → (length t % 2 ≡ 0 → ⊥) → length (even_end t) ≡ 1
unfolding pick
even_one t f = rw (ne_eqb (length t % 2) 0 f)

pub even_length : (t : List ℕ) → length (evened t) ≡ length t + length t % 2
unfolding evened
even_length t = by (ℕ_discrete (length t % 2) 0)
  where
    by : Dec (length t % 2 ≡ 0) → length (evened t) ≡ length t + length t % 2
    by (yes e) = let x = length-append t (even_end t) in let y : length (even_end t) ≡ 0 = even_none t e in omega arith
    by (no f) = let x = length-append t (even_end t) in let y : length (even_end t) ≡ 1 = even_one t f in omega arith

call_size : (c : Call) (r : List ℕ) → action_size (call_items c ++ r) ≡ length (call_items c)
unfolding action_size call_items move_code four pick
call_size (insert stack i still) r = refl
call_size (insert stack i (before plus)) r = refl
call_size (insert stack i (before minus)) r = refl
call_size (insert stack i (after plus)) r = refl
call_size (insert stack i (after minus)) r = refl
call_size (insert counter i still) r = refl
call_size (insert counter i (before plus)) r = refl
call_size (insert counter i (before minus)) r = refl
call_size (insert counter i (after plus)) r = refl
call_size (insert counter i (after minus)) r = refl
call_size (store_tag n i still) r = refl
call_size (store_tag n i (before plus)) r = refl
call_size (store_tag n i (before minus)) r = refl
call_size (store_tag n i (after plus)) r = refl
call_size (store_tag n i (after minus)) r = refl
call_size (set_to stack i n) r = refl
call_size (set_to counter i n) r = refl
call_size (store_text i still t) r = let z = even_length t in omega arith
call_size (store_text i (before plus) t) r = let z = even_length t in omega arith
call_size (store_text i (before minus) t) r = let z = even_length t in omega arith
call_size (store_text i (after plus) t) r = let z = even_length t in omega arith
call_size (store_text i (after minus) t) r = let z = even_length t in omega arith
call_size (set_increment i n) r = refl
call_size (divide i n) r = refl

pub action_size_lem : (a : Action) (r : List ℕ) → action_size (action_items a ++ r) ≡ length (action_items a)
unfolding action_items action_size pick
action_size_lem (text b) r = refl
action_size_lem (tag n) r = refl
action_size_lem (call c) r = call_size c r

-- an action takes some bytes
pub action_some : (a : Action) → 0 < length (action_items a)
action_some a = let s = action_size_lem a [] in let z = some_size (action_items a ++ []) in omega arith

-- the rest behind an action
pub action_rest : (a : Action) (r : List ℕ) → drop (action_size (action_items a ++ r)) (action_items a ++ r) ≡ r
action_rest a r = drop_at (action_items a) r (action_size (action_items a ++ r)) (sym (action_size_lem a r))

-- commands are actions
pub calls_items_lem : (cs : List Call) → calls_items cs ≡ replacement_items (map call cs)
unfolding calls_items replacement_items action_items
calls_items_lem [] = refl
calls_items_lem (c ∷ cs) = ap (λ (x : List ℕ). call_items c ++ x) (calls_items_lem cs)

-- SLOTS

pub slot_length : (m : Macro) → length (body m) ≤ body_bytes → length (slot m) ≡ slot_bytes
unfolding slot header two
slot_length m h =
    let e : length (body m ++ replicate (body_bytes - length (body m)) 0) ≡ body_bytes =
    length-append (body m) (replicate (body_bytes - length (body m)) 0) ∙ omega (arith, length-replicate {A = ℕ} (body_bytes - length (body m)) 0) in
    omega (arith, e)

-- PARTS OF A SLICE

pub text_part : (t : List ℕ) → take (4 + get_or t 3 0 - 4) (drop 4 t) ≡ text_in t
unfolding text_in
text_part t = let e : 4 + get_or t 3 0 - 4 ≡ get_or t 3 0 = omega arith in rw e

pub tail_part : (l : List ℕ) (i : ℕ) → take (length l - i) (drop i l) ≡ drop i l
tail_part l i = take_all (length l - i) (drop i l) (let z = length-drop i l in omega arith)
