-- The parts of a slot: how long they are, where they stand, and that their items fit.
use Prim.Native.Nat.{ℕ, ◌+◌, ◌-◌, ◌≤◌}
use mathlib.Core.Path.{◌≡◌, sym, ap, ◌∙◌, subst}
use mathlib.Core.List.{List, [], ◌++◌, map}
use native.Mathlib.Omega.{arith}
use lib.ListN.{length, take, drop}
use lib.Seq.{take-add, drop-drop}
use Rattle.macros.specs.Macro.{Macro}
use Rattle.macros.specs.Macro.Action.{call}
use Rattle.form_table.specs.Form.{slot_bytes, body_bytes, pattern_items, replacement_items, calls_items, body, slot}
use Rattle.form_table.specs.Check.{two_at, items_at}
use Rattle.form_table.proofs.Slots.{before_part, pattern_part, replacement_part, commands_part, before_at, pattern_at_lem, replacement_at, commands_at}
use Rattle.form_table.proofs.Sizes.{body_length, body_size}
use Rattle.form_table.proofs.Actions.{calls_items_lem, slot_length}
use Rattle.pass_replace.specs.Contract.{IsSlot}
use Rattle.pass_replace.specs.Acting.{Fits}
use Rattle.pass_replace.proofs.Decoding.{both_items, actions_fit, both_formed}

module _ (s : List ℕ) (m : Macro) (h : IsSlot s m) where
  abbrev B : List ℕ
  B = calls_items m.before

  abbrev P : List ℕ
  P = pattern_items m.pattern

  abbrev R : List ℕ
  R = replacement_items m.replacement

  abbrev C : List ℕ
  C = calls_items m.commands

  -- HOW LONG THEY ARE

  small : length (body m) + 2 ≤ body_bytes
  small = omega (arith, body_size m, h.spellable.1)

  pub slot_long : length s ≡ slot_bytes
  slot_long = ap length (sym h.form) ∙ slot_length m (let z = small in omega arith)

  pub before_long : two_at s 2 ≡ length B
  before_long = ap (λ (x : List ℕ). two_at x 2) (sym h.form) ∙ before_at m

  pub pattern_long : two_at s 4 ≡ length P
  pattern_long = ap (λ (x : List ℕ). two_at x 4) (sym h.form) ∙ pattern_at_lem m

  replacement_long : two_at s 6 ≡ length R
  replacement_long = ap (λ (x : List ℕ). two_at x 6) (sym h.form) ∙ replacement_at m

  commands_long : two_at s 8 ≡ length C
  commands_long = ap (λ (x : List ℕ). two_at x 8) (sym h.form) ∙ commands_at m

  pub parts_short : two_at s 2 + two_at s 4 + two_at s 6 + two_at s 8 + 2 ≤ body_bytes
  parts_short = omega (arith, small, body_length m, before_long, pattern_long, replacement_long, commands_long)

  -- WHERE THEY STAND

  module _ {x : ℕ} (p : x ≡ two_at s 2) where
    pub before_here : take (10 + x - 10) (drop 10 s) ≡ B
    unfolding items_at
    before_here =
        let n : 10 + x - 10 ≡ length B = let z = before_long in omega arith in
        ap (λ (k : ℕ). take k (drop 10 s)) n ∙ ap (λ (l : List ℕ). take (length B) (drop 10 l)) (sym h.form) ∙ before_part m

    module _ {y : ℕ} (q : y ≡ two_at s 4) where
      pub pattern_here : take (10 + x + y - (10 + x)) (drop (10 + x) s) ≡ P
      unfolding items_at
      pattern_here =
          let n : 10 + x + y - (10 + x) ≡ length P = let z = pattern_long in omega arith in
          let k : 10 + x ≡ 10 + length B = let z = before_long in omega arith in
          ap (λ (j : ℕ). take j (drop (10 + x) s)) n
          ∙ ap (λ (j : ℕ). take (length P) (drop j s)) k
          ∙ ap (λ (l : List ℕ). take (length P) (drop (10 + length B) l)) (sym h.form)
          ∙ pattern_part m

      -- the commands stand behind the replacement
      pub actions_here : {z u : ℕ} → z ≡ two_at s 6 → u ≡ two_at s 8 → take (10 + x + y + z + u - (10 + x + y)) (drop (10 + x + y) s) ≡ R ++ C
      unfolding items_at
      actions_here {z} {u} r v =
          let n : 10 + x + y + z + u - (10 + x + y) ≡ length R + length C = let a = replacement_long in let b = commands_long in omega arith in
          let k : 10 + x + y ≡ 10 + (length B + length P) = let a = before_long in let b = pattern_long in omega arith in
          let at : ℕ = 10 + (length B + length P) in
          let e : at + length R ≡ 10 + (length B + length P + length R) = omega arith in
          ap (λ (j : ℕ). take j (drop (10 + x + y) s)) n
          ∙ ap (λ (j : ℕ). take (length R + length C) (drop j s)) k
          ∙ ap (λ (l : List ℕ). take (length R + length C) (drop at l)) (sym h.form)
          ∙ take-add (length R) (length C) (drop at (slot m))
          ∙ ap (λ (l : List ℕ). l ++ take (length C) (drop (length R) (drop at (slot m)))) (replacement_part m)
          ∙ ap (λ (l : List ℕ). R ++ take (length C) l) (drop-drop (length R) at (slot m) ∙ ap (λ (j : ℕ). drop j (slot m)) e)
          ∙ ap (λ (l : List ℕ). R ++ l) (commands_part m)

  -- THEIR ITEMS

  pub actions_all : replacement_items (m.replacement ++ map call m.commands) ≡ R ++ C
  actions_all = both_items m.replacement (map call m.commands) ∙ ap (λ (l : List ℕ). R ++ l) (sym (calls_items_lem m.commands))

  pub actions_fitting : Fits (R ++ C)
  actions_fitting =
      let f = h.spellable.0 in
      subst Fits actions_all (actions_fit _ (m.replacement ++ map call m.commands) (both_formed _ m.replacement m.commands f.replacement f.commands))

  pub calls_fitting : Fits B
  calls_fitting = subst Fits (sym (calls_items_lem m.before)) (actions_fit 0 (map call m.before) (both_formed 0 [] m.before tt h.spellable.0.before))
