-- A macro's items pass the check exactly if the macro is well formed and short enough.
use mathlib.Core.Path.{◌≡◌, refl, sym, ap, ◌∙◌}
use mathlib.Core.Bool.{true, false}
use mathlib.Core.List.{List, [], reverse, reverse-reverse}
use mathlib.Core.Option.{Option, none, some}
use Prim.Native.Nat.{ℕ, ◌+◌, ◌≤◌}
use native.Mathlib.Omega.{arith}
use lib.ListN.{length}
use borrow.Author.Tests.{leb-true, le-leb}
use Rattle.macros.specs.Bounds.{most_tags, most_macro_bytes}
use Rattle.macros.specs.Macro.{Piece, Call, Action, Symbol, Macro, tags}
use Rattle.macros.specs.ReadSoFar.Joinable.{nothing}
use Rattle.macros.specs.Formed.{Octets, FormedCommands}
use Rattle.macros.specs.Write.{commands_bytes}
use Rattle.macros.specs.Spell.{spell_text, spell_pattern, spell_replacement, shortest}
use Rattle.macros.specs.Accepted.{Spellable}
use Rattle.form_table.specs.Form.{pattern_items, replacement_items, calls_items}
use Rattle.form_table.specs.Walk.{walk}
use Rattle.form_table.specs.PatternWalk.{PatternState, pattern_step, pattern_start, pattern_ends, pattern_spelled}
use Rattle.form_table.specs.ActionWalk.{ActionState, action_step, action_start, action_ends, action_spelled}
use Rattle.form_table.specs.Check.{after_calls, after_commands, after_replacement, after_pattern, items_fit}
use Rattle.form_table.proofs.Basics.{clash, and_left, and_right}
use Rattle.form_table.proofs.Order.{few_tags, tags_reverse}
use Rattle.form_table.proofs.Sizes.{shortest_size}
use Rattle.form_table.proofs.PatternCost.{cost_spelled, cost as pattern_cost}
use Rattle.form_table.proofs.PatternStates.Walked.{pieces}
use Rattle.form_table.proofs.PatternSound.{PatternOf, pattern_sound}
use Rattle.form_table.proofs.PatternThere.{pattern_there, pattern_ends_lem}
use Rattle.form_table.proofs.ActionStates.{cost, cost_spelled as actions_cost}
use Rattle.form_table.proofs.ActionSound.{ActionsOf, actions_sound}
use Rattle.form_table.proofs.ActionThere.{actions_there}
use Rattle.form_table.proofs.Commands.{actions, actions_items, actions_spelled, commands_allowed, replacement_allowed, allowed_replacement, CommandsOf, allowed_commands, allowed_onto}

-- SOUND

-- a macro, but for its symbol, with these items
pub record MacroOf (t : ℕ) (bs ps rs cs : List ℕ) : Type 0 where
  pub before : List Call
  pub pattern : List Piece
  pub replacement : List Action
  pub commands : List Call
  pub before_of : calls_items before ≡ bs
  pub pattern_of : pattern_items pattern ≡ ps
  pub replacement_of : replacement_items replacement ≡ rs
  pub commands_of : calls_items commands ≡ cs
  pub tagged : tags pattern ≡ t
  pub spellable : (y : Symbol) → Spellable (record { before = before; pattern = pattern; symbol = y; replacement = replacement; commands = commands })

-- calls, by their items, and the bytes of their spelling
record CallsOf (t n k : ℕ) (cs : List ℕ) : Type 0 where
  calls : List Call
  formed : FormedCommands t calls
  items : calls_items calls ≡ cs
  spelled : k ≡ n + length (commands_bytes spell_text calls)

calls_of : (t : ℕ) {n k : ℕ} (cs : List ℕ) → ActionsOf true t n k cs → CallsOf t n k cs
calls_of t cs c =
    let g : CommandsOf t (reverse c.newest) = allowed_commands t (reverse c.newest) (allowed_onto true t c.newest [] c.allowed tt) in
    record {
      calls = g.calls;
      formed = g.formed;
      items = sym (actions_items g.calls) ∙ rw (← g.same) c.items;
      spelled = rw (← (actions_spelled none g.calls), ← g.same, actions_cost c.newest) c.spelled;
    }

module _ (t : ℕ) (bs ps rs cs : List ℕ) where
  whole : {n₁ n₂ n₃ n₄ : ℕ} → PatternOf t n₁ ps → ActionsOf false t n₁ n₂ rs → ActionsOf true t n₂ n₃ cs → ActionsOf true 0 n₃ n₄ bs
      → n₄ ≤ most_macro_bytes → MacroOf t bs ps rs cs
  whole {n₁} {n₂} {n₃} {n₄} p r c b h =
      let g : CallsOf t n₂ n₃ cs = calls_of t cs c in
      let f : CallsOf 0 n₃ n₄ bs = calls_of 0 bs b in
      let e : tags (reverse (reverse p.newest)) ≡ t = rw (reverse-reverse p.newest) p.tagged in
      record {
        before = f.calls;
        pattern = reverse p.newest;
        replacement = reverse r.newest;
        commands = g.calls;
        before_of = f.items;
        pattern_of = p.items;
        replacement_of = r.items;
        commands_of = g.items;
        tagged = tags_reverse p.newest ∙ p.tagged;
        spellable = λ y. (
          record {
            before = f.formed;
            pattern = rw (reverse-reverse p.newest) p.formed;
            replacement = rw e (allowed_replacement t (reverse r.newest) (allowed_onto false t r.newest [] r.allowed tt));
            commands = rw e g.formed;
          },
          rw (
            shortest_size (record { before = f.calls; pattern = reverse p.newest; symbol = y; replacement = reverse r.newest; commands = g.calls }),
            cost_spelled p.newest,
            actions_cost r.newest,
          )
              (omega (arith, p.spelled, r.spelled, g.spelled, f.spelled)),
        );
      }

  pub items_sound : Octets bs → Octets ps → Octets rs → Octets cs → items_fit t bs ps rs cs ≡ true → MacroOf t bs ps rs cs
  unfolding items_fit after_pattern after_replacement after_commands after_calls
  items_sound ob op or oc e = by_pattern (walk pattern_step pattern_start ps) refl e
    where
      by_calls : {n₁ n₂ n₃ : ℕ} (x : Option ActionState) → walk (action_step true 0) (action_start n₃) bs ≡ x
          → PatternOf t n₁ ps → ActionsOf false t n₁ n₂ rs → ActionsOf true t n₂ n₃ cs → after_calls x ≡ true → MacroOf t bs ps rs cs
      by_calls none q p r c e = clash e refl
      by_calls {n₁} {n₂} {n₃} (some st) q p r c e =
          whole p r c (actions_sound true 0 n₃ bs st ob q (and_left (action_ends st) _ e)) (leb-true (action_spelled st) most_macro_bytes (and_right (action_ends st) _ e))

      by_commands : {n₁ n₂ : ℕ} (x : Option ActionState) → walk (action_step true t) (action_start n₂) cs ≡ x → PatternOf t n₁ ps → ActionsOf false t n₁ n₂ rs
          → after_commands bs x ≡ true → MacroOf t bs ps rs cs
      by_commands none q p r e = clash e refl
      by_commands {n₁} {n₂} (some st) q p r e =
          by_calls (walk (action_step true 0) (action_start (action_spelled st)) bs) refl p r
          (actions_sound true t n₂ cs st oc q (and_left (action_ends st) _ e)) (and_right (action_ends st) _ e)

      by_replacement : {n₁ : ℕ} (x : Option ActionState) → walk (action_step false t) (action_start n₁) rs ≡ x → PatternOf t n₁ ps → after_replacement t cs bs x ≡ true
          → MacroOf t bs ps rs cs
      by_replacement none q p e = clash e refl
      by_replacement {n₁} (some st) q p e =
          by_commands (walk (action_step true t) (action_start (action_spelled st)) cs) refl p
          (actions_sound false t n₁ rs st or q (and_left (action_ends st) _ e)) (and_right (action_ends st) _ e)

      by_pattern : (x : Option PatternState) → walk pattern_step pattern_start ps ≡ x → after_pattern t rs cs bs x ≡ true → MacroOf t bs ps rs cs
      by_pattern none q e = clash e refl
      by_pattern (some st) q e =
          by_replacement (walk (action_step false t) (action_start (pattern_spelled st)) rs) refl
          (pattern_sound t ps st op q (and_left (pattern_ends t st) _ e)) (and_right (pattern_ends t st) _ e)

-- THERE

-- the spelling of calls, walked over
calls_cost : (cs : List Call) → length (commands_bytes spell_text cs) ≡ cost (reverse (actions cs))
calls_cost cs =
    sym (ap {A = List ℕ} length (actions_spelled none cs)) ∙ (rw reverse-reverse at (actions_cost (reverse (actions cs))))

spelled_length : (m : Macro) → 6 + pattern_cost (reverse m.pattern) + cost (reverse m.replacement) + cost (reverse (actions m.commands))
    + cost (reverse (actions m.before)) ≡ length (shortest m)
spelled_length m =
    let p : length (spell_pattern nothing m.pattern) ≡ pattern_cost (reverse m.pattern) = rw reverse-reverse at (cost_spelled (reverse m.pattern)) in
    let r : length (spell_replacement none m.replacement) ≡ cost (reverse m.replacement) = rw reverse-reverse at (actions_cost (reverse m.replacement)) in
    omega (arith, shortest_size m, p, r, calls_cost m.commands, calls_cost m.before)

pub items_there : (m : Macro) → Spellable m
    → items_fit (tags m.pattern) (calls_items m.before) (pattern_items m.pattern) (replacement_items m.replacement) (calls_items m.commands) ≡ true
unfolding items_fit after_pattern after_replacement after_commands after_calls pattern_spelled action_spelled action_ends
items_there m f =
    let p : List Piece = reverse m.pattern in
    let k : tags p ≡ tags m.pattern = tags_reverse m.pattern in
    let h : tags p ≤ most_tags = few_tags p f.0.pattern.pieces in
    let n₁ : ℕ = 6 + pattern_cost p in
    let n₂ : ℕ = n₁ + cost (reverse m.replacement) in
    let n₃ : ℕ = n₂ + cost (reverse (actions m.commands)) in
    rw (
      ← k,
      pattern_there m.pattern f.0.pattern.pieces,
      pattern_ends_lem p f.0.pattern,
      actions_there false (tags p) n₁ m.replacement h (replacement_allowed (tags p) m.replacement f.0.replacement),
      ← (actions_items m.commands),
      actions_there true (tags p) n₂ (actions m.commands) h (commands_allowed (tags p) m.commands f.0.commands),
      ← (actions_items m.before),
      actions_there true 0 n₃ (actions m.before) (omega arith) (commands_allowed 0 m.before f.0.before),
    )
    (le-leb (n₃ + cost (reverse (actions m.before))) most_macro_bytes (omega (arith, f.1, spelled_length m)))
