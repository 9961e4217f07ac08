-- Commands as actions, and actions from either end.
use mathlib.Core.Path.{◌≡◌, refl, ap}
use mathlib.Core.Bool.{Bool, true, false}
use mathlib.Core.List.{List, [], ◌∷◌, reverse_aux}
use mathlib.Core.Option.{Option}
use Prim.Native.Nat.{ℕ}
use Rattle.macros.specs.Macro.{Mark, Call, Action}
use Rattle.macros.specs.Macro.Action.{text, tag, call}
use Rattle.macros.specs.Write.{commands_bytes}
use Rattle.macros.specs.Formed.{FormedReplacement, FormedCommands}
use Rattle.macros.specs.Spell.{spell_text, leaves_mark, spell_action, spell_replacement}
use Rattle.form_table.specs.Form.{calls_items, action_items, replacement_items}
use Rattle.form_table.proofs.Basics.{clash}
use Rattle.form_table.proofs.ActionStates.{AllAllowed}

abbrev pub actions : List Call → List Action
actions [] = []
actions (c ∷ cs) = call c ∷ actions cs

pub actions_items : (cs : List Call) → replacement_items (actions cs) ≡ calls_items cs
unfolding replacement_items calls_items action_items
actions_items [] = refl
actions_items (c ∷ cs) = rw (actions_items cs)

pub actions_spelled : (a : Option Mark) (cs : List Call) → spell_replacement a (actions cs) ≡ commands_bytes spell_text cs
unfolding spell_replacement commands_bytes spell_action
actions_spelled a [] = refl
actions_spelled a (c ∷ cs) = rw (actions_spelled (leaves_mark (call c)) cs)

pub commands_allowed : (k : ℕ) (cs : List Call) → FormedCommands k cs → AllAllowed true k (actions cs)
commands_allowed k [] f = tt
commands_allowed k (c ∷ cs) f = ((f.0.1, λ e. f.0.0), commands_allowed k cs f.1)

pub replacement_allowed : (k : ℕ) (xs : List Action) → FormedReplacement k xs → AllAllowed false k xs
replacement_allowed k [] f = tt
replacement_allowed k (x ∷ xs) f = ((f.0, λ e. clash e refl), replacement_allowed k xs f.1)

pub allowed_replacement : (k : ℕ) (xs : List Action) → AllAllowed false k xs → FormedReplacement k xs
allowed_replacement k [] f = tt
allowed_replacement k (x ∷ xs) f = (f.0.0, allowed_replacement k xs f.1)

-- actions that are allowed as commands are commands
pub record CommandsOf (k : ℕ) (xs : List Action) : Type 0 where
  pub calls : List Call
  pub formed : FormedCommands k calls
  pub same : xs ≡ actions calls

pub allowed_commands : (k : ℕ) (xs : List Action) → AllAllowed true k xs → CommandsOf k xs
allowed_commands k [] f = record { calls = []; formed = tt; same = refl }
allowed_commands k (text b ∷ xs) f = absurd (f.0.1 refl)
allowed_commands k (tag n ∷ xs) f = absurd (f.0.1 refl)
allowed_commands k (call c ∷ xs) f =
    let g : CommandsOf k xs = allowed_commands k xs f.1 in
    record { calls = c ∷ g.calls; formed = ((f.0.1 refl, f.0.0), g.formed); same = ap (λ (l : List Action). call c ∷ l) g.same }

pub allowed_onto : (cmd : Bool) (k : ℕ) (xs ys : List Action) → AllAllowed cmd k xs → AllAllowed cmd k ys → AllAllowed cmd k (reverse_aux xs ys)
allowed_onto cmd k [] ys f g = g
allowed_onto cmd k (x ∷ xs) ys f g = allowed_onto cmd k xs (x ∷ ys) f.1 (f.0, g)
