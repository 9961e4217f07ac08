-- What an action inserts (01, part 4), from its items: t begins with one.
use Rattle.std.specs.Prelude.{ℕ, ◌≤◌, ◌<◌, ◌≡◌, List, [], ◌∷◌, eqb, get_or}
use Rattle.macros.specs.Bounds.{most_entries, most_counter}
use Rattle.macros.specs.Macro.{pick}
use Rattle.macros.specs.Formed.{Between, Bytes, Letter}
use Rattle.lines.specs.State.{State, contents}
use Rattle.lines.specs.Replacing.{Work, Done, puts}
use Rattle.form_table.specs.Actions.{number_in, text_in, Held}
use Rattle.pass_steps.specs.Codes.{mark_in}

-- the action stands whole in t; its letter, number and text are in range
pub record Fit (t : List ℕ) : Type 0 where
  pub held : Held t
  pub letter : (get_or t 0 0 ≡ 40 → ⊥) → (get_or t 0 0 ≡ 41 → ⊥) → Letter (get_or t 1 0)
  pub text : 72 ≤ get_or t 0 0 → get_or t 0 0 < 80 → Bytes (text_in t)
  pub pointer : 80 ≤ get_or t 0 0 → get_or t 0 0 < 88 → Between 1 most_entries (number_in t)
  pub number : 88 ≤ get_or t 0 0 → Between 1 most_counter (number_in t)

-- what is inserted: a byte, a tag's text, or what a call stands for
unfoldable pub contents_in : (tag t : List ℕ) → State → List ℕ
contents_in tag t st =
    pick (eqb (get_or t 0 0) 40) (get_or t 1 0 ∷ [])
    (pick (eqb (get_or t 0 0) 41) tag (contents st (mark_in (get_or t 0 0)) (get_or t 1 0)))

-- what an action stands for is inserted
unfoldable pub inserts_in : (tag t : List ℕ) → Work → Done
inserts_in tag t w = puts (contents_in tag t w.state) w
