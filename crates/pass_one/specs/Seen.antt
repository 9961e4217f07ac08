-- The state under which marks were made, and when it stands for the state now.
use Rattle.std.specs.Prelude.{ℕ, ◌*◌, ◌≤◌, ◌<◌, ◌≡◌, Bool, true, false, List, length, drop}
use Rattle.macros.specs.Macro.{Piece}
use Rattle.form_table.specs.Form.{body_bytes}
use Rattle.lines.specs.State.{State, current_entry, counter_of}
use Rattle.form_state.specs.Access.{Holds, IsState}
use Rattle.pass_one.specs.Marks.{rows_bytes, Sound}
use Rattle.pass_unit.specs.Pattern.{IsPattern}
use Rattle.pass_lack.specs.Twos.{Pairs}

-- what an answer of true says
abbrev pub WhenTrue : Bool → Type 0 → Type 0
WhenTrue r P = r ≡ true → P

-- what an answer of false says
abbrev pub WhenFalse : Bool → Type 0 → Type 0
WhenFalse r P = r ≡ false → P

-- the codes of calls are 16 to 23, those of stacks before those of counters
abbrev pub NoCall : ℕ → ℕ → Type 0
NoCall c i = 16 ≤ c → c < 24 → ⊥

-- the item stands for the same text in both states, if it is a call
pub record SameAt (st st' : State) (c i : ℕ) : Type 0 where
  pub stack : 16 ≤ c → c < 20 → current_entry st i ≡ current_entry st' i
  pub counter : 20 ≤ c → c < 24 → (counter_of st i).value ≡ (counter_of st' i).value

-- the item stands for the same text in every two states of which these are the bytes, if it is a call
abbrev pub SameIn : List ℕ → List ℕ → ℕ → ℕ → Type 0
SameIn b b' c i = (st st' : State) → Holds b st → Holds b' st' → SameAt st st' c i

-- every call stands for the same in the states of both bytes
abbrev pub Alike : List ℕ → List ℕ → List ℕ → Type 0
Alike items b b' = (st st' : State) → Holds b st → Holds b' st' → Pairs (SameAt st st') items

-- nothing is seen where the pattern has no call; else the bytes of a state under which its calls stand for what they do in b
pub record Seen (items seen b : List ℕ) : Type 0 where
  pub none : length seen ≡ 0 → Pairs NoCall items
  pub state : 0 < length seen → IsState seen
  pub same : 0 < length seen → Alike items seen b

-- what keeping or clearing the marks asks
pub record Renewing (items b seen marks : List ℕ) : Type 0 where
  pub pattern : (es : List Piece) × IsPattern items es
  pub fits : length items ≤ body_bytes
  pub state : IsState b
  pub old : 0 < length seen → IsState seen
  pub size : length marks ≡ rows_bytes items

-- marks that hold for the bytes before hold for those now
pub record Renewed (items b seen seen' marks marks' : List ℕ) : Type 0 where
  pub sound : (before t : List ℕ) → IsState before → Seen items seen before → Sound items before t marks → Sound items b t marks'
  pub sees : (before : List ℕ) → Seen items seen before → Seen items seen' b
  pub outside : drop (66 * length items) marks' ≡ drop (66 * length items) marks
