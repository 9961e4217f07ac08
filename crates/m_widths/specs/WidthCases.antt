-- 02, N6, computed: a tag and a call's text at the bounds, fed in the old state and in the new one.
use Rattle.std.specs.Prelude.{◌≡◌, refl, ℕ, List, [], ◌∷◌, ◌++◌, length, replicate}
use Rattle.macros.specs.Read.{Read, read_file}
use Rattle.macros.specs.ReadFile.Read.{refused_at, table}
use Rattle.lines.specs.State.{State, fresh, current_entry}
use Rattle.lines.specs.Line.{Sent}
use Rattle.lines.specs.Feeding.{Answer, bytes, feeds}
use Rattle.lines.specs.Cases.{everything, Shown, shown, control, refused, says}
use Rattle.m_widths.specs.Widths.{widened, narrowed}

-- a line of n letters `a`
abbrev a_line : ℕ → List ℕ
a_line n = replicate n 97

-- `$MACRO` and a macro with a text of n letters
abbrev macro_with : ℕ → List ℕ
macro_with n = bytes "$MACRO 'x'='&(a:" ++ (a_line n ++ bytes ":)';")

-- what is shown of each answer: it, the bytes of the entries of `t` and of `a` then, and how many bytes an entry may have
abbrev told : List Answer → List (Shown × ℕ × ℕ × ℕ)
told [] = []
told (a ∷ as₁) =
    (shown a, length (current_entry a.state 116), length (current_entry a.state 97), a.state.entry_bytes) ∷ told as₁

-- lines, each fed with the budget 10
abbrev sent_all : List (List ℕ) → List Sent
sent_all [] = []
sent_all (t ∷ ts) = record { line = t; budget = 10 } ∷ sent_all ts

-- the lines, fed in the state st to the table that was read
abbrev fed_in : State → List (List ℕ) → Read → List (Shown × ℕ × ℕ × ℕ)
fed_in st ts (refused_at r p) = []
fed_in st ts (table ms) = told (feeds ms st (sent_all ts))

-- a table that sets a counter and stores each line of letters `a` in `t`
abbrev storing : Read
storing = read_file (bytes "'^{a*}$'<'b'#(n=7)&(1,t);")

-- the old engine: 50 bytes are taken, 51 and 100 are 33 and 16; and the new macro at work
pub old_bounds :
    fed_in (narrowed fresh) (a_line 50 ∷ a_line 51 ∷ a_line 100 ∷ macro_with 50 ∷ macro_with 51 ∷ macro_with 100 ∷ bytes "x" ∷ []) storing
    ≡ (says "b" 1, 50, 0, 50) ∷ (refused 33 0 1, 50, 0, 50) ∷ (refused 33 0 1, 50, 0, 50) ∷ (control 0, 50, 0, 50)
    ∷ (refused 16 60 0, 50, 0, 50) ∷ (refused 16 60 0, 50, 0, 50) ∷ (says "" 3, 50, 50, 50) ∷ []
unfolding everything
old_bounds = refl

-- the new engine, in the same state widened: 51 are taken too
pub new_bounds :
    fed_in (widened (narrowed fresh)) (a_line 50 ∷ a_line 51 ∷ macro_with 50 ∷ macro_with 51 ∷ bytes "x" ∷ []) storing
    ≡ (says "b" 1, 50, 0, 100) ∷ (says "b" 1, 51, 0, 100) ∷ (control 0, 51, 0, 100) ∷ (control 0, 51, 0, 100)
    ∷ (says "" 4, 51, 51, 100) ∷ []
unfolding everything
new_bounds = refl

-- the new engine's own bounds: 100 bytes are taken, 101 are 33 and 16
pub new_own_bounds :
    fed_in fresh (a_line 100 ∷ a_line 101 ∷ macro_with 100 ∷ macro_with 101 ∷ bytes "x" ∷ []) storing
    ≡ (says "b" 1, 100, 0, 100) ∷ (refused 33 0 1, 100, 0, 100) ∷ (control 0, 100, 0, 100) ∷ (refused 16 110 0, 100, 0, 100)
    ∷ (says "" 3, 100, 100, 100) ∷ []
unfolding everything
new_own_bounds = refl
