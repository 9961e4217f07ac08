-- What a call moves and sets (01, part 4), from its code.
use Rattle.std.specs.Prelude.{ℕ, ◌+◌, ◌%◌, ◌≡◌, Bool, List, Result, Ok, Err, eqb, ltb}
use Rattle.macros.specs.Macro.{Sign, pick, within}
use Rattle.macros.specs.Macro.Sign.{plus, minus}
use Rattle.lines.specs.Replacing.{Work, Done, fallen, moves, with_pointer, with_value, with_increment}
use Rattle.lines.specs.Replacing.Done.{good}
use Rattle.refusals.specs.declared.WorkError.{WorkError}
use Rattle.pass_steps.specs.Codes.{mark_in}
use Rattle.pass_steps.specs.Moments.{Changes}

-- the number of a pointer or counter that moves by a number, up or down
unfoldable pub moved_in : ℕ → ℕ → Bool → ℕ
moved_in n by up = pick up (n + by) (fallen n by)

-- the way that it moves
unfoldable pub sign_in : Bool → Sign
sign_in up = pick up plus minus

-- the move of an action's code; that of an action that moves nothing is 0
unfoldable pub move_in : ℕ → ℕ
move_in c = pick (within 48 79 c) (c % 8) 0

-- the move before the access, first 1, or after it, first 3
unfoldable pub moves_in : ℕ → ℕ → ℕ → Work → Done
moves_in first c i w =
    pick (eqb (move_in c) first) (moves (mark_in c) plus i w)
    (pick (eqb (move_in c) (first + 1)) (moves (mark_in c) minus i w) (good w))

-- the step f behind the answer s: where that is a refusal, nothing is done
abbrev pub Onward : (Work → Done) → List ℕ → Result ℕ WorkError → List ℕ → Result ℕ WorkError → Type 0
Onward f b (Ok k) b' r = Changes f b k b' r
Onward f b (Err e) b' r = (b' ≡ b) × (r ≡ Err e)

-- a pointer, a value or an increment is set
unfoldable pub sets_in : (c i n : ℕ) → Work → Done
sets_in c i n w = good (pick (ltb c 88) (with_pointer i n w) (pick (ltb c 96) (with_value i n w) (with_increment i n w)))
