-- 02, N1, computed: traces that fill their memory.
use Rattle.std.specs.Prelude.{◌≡◌, refl, ℕ, List, [], ◌∷◌, ◌++◌, length, replicate}
use Rattle.std.proofs.Math.Option.{Option, none, some}
use Rattle.lines.specs.Cases.{everything, Shown, out, says, control, refused}
use Rattle.lines.specs.TraceCases.{Traced, traces, traces_one, first}

-- the length of a trace in its place
abbrev size_of : Option (List ℕ) → Option ℕ
size_of none = none
size_of (some s) = some (length s)

abbrev sizes : List Traced → List (Shown × Option ℕ)
sizes [] = []
sizes (x ∷ xs) = (x.0, size_of x.1) ∷ sizes xs

-- each pass makes the line longer; a line behind it is traced as ever
pub growing : traces "'int'='integer';" ("print" ∷ "x" ∷ []) ≡ first ∷ (refused 36 0 124, none) ∷ (says "x" 1, some []) ∷ []
unfolding everything
growing = refl

-- 65,536 bytes fit: 32 times 2,048; and 65,537 do not: 1,985 and 32 times 1,986
pub bound :
    (traces_one "'a'='a';" 32 (replicate 1010 97) ≡ first ∷ (refused 31 0 32, none) ∷ [])
    × (traces_one "'a'='a';'x'<'yy';" 33 (120 ∷ replicate 977 97) ≡ first ∷ (refused 36 0 33, none) ∷ [])
unfolding everything
bound = (refl, refl)

-- and a line with a full memory is taken: each pass takes one x away, 32 times 2,048 bytes; one byte more and it is refused
pub full :
    (sizes (traces_one "'^x'='';" 33 (replicate 32 120 ++ replicate 994 97)) ≡ (control 0, none) ∷ (out (replicate 994 97) 33, some 65536) ∷ [])
    × (traces_one "'^x'='';" 33 (replicate 32 120 ++ replicate 995 97) ≡ first ∷ (refused 36 0 32, none) ∷ [])
unfolding everything
full = (refl, refl)

-- 36 shows at the pass's end, before 31 of the next pass: 30 times 2,136 bytes fit
pub before_31 :
    (traces_one "'a'='a';" 31 (replicate 1054 97) ≡ first ∷ (refused 36 0 31, none) ∷ [])
    × (traces_one "'a'='a';" 30 (replicate 1054 97) ≡ first ∷ (refused 31 0 30, none) ∷ [])
unfolding everything
before_31 = (refl, refl)

-- and before 23 of the control line that the pass makes: each pass takes one x away, and the 32nd leaves `$` in front
pub before_23 : traces_one "'^x'='';" 100 (replicate 32 120 ++ (36 ∷ replicate 994 97)) ≡ first ∷ (refused 36 0 32, none) ∷ []
unfolding everything
before_23 = refl

-- but behind 32, which shows inside the pass: 31 passes fit, and behind them one with occurrences becomes more than a line holds
pub after_32 : traces_one "'a'<'aa';'^x'='';" 100 (replicate 31 120 ++ replicate 1000 97) ≡ first ∷ (refused 32 0 33, none) ∷ []
unfolding everything
after_32 = refl
