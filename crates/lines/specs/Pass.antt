-- 01, part 5: a pass of one macro, with all that happens in it.
use Rattle.std.specs.Prelude.{ℕ, zero, suc, ◌-◌, Bool, true, false, ◌&&◌, List, [], ◌∷◌, eqb}
use Rattle.std.proofs.Math.Option.{Option, none, some}
use Rattle.macros.specs.Macro.{Piece, Macro}
use Rattle.lines.specs.State.{State}
use Rattle.lines.specs.Matching.{Division, end_of}
use Rattle.lines.specs.Choosing.{chosen}
use Rattle.lines.specs.Replacing.{Work, Done, start_in, put, occur}
use Rattle.lines.specs.Replacing.Done.{bad, good}

-- THE MATCH AT A PLACE

-- "An empty match at the end of the match just made in the same pass does not count."; last: where that ended, if there was one.
-- Where the chosen division is empty there is no other: any other would have fewer repeats at some closure of units that are not empty.
unfoldable pub barred : Option ℕ → ℕ → ℕ → Bool
barred none p q = false
barred (some l) p q = eqb l p && eqb q p

-- a barred division does not count
unfoldable pub unless_barred : Bool → Division → Option Division
unless_barred true d = none
unless_barred false d = some d

-- the chosen division, if it counts
unfoldable pub counting : Option ℕ → ℕ → Option Division → Option Division
counting last p none = none
counting last p (some d) = unless_barred (barred last p (end_of p d)) d

-- "A match, the division chosen there"
unfoldable pub match : State → List Piece → Option ℕ → ℕ → List ℕ → Option Division
match st es last p s = counting last p (chosen st es p s)

-- A PASS

-- an occurrence: its place, its division, the moment when the place is tried, and the moment after replacement and commands
pub record Occurrence : Type 0 where
  pub place : ℕ
  pub division : Division
  pub before : Work
  pub after : Work

-- what happens in a pass: its occurrences in turn, and then its end, or its refusal
pub data Walk : Type 0 where
  ended : Done → Walk
  occurs : Occurrence → Walk → Walk

-- a refused step ends the pass
unfoldable pub go_on : Done → (Work → Walk) → Walk
go_on (bad r w) k = ended (bad r w)
go_on (good w) k = k w

-- "A match .. makes the replacement"; go takes the moment after it
unfoldable pub matched : Macro → List ℕ → ℕ → Division → Work → (Work → Walk) → Walk
matched m t p d w go = go_on (occur m t d w) (λ v. occurs (record { place = p; division = d; before = w; after = v }) (go v))

-- the line's length, the last place: "at the line's length the pass is over"
unfoldable pub at_end : Macro → List ℕ → ℕ → Work → Option Division → Walk
at_end m t p w none = ended (good w)
at_end m t p w (some d) = matched m t p d w (λ v. ended (good v))

-- a match of width k that ended at q "goes on at its end; an empty match also copies the byte there .. and goes on after that byte"
unfoldable pub onward : ℕ → ℕ → ℕ → (ℕ → Option ℕ → Work → Walk) → Work → Walk
onward q b zero go v = go_on (put b v) (λ x. go zero (some q) x)
onward q b (suc k) go v = go k (some q) v

-- a place with the byte b: "At a place without a match the byte is copied."
-- go takes how many bytes to pass over behind b, where the last match ended, and the moment
unfoldable pub at_byte : Macro → List ℕ → ℕ → ℕ → Option ℕ → Work → (ℕ → Option ℕ → Work → Walk) → Option Division → Walk
at_byte m t p b last w go none = go_on (put b w) (λ v. go zero last v)
at_byte m t p b last w go (some d) = matched m t p d w (onward (end_of p d) b (end_of p d - p) go)

-- the pass over the line t from place p on, where t has the bytes of the last argument
-- of these the first skip belong to the match just made, which ended at last
unfoldable pub walk : Macro → List ℕ → ℕ → Option ℕ → ℕ → Work → List ℕ → Walk
walk m t skip last p w [] = at_end m t p w (match w.state m.pattern last p [])
walk m t (suc skip) last p w (b ∷ bs) = walk m t skip last (suc p) w bs
walk m t zero last p w (b ∷ bs) =
    at_byte m t p b last w (λ skip l v. walk m t skip l (suc p) v bs) (match w.state m.pattern last p (b ∷ bs))

-- "A pass of one macro tries places from 0 to the line's length, both included."; st: the state in which place 0 is tried
unfoldable pub pass : Macro → List ℕ → State → Walk
pass m t st = walk m t 0 none 0 (start_in st) t

-- WHAT A PASS COMES TO

-- its occurrences in turn
unfoldable pub occurrences : Walk → List Occurrence
occurrences (ended d) = []
occurrences (occurs o k) = o ∷ occurrences k

-- whether it had one
unfoldable pub occurred : Walk → Bool
occurred (ended d) = false
occurred (occurs o k) = true

-- the moment at its end, or its refusal
unfoldable pub outcome : Walk → Done
outcome (ended d) = d
outcome (occurs o k) = outcome k
