-- 01, parts 2 to 4: what `{n}` inserts and `&(n,i)` stores, told by the pattern, its braces and the spans of the division.
-- In brackets stand the edits of must-fail/ that a law rules out.
use Rattle.std.specs.Prelude.{ℕ, suc, ◌≡◌, List, [], ◌∷◌, ◌++◌}
use Rattle.std.proofs.Math.Seq.{slice}
use Rattle.macros.specs.Macro.{Piece, Move, Macro, tags}
use Rattle.macros.specs.Macro.Piece.{left, right}
use Rattle.macros.specs.Macro.Mark.{stack}
use Rattle.macros.specs.Macro.Call.{store_tag}
use Rattle.macros.specs.Macro.Action.{tag}
use Rattle.macros.specs.Formed.{Between, Formed}
use Rattle.lines.specs.State.{State}
use Rattle.lines.specs.Matching.{Division, Divides, stops}
use Rattle.lines.specs.Replacing.{Work, acts, call_acts}
use Rattle.lines.specs.Tags.{Closes, end_after}
use Rattle.lines.specs.Steps.{with_move, ComesTo}
use Rattle.lines.specs.Steps.Step.{inserts, stores}

-- where the tag number n stands in the pattern es: front before its left brace, inside between its braces
pub record TagAt (es : List Piece) (n : ℕ) : Type 0 where
  pub front : List Piece
  pub inside : List Piece
  pub back : List Piece
  pub pieces : es ≡ front ++ left ∷ (inside ++ right ∷ back)
  -- the right brace is its own: what is between closes every brace that it opens
  pub own : Closes 0 inside
  -- "numbered by their left braces"
  pub number : n ≡ suc (tags front)

-- its text, in a division d at place p of the line t: from "the end of what precedes its left brace to the end of what precedes its right"
abbrev pub text_of_tag : (es : List Piece) (n : ℕ) → TagAt es n → List ℕ → ℕ → Division → List ℕ
text_of_tag es n g t p d = slice (end_after p g.front d) (end_after p (g.front ++ left ∷ g.inside) d) t

-- THE LAW: in every division, `{n}` inserts the text of the tag n [late_tag, next_tag_inserted]
abbrev pub TagInserts : Type 0
TagInserts =
    (st : State) (t : List ℕ) (es : List Piece) (p : ℕ) (d : Division) → Divides st t es p d
    → (n : ℕ) (g : TagAt es n) (w : Work) → ComesTo (inserts (text_of_tag es n g t p d) ∷ []) w (acts t es (stops d) (tag n) w)

-- THE LAW: and `&(n,i)`, with a sign or without, stores it as the current entry [next_tag_stored, stored_before_move]
abbrev pub TagStores : Type 0
TagStores =
    (st : State) (t : List ℕ) (es : List Piece) (p : ℕ) (d : Division) → Divides st t es p d
    → (n : ℕ) (g : TagAt es n) (i : ℕ) (v : Move) (w : Work)
    → ComesTo (with_move stack i v (stores i (text_of_tag es n g t p d))) w (call_acts t es (stops d) (store_tag n i v) w)

-- THE LAW: a pattern that is well formed has each of its tags
abbrev pub TagsStand : Type 0
TagsStand = (m : Macro) → Formed m → (n : ℕ) → Between 1 (tags m.pattern) n → TagAt m.pattern n
