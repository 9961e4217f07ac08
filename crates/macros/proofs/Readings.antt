-- Reading a macro byte by byte, as a relation; it ends in one part only.
use mathlib.Core.Path.{refl, sym, ◌≡◌}
use mathlib.Core.Bool.{◌&&◌, Bool, false, true}
use mathlib.Core.List.{◌++◌, List, [], ◌∷◌}
use mathlib.Core.Option.{Option, none, some}
use Prim.Native.Nat.{ℕ}
use lib.Dec.{eqb}
use borrow.Author.Tests.{eqb-true}
use Rattle.macros.specs.Macro.{Action, Mark, Piece, mark_byte, pick}
use Rattle.macros.specs.Macro.Closure.{once, one_or_more}
use Rattle.macros.specs.Macro.PatternUnit.{literal}
use Rattle.macros.specs.Macro.Piece.{element}
use Rattle.macros.specs.Macro.Action.{text}
use Rattle.macros.specs.Read.{Joinable, Part, escaped, part_byte, skips}
use Rattle.macros.specs.ReadSoFar.Joinable.{marked, nothing, query, starred, unit}
use Rattle.macros.specs.ReadSoFar.Step.{on}
use Rattle.macros.specs.Write.{escape_byte}

-- the bytes lead from one part to another: none of them is a fault, ends the macro or begins a skip
pub data Reads : Part → List ℕ → Part → Type 0 where
  stay : {st : Part} → Reads st [] st
  next : {st st' st'' : Part} {b : ℕ} {w : List ℕ} → (skips st && eqb b 47) ≡ false → part_byte st b ≡ on st' → Reads st' w st'' → Reads st (b ∷ w) st''

pub then : {s t u : Part} {v w : List ℕ} → Reads s v t → Reads t w u → Reads s (v ++ w) u
then stay r = r
then (next f e q) r = next f e (then q r)

-- one byte, with all written out, for a tactic in place of a proof
pub move : (st : Part) (b : ℕ) (st' : Part) {w : List ℕ} {t : Part} → (skips st && eqb b 47) ≡ false → part_byte st b ≡ on st' → Reads st' w t → Reads st (b ∷ w) t
move st b st' f e r = next f e r

-- what is read ends in one part only
pub one_end : {st t u : Part} {w : List ℕ} → Reads st w t → Reads st w u → t ≡ u
one_end stay stay = refl
one_end (next {st' = x} f e r) (next {st' = y} g h q) =
    let z : y ≡ x = cc in
    one_end r (rw z at q)

-- bytes that are read up to one that does not go on: they end in one part, and the same stands behind
pub one_stop : {st t u : Part} {v w : List ℕ} (b c : ℕ) (x z : List ℕ) → Reads st v t → Reads st w u
    → ((s : Part) → part_byte t b ≡ on s → ⊥) → ((s : Part) → part_byte u c ≡ on s → ⊥) → v ++ (b ∷ x) ≡ w ++ (c ∷ z) → (t ≡ u) × (x ≡ z)
one_stop b c x z stay stay j k e = (refl, cc)
one_stop b c x z stay (next {st' = s} {b = d} f g q) j k e =
    let y : b ≡ d = cc in
    absurd (j s (rw y g))
one_stop b c x z (next {st' = s} {b = d} f g r) stay j k e =
    let y : c ≡ d = cc in
    absurd (k s (rw y g))
one_stop b c x z (next {st' = s} {b = d} {w = v} f g r) (next {st' = s'} {b = d'} {w = w} h i q) j k e =
    let y : d ≡ d' = cc in
    let a : s' ≡ s = cc in
    one_stop b c x z r (rw a at q) j k cc

-- the pieces, when nothing joins the newest any more
unfoldable pub settled : Joinable → List Piece → List Piece
settled nothing ps = ps
settled (unit u) ps = element u once ∷ ps
settled (starred u) ps = element u one_or_more ∷ ps
settled query ps = element (literal 63) once ∷ ps
settled (marked m) ps = element (literal (mark_byte m)) once ∷ ps

-- the actions, with a `&` or `#` that no `(` has joined
unfoldable pub with_mark : Option Mark → List Action → List Action
with_mark none ps = ps
with_mark (some m) ps = text (mark_byte m) ∷ ps

-- what `\` and a byte are read as
pub escaped_escape : (b : ℕ) → eqb b 110 ≡ false → eqb b 116 ≡ false → escaped (escape_byte b) ≡ b
unfolding escaped escape_byte pick
escaped_escape b f g = by (eqb b 10) (eqb b 9) refl refl
  where
    by : (p q : Bool) → eqb b 10 ≡ p → eqb b 9 ≡ q → escaped (escape_byte b) ≡ b
    by true q e h = rw e (sym (eqb-true b 10 e))
    by false true e h = rw (e, h) (sym (eqb-true b 9 h))
    by false false e h = simp (e, h, f, g)
