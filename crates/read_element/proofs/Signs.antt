-- One byte of a pattern, by the sign that it is.
-- Assumes nothing.
use mathlib.Core.Path.{◌≡◌, refl, sym}
use mathlib.Core.Bool.{Bool, true, false, ◌||◌, true≢false}
use mathlib.Core.List.{List, [], ◌∷◌}
use Prim.Native.Nat.{ℕ, ◌+◌, ◌-◌}
use lib.Dec.{eqb}
use borrow.Author.Tests.{ne_eqb}
use Rattle.macros.specs.Refusals.FileRefusal.{incomplete, no_unit}
use Rattle.macros.specs.Macro.{Mark, PatternUnit, Piece, pick, among, within, ascii_lower, mark_byte}
use Rattle.macros.specs.Macro.Closure.{once, one_or_more, zero_or_more}
use Rattle.macros.specs.Macro.PatternUnit.{literal, kind, call_of}
use Rattle.macros.specs.Macro.Piece.{element, start, end}
use Rattle.macros.specs.Read.{Prior, part_byte, skips, breaks, escaped, signs, kind_digit, hold, sign, fresh, closes, pattern_byte, opened_byte, otherwise}
use Rattle.macros.specs.Read.{part_byte_by}
use Rattle.macros.specs.ReadSoFar.Joinable.{nothing, unit, starred, query, marked}
use Rattle.macros.specs.ReadSoFar.Last.{free}
use Rattle.macros.specs.ReadSoFar.Part.{pattern, pattern_escape, opened, members, pattern_call, pattern_called}
use Rattle.macros.specs.ReadSoFar.Step.{on}
use Rattle.read_scan.specs.Scan.MacroRead.{refused_at}
use Rattle.read_scan.specs.Scan.{run, At, Here, wrong_call}
use Rattle.read_element.specs.Element.{mark_at}
use Rattle.read_scan.proofs.Laws.{at_on, at_same, here_on, here_stop, here_same, otherwise_wrong}

or_more : (x y z r : Bool) → (x || (y || (z || false))) ≡ true → (x || (y || (z || r))) ≡ true
or_more true y z r e = refl
or_more false true z r e = refl
or_more false false true r e = refl
or_more false false false r e = absurd (true≢false (sym e))

breaks_sign : (b : ℕ) → breaks b ≡ true → among signs b ≡ true
unfolding breaks signs among
breaks_sign b e = or_more (eqb b 39) (eqb b 59) (eqb b 10) _ e

module _ {s : List ℕ} {a p b : ℕ} (x : Here s a p b) (pr : Prior) (ps : List Piece) where
  -- BEHIND NOTHING TO JOIN

  pub at_start_lem : b ≡ 94 → run s a pr false p (pattern nothing ps) ≡ run s a pr false (p + 1) (pattern nothing (start ∷ ps))
  unfolding part_byte_by pattern_byte fresh among signs sign breaks pick
  at_start_lem e = here_on x pr _ _ (λ q o. refl) (simp e)

  pub at_end_lem : b ≡ 36 → run s a pr false p (pattern nothing ps) ≡ run s a pr false (p + 1) (pattern nothing (end ∷ ps))
  unfolding part_byte_by pattern_byte fresh among signs sign breaks pick
  at_end_lem e = here_on x pr _ _ (λ q o. refl) (simp e)

  pub at_star : b ≡ 42 → run s a pr false p (pattern nothing ps) ≡ refused_at no_unit p
  unfolding part_byte_by pattern_byte fresh among signs sign breaks pick
  at_star e = here_stop x pr _ no_unit (simp e)

  pub at_break : breaks b ≡ true → (b ≡ 39 → ⊥) → run s a pr false p (pattern nothing ps) ≡ refused_at incomplete p
  unfolding part_byte_by pattern_byte fresh sign pick
  at_break e f = here_stop x pr _ incomplete (simp (breaks_sign b e, ne_eqb _ _ f, e))

  pub at_escape : b ≡ 92 → run s a pr false p (pattern nothing ps) ≡ run s a pr false (p + 1) (pattern_escape ps)
  unfolding part_byte_by pattern_byte fresh among signs sign breaks pick
  at_escape e = here_on x pr _ _ (λ q o. refl) (simp e)

  pub at_bracket : b ≡ 91 → run s a pr false p (pattern nothing ps) ≡ run s a pr false (p + 1) (opened ps)
  unfolding part_byte_by pattern_byte fresh among signs sign breaks pick
  at_bracket e = here_on x pr _ _ (λ q o. refl) (simp e)

  pub at_query_lem : b ≡ 63 → run s a pr false p (pattern nothing ps) ≡ run s a pr false (p + 1) (pattern query ps)
  unfolding part_byte_by pattern_byte fresh among signs hold pick
  at_query_lem e = here_on x pr _ _ (λ q o. refl) (simp e)

  pub at_stack : b ≡ 38 → run s a pr false p (pattern nothing ps) ≡ run s a pr false (p + 1) (pattern (marked (mark_at b)) ps)
  unfolding part_byte_by pattern_byte fresh among signs hold pick
  at_stack e = here_on x pr _ _ (λ q o. refl) (simp e)

  pub at_counter : b ≡ 35 → run s a pr false p (pattern nothing ps) ≡ run s a pr false (p + 1) (pattern (marked (mark_at b)) ps)
  unfolding part_byte_by pattern_byte fresh among signs hold pick
  at_counter e = here_on x pr _ _ (λ q o. refl) (simp e)

  -- a byte that is no sign, nor `?`, `&` or `#`
  pub at_literal : among signs b ≡ false → (b ≡ 63 → ⊥) → (b ≡ 38 → ⊥) → (b ≡ 35 → ⊥)
      → run s a pr false p (pattern nothing ps) ≡ run s a pr false (p + 1) (pattern (unit (literal b)) ps)
  unfolding part_byte_by pattern_byte fresh hold pick
  at_literal f g h i = here_on x pr _ _ (λ q o. refl) (simp (f, ne_eqb _ _ g, ne_eqb _ _ h, ne_eqb _ _ i))

  -- BEHIND WHAT THE BYTE MAY JOIN

  pub query_digit : kind_digit b ≡ true → run s a pr false p (pattern query ps) ≡ run s a pr false (p + 1) (pattern (unit (kind (b - 48))) ps)
  unfolding part_byte_by pattern_byte pick
  query_digit e = here_on x pr _ _ (λ q o. refl) (simp e)

  pub query_literal : kind_digit b ≡ false → run s a pr false p (pattern query ps) ≡ run s a pr false p (pattern (unit (literal 63)) ps)
  unfolding part_byte_by pattern_byte pick
  query_literal e = here_same x pr _ _ (λ x q o. refl) (simp e)

  module _ (m : Mark) where
    pub mark_call : b ≡ 40 → run s a pr false p (pattern (marked m) ps) ≡ run s a pr false (p + 1) (pattern_call m ps)
    unfolding part_byte_by pattern_byte pick
    mark_call e = here_on x pr _ _ (λ q o. refl) (simp e)

    pub mark_literal : (b ≡ 40 → ⊥) → run s a pr false p (pattern (marked m) ps) ≡ run s a pr false p (pattern (unit (literal (mark_byte m))) ps)
    unfolding part_byte_by pattern_byte pick
    mark_literal e = here_same x pr _ _ (λ x q o. refl) (simp (ne_eqb _ _ e))

    pub call_letter : ascii_lower b ≡ true → run s a pr false p (pattern_call m ps) ≡ run s a pr false (p + 1) (pattern_called m ps b)
    unfolding part_byte_by pick
    call_letter e = here_on x pr _ _ (λ q o. refl) (simp e)

    pub call_wrong : ascii_lower b ≡ false → (b ≡ 32 → ⊥) → run s a pr false p (pattern_call m ps) ≡ refused_at (wrong_call b) p
    unfolding part_byte_by pick
    call_wrong e f = here_stop x pr _ (wrong_call b) (simp e (otherwise_wrong (pattern_call m ps) b f))

    pub called_end : (i : ℕ) → b ≡ 41 → run s a pr false p (pattern_called m ps i) ≡ run s a pr false (p + 1) (pattern (unit (call_of m i)) ps)
    unfolding part_byte_by pick
    called_end i e = here_on x pr _ _ (λ q o. refl) (simp e)

    pub called_wrong : (i : ℕ) → (b ≡ 41 → ⊥) → (b ≡ 32 → ⊥) → run s a pr false p (pattern_called m ps i) ≡ refused_at (wrong_call b) p
    unfolding part_byte_by pick
    called_wrong i e f = here_stop x pr _ (wrong_call b) (simp (ne_eqb _ _ e) (otherwise_wrong (pattern_called m ps i) b f))

  module _ (u : PatternUnit) where
    pub unit_star : b ≡ 42 → run s a pr false p (pattern (unit u) ps) ≡ run s a pr false (p + 1) (pattern (starred u) ps)
    unfolding part_byte_by pattern_byte closes pick
    unit_star e = here_on x pr _ _ (λ q o. refl) (simp e)

    pub unit_once : (b ≡ 42 → ⊥) → run s a pr false p (pattern (unit u) ps) ≡ run s a pr false p (pattern nothing (element u once ∷ ps))
    unfolding part_byte_by pattern_byte closes pick
    unit_once e = here_same x pr _ _ (λ x q o. refl) (simp (ne_eqb _ _ e))

    pub star_dash : b ≡ 45 → run s a pr false p (pattern (starred u) ps) ≡ run s a pr false (p + 1) (pattern nothing (element u zero_or_more ∷ ps))
    unfolding part_byte_by pattern_byte pick
    star_dash e = here_on x pr _ _ (λ q o. refl) (simp e)

    pub star_more : (b ≡ 45 → ⊥) → run s a pr false p (pattern (starred u) ps) ≡ run s a pr false p (pattern nothing (element u one_or_more ∷ ps))
    unfolding part_byte_by pattern_byte pick
    star_more e = here_same x pr _ _ (λ x q o. refl) (simp (ne_eqb _ _ e))

-- a byte where no skip begins
module _ {s : List ℕ} {a p b : ℕ} (x : At s a p b) (pr : Prior) (ps : List Piece) where
  pub escape_on : run s a pr false p (pattern_escape ps) ≡ run s a pr false (p + 1) (pattern (unit (literal (escaped b))) ps)
  unfolding part_byte_by skips
  escape_on = at_on x pr (pattern_escape ps) _ (λ q o. refl) refl refl

  pub opened_not : b ≡ 126 → run s a pr false p (opened ps) ≡ run s a pr false (p + 1) (members ps true free [])
  unfolding part_byte_by skips opened_byte pick
  opened_not e = at_on x pr (opened ps) _ (λ q o. refl) refl (rw e refl)

  pub opened_plain : (b ≡ 126 → ⊥) → run s a pr false p (opened ps) ≡ run s a pr false p (members ps false free [])
  unfolding part_byte_by skips opened_byte pick
  opened_plain e = at_same x pr (opened ps) (members ps false free []) (λ x q o. refl) refl refl (simp (ne_eqb _ _ e))

-- a call in a pattern passes over spaces
pub space_letter : (m : Mark) (ps : List Piece) → part_byte (pattern_call m ps) 32 ≡ on (pattern_call m ps)
unfolding part_byte_by otherwise ascii_lower within pick
space_letter m ps = refl

pub space_called : (m : Mark) (ps : List Piece) (i : ℕ) → part_byte (pattern_called m ps i) 32 ≡ on (pattern_called m ps i)
unfolding part_byte_by otherwise pick
space_called m ps i = refl
