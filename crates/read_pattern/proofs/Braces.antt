-- A brace or the closing quote of a pattern.
-- Assumes nothing.
use mathlib.Core.Path.{◌≡◌, refl}
use mathlib.Core.Bool.{true, false}
use mathlib.Core.List.{List, ◌∷◌}
use Prim.Native.Nat.{ℕ, ◌+◌, ◌-◌, ◌≤◌, ◌<◌}
use native.Mathlib.Omega.{arith}
use lib.Dec.{ltb}
use borrow.Author.Tests.{ne_eqb, le-ltb, lt-ltb}
use Rattle.macros.specs.Refusals.FileRefusal.{bad_brace, no_element, macro_too_long}
use Rattle.macros.specs.Macro.{Piece, pick, among, tags, depth, elements}
use Rattle.macros.specs.Macro.Piece.{left, right}
use Rattle.macros.specs.Read.{Prior, part_byte_by, breaks, signs, pattern_end, sign, fresh, pattern_byte}
use Rattle.macros.specs.ReadSoFar.Joinable.{nothing}
use Rattle.macros.specs.ReadSoFar.Part.{pattern, await_symbol}
use Rattle.read_scan.specs.Scan.MacroRead.{refused_at, pattern_to}
use Rattle.read_scan.specs.Scan.{run, Here}
use Rattle.read_scan.proofs.Laws.{here_noted, here_late, here_on, here_stop}

module _ {s : List ℕ} {a p b : ℕ} (x : Here s a p b) (pr : Prior) (ps : List Piece) where
  pub at_left : b ≡ 123 → tags ps < 99 → run s a pr false p (pattern nothing ps) ≡ run s a pr false (p + 1) (pattern nothing (left ∷ ps))
  unfolding part_byte_by pattern_byte fresh among signs sign breaks pick
  at_left e h = here_on x pr _ _ (λ q o. refl) (simp (e, lt-ltb _ _ h))

  pub at_full : b ≡ 123 → 99 ≤ tags ps → run s a pr false p (pattern nothing ps) ≡ refused_at bad_brace p
  unfolding part_byte_by pattern_byte fresh among signs sign breaks pick
  at_full e h = here_stop x pr _ bad_brace (simp (e, le-ltb _ _ h))

  pub at_right : b ≡ 125 → 0 < depth ps → run s a pr false p (pattern nothing ps) ≡ run s a pr false (p + 1) (pattern nothing (right ∷ ps))
  unfolding part_byte_by pattern_byte fresh among signs sign breaks pick
  at_right e h = here_on x pr _ _ (λ q o. refl) (simp (e, lt-ltb _ _ h))

  pub at_unmatched : b ≡ 125 → depth ps ≡ 0 → run s a pr false p (pattern nothing ps) ≡ refused_at bad_brace p
  unfolding part_byte_by pattern_byte fresh among signs sign breaks pick
  at_unmatched e h = here_stop x pr _ bad_brace (simp (e, h))

  pub at_unclosed : b ≡ 39 → 0 < depth ps → run s a pr false p (pattern nothing ps) ≡ refused_at bad_brace p
  unfolding part_byte_by pattern_byte fresh among signs sign breaks pattern_end pick
  at_unclosed e h = here_stop x pr _ bad_brace (simp (e, ne_eqb (depth ps) 0 (λ z. omega arith)))

  pub at_empty : b ≡ 39 → depth ps ≡ 0 → ltb 0 (elements ps) ≡ false → run s a pr false p (pattern nothing ps) ≡ refused_at no_element p
  unfolding part_byte_by pattern_byte fresh among signs sign breaks pattern_end pick
  at_empty e h f = here_stop x pr _ no_element (simp (e, h, f))

  pub at_quote : p - a < 512 → b ≡ 39 → depth ps ≡ 0 → ltb 0 (elements ps) ≡ true → run s a pr false p (pattern nothing ps) ≡ pattern_to (p + 1) ps (run s a pr false (p + 1) (await_symbol ps))
  unfolding part_byte_by pattern_byte fresh among signs sign breaks pattern_end pick
  at_quote l e h f = here_noted x pr (pattern nothing ps) (await_symbol ps) l (simp (e, h, f))

  pub at_late_quote : 512 ≤ p - a → b ≡ 39 → depth ps ≡ 0 → ltb 0 (elements ps) ≡ true → run s a pr false p (pattern nothing ps) ≡ refused_at macro_too_long p
  unfolding part_byte_by pattern_byte fresh among signs sign breaks pattern_end pick
  at_late_quote l e h f = here_late x pr (pattern nothing ps) (await_symbol ps) l (simp (e, h, f))
