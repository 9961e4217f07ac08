-- The bytes that break a macro off.
-- Assumes nothing.
use mathlib.Core.Path.{◌≡◌}
use mathlib.Core.Bool.{true, or-false}
use Prim.Native.Nat.{ℕ}
use lib.Dec.{eqb}
use borrow.Author.Tests.{ne_eqb}
use Rattle.macros.specs.Macro.{among}
use Rattle.macros.specs.Read.{breaks}

pub breaks_quote : {b : ℕ} → b ≡ 39 → breaks b ≡ true
unfolding breaks among
breaks_quote e = simp e

pub breaks_semicolon : {b : ℕ} → b ≡ 59 → breaks b ≡ true
unfolding breaks among
breaks_semicolon e = simp e

pub breaks_feed : {b : ℕ} → (b ≡ 39 → ⊥) → (b ≡ 59 → ⊥) → breaks b ≡ eqb b 10
unfolding breaks among
breaks_feed e f = simp (ne_eqb _ _ e, ne_eqb _ _ f, or-false)
