-- What is left in the lent bytes: zeros behind a refusal.
-- Assumes nothing.
use mathlib.Core.Path.{◌≡◌, ap, ◌∙◌}
use mathlib.Core.List.{List}
use Prim.Native.Nat.{ℕ}
use lib.ListN.{length, replicate}
use Rattle.std.specs.Prelude.{Ok, Err}
use Rattle.read_ends.specs.Ends.{Ended, Zeroed, left_by}

-- a refusal leaves zeros, whatever it left before
pub zeroed : (old mid : List ℕ) {out : List ℕ} (r : Ended) → out ≡ left_by mid r → length mid ≡ length old → Zeroed old out r
zeroed old mid (Ok x) o l = tt
zeroed old mid (Err e) o l = o ∙ ap (λ (n : ℕ). replicate {A = ℕ} n 0) l
