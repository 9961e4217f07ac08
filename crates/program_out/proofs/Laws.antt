-- What putting a text makes.
use Prim.Native.Nat.{ℕ, ◌+◌, ◌≤◌, ◌<◌}
use mathlib.Core.Path.{refl}
use mathlib.Core.List.{List}
use native.Mathlib.Omega.{arith}
use borrow.Author.Tests.{le-leb, lt-leb}
use lib.ListN.{length}
use Rattle.program_out.specs.Writing.{appends, puts, Gives}

-- PUTTING A TEXT, by where it goes
module _ (old text : List ℕ) (used : ℕ) {new : List ℕ} {r : ℕ} where
  pub put_behind : used + length text ≤ length old → Gives (appends old used text) new r → Gives (puts old used text) new r × (r ≤ length old)
  unfolding puts
  put_behind h g = (rw (le-leb _ _ h) g, omega (arith, g.used))

  pub put_front : length old < used + length text → length text ≤ length old → Gives (appends old 0 text) new r → Gives (puts old used text) new r × (r ≤ length old)
  unfolding puts
  put_front h k g = (rw (lt-leb _ _ h, le-leb _ _ k) g, omega (arith, g.used))

pub put_none : (old text : List ℕ) (used : ℕ) → length old < used + length text → length old < length text → Gives (puts old used text) old 0 × (0 ≤ length old)
unfolding puts
put_none old text used h k = (rw (lt-leb _ _ h, lt-leb _ _ k) (record { memory = refl; used = refl }), omega arith)
