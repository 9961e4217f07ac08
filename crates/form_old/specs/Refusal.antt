-- 02, N6: the refusal of going back to the old size, and its number. It is one of the host's, after 2; it has a type of its own, since
-- only m7_narrow has it.
use Rattle.std.specs.Prelude.{ℕ}

-- "an entry over 50 on the way back"
pub data WidthRefusal : Type 0 where
  long_entry : WidthRefusal

-- "42 .. stands with the host's refusals after 2"
unfoldable pub width_number : WidthRefusal → ℕ
width_number long_entry = 42
