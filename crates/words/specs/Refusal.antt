-- 02, N5: the refusal of whoever looks words up, and its number.
use Rattle.std.specs.Prelude.{ℕ}

-- of the word-pattern, which comes after the line's own
pub data WordRefusal : Type 0 where
  bad_pattern : WordRefusal

-- "41, word-pattern empty, with another byte or with `--`"
unfoldable pub word_number : WordRefusal → ℕ
word_number bad_pattern = 41
