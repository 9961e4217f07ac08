-- A number in four bytes, low byte first.
use Rattle.std.specs.Prelude.{ℕ, ◌+◌, ◌*◌, ◌/◌, ◌%◌, List, [], ◌∷◌, ◌++◌, get_or, take, drop}

-- the four bytes of a number below 2^32
unfoldable pub four : ℕ → List ℕ
four n = n % 256 ∷ (n / 256) % 256 ∷ (n / 65536) % 256 ∷ n / 16777216 ∷ []

-- the number whose four bytes stand in b from place p on
abbrev pub number_at : List ℕ → ℕ → ℕ
number_at b p = get_or b p 0 + 256 * get_or b (p + 1) 0 + 65536 * get_or b (p + 2) 0 + 16777216 * get_or b (p + 3) 0

-- the bytes b with the number n in the four from place p on
unfoldable pub with_number : List ℕ → ℕ → ℕ → List ℕ
with_number b p n = take p b ++ (four n ++ drop (p + 4) b)
