-- The kinds of bytes (01, part 1; 02, N3).
use Rattle.std.specs.Prelude.{ℕ, zero, suc, ◌+◌, ◌-◌, ◌^◌, Bool, true, false, cond, ◌&&◌, ◌||◌, List, [], ◌∷◌, leb, eqb}

-- byte b is one of a to z
abbrev pub within : ℕ → ℕ → ℕ → Bool
within a z b = leb a b && leb b z

-- 01, part 1: upper case, `A` to `Z`; N3: "192 to 214 and 216 to 222 are upper case letters"
abbrev pub upper : ℕ → Bool
upper b = within 65 90 b || within 192 214 b || within 216 222 b

-- 01, part 1: lower case, `a` to `z`; N3: "223 to 246 and 248 to 255 lower case"
abbrev pub lower : ℕ → Bool
lower b = within 97 122 b || within 223 246 b || within 248 255 b

-- 01, part 1: digit, `0` to `9`
abbrev pub digit : ℕ → Bool
digit = within 48 57

-- 01, part 1: byte b is of kind n; no byte is of another kind than 1 to 6
unfoldable pub kind_of : ℕ → ℕ → Bool
kind_of n b =
    cond (eqb n 1) true
    (cond (eqb n 2) (upper b || lower b || digit b)
    (cond (eqb n 3) (upper b || lower b)
    (cond (eqb n 4) (upper b)
    (cond (eqb n 5) (lower b)
    (cond (eqb n 6) (digit b) false)))))

-- bit n - 1 alone where byte b is of kind n, else no bit
abbrev pub kind_bit : ℕ → ℕ → ℕ
kind_bit b n = cond (kind_of n b) (2 ^ (n - 1)) 0

-- 01, part 1: the six kinds of byte b as one number
unfoldable pub kind_bits : ℕ → ℕ
kind_bits b = kind_bit b 1 + kind_bit b 2 + kind_bit b 3 + kind_bit b 4 + kind_bit b 5 + kind_bit b 6

-- the kind bits of k bytes, from byte b on
unfoldable pub kind_bits_from : ℕ → ℕ → List ℕ
kind_bits_from zero b = []
kind_bits_from (suc k) b = kind_bits b ∷ kind_bits_from k (suc b)

-- 01, part 1: the one table, an entry for each of the 256 bytes
unfoldable pub kind_table : List ℕ
kind_table = kind_bits_from 256 0
