-- The rule of the table of kinds: bit n - 1 of entry b is set exactly where byte b is of kind n.
-- Assumes nothing.
use mathlib.Core.Path.{◌≡◌, refl}
use mathlib.Core.Bool.{Bool, true, false, beq}
use mathlib.Core.List.{List}
use Prim.Native.Nat.{ℕ, suc, ◌-◌, ◌/◌, ◌^◌, ◌<◌}
use native.Mathlib.Omega.{arith}
use lib.Bits.{bit_and}
use lib.Dec.{T, eqb}
use lib.ListN.{get_or, replicate}
use borrow.Author.Tests.{ne_eqb}
use Rattle.kinds.specs.Kind.{kind_of, kind_bits, kind_bits_from, kind_table}
use Rattle.kinds.proofs.Table.{at, every}

-- bit k of x, shifted down and masked
abbrev pub bit : ℕ → ℕ → Bool
bit x k = eqb (bit_and (x / 2 ^ k) 1) 1

-- bit k of the entry x of byte b is what kind k + 1 says
agrees : ℕ → ℕ → ℕ → ℕ → Bool
agrees b x k z = beq (bit x k) (kind_of (suc k) b)

-- so for each of the six bits
right : ℕ → ℕ → Bool
right b x = every (agrees b x) 0 (replicate 6 0)

equal : (p q : Bool) → T (beq p q) → p ≡ q
equal true true t = refl
equal false false t = refl
equal true false t = absurd t
equal false true t = absurd t

-- the rule by bits: one test over the whole table
rule : (b k : ℕ) → b < 256 → k < 6 → bit (get_or kind_table b 0) k ≡ kind_of (suc k) b
unfolding kind_table kind_bits_from kind_bits kind_of right agrees
rule b k hb hk =
    equal (bit (get_or kind_table b 0) k) (kind_of (suc k) b)
    (at (agrees b (get_or kind_table b 0)) (replicate 6 0) (at right kind_table tt b hb) k hk)

-- the rule by kinds, of a list that is the table
pub inside : (t : List ℕ) (b n : ℕ) → t ≡ kind_table → b < 256 → 0 < n → n < 7 → bit (get_or t b 0) (n - 1) ≡ kind_of n b
inside t b n e hb low high =
    let s : suc (n - 1) ≡ n = omega arith in
    let r = rule b (n - 1) hb (omega arith) in
    cc

-- no byte is of another kind than 1 to 6
pub outside : (n b : ℕ) → ((k : ℕ) → 0 < k → k < 7 → n ≡ k → ⊥) → kind_of n b ≡ false
unfolding kind_of
outside n b h =
    let differs : (k : ℕ) → 0 < k → k < 7 → eqb n k ≡ false = λ k p q. ne_eqb n k (h k p q) in
    simp (
      differs 1 (omega arith) (omega arith),
      differs 2 (omega arith) (omega arith),
      differs 3 (omega arith) (omega arith),
      differs 4 (omega arith) (omega arith),
      differs 5 (omega arith) (omega arith),
      differs 6 (omega arith) (omega arith),
    )
