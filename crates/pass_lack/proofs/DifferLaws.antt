-- What the first item of a pattern asks at a place, test by test.
use Prim.Native.Nat.{ℕ, ◌≤◌, ◌<◌}
use mathlib.Core.Path.{◌≡◌}
use mathlib.Core.Bool.{true, false, not}
use mathlib.Core.List.{List}
use borrow.Author.Tests.{lt-ltb, le-ltb, eq-eqb, ne_eqb}
use lib.Dec.{eqb, ltb}
use lib.ListN.{length, get_or}
use Rattle.macros.specs.Macro.{pick}
use Rattle.pass_lack.specs.Lacking.{differs_in}

module _ (items t : List ℕ) (p : ℕ) where
  pub differs_short : length items < 2 → false ≡ differs_in items t p
  unfolding differs_in pick
  differs_short h = rw (lt-ltb (length items) 2 h)

  module _ (h : 2 ≤ length items) where
    pub differs_start : get_or items 0 0 ≡ 3 → ltb 0 p ≡ differs_in items t p
    unfolding differs_in pick
    differs_start e = rw (le-ltb (length items) 2 h, eq-eqb (get_or items 0 0) 3 e)

    module _ (n : get_or items 0 0 ≡ 3 → ⊥) where
      pub differs_low : get_or items 0 0 < 8 → false ≡ differs_in items t p
      unfolding differs_in pick
      differs_low l = rw (le-ltb (length items) 2 h, ne_eqb (get_or items 0 0) 3 n, lt-ltb (get_or items 0 0) 8 l)

      module _ (lo : 8 ≤ get_or items 0 0) where
        pub differs_high : 9 < get_or items 0 0 → false ≡ differs_in items t p
        unfolding differs_in pick
        differs_high l = rw (le-ltb (length items) 2 h, ne_eqb (get_or items 0 0) 3 n, le-ltb (get_or items 0 0) 8 lo, lt-ltb 9 (get_or items 0 0) l)

        module _ (hi : get_or items 0 0 ≤ 9) where
          pub differs_past : length t ≤ p → true ≡ differs_in items t p
          unfolding differs_in pick
          differs_past l = rw (le-ltb (length items) 2 h, ne_eqb (get_or items 0 0) 3 n, le-ltb (get_or items 0 0) 8 lo, le-ltb 9 (get_or items 0 0) hi, le-ltb p (length t) l)

          pub differs_byte : p < length t → not (eqb (get_or items 1 0) (get_or t p 0)) ≡ differs_in items t p
          unfolding differs_in pick
          differs_byte l = rw (le-ltb (length items) 2 h, ne_eqb (get_or items 0 0) 3 n, le-ltb (get_or items 0 0) 8 lo, le-ltb 9 (get_or items 0 0) hi, lt-ltb p (length t) l)
