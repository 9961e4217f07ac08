-- The law of specs/Dividing.
use mathlib.Core.Path.{◌≡◌, refl, sym, ap, ◌∙◌}
use mathlib.Core.Logic.{◌⊎◌, inl, inr}
use mathlib.Core.List.{List, ◌∷◌, ◌++◌}
use Prim.Native.Nat.{ℕ, zero, ◌+◌, ◌*◌, ◌/◌, ◌%◌, ◌<◌}
use native.Mathlib.Omega.{arith}
use native.Mathlib.Nat.{div-add-mod', div-zero, mod-zero, mod-lt, mod-eq_of_lt, div-eq_of_lt, mul-add-div_right, mul-add-mod_self_right, eq-zero-or-pos, zero-mul}
use Rattle.macros.specs.Write.{digits}
use Rattle.lines.specs.Dividing.{divided_text, Divided, DividedExact}

pub divided_text_lem : (v n : ℕ) → Divided v n (divided_text v n)
unfolding divided_text
divided_text_lem v n =
    record {
      quotient = v / n;
      remainder = v % n;
      text = refl;
      value = div-add-mod' v n;
      below = λ h. mod-lt v h;
      by_none = λ e. rw e (div-zero v);
    }

module _ (v n q r : ℕ) (e : q * n + r ≡ v) where
  quotient_is : (0 < n → r < n) → (n ≡ 0 → q ≡ 0) → q ≡ v / n
  quotient_is l z = by (eq-zero-or-pos n)
    where
      by : (n ≡ 0) ⊎ (0 < n) → q ≡ v / n
      by (inl o) = z o ∙ sym (rw o (div-zero v))
      by (inr h) = let x : (q * n + r) / n ≡ q + r / n = mul-add-div_right h q r in let y : r / n ≡ 0 = div-eq_of_lt (l h) in rw (← e) (omega arith)

  remainder_is : (0 < n → r < n) → (n ≡ 0 → q ≡ 0) → r ≡ v % n
  remainder_is l z = by (eq-zero-or-pos n)
    where
      by : (n ≡ 0) ⊎ (0 < n) → r ≡ v % n
      by (inl o) = let x : q ≡ 0 = z o in let y : v % n ≡ v = rw o (mod-zero v) in let u : q * n ≡ 0 = rw x (zero-mul n) in omega (arith, y, u, e)
      by (inr h) = sym (rw (← e) (mul-add-mod_self_right q n r ∙ mod-eq_of_lt (l h)))

pub divided_is : (v n : ℕ) (s : List ℕ) → Divided v n s → s ≡ divided_text v n
unfolding divided_text
divided_is v n s d =
    let q : d.quotient ≡ v / n = quotient_is v n d.quotient d.remainder d.value d.below d.by_none in
    let r : d.remainder ≡ v % n = remainder_is v n d.quotient d.remainder d.value d.below d.by_none in
    d.text ∙ rw (q, r)

-- THE LAW
pub divided_exact : DividedExact
divided_exact v n s = (divided_is v n s, λ e. rw e (divided_text_lem v n))
