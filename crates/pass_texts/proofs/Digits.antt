-- The digits of a value, and those of quotient and remainder.
use Prim.Native.Nat.{ℕ, ◌+◌, ◌/◌, ◌%◌, ◌≤◌, ◌<◌}
use mathlib.Core.Path.{◌≡◌, sym, ap, ◌∙◌}
use mathlib.Core.Bool.{Bool, true, false}
use mathlib.Core.List.{List, [], ◌∷◌, ◌++◌, append_assoc}
use native.Mathlib.Numerals.{add-one}
use native.Mathlib.Omega.{arith}
use lib.Dec.{ltb}
use lib.ListN.{length, set, take, length-append}
use lib.Seq.{take-suc-set, take-length, take-paste, paste}
use Rattle.macros.specs.Macro.{pick}
use Rattle.macros.specs.Write.{digits}
use Rattle.form_table.proofs.Figures.{digits_figures}
use Rattle.form_table.specs.ActionWalk.{figures}
use Rattle.lines.specs.Dividing.{divided_text}
use Rattle.form_table.proofs.Digits.{digits_few, digits_last}
use Rattle.pass_texts.specs.Digits.{Digits, Figures}

two_ways : (x : Bool) (a c : ℕ) → a ≤ 9 → c ≤ 9 → pick x a c ≤ 9
unfolding pick
two_ways true a c p q = p
two_ways false a c p q = q

pub digits_nine : (n : ℕ) → n ≤ 999999999 → length (digits n) ≤ 9
unfolding figures
digits_nine n h =
    rw (digits_figures n h)
    (two_ways (ltb n 10) 1 _ (omega arith)
    (two_ways (ltb n 100) 2 _ (omega arith)
    (two_ways (ltb n 1000) 3 _ (omega arith)
    (two_ways (ltb n 10000) 4 _ (omega arith)
    (two_ways (ltb n 100000) 5 _ (omega arith)
    (two_ways (ltb n 1000000) 6 _ (omega arith)
    (two_ways (ltb n 10000000) 7 _ (omega arith)
    (two_ways (ltb n 100000000) 8 9 (omega arith) (omega arith)))))))))

pub digits_longer : (v : ℕ) → 10 ≤ v → length (digits v) ≡ length (digits (v / 10)) + 1
digits_longer v h = ap length (digits_last v h) ∙ length-append (digits (v / 10)) ((48 + v % 10) ∷ [])

-- one digit, and one behind the others
pub digits_one : {v b : ℕ} (out : List ℕ) → v < 10 → 0 < length out → b ≡ 48 + v → Digits v (set out 0 b) 1
digits_one {v} {b} out h l e =
    record {
      count = ap length (sym (digits_few v h));
      text = take-suc-set out 0 b l ∙ ap (λ (x : ℕ). x ∷ []) e ∙ sym (digits_few v h);
    }

pub digits_more : {v b n : ℕ} {now : List ℕ} → 10 ≤ v → Digits (v / 10) now n → n < length now → b ≡ 48 + v % 10 → Digits v (set now n b) (n + 1)
digits_more {v} {b} {n} {now} h d l e =
    record {
      count = let a = length-append (digits (v / 10)) ((48 + v % 10) ∷ []) in let c = d.count in let f = ap length (digits_last v h) in omega arith;
      text =
          ap (λ (j : ℕ). take j (set now n b)) (add-one n)
          ∙ take-suc-set now n b l
          ∙ ap (λ (x : List ℕ). x ++ (b ∷ [])) d.text
          ∙ ap (λ (x : ℕ). digits (v / 10) ++ (x ∷ [])) e
          ∙ sym (digits_last v h);
    }

-- behind other bytes
pub figures_put : {v at n : ℕ} {old new figures : List ℕ} → Digits v figures n → length (digits v) ≤ 9 → at + 9 ≤ length old → new ≡ paste old at (take n figures) (length (take n figures))
    → Figures v at old new (at + n)
figures_put {v} {at} {n} {old} {new} {figures} d l h e =
    let count : at + n ≡ at + length (digits v) = ap (λ (k : ℕ). at + k) d.count in
    let pasted : new ≡ paste old at (digits v) (length (digits v)) = e ∙ ap (λ (x : List ℕ). paste old at x (length x)) d.text in
    record {
      count = count;
      few = omega arith;
      text =
          ap (λ (k : ℕ). take k new) count
          ∙ ap (take (at + length (digits v))) pasted
          ∙ take-paste old at (digits v) (length (digits v)) (omega arith) (omega arith)
          ∙ ap (λ (x : List ℕ). take at old ++ x) (take-length (digits v));
    }

-- quotient, space and remainder
pub divided_put : (v n : ℕ) {a z : ℕ} {old text new : List ℕ} → Figures (v / n) 0 old text a → a < length text → Figures (v % n) (a + 1) (set text a 32) new z
    → take z new ≡ divided_text v n
unfolding divided_text
divided_put v n {a} {z} {old} {text} q h r =
    let before : take (a + 1) (set text a 32) ≡ digits (v / n) ++ (32 ∷ []) =
    ap (λ (k : ℕ). take k (set text a 32)) (add-one a) ∙ take-suc-set text a 32 h ∙ ap (λ (x : List ℕ). x ++ (32 ∷ [])) q.text in
    r.text ∙ ap (λ (x : List ℕ). x ++ digits (v % n)) before ∙ append_assoc (digits (v / n)) (32 ∷ []) (digits (v % n))
