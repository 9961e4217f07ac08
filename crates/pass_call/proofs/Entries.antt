-- A text copied to an entry's place, and zeros stored behind it: the entry's form.
use Prim.Native.Nat.{ℕ, ◌+◌, ◌-◌, ◌≤◌}
use mathlib.Core.Path.{◌≡◌, refl, ap, ◌∙◌}
use mathlib.Core.List.{List, ◌++◌, append_assoc}
use native.Mathlib.Omega.{arith}
use borrow.Rule.Slice.PartMut.{put_mid}
use lib.ListN.{length, take, drop, replicate, length-drop, length-replicate}
use lib.Seq.{paste, take_all, drop-drop, length-paste, length-take-le}
use Rattle.form_state.specs.Form.{entry_form, entry_form_by}
use Rattle.form_state.specs.Access.{replaced}
use Rattle.form_state.proofs.Replaced.{replaced_behind}

stored : (b v : List ℕ) (a k : ℕ) → k ≡ length v → put_mid a k b v ≡ replaced b a v
unfolding replaced
stored b v a k e = rw e (ap (λ (x : List ℕ). take a b ++ (v ++ x)) (drop-drop (length v) a b))

copied : (b s t : List ℕ) (a : ℕ) → s ≡ paste b a t (length t) → s ≡ replaced b a t
unfolding replaced
copied b s t a e = e ∙ rw (take_all (length t) t (omega arith)) (append_assoc (take a b) t (drop (a + length t) b))

part_long : (b s t : List ℕ) (a k : ℕ) → a + 100 ≤ length b → length t ≤ 100 → s ≡ paste b a t (length t) → k ≡ 100 - length t → length (take k (drop (a + length t) s)) ≡ k
part_long b s t a k fit few p h =
    let long = ap length p ∙ length-paste b a t (length t) (omega arith) (omega arith) in
    length-take-le k (drop (a + length t) s) (omega (arith, length-drop (a + length t) s, long))

pub entry_laid : (b s t z : List ℕ) (a k : ℕ) → a + 100 ≤ length b → length t ≤ 100 → s ≡ paste b a t (length t) → z ≡ replicate (length (take k (drop (a + length t) s))) 0 → k ≡ 100 - length t
    → put_mid (a + length t) k s z ≡ replaced b a (entry_form t)
unfolding entry_form_by
entry_laid b s t z a k fit few p f h =
    let u : List ℕ = replicate (100 - length t) 0 in
    rw (f, part_long b s t a k fit few p h) (
    stored s (replicate k 0) (a + length t) k (let n = length-replicate {A = ℕ} k 0 in omega arith)
    ∙ ap (λ (x : List ℕ). replaced x (a + length t) (replicate k 0)) (copied b s t a p)
    ∙ ap (λ (n : ℕ). replaced (replaced b a t) (a + length t) (replicate n 0)) h
    ∙ replaced_behind b a (a + length t) t u refl (omega arith)
    )
