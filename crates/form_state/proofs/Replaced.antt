-- A part of the bytes replaced: beside other bytes, whole, part behind part, and as the stores that make it.
use Prim.Native.Nat.{ℕ, ◌+◌, ◌≤◌, ◌<◌}
use mathlib.Core.Path.{◌≡◌, sym, ap, ◌∙◌}
use mathlib.Core.List.{List, [], ◌∷◌, ◌++◌, append_assoc, append-nil}
use native.Mathlib.Nat.{add-zero, add_assoc, zero-add}
use native.Mathlib.Numerals.{add-one}
use native.Mathlib.Omega.{arith}
use lib.ListN.{length, get_or, set, take, drop, replicate, length-append, length-drop, length-replicate, take-append-drop}
use lib.Seq.{drop-length, drop-drop, take-append-add, drop-append-add, take-append-le, drop-append-le, length-take-le, set_split, take-suc, take_all}
use borrow.Rule.Slice.PartMut.{put_mid}
use Rattle.form_state.specs.Access.{replaced}

-- in the first of two lists
pub replaced_left : (a b : List ℕ) (p : ℕ) (v : List ℕ) → p + length v ≤ length a → replaced (a ++ b) p v ≡ replaced a p v ++ b
unfolding replaced
replaced_left a b p v h =
    let near : p ≤ length a = omega arith in
    rw (take-append-le p a b near, drop-append-le (p + length v) a b h) (sym (append_assoc (take p a) (v ++ drop (p + length v) a) b ∙ ap (λ (t : List ℕ). take p a ++ t) (append_assoc v (drop (p + length v) a) b)))

-- in the second
pub replaced_right : (a b : List ℕ) (n p : ℕ) (v : List ℕ) → length a ≡ n → replaced (a ++ b) (n + p) v ≡ a ++ replaced b p v
unfolding replaced
replaced_right a b n p v h =
    rw (← h) (rw (take-append-add a b p, add_assoc (length a) p (length v), drop-append-add a b (p + length v)) (append_assoc a (take p b) (v ++ drop (p + length v) b)))

-- the whole
pub replaced_whole : (a v : List ℕ) → length a ≡ length v → replaced a 0 v ≡ v
unfolding replaced
replaced_whole a v h = rw (zero-add (length v), ← h) (rw (drop-length a) (append-nil v))

-- the length stays
pub length_replaced : (b : List ℕ) (p : ℕ) (v : List ℕ) → p + length v ≤ length b → length (replaced b p v) ≡ length b
unfolding replaced
length_replaced b p v h = simp (length-append, length-take-le p b (omega arith), length-drop) (omega arith)

-- nothing
pub replaced_none : (b : List ℕ) (p : ℕ) → replaced b p [] ≡ b
unfolding replaced
replaced_none b p = rw (add-zero p) (take-append-drop p b)

-- one part right behind another
pub replaced_behind : (b : List ℕ) (p n : ℕ) (v u : List ℕ) → n ≡ p + length v → n ≤ length b → replaced (replaced b p v) n u ≡ replaced b p (v ++ u)
unfolding replaced
replaced_behind b p n v u e h =
    let r : List ℕ = drop (p + length v) b in
    let long : length (take p b ++ v) ≡ n = length-append (take p b) v ∙ ap (λ (k : ℕ). k + length v) (length-take-le p b (omega arith)) ∙ sym e in
    let far : p + length v + (0 + length u) ≡ p + length (v ++ u) = omega (arith, length-append v u) in
    ap (λ (t : List ℕ). replaced t n u) (sym (append_assoc (take p b) v r))
    ∙ ap (λ (k : ℕ). replaced ((take p b ++ v) ++ r) k u) (sym (add-zero n))
    ∙ replaced_right (take p b ++ v) r n 0 u long
    ∙ ap (λ (t : List ℕ). (take p b ++ v) ++ (u ++ t)) (drop-drop (0 + length u) (p + length v) b ∙ ap (λ (k : ℕ). drop k b) far)
    ∙ append_assoc (take p b) v (u ++ drop (p + length (v ++ u)) b)
    ∙ ap (λ (t : List ℕ). take p b ++ t) (sym (append_assoc v u (drop (p + length (v ++ u)) b)))

-- STORES

-- one
pub set_replaced : (b : List ℕ) (p x : ℕ) → p < length b → set b p x ≡ replaced b p (x ∷ [])
unfolding replaced
set_replaced b p x h = rw (add-one p) (set_split b p x h)

-- a part copied
pub replaced_mid : (b s v : List ℕ) (p k : ℕ) → s ≡ v → length v ≡ k → put_mid p k b s ≡ replaced b p v
unfolding replaced
replaced_mid b s v p k e h = rw (e, ← h, drop-drop (length v) p b)

-- the front copied
pub replaced_front : (b s v : List ℕ) (k : ℕ) → s ≡ v → length v ≡ k → s ++ drop k b ≡ replaced b 0 v
unfolding replaced
replaced_front b s v k e h = rw (e, zero-add (length v), h)

-- a part filled with one byte
pub replaced_fill : (b s : List ℕ) (p k n x : ℕ) → k ≡ n → p + n ≤ length b → s ≡ replicate (length (take k (drop p b))) x → put_mid p k b s ≡ replaced b p (replicate n x)
replaced_fill b s p k n x e h f =
    let g : length (take k (drop p b)) ≡ n = length-take-le k (drop p b) (simp length-drop (omega arith)) ∙ e in
    replaced_mid b s (replicate n x) p k (f ∙ ap (λ (j : ℕ). replicate j x) g) (length-replicate n x ∙ sym e)

-- the next byte of a text
pub text_more : (b s t : List ℕ) (p i : ℕ) → i < length t → p + length t ≤ length b → s ≡ replaced b p (take i t) → set s (p + i) (get_or t i 0) ≡ replaced b p (take (i + 1) t)
text_more b s t p i h fit e =
    let lv : length (take i t) ≡ i = length-take-le i t (omega arith) in
    let on : p + i ≡ p + length (take i t) = omega arith in
    let long : length (replaced b p (take i t)) ≡ length b = length_replaced b p (take i t) (omega arith) in
    ap (λ (l : List ℕ). set l (p + i) (get_or t i 0)) e
    ∙ set_replaced (replaced b p (take i t)) (p + i) (get_or t i 0) (omega arith)
    ∙ replaced_behind b p (p + i) (take i t) (get_or t i 0 ∷ []) on (omega arith)
    ∙ ap (replaced b p) (sym (take-suc t i 0 h) ∙ ap (λ (k : ℕ). take k t) (sym (add-one i)))

pub text_end : (b s t : List ℕ) (p i : ℕ) → length t ≤ i → s ≡ replaced b p (take i t) → s ≡ replaced b p t
text_end b s t p i h e = e ∙ ap (replaced b p) (take_all i t h)
