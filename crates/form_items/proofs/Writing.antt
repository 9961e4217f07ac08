-- Writing one thing behind another, and a head before what it heads.
-- Assumes nothing.
use mathlib.Core.Path.{◌≡◌, refl, ap, sym, ◌∙◌}
use mathlib.Core.List.{List, [], ◌∷◌, ◌++◌, append_assoc, append-nil}
use Prim.Native.Nat.{ℕ, ◌+◌, ◌-◌, ◌≤◌, ◌<◌}
use native.Mathlib.Omega.{arith}
use native.Mathlib.Nat.{add_assoc, add-zero}
use native.Mathlib.Numerals.{add-one}
use lib.ListN.{length, drop, take, set, replicate, length-append, length-drop, length-replicate, take-append-drop}
use lib.Seq.{drop-drop, drop-set-lt, drop_at, take_at, take-suc-set, take-take, take-append-le, take-add, take_all, length-take-le}
use borrow.Rule.Slice.PartMut.{put_mid}
use Rattle.std.proofs.lemmas.Slice.{take-put_mid, drop-put_mid}
use Rattle.form_items.specs.Items.{Wrote}

-- what is kept from one place on is kept from every later place on
pub kept_on : (a b : List ℕ) (i j : ℕ) → drop i a ≡ drop i b → i ≤ j → drop j a ≡ drop j b
kept_on a b i j e h =
    let q : i + (j - i) ≡ j = omega arith in
    let r : drop (j - i) (drop i a) ≡ drop (j - i) (drop i b) = ap (drop (j - i)) e in
    rw (drop-drop, drop-drop, q) at r

pub wrote_none : (a : List ℕ) (n : ℕ) → Wrote a a n []
wrote_none a n = record { written = simp (add-zero, append-nil); kept = refl }

pub wrote_one : (a : List ℕ) (n b : ℕ) → n < length a → Wrote a (set a n b) n (b ∷ [])
wrote_one a n b h =
    record {
      written = rw add-one (take-suc-set a n b h);
      kept = drop-set-lt (n + 1) a n b (omega arith);
    }

pub wrote_more : {a b c l m : List ℕ} {n : ℕ} → Wrote a b n l → Wrote b c (n + length l) m → Wrote a c n (l ++ m)
wrote_more {a} {b} {c} {l} {m} {n} x y =
    record {
      written = rw (length-append, ← add_assoc) (y.written ∙ (ap (λ (z : List ℕ). z ++ m) x.written ∙ append_assoc (take n a) l m));
      kept = rw (length-append, ← add_assoc) (y.kept ∙ kept_on b a (n + length l) (n + length l + length m) x.kept (omega arith));
    }

pub wrote_behind : {a b c l m : List ℕ} {n k : ℕ} → Wrote a b n l → k ≡ n + length l → Wrote b c k m → Wrote a c n (l ++ m)
wrote_behind x e y = wrote_more x (rw e at y)

-- the bytes from one place on are those of l, as after a fill or a copy into a part
pub wrote_mid : (a ys l : List ℕ) (n k : ℕ) → ys ≡ l → length l ≡ k → n + k ≤ length a → Wrote a (put_mid n k a ys) n l
wrote_mid a ys l n k e f h =
    let g : length ys ≡ length l = ap length e in
    record {
      written = take-put_mid n k a ys (n + length l) (omega arith) (omega arith) ∙ ap (λ (z : List ℕ). take n a ++ z) e;
      kept = drop-put_mid n k a ys (n + length l) (omega arith) (omega arith) (omega arith);
    }

-- a part filled with one byte
pub wrote_fill : (a ys : List ℕ) (n k m x : ℕ) → m ≡ k → n + k ≤ length a → ys ≡ replicate (length (take m (drop n a))) x → Wrote a (put_mid n m a ys) n (replicate k x)
wrote_fill a ys n k m x e h f =
    let g : length (take m (drop n a)) ≡ k = length-take-le m (drop n a) (simp length-drop (omega arith)) ∙ e in
    wrote_mid a ys (replicate k x) n m (rw g at f) (length-replicate k x ∙ sym e) (omega arith)

-- the bytes, whole
pub wrote_is : {a b l : List ℕ} {n : ℕ} → Wrote a b n l → b ≡ take n a ++ (l ++ drop (n + length l) a)
wrote_is {a} {b} {l} {n} w = sym (take-append-drop (n + length l) b) ∙ rw (w.written, w.kept) (append_assoc (take n a) l (drop (n + length l) a))

pub wrote_of : {a b : List ℕ} (l : List ℕ) (n : ℕ) → n + length l ≤ length a → b ≡ take n a ++ (l ++ drop (n + length l) a) → Wrote a b n l
wrote_of {a} {b} l n h e =
    let front : length (take n a ++ l) ≡ n + length l = length-append (take n a) l ∙ ap (λ (k : ℕ). k + length l) (length-take-le n a (omega arith)) in
    let cut : b ≡ (take n a ++ l) ++ drop (n + length l) a = e ∙ sym (append_assoc (take n a) l (drop (n + length l) a)) in
    record { written = rw cut (take_at (take n a ++ l) (drop (n + length l) a) (n + length l) front); kept = rw cut (drop_at (take n a ++ l) (drop (n + length l) a) (n + length l) front) }

-- all bytes
pub wrote_all : {a b l : List ℕ} → Wrote a b 0 l → length l ≡ length b → b ≡ l
wrote_all {a} {b} {l} w e = sym (take_all (0 + length l) b (omega arith)) ∙ w.written

-- a head of two bytes, left free while what follows was written, and written last
pub wrote_before : {a b c l : List ℕ} {n x y : ℕ} → n + 2 ≤ length a → n + 2 ≤ length b → Wrote a b (n + 2) l → Wrote b c n (x ∷ y ∷ []) → Wrote a c n (x ∷ y ∷ l)
wrote_before {a} {b} {c} {l} {n} {x} {y} h h' v w =
    let e : n + length (x ∷ y ∷ l) ≡ n + 2 + length l = omega arith in
    let front : take n b ≡ take n a =
    sym (take-take n (n + 2 + length l) b (omega arith)) ∙ (ap (take n) v.written
    ∙ (take-append-le n (take (n + 2) a) l (rw (length-take-le (n + 2) a h) (omega arith)) ∙ take-take n (n + 2) a (omega arith))) in
    let back : take (length l) (drop (n + 2) b) ≡ l =
    sym (drop_at (take (n + 2) b) (take (length l) (drop (n + 2) b)) (n + 2) (length-take-le (n + 2) b h'))
    ∙ (ap (drop (n + 2)) (sym (take-add (n + 2) (length l) b) ∙ v.written) ∙ drop_at (take (n + 2) a) l (n + 2) (length-take-le (n + 2) a h)) in
    record {
      written = rw e (take-add (n + 2) (length l) c ∙ rw (w.written, w.kept, front, back) (append_assoc (take n a) (x ∷ y ∷ []) l));
      kept = rw e (kept_on c b (n + 2) (n + 2 + length l) w.kept (omega arith) ∙ v.kept);
    }
