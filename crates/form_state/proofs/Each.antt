-- Lists that are put together from parts of one width: their length, one part, one part replaced, and taking them apart.
use Prim.Native.Nat.{ℕ, zero, suc, ◌+◌, ◌*◌, ◌≤◌, ◌<◌}
use mathlib.Core.Path.{◌≡◌, refl, sym, ap, ◌∙◌}
use mathlib.Core.List.{List, [], ◌∷◌, ◌++◌, map, append_assoc}
use native.Mathlib.Nat.{add_comm, add_assoc, zero-add, mul-suc, mul-zero, not-suc-le-zero, le_of_suc-le-suc}
use native.Mathlib.Omega.{arith}
use lib.ListN.{length, get_or, set, take, drop, length-append, length-drop, take-append-drop}
use lib.Seq.{take-take, take_at, drop_at, drop-append-add, length-take-le}
use Rattle.lines.specs.State.{AllOf}
use Rattle.form_state.specs.Access.{replaced}
use Rattle.form_state.proofs.Replaced.{replaced_left, replaced_right}

abbrev pub each : {A B : Type 0} → (A → List B) → List A → List B
each f [] = []
each f (x ∷ xs) = f x ++ each f xs

unfoldable pub chunks : {B : Type 0} → ℕ → ℕ → List B → List (List B)
chunks w zero l = []
chunks w (suc n) l = take w l ∷ chunks w n (drop w l)

abbrev pub itself : {A : Type 0} → A → A
itself x = x

pub each_append : {A B : Type 0} (f : A → List B) (xs ys : List A) → each f (xs ++ ys) ≡ each f xs ++ each f ys
each_append f [] ys = refl
each_append {B = B} f (x ∷ xs) ys = ap (λ (t : List B). f x ++ t) (each_append f xs ys) ∙ sym (append_assoc (f x) (each f xs) (each f ys))

-- a part of a part
pub part_in : {A : Type 0} (w p n : ℕ) (l : List A) → p + w ≤ n → take w (drop p (take n l)) ≡ take w (drop p l)
part_in w zero n l h = take-take w n l (omega arith)
part_in w (suc p) zero l h = absurd (omega arith)
part_in w (suc p) (suc n) [] h = refl
part_in w (suc p) (suc n) (x ∷ l) h = part_in w p n l (omega arith)

-- WHAT HOLDS OF ALL

pub all_any : {A : Type 0} (P : A → Type 0) → ((x : A) → P x) → (xs : List A) → AllOf P xs
all_any P f [] = tt
all_any P f (x ∷ xs) = (f x, all_any P f xs)

module _ {A : Type 0} where
  pub all_map : {P Q : A → Type 0} → ((x : A) → P x → Q x) → (xs : List A) → AllOf P xs → AllOf Q xs
  all_map f [] h = tt
  all_map f (x ∷ xs) h = (f x h.0, all_map f xs h.1)

  pub all_both : (P Q : A → Type 0) (xs : List A) → AllOf P xs → AllOf Q xs → AllOf (λ x. P x × Q x) xs
  all_both P Q [] p q = tt
  all_both P Q (x ∷ xs) p q = ((p.0, q.0), all_both P Q xs p.1 q.1)

  -- chunks are of their width, and as many as asked
  pub chunks_wide : (w n : ℕ) (l : List A) → length l ≡ w * n → AllOf (λ c. length c ≡ w) (chunks w n l)
  unfolding chunks
  chunks_wide w zero l h = tt
  chunks_wide w (suc n) l h =
      let all : length l ≡ w * n + w = h ∙ mul-suc w n in
      let left : length (drop w l) ≡ w * n = length-drop w l ∙ omega arith in
      (length-take-le w l (omega arith), chunks_wide w n (drop w l) left)

  pub length_chunks : (w n : ℕ) (l : List A) → length (chunks w n l) ≡ n
  unfolding chunks
  length_chunks w zero l = refl
  length_chunks w (suc n) l = ap suc (length_chunks w n (drop w l))

  -- chunks make their list
  pub each_chunks : (w n : ℕ) (l : List A) → length l ≡ w * n → each itself (chunks w n l) ≡ l
  unfolding chunks
  each_chunks w zero [] h = refl
  each_chunks w zero (x ∷ l) h = absurd (omega (arith, h ∙ mul-zero w))
  each_chunks w (suc n) l h =
      let all : length l ≡ w * n + w = h ∙ mul-suc w n in
      let left : length (drop w l) ≡ w * n = length-drop w l ∙ omega arith in
      ap (λ (t : List A). take w l ++ t) (each_chunks w n (drop w l) left) ∙ take-append-drop w l

module _ {A : Type 0} (P : A → Type 0) where
  pub all_append : (xs ys : List A) → AllOf P xs → AllOf P ys → AllOf P (xs ++ ys)
  all_append [] ys p q = q
  all_append (x ∷ xs) ys p q = (p.0, all_append xs ys p.1 q)

  pub all_take : (n : ℕ) (xs : List A) → AllOf P xs → AllOf P (take n xs)
  all_take zero xs p = tt
  all_take (suc n) [] p = tt
  all_take (suc n) (x ∷ xs) p = (p.0, all_take n xs p.1)

  pub all_drop : (n : ℕ) (xs : List A) → AllOf P xs → AllOf P (drop n xs)
  all_drop zero xs p = p
  all_drop (suc n) [] p = tt
  all_drop (suc n) (x ∷ xs) p = all_drop n xs p.1

  pub all_at : (xs : List A) (i : ℕ) (d : A) → AllOf P xs → i < length xs → P (get_or xs i d)
  all_at [] i d p h = absurd (not-suc-le-zero h)
  all_at (x ∷ xs) zero d p h = p.0
  all_at (x ∷ xs) (suc i) d p h = all_at xs i d p.1 (le_of_suc-le-suc h)

  pub all_set : (xs : List A) (i : ℕ) (y : A) → AllOf P xs → P y → AllOf P (set xs i y)
  all_set [] i y p q = tt
  all_set (x ∷ xs) zero y p q = (q, p.1)
  all_set (x ∷ xs) (suc i) y p q = (p.0, all_set xs i y p.1 q)

  pub all_chunks : (w n : ℕ) (l : List A) → AllOf P l → AllOf (AllOf P) (chunks w n l)
  unfolding chunks
  all_chunks w zero l p = tt
  all_chunks w (suc n) l p = (all_take w l p, all_chunks w n (drop w l) (all_drop w l p))

module _ {A B : Type 0} where
  pub all_of_map : (P : B → Type 0) (f : A → B) (xs : List A) → AllOf (λ x. P (f x)) xs → AllOf P (map f xs)
  all_of_map P f [] h = tt
  all_of_map P f (x ∷ xs) h = (h.0, all_of_map P f xs h.1)

  pub each_all : (P : B → Type 0) (f : A → List B) (xs : List A) → AllOf (λ x. AllOf P (f x)) xs → AllOf P (each f xs)
  each_all P f [] h = tt
  each_all P f (x ∷ xs) h = all_append P (f x) (each f xs) h.0 (each_all P f xs h.1)

  pub map_back : (f : A → B) (g : B → A) (xs : List A) → AllOf (λ x. g (f x) ≡ x) xs → map g (map f xs) ≡ xs
  map_back f g [] h = refl
  map_back f g (x ∷ xs) h = cc (h.0, map_back f g xs h.1)

  pub each_back : (f : A → List B) (g : List B → A) (ys : List (List B)) → AllOf (λ y. f (g y) ≡ y) ys → each f (map g ys) ≡ each itself ys
  each_back f g [] h = refl
  each_back f g (y ∷ ys) h = rw (h.0, each_back f g ys h.1)

  module _ (f : A → List B) (w : ℕ) where
    pub each_length : (xs : List A) → AllOf (λ x. length (f x) ≡ w) xs → length (each f xs) ≡ w * length xs
    each_length [] h = sym (mul-zero w)
    each_length (x ∷ xs) h = rw (length-append (f x) (each f xs), h.0, each_length xs h.1, mul-suc w (length xs)) (add_comm w (w * length xs))

    -- taking apart what was put together
    pub chunks_each : (xs : List A) → AllOf (λ x. length (f x) ≡ w) xs → chunks w (length xs) (each f xs) ≡ map f xs
    unfolding chunks
    chunks_each [] h = refl
    chunks_each (x ∷ xs) h = rw (take_at (f x) (each f xs) w h.0, drop_at (f x) (each f xs) w h.0, chunks_each xs h.1)

    -- one part
    pub each_part : (xs : List A) (i : ℕ) (d : A) → AllOf (λ x. length (f x) ≡ w) xs → i < length xs → take w (drop (w * i) (each f xs)) ≡ f (get_or xs i d)
    each_part [] i d h less = absurd (not-suc-le-zero less)
    each_part (x ∷ xs) zero d h less = rw (mul-zero w) (take_at (f x) (each f xs) w h.0)
    each_part (x ∷ xs) (suc i) d h less =
        let on : w * suc i ≡ length (f x) + w * i = mul-suc w i ∙ add_comm (w * i) w ∙ ap (λ (k : ℕ). k + w * i) (sym h.0) in
        rw (on, drop-append-add (f x) (each f xs) (w * i)) (each_part xs i d h.1 (le_of_suc-le-suc less))

module _ {A : Type 0} (f : A → List ℕ) (w : ℕ) where
  -- one part is another, or partly another
  pub each_set : (xs : List A) (i : ℕ) (y d : A) (p : ℕ) (v : List ℕ) → AllOf (λ x. length (f x) ≡ w) xs → i < length xs → p + length v ≤ w
      → f y ≡ replaced (f (get_or xs i d)) p v → each f (set xs i y) ≡ replaced (each f xs) (w * i + p) v
  each_set [] i y d p v h less fit e = absurd (not-suc-le-zero less)
  each_set (x ∷ xs) zero y d p v h less fit e =
      rw (mul-zero w, zero-add p, e) (sym (replaced_left (f x) (each f xs) p v (omega (arith, h.0))))
  each_set (x ∷ xs) (suc i) y d p v h less fit e =
      let on : w * suc i + p ≡ w + (w * i + p) = ap (λ (k : ℕ). k + p) (mul-suc w i ∙ add_comm (w * i) w) ∙ add_assoc w (w * i) p in
      rw (on, replaced_right (f x) (each f xs) w (w * i + p) v h.0, each_set xs i y d p v h.1 (le_of_suc-le-suc less) fit e)

-- a part that stays as it was
pub each_kept : {A : Type 0} (f : A → List ℕ) (xs : List A) (i : ℕ) (y d : A) → f y ≡ f (get_or xs i d) → each f (set xs i y) ≡ each f xs
each_kept f [] i y d e = refl
each_kept f (x ∷ xs) zero y d e = rw e
each_kept f (x ∷ xs) (suc i) y d e = rw (each_kept f xs i y d e)

-- TWO LISTS MADE ONE

abbrev pub zip : {A B C : Type 0} → (A → B → C) → List A → List B → List C
zip h [] bs = []
zip h (a ∷ xs) [] = []
zip h (a ∷ xs) (b ∷ bs) = h a b ∷ zip h xs bs

module _ {A B C : Type 0} (h : A → B → C) where
  pub zip_length : (xs : List A) (ys : List B) → length xs ≡ length ys → length (zip h xs ys) ≡ length xs
  zip_length [] ys e = refl
  zip_length (x ∷ xs) [] e = absurd (omega arith)
  zip_length (x ∷ xs) (y ∷ ys) e = ap suc (zip_length xs ys (omega arith))

  pub zip_all : (P : A → Type 0) (Q : B → Type 0) (R : C → Type 0) → ((a : A) (b : B) → P a → Q b → R (h a b)) → (xs : List A) (ys : List B) → AllOf P xs → AllOf Q ys → AllOf R (zip h xs ys)
  zip_all P Q R f [] ys p q = tt
  zip_all P Q R f (x ∷ xs) [] p q = tt
  zip_all P Q R f (x ∷ xs) (y ∷ ys) p q = (f x y p.0 q.0, zip_all P Q R f xs ys p.1 q.1)

  pub zip_left : {X : Type 0} (f : C → List X) (g : A → List X) → ((a : A) (b : B) → f (h a b) ≡ g a) → (xs : List A) (ys : List B) → length xs ≡ length ys → each f (zip h xs ys) ≡ each g xs
  zip_left f g e [] ys l = refl
  zip_left f g e (x ∷ xs) [] l = absurd (omega arith)
  zip_left f g e (x ∷ xs) (y ∷ ys) l = rw (e x y, zip_left f g e xs ys (omega arith))

  pub zip_right : {X : Type 0} (f : C → List X) (g : B → List X) → ((a : A) (b : B) → f (h a b) ≡ g b) → (xs : List A) (ys : List B) → length xs ≡ length ys → each f (zip h xs ys) ≡ each g ys
  zip_right f g e [] [] l = refl
  zip_right f g e [] (y ∷ ys) l = absurd (omega arith)
  zip_right f g e (x ∷ xs) [] l = absurd (omega arith)
  zip_right f g e (x ∷ xs) (y ∷ ys) l = rw (e x y, zip_right f g e xs ys (omega arith))

  pub zip_back : (p : C → A) (q : C → B) → ((c : C) → h (p c) (q c) ≡ c) → (cs : List C) → zip h (map p cs) (map q cs) ≡ cs
  zip_back p q e [] = refl
  zip_back p q e (c ∷ cs) = rw (e c, zip_back p q e cs)
