-- A closure chooses: among the spans that whole copies of its unit make, and the divisions of the rest after each, the one with the most repeats.
use mathlib.Core.Path.{◌≡◌, refl, sym, ap, ◌∙◌, subst}
use mathlib.Core.Bool.{Bool, true, false, false≢true}
use mathlib.Core.Logic.{◌⊎◌, inl, inr}
use mathlib.Core.List.{List, [], ◌∷◌}
use mathlib.Core.Option.{Option, none, some}
use Prim.Native.Nat.{ℕ, zero, suc, ◌+◌, ◌-◌, ◌*◌, ◌≤◌}
use native.Mathlib.Nat.{suc-mul, zero-mul}
use native.Mathlib.Omega.{arith}
use lib.ListN.{length, drop, length-drop}
use lib.Seq.{drop-drop}
use Rattle.macros.specs.Macro.{Closure, PatternUnit}
use Rattle.macros.specs.Macro.Closure.{once, one_or_more, zero_or_more}
use Rattle.lines.specs.State.{State}
use Rattle.lines.specs.Matching.{fits, width, Copies, Allowed, span, Division, Fewer}
use Rattle.lines.specs.Choosing.{Rest, then, more, spare, repeated}
use Rattle.lines.specs.Choice.{Chosen}
use Rattle.lines.proofs.CopyLaws.{fits_inside, wide_or_not}
use Rattle.lines.proofs.MoreLaws.{or_else, more_false, more_true}

-- divisions that are the same are chosen among alike
pub chosen_iff : (P Q : Division → Type 0) → ((d : Division) → P d → Q d) → ((d : Division) → Q d → P d) → (a : Option Division) → Chosen P a → Chosen Q a
chosen_iff P Q to from none h = λ d q. h d (from d q)
chosen_iff P Q to from (some d) h = (to d h.0, λ x q. h.1 x (from x q))

-- n repeats that end at p, and then D
abbrev pub Only : (ℕ → Division → Type 0) → ℕ → ℕ → Division → Type 0
Only D n p [] = ⊥
Only D n p (span m q ∷ d) = (m ≡ n) × (q ≡ p) × D q d

pub then_chosen : (D : ℕ → Division → Type 0) (n p : ℕ) (a : Option Division) → Chosen (D p) a → Chosen (Only D n p) (then n p a)
unfolding then Fewer
then_chosen D n p none h = nothing
  where
    nothing : (d : Division) → Only D n p d → ⊥
    nothing [] g = g
    nothing (span m q ∷ d) g = h d (subst (λ (j : ℕ). D j d) g.1 g.2)
then_chosen D n p (some d) h = ((refl, refl, h.0), others)
  where
    both : (m q : ℕ) (x : Division) → m ≡ n → q ≡ p → (x ≡ d) ⊎ Fewer x d → (span m q ∷ x ≡ span n p ∷ d) ⊎ Fewer (span m q ∷ x) (span n p ∷ d)
    both m q x e f (inl g) = inl (cc)
    both m q x e f (inr g) = inr (inr (e, g))

    others : (x : Division) → Only D n p x → (x ≡ span n p ∷ d) ⊎ Fewer x (span n p ∷ d)
    others [] g = absurd g
    others (span m q ∷ x) g = both m q x g.0 g.1 (h.1 x (subst (λ (j : ℕ). D j x) g.1 g.2))

-- n repeats and k copies more from p on, and then D
abbrev From : State → PatternUnit → List ℕ → (ℕ → Division → Type 0) → ℕ → ℕ → Division → Type 0
From st u t D n p [] = ⊥
From st u t D n p (span m q ∷ d) = (k : ℕ) × (m ≡ n + k) × Copies st u t k p × (q ≡ p + k * width st u) × D q d

module _ (st : State) (u : PatternUnit) (t : List ℕ) (D : ℕ → Division → Type 0) (n p : ℕ) where
  only_from : (d : Division) → Only D n p d → From st u t D n p d
  unfolding Copies
  only_from [] h = h
  only_from (span m q ∷ d) h = (0, omega arith, tt, (let z : 0 * width st u ≡ 0 = zero-mul (width st u) in omega arith), h.2)

  -- more copies than none: one of them is the first
  from_cases : (d : Division) → From st u t D n p d → Only D n p d ⊎ ((fits st u (drop p t) ≡ true) × From st u t D (suc n) (p + width st u) d)
  unfolding Copies
  from_cases [] h = absurd h
  from_cases (span m q ∷ d) h = go h.0 h.1 h.2 h.3 h.4
    where
      go : (k : ℕ) → m ≡ n + k → Copies st u t k p → q ≡ p + k * width st u → D q d
          → ((m ≡ n) × (q ≡ p) × D q d) ⊎ ((fits st u (drop p t) ≡ true) × From st u t D (suc n) (p + width st u) (span m q ∷ d))
      go zero e c f g = inl (omega arith, (let z : 0 * width st u ≡ 0 = zero-mul (width st u) in omega arith), g)
      go (suc k) e c f g =
          inr (c.0, (k, omega arith, c.1, (let z : suc k * width st u ≡ k * width st u + width st u = suc-mul k (width st u) in omega arith), g))

  from_next : fits st u (drop p t) ≡ true → (d : Division) → From st u t D (suc n) (p + width st u) d → From st u t D n p d
  unfolding Copies
  from_next e [] h = h
  from_next e (span m q ∷ d) h =
      (suc h.0, omega arith, (e, h.2), (let z : suc h.0 * width st u ≡ h.0 * width st u + width st u = suc-mul h.0 (width st u) in omega arith), h.4)

  from_only : (fits st u (drop p t) ≡ true → ⊥) → (d : Division) → From st u t D n p d → Only D n p d
  from_only h d g = go (from_cases d g)
    where
      go : Only D n p d ⊎ ((fits st u (drop p t) ≡ true) × From st u t D (suc n) (p + width st u) d) → Only D n p d
      go (inl a) = a
      go (inr b) = absurd (h b.0)

  only_fewer : (d x : Division) → Only D n p x → From st u t D (suc n) (p + width st u) d → Fewer x d
  unfolding Fewer
  only_fewer [] x h g = absurd g
  only_fewer (span m q ∷ d) [] h g = h
  only_fewer (span m q ∷ d) (span k r ∷ x) h g = inl (omega arith)

  or_chosen : fits st u (drop p t) ≡ true → (a b : Option Division) → Chosen (From st u t D (suc n) (p + width st u)) a → Chosen (Only D n p) b → Chosen (From st u t D n p) (or_else a b)
  or_chosen e none b ha hb = chosen_iff (Only D n p) (From st u t D n p) only_from only b hb
    where
      go : (d : Division) → Only D n p d ⊎ ((fits st u (drop p t) ≡ true) × From st u t D (suc n) (p + width st u) d) → Only D n p d
      go d (inl h) = h
      go d (inr h) = absurd (ha d h.1)

      only : (d : Division) → From st u t D n p d → Only D n p d
      only d h = go d (from_cases d h)
  or_chosen e (some d) b ha hb = (from_next e d ha.0, others)
    where
      go : (x : Division) → Only D n p x ⊎ ((fits st u (drop p t) ≡ true) × From st u t D (suc n) (p + width st u) x) → (x ≡ d) ⊎ Fewer x d
      go x (inl h) = inr (only_fewer d x h ha.0)
      go x (inr h) = ha.1 x h.1

      others : (x : Division) → From st u t D n p x → (x ≡ d) ⊎ Fewer x d
      others x h = go x (from_cases x h)

module _ (st : State) (u : PatternUnit) (t : List ℕ) (D : ℕ → Division → Type 0) (rest : Rest) (all : (q : ℕ) → Chosen (D q) (rest q (drop q t))) where
  stop_chosen : (n p : ℕ) → (fits st u (drop p t) ≡ true → ⊥) → Chosen (From st u t D n p) (then n p (rest p (drop p t)))
  stop_chosen n p h = chosen_iff (Only D n p) (From st u t D n p) (only_from st u t D n p) (from_only st u t D n p h) (then n p (rest p (drop p t))) (then_chosen D n p (rest p (drop p t)) (all p))

  -- the steps, over the whole line's bytes
  step_on : (xs : List ℕ) (n p : ℕ) → Chosen (From st u t D n (p + width st u)) (more (fits st u) (width st u) rest xs n (p + width st u) (drop (p + width st u) t))
      → Chosen (From st u t D n (p + width st u)) (more (fits st u) (width st u) rest xs n (p + width st u) (drop (width st u) (drop p t)))
  step_on xs n p h = subst (λ (l : List ℕ). Chosen (From st u t D n (p + width st u)) (more (fits st u) (width st u) rest xs n (p + width st u) l)) (sym (drop-drop (width st u) p t)) h

  shorter : (p k : ℕ) → 1 ≤ width st u → length (drop p t) ≤ suc k → length (drop (p + width st u) t) ≤ k
  shorter p k wide le =
      let a : length (drop p t) ≡ length t - p = length-drop p t in
      let b : length (drop (p + width st u) t) ≡ length t - (p + width st u) = length-drop (p + width st u) t in
      omega arith

  more_nil : (n p : ℕ) (s : List ℕ) → more (fits st u) (width st u) rest [] n p s ≡ then n p (rest p s)
  unfolding more
  more_nil n p s = refl

  more_chosen : (xs : List ℕ) (n p : ℕ) → 1 ≤ width st u → length (drop p t) ≤ length xs → Chosen (From st u t D n p) (more (fits st u) (width st u) rest xs n p (drop p t))
  more_chosen [] n p wide le =
      rw (more_nil n p (drop p t)) (stop_chosen n p (λ e. let h : width st u ≤ length (drop p t) = fits_inside st u (drop p t) e in omega arith))
  more_chosen (x ∷ xs) n p wide le =
      go (fits st u (drop p t)) refl (step_on xs (suc n) p (more_chosen xs (suc n) (p + width st u) wide (shorter p (length xs) wide le)))
    where
      go : (b : Bool) → fits st u (drop p t) ≡ b
          → Chosen (From st u t D (suc n) (p + width st u)) (more (fits st u) (width st u) rest xs (suc n) (p + width st u) (drop (width st u) (drop p t)))
          → Chosen (From st u t D n p) (more (fits st u) (width st u) rest (x ∷ xs) n p (drop p t))
      go false e ih = rw (more_false (fits st u) (width st u) rest x xs n p (drop p t) e) (stop_chosen n p (λ f. false≢true (sym e ∙ f)))
      go true e ih =
          rw (more_true (fits st u) (width st u) rest x xs n p (drop p t) e)
          (or_chosen st u t D n p e (more (fits st u) (width st u) rest xs (suc n) (p + width st u) (drop (width st u) (drop p t))) (then n p (rest p (drop p t))) ih
          (then_chosen D n p (rest p (drop p t)) (all p)))

-- what a closure allows
allowed_one_or_more : (w n : ℕ) → 1 ≤ w → (Allowed one_or_more w n → 1 ≤ n) × (1 ≤ n → Allowed one_or_more w n)
unfolding Allowed
allowed_one_or_more zero n h = absurd (omega arith)
allowed_one_or_more (suc w) n h = (λ e. e, λ e. e)

allowed_zero_or_more : (w n : ℕ) → 1 ≤ w → Allowed zero_or_more w n
unfolding Allowed
allowed_zero_or_more zero n h = absurd (omega arith)
allowed_zero_or_more (suc w) n h = omega arith

allowed_once : (w n : ℕ) → (Allowed once w n → n ≡ 1) × (n ≡ 1 → Allowed once w n)
unfolding Allowed
allowed_once w n = (λ e. e, λ e. e)

allowed_one_or_more_empty : (w n : ℕ) → w ≡ 0 → (Allowed one_or_more w n → n ≡ 1) × (n ≡ 1 → Allowed one_or_more w n)
unfolding Allowed
allowed_one_or_more_empty zero n h = (λ e. e, λ e. e)
allowed_one_or_more_empty (suc w) n h = absurd (omega arith)

allowed_zero_or_more_empty : (w n : ℕ) → w ≡ 0 → (Allowed zero_or_more w n → n ≡ 0) × (n ≡ 0 → Allowed zero_or_more w n)
unfolding Allowed
allowed_zero_or_more_empty zero n h = (λ e. e, λ e. e)
allowed_zero_or_more_empty (suc w) n h = absurd (omega arith)

spare_wide : (w : ℕ) (s : List ℕ) → 1 ≤ w → spare w s ≡ s
unfolding spare
spare_wide zero s h = absurd (omega arith)
spare_wide (suc w) s h = refl

spare_empty : (w : ℕ) (s : List ℕ) → w ≡ 0 → spare w s ≡ []
unfolding spare
spare_empty w s h = rw h

-- an element's span, and then D
abbrev pub First : State → PatternUnit → List ℕ → (ℕ → Division → Type 0) → Closure → ℕ → Division → Type 0
First st u t D c p [] = ⊥
First st u t D c p (span n q ∷ d) = (Allowed c (width st u) n × Copies st u t n p × (q ≡ p + n * width st u)) × D q d

copies_one : (st : State) (u : PatternUnit) (t : List ℕ) (p : ℕ) → (Copies st u t 1 p → fits st u (drop p t) ≡ true) × (fits st u (drop p t) ≡ true → Copies st u t 1 p)
unfolding Copies
copies_one st u t p = (λ h. h.0, λ e. (e, tt))

copies_more : (st : State) (u : PatternUnit) (t : List ℕ) (n p : ℕ) → (Copies st u t (suc n) p → (fits st u (drop p t) ≡ true) × Copies st u t n (p + width st u)) × (fits st u (drop p t) ≡ true → Copies st u t n (p + width st u) → Copies st u t (suc n) p)
unfolding Copies
copies_more st u t n p = (λ h. h, λ e h. (e, h))

copies_none : (st : State) (u : PatternUnit) (t : List ℕ) (n p : ℕ) → n ≡ 0 → Copies st u t n p
unfolding Copies
copies_none st u t zero p e = tt
copies_none st u t (suc n) p e = absurd (omega arith)

copies_nonzero : (st : State) (u : PatternUnit) (t : List ℕ) (n p : ℕ) → 1 ≤ n → Copies st u t n p → fits st u (drop p t) ≡ true
unfolding Copies
copies_nonzero st u t zero p l h = absurd (omega arith)
copies_nonzero st u t (suc n) p l h = h.0

module _ (st : State) (u : PatternUnit) (t : List ℕ) (D : ℕ → Division → Type 0) (p : ℕ) where
  -- exactly one copy
  one_to : (c : Closure) → ((n : ℕ) → n ≡ 1 → Allowed c (width st u) n) → fits st u (drop p t) ≡ true → (d : Division) → Only D 1 (p + width st u) d → First st u t D c p d
  one_to c allow e [] h = h
  one_to c allow e (span n q ∷ d) h =
      ((allow n h.0, subst (λ (j : ℕ). Copies st u t j p) (sym h.0) ((copies_one st u t p).1 e), (let z : n * width st u ≡ 1 * width st u = ap (λ (j : ℕ). j * width st u) h.0 in omega arith)), h.2)

  one_from : (c : Closure) → ((n : ℕ) → Allowed c (width st u) n → n ≡ 1) → (d : Division) → First st u t D c p d → Only D 1 (p + width st u) d
  one_from c only [] h = h
  one_from c only (span n q ∷ d) h =
      let e : n ≡ 1 = only n h.0.0 in
      (e, (let z : n * width st u ≡ 1 * width st u = ap (λ (j : ℕ). j * width st u) e in omega arith), h.1)

  -- no copy
  none_to : width st u ≡ 0 → (d : Division) → Only D 0 p d → First st u t D zero_or_more p d
  none_to w [] h = h
  none_to w (span n q ∷ d) h =
      (((allowed_zero_or_more_empty (width st u) n w).1 h.0, copies_none st u t n p h.0, (let z : n * width st u ≡ 0 * width st u = ap (λ (j : ℕ). j * width st u) h.0 in let y : 0 * width st u ≡ 0 = zero-mul (width st u) in omega arith)), h.2)

  none_from : width st u ≡ 0 → (d : Division) → First st u t D zero_or_more p d → Only D 0 p d
  none_from w [] h = h
  none_from w (span n q ∷ d) h =
      let e : n ≡ 0 = (allowed_zero_or_more_empty (width st u) n w).0 h.0.0 in
      (e, (let z : n * width st u ≡ 0 * width st u = ap (λ (j : ℕ). j * width st u) e in let y : 0 * width st u ≡ 0 = zero-mul (width st u) in omega arith), h.1)

  -- as many as may stand
  zero_or_more_to : 1 ≤ width st u → (d : Division) → From st u t D 0 p d → First st u t D zero_or_more p d
  zero_or_more_to w [] h = h
  zero_or_more_to w (span n q ∷ d) h =
      let e : h.0 ≡ n = omega arith in
      ((allowed_zero_or_more (width st u) n w, subst (λ (j : ℕ). Copies st u t j p) e h.2, subst (λ (j : ℕ). q ≡ p + j * width st u) e h.3), h.4)

  zero_or_more_from : (d : Division) → First st u t D zero_or_more p d → From st u t D 0 p d
  zero_or_more_from [] h = h
  zero_or_more_from (span n q ∷ d) h = (n, omega arith, h.0.1, h.0.2, h.1)

  one_or_more_to : 1 ≤ width st u → fits st u (drop p t) ≡ true → (d : Division) → From st u t D 1 (p + width st u) d → First st u t D one_or_more p d
  one_or_more_to w f [] h = h
  one_or_more_to w f (span n q ∷ d) h =
      let e : suc h.0 ≡ n = omega arith in (
        (
          (allowed_one_or_more (width st u) n w).1 (omega arith),
          subst (λ (j : ℕ). Copies st u t j p) e ((copies_more st u t h.0 p).1 f h.2),
          subst (λ (j : ℕ). q ≡ p + j * width st u) e (let z : suc h.0 * width st u ≡ h.0 * width st u + width st u = suc-mul h.0 (width st u) in omega arith),
        ),
        h.4,
      )

  one_or_more_from : 1 ≤ width st u → (d : Division) → First st u t D one_or_more p d → From st u t D 1 (p + width st u) d
  one_or_more_from w [] h = h
  one_or_more_from w (span zero q ∷ d) h = absurd (let l : 1 ≤ 0 = (allowed_one_or_more (width st u) 0 w).0 h.0.0 in omega arith)
  one_or_more_from w (span (suc n) q ∷ d) h =
      (n, omega arith, ((copies_more st u t n p).0 h.0.1).1, (let z : suc n * width st u ≡ n * width st u + width st u = suc-mul n (width st u) in omega arith), h.1)

  -- a closure that needs a copy has nothing where none stands
  needs : (c : Closure) → ((n : ℕ) → Allowed c (width st u) n → 1 ≤ n) → fits st u (drop p t) ≡ false → (d : Division) → First st u t D c p d → ⊥
  needs c some_one e [] h = h
  needs c some_one e (span n q ∷ d) h = false≢true (sym e ∙ copies_nonzero st u t n p (some_one n h.0.0) h.0.1)

one_or_more_some : (w n : ℕ) → Allowed one_or_more w n → 1 ≤ n
unfolding Allowed
one_or_more_some zero n h = omega arith
one_or_more_some (suc w) n h = h

module _ (st : State) (u : PatternUnit) (t : List ℕ) (D : ℕ → Division → Type 0) (rest : Rest) (all : (q : ℕ) → Chosen (D q) (rest q (drop q t))) (p : ℕ) where
  rest_on : Chosen (D (p + width st u)) (rest (p + width st u) (drop (width st u) (drop p t)))
  rest_on = rw (drop-drop (width st u) p t) (all (p + width st u))

  once_chosen : (b : Bool) → fits st u (drop p t) ≡ b → Chosen (First st u t D once p) (repeated once (fits st u) (width st u) rest p (drop p t))
  unfolding repeated
  once_chosen false e = rw (e, repeated) (needs st u t D p once (λ n h. let z : n ≡ 1 = (allowed_once (width st u) n).0 h in omega arith) e)
  once_chosen true e =
      rw (e, repeated)
      (chosen_iff (Only D 1 (p + width st u)) (First st u t D once p) (one_to st u t D p once (λ n. (allowed_once (width st u) n).1) e) (one_from st u t D p once (λ n. (allowed_once (width st u) n).0))
      (then 1 (p + width st u) (rest (p + width st u) (drop (width st u) (drop p t)))) (then_chosen D 1 (p + width st u) (rest (p + width st u) (drop (width st u) (drop p t))) rest_on))

  one_or_more_true : fits st u (drop p t) ≡ true → (width st u ≡ 0) ⊎ (1 ≤ width st u)
      → Chosen (First st u t D one_or_more p) (more (fits st u) (width st u) rest (spare (width st u) (drop (width st u) (drop p t))) 1 (p + width st u) (drop (width st u) (drop p t)))
  one_or_more_true e (inl z) =
      rw (spare_empty (width st u) (drop (width st u) (drop p t)) z, more_nil st u t D rest all 1 (p + width st u) (drop (width st u) (drop p t)))
      (chosen_iff (Only D 1 (p + width st u)) (First st u t D one_or_more p) (one_to st u t D p one_or_more (λ n. (allowed_one_or_more_empty (width st u) n z).1) e) (one_from st u t D p one_or_more (λ n. (allowed_one_or_more_empty (width st u) n z).0))
      (then 1 (p + width st u) (rest (p + width st u) (drop (width st u) (drop p t)))) (then_chosen D 1 (p + width st u) (rest (p + width st u) (drop (width st u) (drop p t))) rest_on))
  one_or_more_true e (inr w) =
      rw (spare_wide (width st u) (drop (width st u) (drop p t)) w)
      (chosen_iff (From st u t D 1 (p + width st u)) (First st u t D one_or_more p) (one_or_more_to st u t D p w e) (one_or_more_from st u t D p w)
      (more (fits st u) (width st u) rest (drop (width st u) (drop p t)) 1 (p + width st u) (drop (width st u) (drop p t)))
      (step_on st u t D rest all (drop (width st u) (drop p t)) 1 p (more_chosen st u t D rest all (drop (width st u) (drop p t)) 1 (p + width st u) w (let z : length (drop (width st u) (drop p t)) ≡ length (drop (p + width st u) t) = ap length (drop-drop (width st u) p t) in omega arith))))

  one_or_more_chosen : (b : Bool) → fits st u (drop p t) ≡ b → Chosen (First st u t D one_or_more p) (repeated one_or_more (fits st u) (width st u) rest p (drop p t))
  unfolding repeated
  one_or_more_chosen false e = rw (e, repeated) (needs st u t D p one_or_more (λ n. one_or_more_some (width st u) n) e)
  one_or_more_chosen true e = rw (e, repeated) (one_or_more_true e (wide_or_not (width st u)))

  zero_or_more_chosen : (width st u ≡ 0) ⊎ (1 ≤ width st u) → Chosen (First st u t D zero_or_more p) (more (fits st u) (width st u) rest (spare (width st u) (drop p t)) 0 p (drop p t))
  zero_or_more_chosen (inl z) =
      rw (spare_empty (width st u) (drop p t) z, more_nil st u t D rest all 0 p (drop p t))
      (chosen_iff (Only D 0 p) (First st u t D zero_or_more p) (none_to st u t D p z) (none_from st u t D p z) (then 0 p (rest p (drop p t))) (then_chosen D 0 p (rest p (drop p t)) (all p)))
  zero_or_more_chosen (inr w) =
      rw (spare_wide (width st u) (drop p t) w)
      (chosen_iff (From st u t D 0 p) (First st u t D zero_or_more p) (zero_or_more_to st u t D p w) (zero_or_more_from st u t D p)
      (more (fits st u) (width st u) rest (drop p t) 0 p (drop p t)) (more_chosen st u t D rest all (drop p t) 0 p w (omega arith)))

  -- THE LAW
  pub repeated_chosen : (c : Closure) → Chosen (First st u t D c p) (repeated c (fits st u) (width st u) rest p (drop p t))
  unfolding repeated
  repeated_chosen once = once_chosen (fits st u (drop p t)) refl
  repeated_chosen one_or_more = one_or_more_chosen (fits st u (drop p t)) refl
  repeated_chosen zero_or_more = zero_or_more_chosen (wide_or_not (width st u))
