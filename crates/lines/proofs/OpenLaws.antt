-- The macros whose pass is due: the list of the open ones goes from the newest to the oldest and leaves none out.
use mathlib.Core.Path.{◌≡◌, refl, sym, ap, ◌∙◌, subst}
use mathlib.Core.Bool.{Bool, true, false, false≢true}
use mathlib.Core.Logic.{◌⊎◌, inl, inr, ◌↔◌}
use mathlib.Core.List.{List, [], ◌∷◌, reverse_aux}
use mathlib.Core.Option.{some}
use Prim.Native.Nat.{ℕ, zero, suc, ◌+◌, ◌≤◌, ◌<◌}
use native.Mathlib.Nat.{eq-or-lt_of_le, add-zero}
use native.Mathlib.Omega.{arith}
use borrow.Author.Tests.{eqb-true, eqb-false, ne_eqb}
use lib.Dec.{eqb}
use lib.ListN.{length, get_elem?}
use Rattle.macros.specs.Macro.{Macro, Table}
use Rattle.lines.specs.Line.{Numbered, is_in, unless_closed, open_from, newest_first}
use Rattle.lines.specs.Demand.{NotIn, Due}

-- numbers in a list
module _ (i k : ℕ) (ks : List ℕ) where
  in_split : (b : Bool) → eqb i k ≡ b → is_in i (k ∷ ks) ≡ elim b [ true ↦ true | false ↦ is_in i ks ]
  unfolding is_in
  in_split b e = rw (e, is_in)

  pub in_cons : (b : Bool) → is_in i (k ∷ ks) ≡ b → ((i ≡ k) × (b ≡ true)) ⊎ ((i ≡ k → ⊥) × (is_in i ks ≡ b))
  in_cons b e = go (eqb i k) refl
    where
      go : (c : Bool) → eqb i k ≡ c → ((i ≡ k) × (b ≡ true)) ⊎ ((i ≡ k → ⊥) × (is_in i ks ≡ b))
      go true f = inl (eqb-true i k f, sym e ∙ in_split true f)
      go false f = inr (eqb-false i k f, sym (in_split false f) ∙ e)

  not_in_rest : (is_in i ks ≡ false → NotIn i ks) → ((i ≡ k) × (◌≡◌ {A = Bool} false true)) ⊎ ((i ≡ k → ⊥) × (is_in i ks ≡ false)) → NotIn i (k ∷ ks)
  not_in_rest h (inl x) = absurd (false≢true x.1)
  not_in_rest h (inr x) = (x.0, h x.1)

-- joined to the demand's own notion
pub not_in : (i : ℕ) (ks : List ℕ) → (is_in i ks ≡ false) ↔ NotIn i ks
unfolding is_in
not_in i [] = (λ e. tt, λ h. refl)
not_in i (k ∷ ks) =
    (λ e. not_in_rest i k ks (not_in i ks).0 (in_cons i k ks false e), λ h. in_split i k ks false (ne_eqb i k h.0) ∙ (not_in i ks).1 h.1)

-- the list holds, newest first, exactly the macros of which P holds
abbrev pub Todo : (ℕ → Macro → Type 0) → List Numbered → Type 0
Todo P [] = (i : ℕ) (m : Macro) → P i m → ⊥
Todo P (e ∷ es) = P e.number e.macro × ((i : ℕ) (m : Macro) → P i m → i ≤ e.number) × Todo (λ i m. P i m × (i ≡ e.number → ⊥)) es

todo_iff : (P Q : ℕ → Macro → Type 0) → ((i : ℕ) (m : Macro) → P i m → Q i m) → ((i : ℕ) (m : Macro) → Q i m → P i m) → (es : List Numbered) → Todo P es → Todo Q es
todo_iff P Q to from [] h = λ i m q. h i m (from i m q)
todo_iff P Q to from (e ∷ es) h = (
  to e.number e.macro h.0,
  λ i m q. h.1 i m (from i m q),
  todo_iff (λ i m. P i m × (i ≡ e.number → ⊥)) (λ i m. Q i m × (i ≡ e.number → ⊥)) (λ i m p. (to i m p.0, p.1)) (λ i m q. (from i m q.0, q.1)) es h.2,
)

-- after a pass of the first without an occurrence
pub todo_next : (ms : Table) (closed since : List ℕ) (e : Numbered) (es : List Numbered) → Todo (Due ms closed since) (e ∷ es) → Todo (Due ms closed (e.number ∷ since)) es
todo_next ms closed since e es h =
    todo_iff (λ i m. Due ms closed since i m × (i ≡ e.number → ⊥)) (Due ms closed (e.number ∷ since))
    (λ i m p. (p.0.0, p.0.1, (p.1, p.0.2))) (λ i m d. ((d.0, d.1, d.2.1), d.2.0)) es h.2

-- at a line's start, and after an occurrence
at_inside : (ms : Table) (i : ℕ) (m : Macro) → get_elem? ms i ≡ some m → i < length ms
at_inside [] i m e = absurd (let z : ◌≡◌ {A = ℕ} 0 1 = cc in omega arith)
at_inside (x ∷ ms) zero m e = omega arith
at_inside (x ∷ ms) (suc i) m e = let h : i < length ms = at_inside ms i m e in omega arith

less : (i n : ℕ) → i < suc n → (i ≡ n → ⊥) → i < n
less i n l f = go (eq-or-lt_of_le (let z : i ≤ n = omega arith in z))
  where
    go : (i ≡ n) ⊎ (i < n) → i < n
    go (inl e) = absurd (f e)
    go (inr e) = e

module _ (all : Table) (closed : List ℕ) where
  -- open, and one of the first n
  abbrev Below : ℕ → ℕ → Macro → Type 0
  Below n i m = (get_elem? all i ≡ some m) × (is_in i closed ≡ false) × (i < n)

  below_next : (n : ℕ) (m : Macro) → get_elem? all n ≡ some m → (b : Bool) → is_in n closed ≡ b → (es : List Numbered) → Todo (Below n) es
      → Todo (Below (suc n)) (unless_closed b (record { number = n; macro = m }) es)
  unfolding unless_closed
  below_next n m at true e es h = todo_iff (Below n) (Below (suc n)) (λ i k p. (p.0, p.1, omega arith)) (λ i k p. (p.0, p.1, less i n p.2 (other i k p))) es h
    where
      other : (i : ℕ) (k : Macro) → Below (suc n) i k → i ≡ n → ⊥
      other i k p f = false≢true (sym (subst (λ (j : ℕ). is_in j closed ≡ false) f p.1) ∙ e)
  below_next n m at false e es h = (
    (at, e, omega arith),
    λ i k p. omega arith,
    todo_iff (Below n) (λ i k. Below (suc n) i k × (i ≡ n → ⊥)) (λ i k p. ((p.0, p.1, omega arith), λ f. omega arith)) (λ i k p. (p.0.0, p.0.1, less i n p.0.2 p.1)) es h,
  )

  reverse_unless : (b : Bool) (e : Numbered) (l acc : List Numbered) → reverse_aux (unless_closed b e l) acc ≡ reverse_aux l (unless_closed b e acc)
  unfolding unless_closed
  reverse_unless true e l acc = refl
  reverse_unless false e l acc = refl

  below_all : (n : ℕ) (ms : Table) → ((j : ℕ) → get_elem? ms j ≡ get_elem? all (n + j)) → (acc : List Numbered) → Todo (Below n) acc
      → Todo (Below (n + length ms)) (reverse_aux (open_from n closed ms) acc)
  unfolding open_from
  below_all n [] tail acc h = subst (λ (k : ℕ). Todo (Below k) acc) (sym (add-zero n)) h
  below_all n (m ∷ ms) tail acc h =
      let e : suc n + length ms ≡ n + suc (length ms) = omega arith in
      let at : get_elem? all n ≡ some m = sym (tail 0 ∙ ap (get_elem? all) (add-zero n)) in
      rw (reverse_unless (is_in n closed) (record { number = n; macro = m }) (open_from (suc n) closed ms) acc)
      (subst (λ (k : ℕ). Todo (Below k) (reverse_aux (open_from (suc n) closed ms) (unless_closed (is_in n closed) (record { number = n; macro = m }) acc))) e
      (below_all (suc n) ms (λ j. tail (suc j) ∙ ap (get_elem? all) (let z : n + suc j ≡ suc n + j = omega arith in z)) (unless_closed (is_in n closed) (record { number = n; macro = m }) acc)
      (below_next n m at (is_in n closed) refl acc h)))

-- THE LAW
pub todo_all : (ms : Table) (closed : List ℕ) → Todo (Due ms closed []) (newest_first closed ms)
unfolding newest_first
todo_all ms closed =
    todo_iff (Below ms closed (0 + length ms)) (Due ms closed []) (λ i m p. (p.0, (not_in i closed).0 p.1, tt))
    (λ i m p. (p.0, (not_in i closed).1 p.1, (let h : i < length ms = at_inside ms i m p.0 in omega arith))) (newest_first closed ms)
    (below_all ms closed 0 ms (λ j. ap (get_elem? ms) (let z : j ≡ 0 + j = omega arith in z)) [] (λ i m p. absurd (omega arith)))
