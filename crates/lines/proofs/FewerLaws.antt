-- The law FewerMeans of specs/Choice.
use mathlib.Core.Path.{◌≡◌, refl, sym, ap, ◌∙◌, subst}
use mathlib.Core.Bool.{Bool, true, false}
use mathlib.Core.Logic.{◌⊎◌, inl, inr, ◌↔◌}
use mathlib.Core.List.{List, [], ◌∷◌}
use mathlib.Core.Option.{Option, none, some}
use Prim.Native.Nat.{ℕ, zero, suc, ◌<◌}
use native.Mathlib.Omega.{arith}
use lib.ListN.{get_elem?}
use Rattle.macros.specs.Macro.{Closure, Piece, pick}
use Rattle.macros.specs.Macro.Closure.{once, one_or_more, zero_or_more}
use Rattle.macros.specs.Macro.Piece.{element, start, end, left, right}
use Rattle.lines.specs.State.{State}
use Rattle.lines.specs.Matching.{span, Division, Allowed, Satisfies, Divides, Fewer}
use Rattle.lines.specs.Choice.{is_closure, closure_repeats, FewerAtFirst, FewerMeans}
use Rattle.lines.proofs.ChoiceLaws.{span_same}

-- what is no closure repeats once
no_closure : (st : State) (t : List ℕ) (e : Piece) (p n q : ℕ) → is_closure e ≡ false → Satisfies st t e p n q → n ≡ 1
unfolding Satisfies Allowed
no_closure st t (element u once) p n q f h = h.0
no_closure st t (element u one_or_more) p n q f h = absurd (let z : ◌≡◌ {A = ℕ} 0 1 = cc in omega arith)
no_closure st t (element u zero_or_more) p n q f h = absurd (let z : ◌≡◌ {A = ℕ} 0 1 = cc in omega arith)
no_closure st t start p n q f h = h.1
no_closure st t end p n q f h = h.1
no_closure st t left p n q f h = h.0
no_closure st t right p n q f h = h.0

some_same : (m n : ℕ) → some m ≡ some n → m ≡ n
some_same m n e = cc

none_some : (n : ℕ) → ◌≡◌ {A = Option ℕ} none (some n) → ⊥
none_some n e = let z : ◌≡◌ {A = ℕ} 0 1 = cc in omega arith

-- one closure more before the first that differs
next_closure : (e : Piece) (es : List Piece) (m q n r : ℕ) (a b : Division) → is_closure e ≡ true → m ≡ n → FewerAtFirst es a b → FewerAtFirst (e ∷ es) (span m q ∷ a) (span n r ∷ b)
unfolding pick
next_closure e es m q n r a b f l h =
    record {
      closure = suc h.closure;
      m = h.m;
      n = h.n;
      here = rw f h.here;
      there = rw f h.there;
      fewer = h.fewer;
      equal = λ k. rw f (equal k);
    }
  where
    equal : (k : ℕ) → k < suc h.closure → get_elem? (m ∷ closure_repeats es a) k ≡ get_elem? (n ∷ closure_repeats es b) k
    equal zero z = ap some l
    equal (suc k) z = h.equal k (omega arith)

-- a piece that is none
pass_by : (e : Piece) (es : List Piece) (m q n r : ℕ) (a b : Division) → is_closure e ≡ false → FewerAtFirst es a b → FewerAtFirst (e ∷ es) (span m q ∷ a) (span n r ∷ b)
unfolding pick
pass_by e es m q n r a b f h =
    record { closure = h.closure; m = h.m; n = h.n; here = rw f h.here; there = rw f h.there; fewer = h.fewer; equal = λ k. rw f (h.equal k) }

first_closure : (e : Piece) (es : List Piece) (m q n r : ℕ) (a b : Division) → is_closure e ≡ true → m < n → FewerAtFirst (e ∷ es) (span m q ∷ a) (span n r ∷ b)
unfolding pick
first_closure e es m q n r a b f l =
    record { closure = 0; m = m; n = n; here = rw f refl; there = rw f refl; fewer = l; equal = λ k z. absurd (omega arith) }

-- and back
skip_piece : (e : Piece) (es : List Piece) (m q n r : ℕ) (a b : Division) → is_closure e ≡ false → FewerAtFirst (e ∷ es) (span m q ∷ a) (span n r ∷ b) → FewerAtFirst es a b
unfolding pick
skip_piece e es m q n r a b f h =
    record { closure = h.closure; m = h.m; n = h.n; here = rw f at h.here; there = rw f at h.there; fewer = h.fewer; equal = λ k. rw f at (h.equal k) }

data Split (es : List Piece) (m n : ℕ) (a b : Division) : Type 0 where
  at_once : m < n → Split es m n a b
  later : m ≡ n → FewerAtFirst es a b → Split es m n a b

split : (e : Piece) (es : List Piece) (m q n r : ℕ) (a b : Division) → is_closure e ≡ true → FewerAtFirst (e ∷ es) (span m q ∷ a) (span n r ∷ b) → Split es m n a b
unfolding pick
split e es m q n r a b f h =
    go h.closure (rw f at h.here) (rw f at h.there) (λ k z. rw f at (h.equal k z))
  where
    go : (c : ℕ) → get_elem? (m ∷ closure_repeats es a) c ≡ some h.m → get_elem? (n ∷ closure_repeats es b) c ≡ some h.n
        → ((k : ℕ) → k < c → get_elem? (m ∷ closure_repeats es a) k ≡ get_elem? (n ∷ closure_repeats es b) k) → Split es m n a b
    go zero x y z =
        let i : m ≡ h.m = some_same m h.m x in
        let j : n ≡ h.n = some_same n h.n y in
        let l = h.fewer in
        at_once (omega arith)
    go (suc c) x y z =
        later (some_same m n (z 0 (omega arith)))
        (record { closure = c; m = h.m; n = h.n; here = x; there = y; fewer = h.fewer; equal = λ k u. z (suc k) (omega arith) })

module _ (st : State) (t : List ℕ) where
  fewer_span : (e : Piece) (es : List Piece) (p m q n r : ℕ) (a b : Division) → Satisfies st t e p m q → Satisfies st t e p n r → Divides st t es r b
      → (Divides st t es q b → Fewer a b → FewerAtFirst es a b) → (c : Bool) → is_closure e ≡ c → (m < n) ⊎ ((m ≡ n) × Fewer a b)
      → FewerAtFirst (e ∷ es) (span m q ∷ a) (span n r ∷ b)
  fewer_span e es p m q n r a b h g k ih true c (inl l) = first_closure e es m q n r a b c l
  fewer_span e es p m q n r a b h g k ih false c (inl l) =
      let x : m ≡ 1 = no_closure st t e p m q c h in
      let y : n ≡ 1 = no_closure st t e p n r c g in
      absurd (omega arith)
  fewer_span e es p m q n r a b h g k ih true c (inr l) =
      let s : r ≡ q = span_same st t e p m q n r h g (sym l.0) in
      next_closure e es m q n r a b c l.0 (ih (subst (λ (j : ℕ). Divides st t es j b) s k) l.1)
  fewer_span e es p m q n r a b h g k ih false c (inr l) =
      let s : r ≡ q = span_same st t e p m q n r h g (sym l.0) in
      pass_by e es m q n r a b c (ih (subst (λ (j : ℕ). Divides st t es j b) s k) l.1)

  fewer_first : (es : List Piece) (p : ℕ) (a b : Division) → Divides st t es p a → Divides st t es p b → Fewer a b → FewerAtFirst es a b
  unfolding Divides Fewer
  fewer_first [] p [] b h g f = absurd f
  fewer_first [] p (x ∷ a) b h g f = absurd h
  fewer_first (e ∷ es) p [] b h g f = absurd f
  fewer_first (e ∷ es) p (span m q ∷ a) [] h g f = absurd f
  fewer_first (e ∷ es) p (span m q ∷ a) (span n r ∷ b) h g f =
      fewer_span e es p m q n r a b h.0 g.0 g.1 (λ k l. fewer_first es q a b h.1 k l) (is_closure e) refl f

  first_span : (e : Piece) (es : List Piece) (p m q n r : ℕ) (a b : Division) → Satisfies st t e p m q → Satisfies st t e p n r → Divides st t es r b
      → (Divides st t es q b → FewerAtFirst es a b → Fewer a b) → FewerAtFirst (e ∷ es) (span m q ∷ a) (span n r ∷ b) → (c : Bool) → is_closure e ≡ c
      → (m < n) ⊎ ((m ≡ n) × Fewer a b)
  first_span e es p m q n r a b h g k ih f c z = go c z
    where
      on : m ≡ n → FewerAtFirst es a b → (m < n) ⊎ ((m ≡ n) × Fewer a b)
      on l j = let s : r ≡ q = span_same st t e p m q n r h g (sym l) in inr (l, ih (subst (λ (i : ℕ). Divides st t es i b) s k) j)

      by : Split es m n a b → (m < n) ⊎ ((m ≡ n) × Fewer a b)
      by (at_once l) = inl l
      by (later l j) = on l j

      go : (c : Bool) → is_closure e ≡ c → (m < n) ⊎ ((m ≡ n) × Fewer a b)
      go true c = by (split e es m q n r a b c f)
      go false c = on (no_closure st t e p m q c h ∙ sym (no_closure st t e p n r c g)) (skip_piece e es m q n r a b c f)

  first_fewer : (es : List Piece) (p : ℕ) (a b : Division) → Divides st t es p a → Divides st t es p b → FewerAtFirst es a b → Fewer a b
  unfolding Divides Fewer
  first_fewer [] p a b h g f = absurd (none_some f.m f.here)
  first_fewer (e ∷ es) p [] b h g f = absurd h
  first_fewer (e ∷ es) p (span m q ∷ a) [] h g f = absurd g
  first_fewer (e ∷ es) p (span m q ∷ a) (span n r ∷ b) h g f =
      first_span e es p m q n r a b h.0 g.0 g.1 (λ k l. first_fewer es q a b h.1 k l) f (is_closure e) refl

-- THE LAW
pub fewer_means : FewerMeans
fewer_means st t es p a b h g = (fewer_first st t es p a b h g, first_fewer st t es p a b h g)
