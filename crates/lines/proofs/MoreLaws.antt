-- A closure one copy at a time, with no count of the copies before and no bytes that bound it.
use mathlib.Core.Path.{◌≡◌, refl, sym, ap, ◌∙◌}
use mathlib.Core.Bool.{Bool, true, false}
use mathlib.Core.List.{List, [], ◌∷◌}
use mathlib.Core.Option.{Option, none, some}
use Prim.Native.Nat.{ℕ, suc, ◌+◌, ◌-◌, ◌≤◌}
use native.Mathlib.Omega.{arith}
use lib.ListN.{length, drop, length-drop}
use lib.Seq.{drop-drop}
use Rattle.lines.specs.Matching.{Division, stops}
use Rattle.lines.specs.Choosing.{Rest, then, more}

-- the end places of what is chosen
abbrev pub stops_of : Option Division → Option (List ℕ)
stops_of none = none
stops_of (some d) = some (stops d)

-- the first, or else the second
abbrev pub or_else : Option Division → Option Division → Option Division
or_else none b = b
or_else (some d) b = some d

module _ (fit : List ℕ → Bool) (w : ℕ) (rest : Rest) (x : ℕ) (xs : List ℕ) (n p : ℕ) (s : List ℕ) where
  pub more_false : fit s ≡ false → more fit w rest (x ∷ xs) n p s ≡ then n p (rest p s)
  unfolding more
  more_false e = rw (e, more)

  either : (a : Option Division) → (elim a [ some d ↦ some d | none ↦ then n p (rest p s) ]) ≡ or_else a (then n p (rest p s))
  either none = refl
  either (some d) = refl

  pub more_true : fit s ≡ true → more fit w rest (x ∷ xs) n p s ≡ or_else (more fit w rest xs (suc n) (p + w) (drop w s)) (then n p (rest p s))
  unfolding more
  more_true e = rw (e, more) (either (more fit w rest xs (suc n) (p + w) (drop w s)))

pub then_stops : (n m p : ℕ) (a : Option Division) → stops_of (then n p a) ≡ stops_of (then m p a)
unfolding then
then_stops n m p none = refl
then_stops n m p (some d) = refl

or_stops : (a b c d : Option Division) → stops_of a ≡ stops_of b → stops_of c ≡ stops_of d → stops_of (or_else a c) ≡ stops_of (or_else b d)
or_stops none none c d e f = f
or_stops none (some y) c d e f = absurd (let z : ◌≡◌ {A = ℕ} 0 1 = cc in omega arith)
or_stops (some x) none c d e f = absurd (let z : ◌≡◌ {A = ℕ} 0 1 = cc in omega arith)
or_stops (some x) (some y) c d e f = e

module _ (fit : List ℕ → Bool) (w : ℕ) (rest : Rest) where
  -- the count of the copies before changes no end place
  pub more_count : (xs : List ℕ) (n m p : ℕ) (s : List ℕ) → stops_of (more fit w rest xs n p s) ≡ stops_of (more fit w rest xs m p s)
  unfolding more
  more_count [] n m p s = then_stops n m p (rest p s)
  more_count (x ∷ xs) n m p s = go (fit s) refl (more_count xs (suc n) (suc m) (p + w) (drop w s))
    where
      go : (b : Bool) → fit s ≡ b → stops_of (more fit w rest xs (suc n) (p + w) (drop w s)) ≡ stops_of (more fit w rest xs (suc m) (p + w) (drop w s))
          → stops_of (more fit w rest (x ∷ xs) n p s) ≡ stops_of (more fit w rest (x ∷ xs) m p s)
      go false e ih = ap stops_of (more_false fit w rest x xs n p s e) ∙ then_stops n m p (rest p s) ∙ sym (ap stops_of (more_false fit w rest x xs m p s e))
      go true e ih =
          ap stops_of (more_true fit w rest x xs n p s e)
          ∙ or_stops (more fit w rest xs (suc n) (p + w) (drop w s)) (more fit w rest xs (suc m) (p + w) (drop w s)) (then n p (rest p s)) (then m p (rest p s)) ih (then_stops n m p (rest p s))
          ∙ sym (ap stops_of (more_true fit w rest x xs m p s e))

  module _ (wide : 1 ≤ w) (inside : (s : List ℕ) → fit s ≡ true → w ≤ length s) where
    -- any bound that is long enough does
    pub more_enough : (xs ys : List ℕ) (n p : ℕ) (s : List ℕ) → length s ≤ length xs → length s ≤ length ys → more fit w rest xs n p s ≡ more fit w rest ys n p s
    unfolding more
    more_enough [] [] n p s a b = refl
    more_enough [] (y ∷ ys) n p s a b = go (fit s) refl
      where
        go : (c : Bool) → fit s ≡ c → then n p (rest p s) ≡ more fit w rest (y ∷ ys) n p s
        go false e = sym (more_false fit w rest y ys n p s e)
        go true e = absurd (let l : w ≤ length s = inside s e in omega arith)
    more_enough (x ∷ xs) [] n p s a b = go (fit s) refl
      where
        go : (c : Bool) → fit s ≡ c → more fit w rest (x ∷ xs) n p s ≡ then n p (rest p s)
        go false e = more_false fit w rest x xs n p s e
        go true e = absurd (let l : w ≤ length s = inside s e in omega arith)
    more_enough (x ∷ xs) (y ∷ ys) n p s a b =
        let l : length (drop w s) ≡ length s - w = length-drop w s in
        go (fit s) refl (more_enough xs ys (suc n) (p + w) (drop w s) (omega arith) (omega arith))
      where
        go : (c : Bool) → fit s ≡ c → more fit w rest xs (suc n) (p + w) (drop w s) ≡ more fit w rest ys (suc n) (p + w) (drop w s) → more fit w rest (x ∷ xs) n p s ≡ more fit w rest (y ∷ ys) n p s
        go false e ih = more_false fit w rest x xs n p s e ∙ sym (more_false fit w rest y ys n p s e)
        go true e ih = more_true fit w rest x xs n p s e ∙ ap (λ (o : Option Division). or_else o (then n p (rest p s))) ih ∙ sym (more_true fit w rest y ys n p s e)

    -- one more copy first, and else the rest
    pub more_again : (t : List ℕ) (n p : ℕ) → fit (drop p t) ≡ true
        → more fit w rest (drop p t) n p (drop p t) ≡ or_else (more fit w rest (drop (p + w) t) (suc n) (p + w) (drop (p + w) t)) (then n p (rest p (drop p t)))
    more_again t n p e = go (drop p t) refl
      where
        go : (s : List ℕ) → drop p t ≡ s → more fit w rest (drop p t) n p (drop p t) ≡ or_else (more fit w rest (drop (p + w) t) (suc n) (p + w) (drop (p + w) t)) (then n p (rest p (drop p t)))
        go [] q = absurd (let l : w ≤ length (drop p t) = inside (drop p t) e in let k : length (drop p t) ≡ 0 = ap length q in omega arith)
        go (x ∷ xs) q =
            let k : length (drop p t) ≡ suc (length xs) = ap length q in
            let a : length (drop p t) ≡ length t - p = length-drop p t in
            let b : length (drop (p + w) t) ≡ length t - (p + w) = length-drop (p + w) t in
            ap (λ (l : List ℕ). more fit w rest l n p (drop p t)) q
            ∙ more_true fit w rest x xs n p (drop p t) e
            ∙ ap (λ (l : List ℕ). or_else (more fit w rest xs (suc n) (p + w) l) (then n p (rest p (drop p t)))) (drop-drop w p t)
            ∙ ap (λ (o : Option Division). or_else o (then n p (rest p (drop p t)))) (more_enough xs (drop (p + w) t) (suc n) (p + w) (drop (p + w) t) (omega arith) (omega arith))
