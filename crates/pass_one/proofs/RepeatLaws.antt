-- From the chosen division to the steps that the matcher takes, by end places.
-- Assumes nothing.
use Rattle.std.specs.Prelude.{Some, None}
use mathlib.Core.Path.{◌≡◌, refl, sym, ap, ◌∙◌}
use mathlib.Core.Bool.{Bool, true, false, false≢true}
use mathlib.Core.List.{List, [], ◌∷◌}
use mathlib.Core.Option.{Option, none, some}
use Prim.Native.Nat.{ℕ, suc, ◌+◌, ◌-◌, ◌≤◌, ◌<◌}
use native.Mathlib.Omega.{arith}
use borrow.Author.Tests.{ltb-true, ltb-false}
use lib.Dec.{eqb}
use lib.ListN.{length, drop}
use lib.Seq.{drop-drop}
use Rattle.macros.specs.Macro.{Closure, PatternUnit, Piece, pick}
use Rattle.macros.specs.Macro.Closure.{once, one_or_more, zero_or_more}
use Rattle.macros.specs.Macro.Mark.{stack, counter}
use Rattle.macros.specs.Macro.PatternUnit.{literal, kind, class, call_of}
use Rattle.macros.specs.Macro.Piece.{element, start, end, left, right}
use Rattle.lines.specs.State.{State}
use Rattle.lines.specs.Matching.{Division, fits, width}
use Rattle.lines.specs.Choosing.{Rest, is_end, then, more, spare, repeated, chosen}
use Rattle.lines.proofs.MoreLaws.{stops_of, or_else, more_false, more_true, more_count, more_again}
use Rattle.form_element.specs.Element.{code_unit, code_closure, closure_of}
use Rattle.pass_unit.specs.Pieces.{members_of, fit_u, width_u, led_to, lead_of, again}
use Rattle.pass_one.specs.Trying.{then_p, found_of}

-- END PLACES

abbrev pub or_p : Option (List ℕ) → Option (List ℕ) → Option (List ℕ)
or_p none b = b
or_p (some l) b = some l

then_p_lem : (n q : ℕ) (a : Option Division) → stops_of (then n q a) ≡ then_p q (stops_of a)
unfolding then
then_p_lem n q none = refl
then_p_lem n q (some d) = refl

or_p_lem : (a b : Option Division) → stops_of (or_else a b) ≡ or_p (stops_of a) (stops_of b)
or_p_lem none b = refl
or_p_lem (some d) b = refl

then_any : (n q : ℕ) (a : Option Division) (i j : ℕ) → found_of i (stops_of (then n q a)) ≡ found_of j (stops_of (then n q a))
unfolding then
then_any n q none i j = refl
then_any n q (some d) i j = refl

or_any : (a b : Option Division) (i j : ℕ) → found_of i (stops_of a) ≡ found_of j (stops_of a) → found_of i (stops_of b) ≡ found_of j (stops_of b) → found_of i (stops_of (or_else a b)) ≡ found_of j (stops_of (or_else a b))
or_any none b i j e f = f
or_any (some d) b i j e f = e

module _ (fit : List ℕ → Bool) (w : ℕ) (rest : Rest) where
  -- a closure's span has an end, wherever one begins to count
  pub more_any : (xs : List ℕ) (n p : ℕ) (s : List ℕ) (i j : ℕ) → found_of i (stops_of (more fit w rest xs n p s)) ≡ found_of j (stops_of (more fit w rest xs n p s))
  unfolding more
  more_any [] n p s i j = then_any n p (rest p s) i j
  more_any (x ∷ xs) n p s i j = go (fit s) refl (more_any xs (suc n) (p + w) (drop w s) i j)
    where
      go : (b : Bool) → fit s ≡ b → found_of i (stops_of (more fit w rest xs (suc n) (p + w) (drop w s))) ≡ found_of j (stops_of (more fit w rest xs (suc n) (p + w) (drop w s)))
          → found_of i (stops_of (more fit w rest (x ∷ xs) n p s)) ≡ found_of j (stops_of (more fit w rest (x ∷ xs) n p s))
      go false e ih = rw (more_false fit w rest x xs n p s e) (then_any n p (rest p s) i j)
      go true e ih = rw (more_true fit w rest x xs n p s e) (or_any (more fit w rest xs (suc n) (p + w) (drop w s)) (then n p (rest p s)) i j ih (then_any n p (rest p s) i j))

  module _ (t : List ℕ) (p : ℕ) where
    -- no more copy
    pub more_stop : fit (drop p t) ≡ false → stops_of (more fit w rest (drop p t) 0 p (drop p t)) ≡ then_p p (stops_of (rest p (drop p t)))
    unfolding more
    more_stop e = go (drop p t) refl
      where
        go : (s : List ℕ) → drop p t ≡ s → stops_of (more fit w rest (drop p t) 0 p (drop p t)) ≡ then_p p (stops_of (rest p (drop p t)))
        go [] q = ap (λ (l : List ℕ). stops_of (more fit w rest l 0 p (drop p t))) q ∙ then_p_lem 0 p (rest p (drop p t))
        go (x ∷ xs) q = ap (λ (l : List ℕ). stops_of (more fit w rest l 0 p (drop p t))) q ∙ ap stops_of (more_false fit w rest x xs 0 p (drop p t) e) ∙ then_p_lem 0 p (rest p (drop p t))

    -- one more copy, or else the rest
    pub more_step : 1 ≤ w → ((s : List ℕ) → fit s ≡ true → w ≤ length s) → fit (drop p t) ≡ true
        → stops_of (more fit w rest (drop p t) 0 p (drop p t)) ≡ or_p (stops_of (more fit w rest (drop (p + w) t) 0 (p + w) (drop (p + w) t))) (then_p p (stops_of (rest p (drop p t))))
    more_step wide inside e =
        ap stops_of (more_again fit w rest wide inside t 0 p e)
        ∙ or_p_lem (more fit w rest (drop (p + w) t) 1 (p + w) (drop (p + w) t)) (then 0 p (rest p (drop p t)))
        ∙ ap (λ (a : Option (List ℕ)). or_p a (stops_of (then 0 p (rest p (drop p t))))) (more_count fit w rest (drop (p + w) t) 1 0 (p + w) (drop (p + w) t))
        ∙ ap (λ (a : Option (List ℕ)). or_p (stops_of (more fit w rest (drop (p + w) t) 0 (p + w) (drop (p + w) t))) a) (then_p_lem 0 p (rest p (drop p t)))

    -- the copies that must stand
    pub rep_nothing : (c : Closure) (b : Bool) → fit (drop p t) ≡ b → lead_of (code_closure c) b w p ≡ None → stops_of (repeated c fit w rest p (drop p t)) ≡ none
    unfolding led_to pick repeated
    rep_nothing once true e h = absurd (let z : ◌≡◌ {A = ℕ} 0 1 = cc in omega arith)
    rep_nothing once false e h = rw (e, repeated)
    rep_nothing one_or_more true e h = absurd (let z : ◌≡◌ {A = ℕ} 0 1 = cc in omega arith)
    rep_nothing one_or_more false e h = rw (e, repeated)
    rep_nothing zero_or_more b e h = absurd (let z : ◌≡◌ {A = ℕ} 0 1 = cc in omega arith)

    here : (n : ℕ) → stops_of (then n (p + w) (rest (p + w) (drop w (drop p t)))) ≡ then_p (p + w) (stops_of (rest (p + w) (drop (p + w) t)))
    here n = then_p_lem n (p + w) (rest (p + w) (drop w (drop p t))) ∙ ap (λ (s : List ℕ). then_p (p + w) (stops_of (rest (p + w) s))) (drop-drop w p t)

    empty_more : (n q : ℕ) (x s : List ℕ) → w ≡ 0 → stops_of (more fit w rest (spare w x) n q s) ≡ stops_of (then n q (rest q s))
    unfolding more spare
    empty_more n q x s e = ap (λ (j : ℕ). stops_of (more fit w rest (spare j x) n q s)) e

    wide_more : (n q : ℕ) (x s : List ℕ) → 1 ≤ w → stops_of (more fit w rest (spare w x) n q s) ≡ stops_of (more fit w rest x n q s)
    unfolding spare
    wide_more n q x s l = ap (λ (j : ℕ). stops_of (more fit w rest (spare j x) n q s)) (let z : w ≡ suc (w - 1) = omega arith in z)

    pub rep_once : (c : Closure) (b : Bool) (q : ℕ) → fit (drop p t) ≡ b → lead_of (code_closure c) b w p ≡ Some q → again (code_closure c) w ≡ false
        → stops_of (repeated c fit w rest p (drop p t)) ≡ then_p q (stops_of (rest q (drop q t)))
    unfolding led_to pick repeated
    rep_once once true q e h g = rw (e, repeated) (let z : p + w ≡ q = cc in rw (← z) (here 1))
    rep_once once false q e h g = absurd (let z : ◌≡◌ {A = ℕ} 0 1 = cc in omega arith)
    rep_once one_or_more true q e h g = rw (e, repeated) (let z : p + w ≡ q = cc in let l : w ≤ 0 = ltb-false 0 w g in rw (← z) (empty_more 1 (p + w) (drop w (drop p t)) (drop w (drop p t)) (omega arith) ∙ here 1))
    rep_once one_or_more false q e h g = absurd (let z : ◌≡◌ {A = ℕ} 0 1 = cc in omega arith)
    rep_once zero_or_more b q e h g = let z : p ≡ q = cc in let l : w ≤ 0 = ltb-false 0 w g in rw (← z) (empty_more 0 p (drop p t) (drop p t) (omega arith) ∙ then_p_lem 0 p (rest p (drop p t)))

    pub rep_star : (c : Closure) (b : Bool) (q : ℕ) → fit (drop p t) ≡ b → lead_of (code_closure c) b w p ≡ Some q → again (code_closure c) w ≡ true
        → stops_of (repeated c fit w rest p (drop p t)) ≡ stops_of (more fit w rest (drop q t) 0 q (drop q t))
    unfolding led_to pick repeated
    rep_star once b q e h g = absurd (false≢true g)
    rep_star one_or_more true q e h g =
        let z : p + w ≡ q = cc in
        let l : 0 < w = ltb-true 0 w g in
        rw (e, repeated)
        (wide_more 1 (p + w) (drop w (drop p t)) (drop w (drop p t)) (omega arith)
        ∙ more_count fit w rest (drop w (drop p t)) 1 0 (p + w) (drop w (drop p t))
        ∙ ap (λ (s : List ℕ). stops_of (more fit w rest s 0 (p + w) s)) (drop-drop w p t)
        ∙ ap (λ (j : ℕ). stops_of (more fit w rest (drop j t) 0 j (drop j t))) z)
    rep_star one_or_more false q e h g = absurd (let z : ◌≡◌ {A = ℕ} 0 1 = cc in omega arith)
    rep_star zero_or_more b q e h g = let z : p ≡ q = cc in let l : 0 < w = ltb-true 0 w g in rw (← z) (wide_more 0 p (drop p t) (drop p t) (omega arith))

-- A PIECE, as its unit and its closure

pub fit_element : (st : State) (u : PatternUnit) (c : Closure) (p : ℕ) → fit_u st (code_unit (element u c)) (members_of (element u c)) p ≡ fits st u
fit_element st (literal b) c p = refl
fit_element st (kind n) c p = refl
fit_element st (class false ms) c p = refl
fit_element st (class true ms) c p = refl
fit_element st (call_of stack i) c p = refl
fit_element st (call_of counter i) c p = refl

pub width_element : (st : State) (u : PatternUnit) (c : Closure) → width_u st (code_unit (element u c)) ≡ width st u
unfolding width
width_element st (literal b) c = refl
width_element st (kind n) c = refl
width_element st (class false ms) c = refl
width_element st (class true ms) c = refl
width_element st (call_of stack i) c = refl
width_element st (call_of counter i) c = refl

-- the closure of a piece; what has none is there once
abbrev pub piece_closure : Piece → Closure
piece_closure (element u c) = c
piece_closure start = once
piece_closure end = once
piece_closure left = once
piece_closure right = once

pub closure_piece : (e : Piece) → closure_of e ≡ code_closure (piece_closure e)
closure_piece (element u c) = refl
closure_piece start = refl
closure_piece end = refl
closure_piece left = refl
closure_piece right = refl

abbrev pub fit_p : State → Piece → ℕ → List ℕ → Bool
fit_p st e p = fit_u st (code_unit e) (members_of e) p

abbrev pub width_p : State → Piece → ℕ
width_p st e = width_u st (code_unit e)

empty_here : (p : ℕ) (s : List ℕ) (b : Bool) (r : Rest) → stops_of (elim b [ true ↦ then 1 p (r p s) | false ↦ none ]) ≡ stops_of (elim b [ true ↦ then 1 (p + 0) (r (p + 0) (drop 0 s)) | false ↦ none ])
empty_here p s true r = ap (λ (j : ℕ). stops_of (then 1 j (r j s))) (let z : p ≡ p + 0 = omega arith in z)
empty_here p s false r = refl

pub piece_next : (st : State) (e : Piece) (es : List Piece) (p : ℕ) (s : List ℕ) → stops_of (chosen st (e ∷ es) p s) ≡ stops_of (repeated (piece_closure e) (fit_p st e p) (width_p st e) (chosen st es) p s)
unfolding chosen repeated
piece_next st (element u c) es p s = sym (ap (λ (f : List ℕ → Bool). stops_of (repeated c f (width_p st (element u c)) (chosen st es) p s)) (fit_element st u c p) ∙ ap (λ (w : ℕ). stops_of (repeated c (fits st u) w (chosen st es) p s)) (width_element st u c))
piece_next st start es p s = empty_here p s (eqb p 0) (chosen st es)
piece_next st end es p s = empty_here p s (is_end s) (chosen st es)
piece_next st left es p s = empty_here p s true (chosen st es)
piece_next st right es p s = empty_here p s true (chosen st es)
