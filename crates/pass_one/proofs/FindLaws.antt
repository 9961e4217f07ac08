-- The match at a place, from the matcher's answer.
-- Assumes nothing.
use Rattle.std.specs.Prelude.{Option as CodeOption, Some, None}
use mathlib.Core.Path.{◌≡◌, refl, sym, ap, ◌∙◌, subst}
use mathlib.Core.Bool.{Bool, true, false, false≢true, not}
use mathlib.Core.List.{List, [], ◌∷◌}
use mathlib.Core.Option.{Option, none, some}
use Prim.Native.Nat.{ℕ, ◌≤◌, ◌<◌}
use native.Mathlib.Omega.{arith}
use native.Mathlib.Decide.{ℕ_discrete}
use borrow.Author.Tests.{eqb-true, eq-eqb, ne_eqb, le-leb, ltb-true, ltb-false, not-true}
use lib.Dec.{eqb, leb, ltb}
use lib.ListN.{length, get_or, drop}
use Rattle.macros.specs.Bounds.{most_line_bytes}
use Rattle.macros.specs.Macro.{Piece}
use Rattle.macros.specs.Macro.Closure.{once, one_or_more, zero_or_more}
use Rattle.macros.specs.Macro.Mark.{stack, counter}
use Rattle.macros.specs.Macro.PatternUnit.{literal, kind, class, call_of}
use Rattle.macros.specs.Macro.Piece.{element, start, end, left, right}
use Rattle.form_table.specs.Form.{closure_code, unit_code, unit_operand, piece_items, pattern_items}
use Rattle.lines.specs.State.{State}
use Rattle.lines.specs.Matching.{Division, span, byte_fits, fits, width, end_of, stops}
use Rattle.lines.specs.Choosing.{Rest, repeated, chosen}
use Rattle.lines.specs.Pass.{barred, unless_barred, counting, match}
use Rattle.lines.proofs.KeepTests.{by_pick}
use Rattle.lines.proofs.MoreLaws.{stops_of}
use Rattle.form_state.specs.Access.{Holds}
use Rattle.pass_moment.specs.Moments.{past_places}
use Rattle.pass_lack.specs.Lacking.{differs_in}
use Rattle.pass_unit.specs.Pattern.{IsPattern, IsRest}
use Rattle.pass_one.specs.Finding.{Ready, pick_last, last_of, FoundAt, counted_of, Differs, LastPlace, Finds}
use Rattle.pass_one.specs.Trying.{last_stop, Said, Trying, Tried}
use Rattle.pass_unit.proofs.TextLaws.{byte_here_lem, byte_past}

-- the whole pattern begins at 0
whole : (items : List ℕ) (es : List Piece) → IsPattern items es → IsRest items 0 es
unfolding pattern_items
whole items es i = record { prior = []; whole = i; place = refl }

pub ready_trying : (items kinds b t : List ℕ) (p : ℕ) (marks ends : List ℕ) → Ready items kinds b t p marks ends → Trying items kinds b t 0 p marks ends
ready_trying items kinds b t p marks ends r = record {
  given = record { fits = r.fits; table = r.table; state = r.state; short = r.short };
  noted = record { size = r.size; count = r.count; inside = r.inside; sound = r.sound };
  pieces = r.pattern.0;
  is = whole items r.pattern.0 r.pattern.1;
  place = r.place;
}

last_stop_lem : (p : ℕ) (d : Division) → end_of p d ≡ last_stop p (stops d)
unfolding end_of
last_stop_lem p [] = refl
last_stop_lem p (span n q ∷ d) = last_stop_lem q d

-- WHAT COUNTS

not_barred : (last p q : ℕ) → (q ≡ p → last ≡ p → ⊥) → barred (last_of last) p q ≡ false
unfolding barred last_of
not_barred last p q f = go (leb last most_line_bytes) (ℕ_discrete last p) (ℕ_discrete q p)
  where
    go : (k : Bool) → Dec (last ≡ p) → Dec (q ≡ p) → barred (pick_last k last) p q ≡ false
    go false a b = refl
    go true (yes a) (yes b) = absurd (f b a)
    go true (yes a) (no b) = rw (eq-eqb last p a, ne_eqb q p b)
    go true (no a) b = rw (ne_eqb last p a)

is_barred : (last p q : ℕ) → last ≡ p → q ≡ p → p ≤ most_line_bytes → barred (last_of last) p q ≡ true
unfolding barred last_of
is_barred last p q a b l = rw (le-leb last most_line_bytes (omega arith), eq-eqb last p a, eq-eqb q p b)

module _ (es : List Piece) (last p : ℕ) (ends : List ℕ) where
  no_match_lem : (a : Option Division) → Said es (stops_of a) 0 p ends None → FoundAt (counting (last_of last) p a) p es ends None
  unfolding counting
  no_match_lem none s = tt
  no_match_lem (some d) s = absurd (let f = s.found in let z : ◌≡◌ {A = ℕ} 0 1 = cc in omega arith)

  a_match : (a : Option Division) (m : ℕ) → Said es (stops_of a) 0 p ends (Some m) → (m ≡ p → last ≡ p → ⊥) → FoundAt (counting (last_of last) p a) p es ends (Some m)
  unfolding counting unless_barred
  a_match none m s f = absurd (let g = s.found in let z : ◌≡◌ {A = ℕ} 0 1 = cc in omega arith)
  a_match (some d) m s f =
      let g = s.found in
      let k : last_stop p (stops d) ≡ m = cc in
      let e : end_of p d ≡ m = last_stop_lem p d ∙ k in
      rw (not_barred last p (end_of p d) (λ x y. f (sym e ∙ x) y)) (e, s.ended)

  empty_match : (a : Option Division) (m : ℕ) → Said es (stops_of a) 0 p ends (Some m) → m ≡ p → last ≡ p → p ≤ most_line_bytes → FoundAt (counting (last_of last) p a) p es ends None
  unfolding counting unless_barred
  empty_match none m s x y l = absurd (let g = s.found in let z : ◌≡◌ {A = ℕ} 0 1 = cc in omega arith)
  empty_match (some d) m s x y l =
      let g = s.found in
      let k : last_stop p (stops d) ≡ m = cc in
      rw (is_barred last p (end_of p d) y (last_stop_lem p d ∙ k ∙ x) l) tt

module _ (items b t : List ℕ) (last p : ℕ) (marks marks' ends' : List ℕ) where
  find_none : Tried items b t 0 p marks marks' ends' None → Finds items b t last p marks marks' ends' None
  unfolding match
  find_none k = record {
    found = λ es i st h. no_match_lem es last p ends' (chosen st es p (drop p t)) (k.said es (whole items es i) st h);
    sound = k.kept.noted.sound;
    outside = k.kept.outside;
    inside = k.kept.noted.inside;
  }

  find_one : (m : ℕ) → Tried items b t 0 p marks marks' ends' (Some m) → (m ≡ p → last ≡ p → ⊥) → Finds items b t last p marks marks' ends' (Some m)
  unfolding match
  find_one m k f = record {
    found = λ es i st h. a_match es last p ends' (chosen st es p (drop p t)) m (k.said es (whole items es i) st h) f;
    sound = k.kept.noted.sound;
    outside = k.kept.outside;
    inside = k.kept.noted.inside;
  }

  find_empty : (m : ℕ) → Tried items b t 0 p marks marks' ends' (Some m) → m ≡ p → last ≡ p → p ≤ most_line_bytes → Finds items b t last p marks marks' ends' None
  unfolding match
  find_empty m k x y l = record {
    found = λ es i st h. empty_match es last p ends' (chosen st es p (drop p t)) m (k.said es (whole items es i) st h) x y l;
    sound = k.kept.noted.sound;
    outside = k.kept.outside;
    inside = k.kept.noted.inside;
  }

  pub find_counted : p ≤ most_line_bytes → (f r : CodeOption ℕ) → Tried items b t 0 p marks marks' ends' f → r ≡ counted_of f last p → Finds items b t last p marks marks' ends' r
  find_counted l None r k e = subst (Finds items b t last p marks marks' ends') (sym e) (find_none k)
  find_counted l (Some q) r k e = subst (Finds items b t last p marks marks' ends') (sym e) (by (ℕ_discrete q p) (ℕ_discrete last p))
    where
      by : Dec (q ≡ p) → Dec (last ≡ p) → Finds items b t last p marks marks' ends' (counted_of (Some q) last p)
      by (yes x) (yes y) = rw (eq-eqb q p x, eq-eqb last p y) (find_empty q k x y l)
      by (yes x) (no y) = rw (eq-eqb q p x, ne_eqb last p y) (find_one q k (λ u v. y v))
      by (no x) d = rw (ne_eqb q p x) (find_one q k (λ u v. x u))

  -- without a match before
  pub find_first : (m : ℕ) → p ≤ most_line_bytes → Tried items b t 0 p marks marks' ends' (Some m) → Finds items b t past_places p marks marks' ends' (Some m)
  unfolding match
  find_first m l k = record {
    found = λ es i st h. a_match es past_places p ends' (chosen st es p (drop p t)) m (k.said es (whole items es i) st h) (λ x y. omega arith);
    sound = k.kept.noted.sound;
    outside = k.kept.outside;
    inside = k.kept.noted.inside;
  }

  -- no division begins here
  pub tried_none : Tried items b t 0 p marks marks' ends' None → (es : List Piece) → IsPattern items es → (st : State) → Holds b st → chosen st es p (drop p t) ≡ none
  tried_none k es i st h = said_none (chosen st es p (drop p t)) (k.said es (whole items es i) st h)
    where
      said_none : (a : Option Division) → Said es (stops_of a) 0 p ends' None → a ≡ none
      said_none none s = refl
      said_none (some d) s = absurd (let f = s.found in let z : ◌≡◌ {A = ℕ} 0 1 = cc in omega arith)

  pub find_differs : (kinds ends : List ℕ) → Ready items kinds b t p marks ends → (x : Bool) → Differs items t p x → x ≡ true → Finds items b t last p marks marks ends None
  unfolding match counting
  find_differs kinds ends r x d e = record {
    found = λ es i st h. rw (d.none_here e es i st) tt;
    sound = r.sound;
    outside = refl;
    inside = r.inside;
  }

-- A LITERAL THAT MUST STAND

once_none : (fit : List ℕ → Bool) (w : ℕ) (rest : Rest) (p : ℕ) (s : List ℕ) → fit s ≡ false → (repeated once fit w rest p s ≡ none) × (repeated one_or_more fit w rest p s ≡ none)
unfolding repeated
once_none fit w rest p s e = (rw (e, repeated), rw (e, repeated))

first_literal : (items t : List ℕ) (p : ℕ) → 8 ≤ get_or items 0 0 → get_or items 0 0 ≤ 9 → byte_fits (eqb (get_or items 1 0)) (drop p t) ≡ false → (st : State) (es : List Piece) → pattern_items es ≡ items
    → chosen st es p (drop p t) ≡ none
unfolding pattern_items piece_items unit_code closure_code unit_operand chosen fits
first_literal items t p lo hi f st [] i = absurd (let z = ap (λ (x : List ℕ). get_or x 0 0) i in omega arith)
first_literal items t p lo hi f st (element (literal b) once ∷ es) i =
    (once_none (fits st (literal b)) (width st (literal b)) (chosen st es) p (drop p t) (ap (λ (x : ℕ). byte_fits (eqb x) (drop p t)) (ap (λ (x : List ℕ). get_or x 1 0) i) ∙ f)).0
first_literal items t p lo hi f st (element (literal b) one_or_more ∷ es) i =
    (once_none (fits st (literal b)) (width st (literal b)) (chosen st es) p (drop p t) (ap (λ (x : ℕ). byte_fits (eqb x) (drop p t)) (ap (λ (x : List ℕ). get_or x 1 0) i) ∙ f)).1
first_literal items t p lo hi f st (element (literal b) zero_or_more ∷ es) i = absurd (let z = ap (λ (x : List ℕ). get_or x 0 0) i in omega arith)
first_literal items t p lo hi f st (element (kind n) c ∷ es) i = absurd (let z = ap (λ (x : List ℕ). get_or x 0 0) i in omega arith)
first_literal items t p lo hi f st (element (class true ms) c ∷ es) i = absurd (let z = ap (λ (x : List ℕ). get_or x 0 0) i in omega arith)
first_literal items t p lo hi f st (element (class false ms) c ∷ es) i = absurd (let z = ap (λ (x : List ℕ). get_or x 0 0) i in omega arith)
first_literal items t p lo hi f st (element (call_of stack j) c ∷ es) i = absurd (let z = ap (λ (x : List ℕ). get_or x 0 0) i in omega arith)
first_literal items t p lo hi f st (element (call_of counter j) c ∷ es) i = absurd (let z = ap (λ (x : List ℕ). get_or x 0 0) i in omega arith)
first_literal items t p lo hi f st (start ∷ es) i = absurd (let z = ap (λ (x : List ℕ). get_or x 0 0) i in omega arith)
first_literal items t p lo hi f st (end ∷ es) i = absurd (let z = ap (λ (x : List ℕ). get_or x 0 0) i in omega arith)
first_literal items t p lo hi f st (left ∷ es) i = absurd (let z = ap (λ (x : List ℕ). get_or x 0 0) i in omega arith)
first_literal items t p lo hi f st (right ∷ es) i = absurd (let z = ap (λ (x : List ℕ). get_or x 0 0) i in omega arith)

differs_not : (items t : List ℕ) (p : ℕ) → Differs items t p false
differs_not items t p = record { none_here = λ e. absurd (false≢true e) }

module _ (items t : List ℕ) (p : ℕ) (lo : 8 ≤ get_or items 0 0) (hi : get_or items 0 0 ≤ 9) where
  differs_past : length t ≤ p → Differs items t p true
  differs_past l = record { none_here = λ e es i st. first_literal items t p lo hi (byte_past t p (eqb (get_or items 1 0)) l) st es i.form }

  differs_byte : p < length t → Differs items t p (not (eqb (get_or items 1 0) (get_or t p 0)))
  differs_byte l = record { none_here = λ e es i st. first_literal items t p lo hi (byte_here_lem t p (eqb (get_or items 1 0)) l ∙ not-true (eqb (get_or items 1 0) (get_or t p 0)) e) st es i.form }

-- `^` FIRST

first_start : (items s : List ℕ) (p : ℕ) → get_or items 0 0 ≡ 3 → 0 < p → (st : State) (es : List Piece) → pattern_items es ≡ items → chosen st es p s ≡ none
unfolding pattern_items piece_items unit_code closure_code unit_operand chosen
first_start items s p f l st [] i = absurd (let z = ap (λ (x : List ℕ). get_or x 0 0) i in omega arith)
first_start items s p f l st (start ∷ es) i = rw (ne_eqb p 0 (λ e. omega arith), chosen)
first_start items s p f l st (element (literal b) c ∷ es) i = absurd (let z = ap (λ (x : List ℕ). get_or x 0 0) i in omega arith)
first_start items s p f l st (element (kind n) c ∷ es) i = absurd (let z = ap (λ (x : List ℕ). get_or x 0 0) i in omega arith)
first_start items s p f l st (element (class true ms) c ∷ es) i = absurd (let z = ap (λ (x : List ℕ). get_or x 0 0) i in omega arith)
first_start items s p f l st (element (class false ms) c ∷ es) i = absurd (let z = ap (λ (x : List ℕ). get_or x 0 0) i in omega arith)
first_start items s p f l st (element (call_of stack j) c ∷ es) i = absurd (let z = ap (λ (x : List ℕ). get_or x 0 0) i in omega arith)
first_start items s p f l st (element (call_of counter j) c ∷ es) i = absurd (let z = ap (λ (x : List ℕ). get_or x 0 0) i in omega arith)
first_start items s p f l st (end ∷ es) i = absurd (let z = ap (λ (x : List ℕ). get_or x 0 0) i in omega arith)
first_start items s p f l st (left ∷ es) i = absurd (let z = ap (λ (x : List ℕ). get_or x 0 0) i in omega arith)
first_start items s p f l st (right ∷ es) i = absurd (let z = ap (λ (x : List ℕ). get_or x 0 0) i in omega arith)

differs_start : (items t : List ℕ) (p : ℕ) → get_or items 0 0 ≡ 3 → Differs items t p (ltb 0 p)
differs_start items t p f = record { none_here = λ e es i st. first_start items (drop p t) p f (ltb-true 0 p e) st es i.form }

pub differs_is : (items t : List ℕ) (p : ℕ) {x : Bool} → x ≡ differs_in items t p → Differs items t p x
unfolding differs_in
differs_is items t p e =
    subst (Differs items t p) (sym e)
    (by_pick (Differs items t p) (ltb (length items) 2) _ _ (λ f. differs_not items t p)
    (λ f.
    by_pick (Differs items t p) (eqb (get_or items 0 0) 3) _ _ (λ g. differs_start items t p (eqb-true (get_or items 0 0) 3 g))
    (λ g.
    by_pick (Differs items t p) (ltb (get_or items 0 0) 8) _ _ (λ h. differs_not items t p)
    (λ h.
    by_pick (Differs items t p) (ltb 9 (get_or items 0 0)) _ _ (λ k. differs_not items t p)
    (λ k.
    by_pick (Differs items t p) (ltb p (length t)) _ _
    (λ l. differs_byte items t p (ltb-false (get_or items 0 0) 8 h) (ltb-false 9 (get_or items 0 0) k) (ltb-true p (length t) l))
    (λ l. differs_past items t p (ltb-false (get_or items 0 0) 8 h) (ltb-false 9 (get_or items 0 0) k) (ltb-false p (length t) l)))))))

pub last_all : (items t : List ℕ) → LastPlace items t (length t)
last_all items t = record { inside = omega arith; none_past = λ es i st p h l. absurd (omega arith) }

pub last_start : (items t : List ℕ) → get_or items 0 0 ≡ 3 → LastPlace items t 0
last_start items t f = record { inside = omega arith; none_past = λ es i st p h l. first_start items (drop p t) p f h st es i.form }
