-- The text of a tag, one item of the pattern at a time.
use Prim.Native.Nat.{ℕ, zero, suc, ◌+◌, ◌-◌, ◌*◌, ◌≤◌, ◌<◌, min}
use mathlib.Core.Path.{◌≡◌, refl, sym, ap, ◌∙◌}
use mathlib.Core.Bool.{Bool, true, false}
use mathlib.Core.List.{List, [], ◌∷◌, ◌++◌}
use native.Mathlib.Nat.{add-zero}
use native.Mathlib.Omega.{arith}
use borrow.Author.Tests.{ltb-true, ltb-false, ne_eqb}
use lib.Dec.{eqb, ltb}
use lib.ListN.{length, get_or, take, drop, length-take, drop_of_length-le}
use lib.Seq.{drop-drop, get_or-drop, slice, slice_empty}
use Rattle.macros.specs.Macro.{Closure, Member, PatternUnit, Piece}
use Rattle.macros.specs.Macro.Member.{single, range}
use Rattle.macros.specs.Macro.Mark.{stack, counter}
use Rattle.macros.specs.Macro.PatternUnit.{literal, kind, class, call_of}
use Rattle.macros.specs.Macro.Piece.{element, start, end, left, right}
use Rattle.form_table.specs.Form.{closure_code, unit_code, member_items, members_items, unit_rest, piece_items, pattern_items}
use Rattle.lines.specs.Matching.{closing, tag_text}
use Rattle.pass_replace.specs.Contract.{EndsFrom}
use Rattle.pass_replace.specs.Tags.{close_step, close_in, tag_step, tag_in, Spans, Divided}
use Rattle.pass_steps.specs.Texts.{Cut}

-- AN ITEM

module _ (c n q : ℕ) (on : ℕ → ℕ) where
  abbrev stepped : ℕ
  stepped = close_step (eqb c 1) (eqb c 2) n q on

  left_step : c ≡ 1 → stepped ≡ on (n + 1)
  unfolding close_step
  left_step e = rw e (ap on (let z : suc n ≡ n + 1 = omega arith in z))

  here_step : c ≡ 2 → n < 1 → stepped ≡ q
  unfolding close_step
  here_step e h = let z : n ≡ 0 = omega arith in rw (e, z)

  right_step : c ≡ 2 → 1 ≤ n → stepped ≡ on (n - 1)
  unfolding close_step
  right_step e h = rw e (ap (λ (j : ℕ). close_step false true j q on) (let z : n ≡ suc (n - 1) = omega arith in z))

  other_step : (c ≡ 1 → ⊥) → (c ≡ 2 → ⊥) → stepped ≡ on n
  unfolding close_step
  other_step f g = rw (ne_eqb c 1 f, ne_eqb c 2 g)

module _ (c n : ℕ) (s : List ℕ) (on : ℕ → List ℕ) where
  abbrev tagged : List ℕ
  tagged = tag_step (eqb c 1) n s on

  tag_here_step : c ≡ 1 → n < 1 → tagged ≡ s
  unfolding tag_step
  tag_here_step e h = let z : n ≡ 0 = omega arith in rw (e, z)

  tag_left_step : c ≡ 1 → 1 ≤ n → tagged ≡ on (n - 1)
  unfolding tag_step
  tag_left_step e h = rw e (ap (λ (j : ℕ). tag_step true j s on) (let z : n ≡ suc (n - 1) = omega arith in z))

  tag_other_step : (c ≡ 1 → ⊥) → tagged ≡ on n
  unfolding tag_step
  tag_other_step f = rw (ne_eqb c 1 f)

-- THE FIRST OF SOME ITEMS

pub close_short : (l ends : List ℕ) (n : ℕ) → length l < 2 → close_in n l ends ≡ 0
unfolding close_in
close_short [] ends n h = refl
close_short (c ∷ []) ends n h = refl
close_short (c ∷ b ∷ l) ends n h = absurd (omega arith)

tag_short : (t l ends : List ℕ) (n : ℕ) → length l < 2 → tag_in t n l ends ≡ []
unfolding tag_in
tag_short t [] ends n h = refl
tag_short t (c ∷ []) ends n h = refl
tag_short t (c ∷ b ∷ l) ends n h = absurd (omega arith)

at_close : (l ends : List ℕ) (n : ℕ) → 2 ≤ length l → close_in n l ends ≡ close_step (eqb (get_or l 0 0) 1) (eqb (get_or l 0 0) 2) n (get_or ends 0 0) (λ k. close_in k (drop 2 l) (drop 2 ends))
unfolding close_in
at_close [] ends n h = absurd (omega arith)
at_close (c ∷ []) ends n h = absurd (omega arith)
at_close (c ∷ b ∷ l) ends n h = refl

at_tag : (t l ends : List ℕ) (n : ℕ) → 2 ≤ length l
    → tag_in t n l ends ≡ tag_step (eqb (get_or l 0 0) 1) n (slice (get_or ends 0 0) (close_in 0 (drop 2 l) (drop 2 ends)) t) (λ k. tag_in t k (drop 2 l) (drop 2 ends))
unfolding tag_in
at_tag t [] ends n h = absurd (omega arith)
at_tag t (c ∷ []) ends n h = absurd (omega arith)
at_tag t (c ∷ b ∷ l) ends n h = refl

module _ (l ends : List ℕ) (h : 2 ≤ length l) where
  abbrev next : ℕ → ℕ
  next k = close_in k (drop 2 l) (drop 2 ends)

  abbrev tag_next : List ℕ → ℕ → List ℕ
  tag_next t k = tag_in t k (drop 2 l) (drop 2 ends)

  pub close_left : (n : ℕ) → get_or l 0 0 ≡ 1 → close_in n l ends ≡ next (n + 1)
  close_left n e = at_close l ends n h ∙ left_step (get_or l 0 0) n (get_or ends 0 0) next e

  pub close_here : (n : ℕ) → get_or l 0 0 ≡ 2 → n < 1 → close_in n l ends ≡ get_or ends 0 0
  close_here n e k = at_close l ends n h ∙ here_step (get_or l 0 0) n (get_or ends 0 0) next e k

  pub close_right : (n : ℕ) → get_or l 0 0 ≡ 2 → 1 ≤ n → close_in n l ends ≡ next (n - 1)
  close_right n e k = at_close l ends n h ∙ right_step (get_or l 0 0) n (get_or ends 0 0) next e k

  pub close_other : (n : ℕ) → (get_or l 0 0 ≡ 1 → ⊥) → (get_or l 0 0 ≡ 2 → ⊥) → close_in n l ends ≡ next n
  close_other n f g = at_close l ends n h ∙ other_step (get_or l 0 0) n (get_or ends 0 0) next f g

  pub tag_here : (t : List ℕ) (n : ℕ) → get_or l 0 0 ≡ 1 → n < 1 → tag_in t n l ends ≡ slice (get_or ends 0 0) (close_in 0 (drop 2 l) (drop 2 ends)) t
  tag_here t n e k = at_tag t l ends n h ∙ tag_here_step (get_or l 0 0) n _ (tag_next t) e k

  pub tag_left : (t : List ℕ) (n : ℕ) → get_or l 0 0 ≡ 1 → 1 ≤ n → tag_in t n l ends ≡ tag_next t (n - 1)
  tag_left t n e k = at_tag t l ends n h ∙ tag_left_step (get_or l 0 0) n _ (tag_next t) e k

  pub tag_other : (t : List ℕ) (n : ℕ) → (get_or l 0 0 ≡ 1 → ⊥) → tag_in t n l ends ≡ tag_next t n
  tag_other t n f = at_tag t l ends n h ∙ tag_other_step (get_or l 0 0) n _ (tag_next t) f

-- WITHIN THE LINE

step_inside : (l r : Bool) (n q : ℕ) (on : ℕ → ℕ) (z : ℕ) → q ≤ z → ((k : ℕ) → on k ≤ z) → close_step l r n q on ≤ z
unfolding close_step
step_inside true r n q on z h g = g (suc n)
step_inside false true zero q on z h g = h
step_inside false true (suc n) q on z h g = g n
step_inside false false n q on z h g = g n

close_inside : (n : ℕ) (l ends : List ℕ) (z : ℕ) → ((i : ℕ) → get_or ends i 0 ≤ z) → close_in n l ends ≤ z
unfolding close_in
close_inside n [] ends z h = omega arith
close_inside n (c ∷ []) ends z h = omega arith
close_inside n (c ∷ b ∷ l) ends z h =
    step_inside (eqb c 1) (eqb c 2) n (get_or ends 0 0) (λ k. close_in k l (drop 2 ends)) z (h 0)
    (λ k. close_inside k l (drop 2 ends) z (λ i. let e : get_or (drop 2 ends) i 0 ≡ get_or ends (2 + i) 0 = get_or-drop 2 ends i 0 in let g = h (2 + i) in omega arith))

-- a tag that would end before its start is empty
least_part : (t : List ℕ) (a b : ℕ) → slice (min a b) b t ≡ slice a b t
least_part t a b = by (ltb b a) refl
  where
    by : (x : Bool) → ltb b a ≡ x → slice (min a b) b t ≡ slice a b t
    by true e =
        ap (λ (r : ℕ). slice r b t) (let y = ltb-true b a e in let z : min a b ≡ b = omega arith in z)
        ∙ slice_empty b t
        ∙ sym (drop_of_length-le (take b t) {i = a} (let y = ltb-true b a e in let z = length-take b t in omega arith))
    by false e = ap (λ (r : ℕ). slice r b t) (let y = ltb-false b a e in let z : min a b ≡ a = omega arith in z)

-- the ends l stay within what the ends e are within
abbrev pub Among : List ℕ → List ℕ → Type 0
Among l e = (z : ℕ) → ((i : ℕ) → get_or e i 0 ≤ z) → (i : ℕ) → get_or l i 0 ≤ z

pub among_behind : (l e : List ℕ) → Among l e → Among (drop 2 l) e
among_behind l e f z w i = let g : get_or (drop 2 l) i 0 ≡ get_or l (2 + i) 0 = get_or-drop 2 l i 0 in let h = f z w (2 + i) in omega arith

-- the tag's text, as it is found at the first of the items that are left
module _ (pat ends rest stops : List ℕ) (n m : ℕ) (inv : (t : List ℕ) → tag_in t n pat ends ≡ tag_in t m rest stops) where
  pub spans_here : {a from to : ℕ} → Among stops ends → 2 ≤ length rest → get_or rest 0 0 ≡ 1 → m < 1 → a ≡ get_or stops 0 0 → to ≡ close_in 0 (drop 2 rest) (drop 2 stops) → from ≡ min a to
      → Spans (λ t. tag_in t n pat ends) ends from to
  spans_here {a} {from} {to} among h e l f g o =
      record {
        text = λ t.
            inv t
            ∙ tag_here rest stops h t m e l
            ∙ ap (λ (x : ℕ). slice x (close_in 0 (drop 2 rest) (drop 2 stops)) t) (sym f)
            ∙ ap (λ (x : ℕ). slice a x t) (sym g)
            ∙ sym (least_part t a to)
            ∙ ap (λ (x : ℕ). slice x to t) (sym o);
        ordered = omega arith;
        inside = λ z w. let x = close_inside 0 (drop 2 rest) (drop 2 stops) z (among_behind stops ends among z w) in omega arith;
      }

  pub spans_none : length rest < 2 → Spans (λ t. tag_in t n pat ends) ends 0 0
  spans_none h = record { text = λ t. inv t ∙ tag_short t rest stops m h; ordered = omega arith; inside = λ z w. omega arith }

-- the same for another way to take the text
pub spans_by : {f g : List ℕ → List ℕ} {ends : List ℕ} {from to : ℕ} → ((t : List ℕ) → f t ≡ g t) → Spans f ends from to → Spans g ends from to
spans_by e s = record { text = λ t. sym (e t) ∙ s.text t; ordered = s.ordered; inside = s.inside }

pub spans_nothing : {f : List ℕ → List ℕ} {ends : List ℕ} → ((t : List ℕ) → [] ≡ f t) → Spans f ends 0 0
spans_nothing e = record { text = λ t. sym (e t); ordered = omega arith; inside = λ z w. omega arith }

-- the part of the line that is handed out
pub span_cut : {f : List ℕ → List ℕ} {line pat ends : List ℕ} {from to : ℕ} → Divided pat ends line → Spans f ends from to → Cut line from to
span_cut {line = line} d s = record { ordered = s.ordered; inside = s.inside (length line) d.inside; bytes = d.bytes }

-- THE PIECES OF A PATTERN

-- items without braces
data Plain : List ℕ → Type 0 where
  none : Plain []
  item : (c : ℕ) {b : ℕ} {l : List ℕ} → 2 < c → Plain l → Plain (c ∷ b ∷ l)

members_plain : (ms : List Member) → Plain (members_items ms)
unfolding members_items member_items
members_plain [] = item 35 (omega arith) none
members_plain (single c ∷ ms) = item 32 (omega arith) (members_plain ms)
members_plain (range a z ∷ ms) = item 33 (omega arith) (item 34 (omega arith) (members_plain ms))

unit_plain : (u : PatternUnit) → Plain (unit_rest u)
unfolding unit_rest
unit_plain (literal b) = none
unit_plain (kind n) = none
unit_plain (call_of m i) = none
unit_plain (class neg ms) = members_plain ms

unit_code_lem : (u : PatternUnit) → 2 ≤ unit_code u
unfolding unit_code
unit_code_lem (literal b) = omega arith
unit_code_lem (kind n) = omega arith
unit_code_lem (call_of stack i) = omega arith
unit_code_lem (call_of counter i) = omega arith
unit_code_lem (class false ms) = omega arith
unit_code_lem (class true ms) = omega arith

element_plain : (u : PatternUnit) (c : Closure) → Plain (piece_items (element u c))
unfolding piece_items
element_plain u c = item (4 * unit_code u + closure_code c) (let z = unit_code_lem u in omega arith) (unit_plain u)

first_at : (l : List ℕ) (i : ℕ) → get_or (drop i l) 0 0 ≡ get_or l i 0
first_at l i = get_or-drop i l 0 0 ∙ ap (λ (j : ℕ). get_or l j 0) (add-zero i)

on_drop : (l ends : List ℕ) → drop (length l) (drop 2 ends) ≡ drop (suc (suc (length l))) ends
on_drop l ends = drop-drop (length l) 2 ends ∙ ap (λ (k : ℕ). drop k ends) (let z : 2 + length l ≡ suc (suc (length l)) = omega arith in z)

plain_close : {l : List ℕ} (r ends : List ℕ) (n : ℕ) → Plain l → close_in n (l ++ r) ends ≡ close_in n r (drop (length l) ends)
unfolding close_in
plain_close r ends n none = refl
plain_close r ends n (item c {b} {l} h p) =
    other_step c n (get_or ends 0 0) (λ k. close_in k (l ++ r) (drop 2 ends)) (λ e. omega arith) (λ e. omega arith)
    ∙ plain_close r (drop 2 ends) n p
    ∙ ap (close_in n r) (on_drop l ends)

plain_tag : {l : List ℕ} (t r ends : List ℕ) (n : ℕ) → Plain l → tag_in t n (l ++ r) ends ≡ tag_in t n r (drop (length l) ends)
unfolding tag_in
plain_tag t r ends n none = refl
plain_tag t r ends n (item c {b} {l} h p) =
    tag_other_step c n (slice (get_or ends 0 0) (close_in 0 (l ++ r) (drop 2 ends)) t) (λ k. tag_in t k (l ++ r) (drop 2 ends)) (λ e. omega arith)
    ∙ plain_tag t r (drop 2 ends) n p
    ∙ ap (tag_in t n r) (on_drop l ends)

close_piece : (es : List Piece) (n k : ℕ) (ends qs : List ℕ) → EndsFrom ends k es qs → close_in n (pattern_items es) (drop k ends) ≡ closing n es qs
unfolding pattern_items piece_items close_in close_step closing
close_piece [] n k ends [] h = refl
close_piece [] n k ends (q ∷ qs) h = absurd h
close_piece (e ∷ es) n k ends [] h = absurd h
close_piece (element u c ∷ es) n k ends (q ∷ qs) h =
    plain_close (pattern_items es) (drop k ends) n (element_plain u c)
    ∙ ap (close_in n (pattern_items es)) (drop-drop (length (piece_items (element u c))) k ends)
    ∙ close_piece es n (k + length (piece_items (element u c))) ends qs h.1
close_piece (start ∷ es) n k ends (q ∷ qs) h = ap (close_in n (pattern_items es)) (drop-drop 2 k ends) ∙ close_piece es n (k + 2) ends qs h.1
close_piece (end ∷ es) n k ends (q ∷ qs) h = ap (close_in n (pattern_items es)) (drop-drop 2 k ends) ∙ close_piece es n (k + 2) ends qs h.1
close_piece (left ∷ es) n k ends (q ∷ qs) h = ap (close_in (suc n) (pattern_items es)) (drop-drop 2 k ends) ∙ close_piece es (suc n) (k + 2) ends qs h.1
close_piece (right ∷ es) zero k ends (q ∷ qs) h = first_at ends k ∙ h.0
close_piece (right ∷ es) (suc n) k ends (q ∷ qs) h = ap (close_in n (pattern_items es)) (drop-drop 2 k ends) ∙ close_piece es n (k + 2) ends qs h.1

tag_piece : (t : List ℕ) (es : List Piece) (n k : ℕ) (ends qs : List ℕ) → EndsFrom ends k es qs → tag_in t n (pattern_items es) (drop k ends) ≡ tag_text t n es qs
unfolding pattern_items piece_items tag_in tag_step tag_text
tag_piece t [] n k ends [] h = refl
tag_piece t [] n k ends (q ∷ qs) h = absurd h
tag_piece t (e ∷ es) n k ends [] h = absurd h
tag_piece t (element u c ∷ es) n k ends (q ∷ qs) h =
    plain_tag t (pattern_items es) (drop k ends) n (element_plain u c)
    ∙ ap (tag_in t n (pattern_items es)) (drop-drop (length (piece_items (element u c))) k ends)
    ∙ tag_piece t es n (k + length (piece_items (element u c))) ends qs h.1
tag_piece t (start ∷ es) n k ends (q ∷ qs) h = ap (tag_in t n (pattern_items es)) (drop-drop 2 k ends) ∙ tag_piece t es n (k + 2) ends qs h.1
tag_piece t (end ∷ es) n k ends (q ∷ qs) h = ap (tag_in t n (pattern_items es)) (drop-drop 2 k ends) ∙ tag_piece t es n (k + 2) ends qs h.1
tag_piece t (right ∷ es) n k ends (q ∷ qs) h = ap (tag_in t n (pattern_items es)) (drop-drop 2 k ends) ∙ tag_piece t es n (k + 2) ends qs h.1
tag_piece t (left ∷ es) zero k ends (q ∷ qs) h =
    ap (λ (a : ℕ). slice a (close_in 0 (pattern_items es) (drop 2 (drop k ends))) t) (first_at ends k ∙ h.0)
    ∙ ap (λ (a : ℕ). slice q a t) (ap (close_in 0 (pattern_items es)) (drop-drop 2 k ends) ∙ close_piece es 0 (k + 2) ends qs h.1)
tag_piece t (left ∷ es) (suc n) k ends (q ∷ qs) h = ap (tag_in t n (pattern_items es)) (drop-drop 2 k ends) ∙ tag_piece t es n (k + 2) ends qs h.1

-- THE LAW: the items say what the pieces do
pub tag_is : (t : List ℕ) (es : List Piece) (ends qs : List ℕ) → EndsFrom ends 0 es qs → (n : ℕ) → tag_in t n (pattern_items es) ends ≡ tag_text t n es qs
tag_is t es ends qs h n = tag_piece t es n 0 ends qs h
