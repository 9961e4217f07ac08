-- The steps of the matcher: what each answer says.
-- Assumes nothing.
use Rattle.std.specs.Prelude.{Option as CodeOption, Some, None}
use mathlib.Core.Path.{◌≡◌, refl, sym, ap, ◌∙◌}
use mathlib.Core.Bool.{Bool, true, false, false≢true}
use mathlib.Core.List.{List, [], ◌∷◌}
use mathlib.Core.Option.{Option, none, some}
use Prim.Native.Nat.{ℕ, ◌+◌, ◌*◌, ◌/◌, ◌≤◌, ◌<◌}
use native.Mathlib.Omega.{arith}
use native.Mathlib.Decide.{ℕ_discrete}
use borrow.Author.Tests.{ltb-true}
use lib.ListN.{length, get_or, set, drop, length-set, length-drop}
use lib.Seq.{get_or-set_same, get_or-set_other}
use Rattle.macros.specs.Macro.{Closure, PatternUnit, Piece}
use Rattle.macros.specs.Macro.Piece.{element, start, end, left, right}
use Rattle.form_table.specs.Form.{body_bytes, piece_items, pattern_items}
use Rattle.lines.specs.State.{State}
use Rattle.lines.specs.Matching.{fits, width}
use Rattle.lines.specs.Choosing.{more, chosen}
use Rattle.lines.proofs.MoreLaws.{stops_of}
use Rattle.form_state.specs.Access.{Holds, IsState, OfState}
use Rattle.pass_replace.specs.Contract.{EndsFrom}
use Rattle.pass_one.specs.Marks.{rows_bytes}
use Rattle.pass_unit.specs.Pattern.{IsRest, OfPiece}
use Rattle.pass_marks.specs.Marks.{mark}
use Rattle.form_element.specs.Element.{code_closure, element_of, AnyPiece}
use Rattle.pass_unit.specs.Pieces.{members_of, fit_u, width_u, lead_of, again, Stands, IsElement, Wide}
use Rattle.pass_one.specs.Trying.{answer, after, then_p, found_of, Said, Given, Noted, Trying, Kept, Tried, Copied}
use Rattle.form_element.specs.declared.Element.{Element}
use Rattle.form_element.specs.declared.Unit.{Unit as CodeUnit}
use Rattle.form_element.specs.declared.Closure.{Closure as CodeClosure}
use Rattle.form_element.specs.declared.Closure.TheVariants.{Once, OneOrMore, ZeroOrMore}
use Rattle.pass_unit.proofs.ItemLaws.{piece_even, rest_next, rest_inside, rest_end, rest_more, rest_long, element_is}
use Rattle.pass_one.proofs.MarkLaws.{sound_at}
use Rattle.pass_unit.proofs.CopyFits.{fit_inside}
use Rattle.pass_unit.proofs.TextLaws.{led_true}
use Rattle.pass_one.proofs.RepeatLaws.{more_any, rep_nothing, rep_once, rep_star, fit_element, width_element, piece_closure, closure_piece, fit_p, width_p, piece_next}

-- ENDS

ends_set : (ends : List ℕ) (k : ℕ) (es : List Piece) (qs : List ℕ) (i v : ℕ) → i < k → EndsFrom ends k es qs → EndsFrom (set ends i v) k es qs
ends_set ends k [] [] i v l h = tt
ends_set ends k [] (q ∷ qs) i v l h = h
ends_set ends k (e ∷ es) [] i v l h = h
ends_set ends k (e ∷ es) (q ∷ qs) i v l h =
    (get_or-set_other ends i k v 0 (λ z. omega arith) ∙ h.0, ends_set ends (k + length (piece_items e)) es qs i v (omega arith) h.1)

inside_set : (ends : List ℕ) (n i v : ℕ) → i < length ends → v ≤ n → ((j : ℕ) → get_or ends j 0 ≤ n) → (j : ℕ) → get_or (set ends i v) j 0 ≤ n
inside_set ends n i v l h f j = go (ℕ_discrete j i)
  where
    go : Dec (j ≡ i) → get_or (set ends i v) j 0 ≤ n
    go (yes e) = let a = ap (λ (k : ℕ). get_or (set ends i v) k 0) e ∙ get_or-set_same ends i v 0 l in omega arith
    go (no e) = let a = get_or-set_other ends i j v 0 e in let b = f j in omega arith

-- WHAT AN ANSWER SAYS

pub found_none : (p : ℕ) (a : Option (List ℕ)) → None ≡ found_of p a → a ≡ none
found_none p none h = refl
found_none p (some l) h = absurd (let z : ◌≡◌ {A = ℕ} 0 1 = cc in omega arith)

pub said_none : (es : List Piece) (a : Option (List ℕ)) (at p : ℕ) (ends : List ℕ) → a ≡ none → Said es a at p ends None
said_none es a at p ends e = rw e (record { found = refl; ended = tt })

-- a piece whose span ends at q, and the rest behind it
pub said_first : (e : Piece) (es : List Piece) (a b : Option (List ℕ)) (at next p q m : ℕ) (ends : List ℕ) → next ≡ at + length (piece_items e) → at < length ends → a ≡ then_p q b
    → Said es b next q ends (Some m) → Said (e ∷ es) a at p (set ends at q) (Some m)
said_first e es a none at next p q m ends n l i h = absurd (let f = h.found in let z : ◌≡◌ {A = ℕ} 0 1 = cc in omega arith)
said_first e es a (some qs) at next p q m ends n l i h =
    rw i (record {
      found = h.found;
      ended = (
        get_or-set_same ends at q 0 l,
        (let k = piece_even e in rw n at (ends_set ends next es qs at q (omega arith) h.ended)),
      );
    })

pub said_any : (st : State) (u : PatternUnit) (e : Piece) (es : List Piece) (t : List ℕ) (a : Option (List ℕ)) (at p q : ℕ) (ends : List ℕ) (r : CodeOption ℕ) → a ≡ after st u es t q
    → Said (e ∷ es) (after st u es t q) at q ends r → Said (e ∷ es) a at p ends r
said_any st u e es t a at p q ends r i h =
    rw i (record { found = h.found ∙ more_any (fits st u) (width st u) (chosen st es) (drop q t) 0 q (drop q t) q p; ended = h.ended })

-- WHAT IS KEPT

pub kept_start : (items b t marks ends : List ℕ) → Noted items b t marks ends → Kept items b t marks marks ends
kept_start items b t marks ends n = record { noted = n; outside = refl }

pub kept_on : (items b t marks marks₁ marks₂ ends₁ ends₂ : List ℕ) → Kept items b t marks marks₁ ends₁ → Kept items b t marks₁ marks₂ ends₂ → Kept items b t marks marks₂ ends₂
kept_on items b t marks marks₁ marks₂ ends₁ ends₂ k l = record { noted = l.noted; outside = l.outside ∙ k.outside }

pub kept_end : (items b t marks marks₁ ends : List ℕ) (at q : ℕ) → at < length ends → q ≤ length t → Kept items b t marks marks₁ ends → Kept items b t marks marks₁ (set ends at q)
kept_end items b t marks marks₁ ends at q l h k = record {
  noted = record {
    size = k.noted.size;
    count = length-set ends at q ∙ k.noted.count;
    inside = inside_set ends (length t) at q l h k.noted.inside;
    sound = k.noted.sound;
  };
  outside = k.outside;
}

-- THE PIECE AT A PLACE

-- what was read of it
pub record Read (items b t : List ℕ) (at p : ℕ) (x : Element) (w : ℕ) (l : CodeOption ℕ) : Type 0 where
  pub is : IsElement items at x
  pub wide : Wide b x.unit w
  pub lead : OfPiece items at (λ e. OfState b (λ st. l ≡ lead_of x.closure (fit_u st x.unit (members_of e) p (drop p t)) w p))

module _ (items b t : List ℕ) (at p : ℕ) (x : Element) (w : ℕ) (l : CodeOption ℕ) (r : Read items b t at p x w l) where
  module _ (e : Piece) (es : List Piece) (i : IsRest items at (e ∷ es)) (st : State) (h : Holds b st) where
    read_closure : code_closure (piece_closure e) ≡ x.closure
    read_closure = sym (closure_piece e) ∙ r.is.closure e es i

    read_width : width_p st e ≡ w
    read_width = ap (width_u st) (r.is.unit.unit e es i) ∙ sym (r.wide st h)

    read_lead : (m : CodeOption ℕ) → l ≡ m → lead_of (code_closure (piece_closure e)) (fit_p st e p (drop p t)) (width_p st e) p ≡ m
    read_lead m g =
        ap (λ (c : CodeClosure). lead_of c (fit_p st e p (drop p t)) (width_p st e) p) read_closure
        ∙ ap (λ (j : ℕ). lead_of x.closure (fit_p st e p (drop p t)) j p) read_width
        ∙ ap (λ (u : CodeUnit). lead_of x.closure (fit_u st u (members_of e) p (drop p t)) w p) (r.is.unit.unit e es i)
        ∙ sym (r.lead e es i st h) ∙ g

    read_again : (y : Bool) → again x.closure w ≡ y → again (code_closure (piece_closure e)) (width_p st e) ≡ y
    read_again y g = ap (λ (c : CodeClosure). again c (width_p st e)) read_closure ∙ ap (again x.closure) read_width ∙ g

    answer_nothing : l ≡ None → answer st (e ∷ es) t p ≡ none
    answer_nothing g = piece_next st e es p (drop p t) ∙ rep_nothing (fit_p st e p) (width_p st e) (chosen st es) t p (piece_closure e) (fit_p st e p (drop p t)) refl (read_lead None g)

    answer_once : (q : ℕ) → l ≡ Some q → again x.closure w ≡ false → answer st (e ∷ es) t p ≡ then_p q (answer st es t q)
    answer_once q g f =
        piece_next st e es p (drop p t) ∙ rep_once (fit_p st e p) (width_p st e) (chosen st es) t p (piece_closure e) (fit_p st e p (drop p t)) q refl (read_lead (Some q) g) (read_again false f)

  answer_star : (u : PatternUnit) (c : Closure) (es : List Piece) → IsRest items at (element u c ∷ es) → (st : State) → Holds b st → (q : ℕ) → l ≡ Some q → again x.closure w ≡ true
      → answer st (element u c ∷ es) t p ≡ after st u es t q
  answer_star u c es i st h q g f =
      piece_next st (element u c) es p (drop p t)
      ∙ rep_star (fit_p st (element u c) p) (width_p st (element u c)) (chosen st es) t p c (fit_p st (element u c) p (drop p t)) q refl (read_lead (element u c) es i st h (Some q) g)
      (read_again (element u c) es i st h true f)
      ∙ ap (λ (k : List ℕ → Bool). stops_of (more k (width_p st (element u c)) (chosen st es) (drop q t) 0 q (drop q t))) (fit_element st u c p)
      ∙ ap (λ (j : ℕ). stops_of (more (fits st u) j (chosen st es) (drop q t) 0 q (drop q t))) (width_element st u c)

lead_inside : (c : CodeClosure) (f : Bool) (w p q n : ℕ) → p ≤ n → (f ≡ true → p + w ≤ n) → Some q ≡ lead_of c f w p → q ≤ n
lead_inside Once f w p q n l h e = let a = led_true f (p + w) q e in let b = h a.0 in let d = a.1 in omega arith
lead_inside OneOrMore f w p q n l h e = let a = led_true f (p + w) q e in let b = h a.0 in let d = a.1 in omega arith
lead_inside ZeroOrMore f w p q n l h e = let a : q ≡ p = cc in omega arith

-- the place behind the copies that must stand is in the line
pub read_inside : (items b t : List ℕ) (at p : ℕ) (x : Element) (w : ℕ) (l : CodeOption ℕ) (q : ℕ) → Read items b t at p x w l → IsState b → p ≤ length t → l ≡ Some q → q ≤ length t
read_inside items b t at p x w l q r s h g =
    let i = r.is.unit.stands in
    let f = fit_u s.0 x.unit (members_of i.piece) p (drop p t) in
    lead_inside x.closure f w p q (length t) h
    (λ k. let a = fit_inside s.0 x.unit (members_of i.piece) p (drop p t) k in let c = r.wide s.0 s.1 in let d = length-drop p t in omega arith)
    (sym g ∙ r.lead i.piece i.pieces i.is s.0 s.1)

-- a claim about the pieces before the items' end is one about a first piece
by_piece : (items : List ℕ) (at : ℕ) (P : List Piece → Type 0) → (at ≡ length items → ⊥) → ((e : Piece) (es : List Piece) → IsRest items at (e ∷ es) → P (e ∷ es)) → (es : List Piece) → IsRest items at es → P es
unfolding pattern_items
by_piece items at P n f [] i = absurd (n (let l = rest_long items at [] i in omega arith))
by_piece items at P n f (e ∷ es) i = f e es i

-- ELEMENTS

pub tried_done : (items kinds b t : List ℕ) (at p : ℕ) (marks ends : List ℕ) → Trying items kinds b t at p marks ends → at ≡ length items → Tried items b t at p marks marks ends (Some p)
unfolding chosen
tried_done items kinds b t at p marks ends k e = record {
  said = λ es i st h. rw (rest_end items at es i e) (record { found = refl; ended = tt });
  kept = kept_start items b t marks ends k.noted;
}

pub stands : (items kinds b t : List ℕ) (at p : ℕ) (marks ends : List ℕ) → Trying items kinds b t at p marks ends → (at ≡ length items → ⊥) → Stands items at
stands items kinds b t at p marks ends k n = rest_more items at k.pieces k.is n

-- the element that is read there
pub element_here : (items kinds b t : List ℕ) (at p : ℕ) (marks ends : List ℕ) → Trying items kinds b t at p marks ends → (at ≡ length items → ⊥)
    → (x : Element) → AnyPiece items at (λ e. x ≡ element_of e) → IsElement items at x
element_here items kinds b t at p marks ends k n x f = element_is items at (stands items kinds b t at p marks ends k n) x f

-- what is read of it, and that the place behind the copies that must stand is in the line
module _ (items kinds b t : List ℕ) (at p : ℕ) (marks ends : List ℕ) (k : Trying items kinds b t at p marks ends) (n : at ≡ length items → ⊥)
    (x : Element) (f : AnyPiece items at (λ e. x ≡ element_of e)) (w : ℕ) (v : Wide b x.unit w) (l : CodeOption ℕ)
    (g : OfPiece items at (λ e. OfState b (λ st. l ≡ lead_of x.closure (fit_u st x.unit (members_of e) p (drop p t)) w p))) where
  pub read_here : Read items b t at p x w l
  read_here = record { is = element_here items kinds b t at p marks ends k n x f; wide = v; lead = g }

  pub behind_inside : (q : ℕ) → l ≡ Some q → q ≤ length t
  behind_inside q h = read_inside items b t at p x w l q read_here k.given.state k.place h

module _ (items b t : List ℕ) (at p : ℕ) (n : at ≡ length items → ⊥) (x : Element) (w : ℕ) (l : CodeOption ℕ) (r : Read items b t at p x w l) where
  pub tried_nothing : (marks ends : List ℕ) → Noted items b t marks ends → l ≡ None → Tried items b t at p marks marks ends None
  tried_nothing marks ends k g = record {
    said =
        by_piece items at (λ es. OfState b (λ st. Said es (answer st es t p) at p ends None)) n
        (λ e es i st h. said_none (e ∷ es) (answer st (e ∷ es) t p) at p ends (answer_nothing items b t at p x w l r e es i st h g));
    kept = kept_start items b t marks ends k;
  }

  module _ (q : ℕ) (g : l ≡ Some q) where
    pub tried_more : again x.closure w ≡ true → (marks marks' ends' : List ℕ) (f : CodeOption ℕ) → Copied items b t at q marks marks' ends' f → Tried items b t at p marks marks' ends' f
    tried_more a marks marks' ends' f c = record { said = by_piece items at (λ es. OfState b (λ st. Said es (answer st es t p) at p ends' f)) n go; kept = c.kept }
      where
        go : (e : Piece) (es : List Piece) → IsRest items at (e ∷ es) → OfState b (λ st. Said (e ∷ es) (answer st (e ∷ es) t p) at p ends' f)
        go (element u k) es i st h = said_any st u (element u k) es t (answer st (element u k ∷ es) t p) at p q ends' f (answer_star items b t at p x w l r u k es i st h q g a) (c.said u k es i st h)
        go start es i st h = absurd (false≢true (read_again items b t at p x w l r start es i st h true a))
        go end es i st h = absurd (false≢true (read_again items b t at p x w l r end es i st h true a))
        go left es i st h = absurd (false≢true (read_again items b t at p x w l r left es i st h true a))
        go right es i st h = absurd (false≢true (read_again items b t at p x w l r right es i st h true a))

    module _ (a : again x.closure w ≡ false) (next : ℕ) (after-it : OfPiece items at (λ e. next ≡ at + length (piece_items e))) (marks marks' ends' : List ℕ) where
      rest_at : (e : Piece) (es : List Piece) → IsRest items at (e ∷ es) → IsRest items next es
      rest_at e es i = rw (after-it e es i) (rest_next items at e es i)

      pub tried_first : (m : ℕ) → at < length ends' → q ≤ length t → Tried items b t next q marks marks' ends' (Some m) → Tried items b t at p marks marks' (set ends' at q) (Some m)
      tried_first m z v c = record {
        said =
            by_piece items at (λ es. OfState b (λ st. Said es (answer st es t p) at p (set ends' at q) (Some m))) n
            (λ e es i st h.
            said_first e es (answer st (e ∷ es) t p) (answer st es t q) at next p q m ends' (after-it e es i) z (answer_once items b t at p x w l r e es i st h q g a) (c.said es (rest_at e es i) st h));
        kept = kept_end items b t marks marks' ends' at q z v c.kept;
      }

      pub tried_fails : Tried items b t next q marks marks' ends' None → Tried items b t at p marks marks' ends' None
      tried_fails c = record {
        said =
            by_piece items at (λ es. OfState b (λ st. Said es (answer st es t p) at p ends' None)) n
            (λ e es i st h.
            said_none (e ∷ es) (answer st (e ∷ es) t p) at p ends'
            (answer_once items b t at p x w l r e es i st h q g a ∙ ap (then_p q) (found_none q (answer st es t q) (c.said es (rest_at e es i) st h).found)));
        kept = c.kept;
      }

-- what the pieces behind ask
pub next_trying : (items kinds b t : List ℕ) (at next q : ℕ) (marks ends : List ℕ) → Given items kinds b t → Noted items b t marks ends → Stands items at
    → OfPiece items at (λ e. next ≡ at + length (piece_items e)) → q ≤ length t → Trying items kinds b t next q marks ends
next_trying items kinds b t at next q marks ends g k s f l =
    record { given = g; noted = k; pieces = s.pieces; is = rw (f s.piece s.pieces s.is) (rest_next items at s.piece s.pieces s.is); place = l }

pub next_inside : (items : List ℕ) (at next : ℕ) → Stands items at → OfPiece items at (λ e. next ≡ at + length (piece_items e)) → (at + 2 ≤ next) × (next ≤ length items)
next_inside items at next s f =
    let a = f s.piece s.pieces s.is in
    let c = rest_inside items at s.piece s.pieces s.is in
    let d = piece_even s.piece in
    (omega arith, omega arith)

-- COPIES

pub copied_marked : (items b t : List ℕ) (at q : ℕ) (marks ends : List ℕ) → Noted items b t marks ends → q ≤ 1055 → mark marks at q ≡ 1 → Copied items b t at q marks marks ends None
copied_marked items b t at q marks ends k l e = record {
  said = λ u c es i st h. said_none (element u c ∷ es) (after st u es t q) at q ends (ap stops_of (sound_at items b t marks at q l k.sound e u c es i st h));
  kept = kept_start items b t marks ends k;
}

-- MEMORIES

pub place_small : (items kinds b t : List ℕ) (q : ℕ) → Given items kinds b t → q ≤ length t → q ≤ 1055
place_small items kinds b t q g l = let s = g.short in omega arith

module _ (items kinds b t : List ℕ) (at : ℕ) (g : Given items kinds b t) (s : Stands items at) where
  pub at_small : at ≤ body_bytes
  at_small = let f = g.fits in let r = rest_inside items at s.piece s.pieces s.is in omega arith

  pub in_ends : (size : ℕ) → size ≡ body_bytes → at < size
  in_ends size n = let f = g.fits in let r = rest_inside items at s.piece s.pieces s.is in omega arith

  pub in_row : (size q : ℕ) → size ≡ rows_bytes items → q ≤ length t → at * 66 + q / 8 < size
  in_row size q n l =
      let f = g.fits in
      let m = g.short in
      let r = rest_inside items at s.piece s.pieces s.is in
      omega arith

pub again_wide : (c : CodeClosure) (w : ℕ) → again c w ≡ true → 1 ≤ w
again_wide Once w g = absurd (false≢true g)
again_wide OneOrMore w g = let l : 0 < w = ltb-true 0 w g in omega arith
again_wide ZeroOrMore w g = let l : 0 < w = ltb-true 0 w g in omega arith
