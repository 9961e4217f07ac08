-- Copies in a row, and what the pieces behind a closure give after them.
-- Assumes nothing.
use Rattle.std.specs.Prelude.{Option as CodeOption, Some, None}
use Rattle.std.specs.Option.{is_some}
use mathlib.Core.Path.{◌≡◌, refl, sym, ap, ◌∙◌, subst}
use mathlib.Core.Bool.{Bool, true, false, false≢true}
use mathlib.Core.List.{List, ◌∷◌}
use mathlib.Core.Option.{Option, none, some}
use Prim.Native.Nat.{ℕ, zero, suc, ◌+◌, ◌-◌, ◌*◌, ◌≤◌, ◌<◌}
use native.Mathlib.Omega.{arith}
use native.Mathlib.Decide.{ℕ_discrete}
use native.Mathlib.Nat.{zero-mul, suc-mul, add-mul, mul-le-mul, le-mul_of_pos_right}
use lib.ListN.{length, set, drop}
use Rattle.macros.specs.Bounds.{most_line_bytes}
use Rattle.macros.specs.Macro.{Closure, PatternUnit, Piece}
use Rattle.macros.specs.Macro.Piece.{element}
use Rattle.lines.specs.State.{State}
use Rattle.lines.specs.Matching.{Division, fits, width}
use Rattle.lines.specs.Choosing.{chosen}
use Rattle.lines.proofs.MoreLaws.{stops_of}
use Rattle.lines.proofs.CopyLaws.{fits_inside}
use Rattle.form_state.specs.Access.{Holds, OfState}
use Rattle.pass_unit.specs.Pattern.{IsRest, OfPiece}
use Rattle.pass_marks.specs.Marks.{mark, marked}
use Rattle.pass_marks.proofs.MarkLaws.{length_marked, drop_marked}
use Rattle.pass_one.specs.Marks.{copies_from}
use Rattle.pass_unit.specs.Pieces.{members_of, fit_u, width_u, IsUnit, Wide}
use Rattle.pass_one.specs.Trying.{answer, after, then_p, found_of, Row, Furthest, Counting, Most, Repeating, Tried, Copied}
use Rattle.form_element.specs.declared.Unit.{Unit as CodeUnit}
use Rattle.pass_unit.proofs.ItemLaws.{rest_next, rest_inside, rest_even}
use Rattle.pass_one.proofs.MarkLaws.{sound_at, sound_set}
use Rattle.pass_unit.proofs.CopyFits.{copy_inside}
use Rattle.pass_one.proofs.RepeatLaws.{or_p, more_stop, more_step, fit_element, width_element}
use Rattle.pass_one.proofs.TryLaws.{found_none, said_none, said_first, said_any, kept_on, kept_end}

-- what the test of an answer says
pub some_is : (f : CodeOption ℕ) → is_some f ≡ true → (m : ℕ) × (f ≡ Some m)
some_is None e = absurd (false≢true e)
some_is (Some m) e = (m, refl)

pub none_is : (f : CodeOption ℕ) → is_some f ≡ false → f ≡ None
none_is None e = refl
none_is (Some m) e = absurd (false≢true (sym e))

-- PLACES

-- the place behind n copies from q on
abbrev place_of : ℕ → ℕ → ℕ → ℕ
place_of q n w = q + n * w

place_zero : (q w : ℕ) → place_of q 0 w ≡ q
place_zero q w = let z = zero-mul w in omega arith

place_next : (q n w : ℕ) → place_of q (n + 1) w ≡ place_of q n w + w
place_next q n w = let z = suc-mul n w in let y = ap (λ (k : ℕ). k * w) (let x : n + 1 ≡ suc n = omega arith in x) in omega arith

place_inside : (q k n v w m : ℕ) → k ≤ n → v ≤ w → q + n * w ≤ m → q + k * v ≤ m
place_inside q k n v w m l x h = let z = mul-le-mul {n₁ = k} {m₁ = v} {n₂ = n} {m₂ = w} l x in omega arith

pub count_inside : (q n w m : ℕ) → 1 ≤ w → q + n * w ≤ m → n ≤ m
count_inside q n w m l h = let z = le-mul_of_pos_right {m = w} n (omega arith) in omega arith

-- ONE COPY

module _ (items b t : List ℕ) (at : ℕ) (v : CodeUnit) (w r : ℕ) (is : IsUnit items at v) (wide : Wide b v w) (x : Bool) (tested : OfPiece items at (λ e. OfState b (λ st. x ≡ fit_u st v (members_of e) r (drop r t))))
    (u : PatternUnit) (c : Closure) (es : List Piece) (i : IsRest items at (element u c ∷ es)) (st : State) (h : Holds b st) where
  copy_fits : (y : Bool) → x ≡ y → fits st u (drop r t) ≡ y
  copy_fits y g =
      sym (ap (λ (f : List ℕ → Bool). f (drop r t)) (fit_element st u c r))
      ∙ ap (λ (z : CodeUnit). fit_u st z (members_of (element u c)) r (drop r t)) (is.unit (element u c) es i)
      ∙ sym (tested (element u c) es i st h) ∙ g

unit_width : (items b : List ℕ) (at : ℕ) (v : CodeUnit) (w : ℕ) → IsUnit items at v → Wide b v w → (u : PatternUnit) (c : Closure) (es : List Piece) → IsRest items at (element u c ∷ es)
    → (st : State) → Holds b st → width st u ≡ w
unit_width items b at v w is wide u c es i st h = sym (wide st h ∙ sym (ap (width_u st) (is.unit (element u c) es i)) ∙ width_element st u c)

-- one more copy, or else the pieces behind
copy_next : (st : State) (u : PatternUnit) (es : List Piece) (t : List ℕ) (w r : ℕ) → width st u ≡ w → 1 ≤ w → fits st u (drop r t) ≡ true
    → after st u es t r ≡ or_p (after st u es t (r + w)) (then_p r (answer st es t r))
copy_next st u es t w r e l f =
    more_step (fits st u) (width st u) (chosen st es) t r (omega arith) (fits_inside st u) f
    ∙ ap (λ (j : ℕ). or_p (after st u es t (r + j)) (then_p r (answer st es t r))) e

-- COUNTING

-- n copies were counted, and the next would stand at r
pub record Counted (items b t : List ℕ) (at w q n r : ℕ) : Type 0 where
  pub place : r ≡ q + n * w
  pub row : Row items b t at w q n

module _ (items kinds b t : List ℕ) (at : ℕ) (v : CodeUnit) (w q : ℕ) (marks : List ℕ) (k : Counting items kinds b t at v w q marks) where
  pub count_start : Counted items b t at w q 0 q
  count_start =
      let z = place_zero q w in
      let l = k.place in
      record {
        place = sym z;
        row = record { inside = omega arith; copies = λ u c es i st h. (unit_width items b at v w k.unit k.wide u c es i st h, λ j g. absurd (omega arith)) };
      }

  pub counted_inside : (n r : ℕ) → Counted items b t at w q n r → r ≤ length t
  counted_inside n r o = let a = o.place in let l = o.row.inside in omega arith

  module _ (n r : ℕ) (o : Counted items b t at w q n r) (x : Bool) (tested : OfPiece items at (λ e. OfState b (λ st. x ≡ fit_u st v (members_of e) r (drop r t)))) where
    pub step_inside : x ≡ true → r + w ≤ length t
    step_inside g = copy_inside items b t at v w r x k.unit.stands k.given.state (counted_inside n r o) k.wide tested g

    pub count_step : x ≡ true → Counted items b t at w q (n + 1) (r + w)
    count_step g =
        let a = o.place in
        let z = place_next q n w in
        let l = step_inside g in
        record {
          place = omega arith;
          row = record { inside = omega arith; copies = λ u c es i st h. ((o.row.copies u c es i st h).0, λ j m. go u c es i st h j m (ℕ_discrete j n)) };
        }
      where
        go : (u : PatternUnit) (c : Closure) (es : List Piece) → IsRest items at (element u c ∷ es) → (st : State) → Holds b st → (j : ℕ) → j < n + 1 → Dec (j ≡ n) → fits st u (drop (q + j * w) t) ≡ true
        go u c es i st h j m (yes e) =
            ap (λ (y : ℕ). fits st u (drop y t)) (ap (λ (y : ℕ). q + y * w) e ∙ sym o.place) ∙ copy_fits items b t at v w r k.unit k.wide x tested u c es i st h true g
        go u c es i st h j m (no e) = (o.row.copies u c es i st h).1 j (omega arith)

    -- no copy stands at r
    pub count_stop : x ≡ false → Most items b t at w q n
    count_stop g = record {
      row = o.row;
      furthest = λ u c es i st h.
          rw (← o.place) (more_stop (fits st u) (width st u) (chosen st es) t r (copy_fits items b t at v w r k.unit k.wide x tested u c es i st h false g));
    }

    -- there is no division from the place behind the copy at r
    pub count_marked : x ≡ true → mark marks at (r + w) ≡ 1 → Most items b t at w q n
    count_marked g m = record {
      row = o.row;
      furthest = λ u c es i st h.
          let l = step_inside g in
          let s = k.given.short in
          rw (← o.place) (copy_next st u es t w r (o.row.copies u c es i st h).0 k.some (copy_fits items b t at v w r k.unit k.wide x tested u c es i st h true g)
          ∙ ap (λ (a : Option Division). or_p (stops_of a) (then_p r (answer st es t r))) (sound_at items b t marks at (r + w) (omega arith) k.sound m u c es i st h));
    }

-- REPEATS

-- more copies from q on, behind j of them
place_sum : (q j h w : ℕ) → q + (j + h) * w ≡ q + j * w + h * w
place_sum q j h w = let z = add-mul j h w in omega arith

stops_none : (a : Option Division) → stops_of a ≡ none → a ≡ none
stops_none none e = refl
stops_none (some d) e = absurd (let z : ◌≡◌ {A = ℕ} 0 1 = cc in omega arith)

module _ (items kinds b t : List ℕ) (at next w q n : ℕ) (marks ends : List ℕ) (k : Repeating items kinds b t at next w q n marks ends) where
  -- j times v bytes behind q, of n times w
  module _ (j v : ℕ) (l : j ≤ n) (m : v ≤ w) where
    row_place : q + j * v ≤ length t
    row_place = place_inside q j n v w (length t) l m k.most.row.inside

    pub row_small : q + j * v ≤ most_line_bytes
    row_small = let h = row_place in let s = k.given.short in omega arith

  pub start_place : q ≤ length t
  start_place = let l = k.most.row.inside in omega arith

  pub start_small : q ≤ most_line_bytes
  start_small = let h = start_place in let s = k.given.short in omega arith

  rest_at : (e : Piece) (es : List Piece) → IsRest items at (e ∷ es) → IsRest items next es
  rest_at e es i = rw (k.behind e es i) (rest_next items at e es i)

  -- ONE NUMBER OF COPIES

  -- none but those before q
  module _ (one : n ≡ 0) (marks' ends' : List ℕ) where
    only : Furthest items b t at q
    only = subst (Furthest items b t at) (ap (λ (j : ℕ). q + j * w) one ∙ place_zero q w) k.most.furthest

    pub copied_first : (m : ℕ) → at < length ends' → Tried items b t next q marks marks' ends' (Some m) → Copied items b t at q marks marks' (set ends' at q) (Some m)
    copied_first m z y = record {
      said = λ u c es i st h.
          said_first (element u c) es (after st u es t q) (answer st es t q) at next q q m ends' (k.behind (element u c) es i) z (only u c es i st h) (y.said es (rest_at (element u c) es i) st h);
      kept = kept_end items b t marks marks' ends' at q z start_place y.kept;
    }

    module _ (y : Tried items b t next q marks marks' ends' None) where
      nothing : (u : PatternUnit) (c : Closure) (es : List Piece) → IsRest items at (element u c ∷ es) → (st : State) → Holds b st → after st u es t q ≡ none
      nothing u c es i st h = only u c es i st h ∙ ap (then_p q) (found_none q (answer st es t q) (y.said es (rest_at (element u c) es i) st h).found)

      pub copied_none : (marks₂ : List ℕ) → marks₂ ≡ marked marks' at q → Copied items b t at q marks marks₂ ends' None
      copied_none marks₂ new =
          let s = k.stands in
          let l = start_place in
          let m = k.given.short in
          let r = rest_inside items at s.piece s.pieces s.is in
          record {
            said = λ u c es i st h. said_none (element u c ∷ es) (after st u es t q) at q ends' (nothing u c es i st h);
            kept = record {
              noted = record {
                size = ap length new ∙ length_marked marks' at q ∙ y.kept.noted.size;
                count = y.kept.noted.count;
                inside = y.kept.noted.inside;
                sound =
                    sound_set items b t marks' marks₂ at q (omega arith) (rest_even items at (s.piece ∷ s.pieces) s.is) y.kept.noted.sound new
                    (λ u c es i st h. stops_none (copies_from st u es t q) (nothing u c es i st h));
              };
              outside = ap (drop (66 * length items)) new ∙ drop_marked marks' at q (66 * length items) (omega arith) ∙ y.kept.outside;
            };
          }

  -- TWO HALVES

  module _ (u : PatternUnit) (c : Closure) (es : List Piece) (i : IsRest items at (element u c ∷ es)) (st : State) (h : Holds b st) where
    row_next : (j : ℕ) → j < n → after st u es t (q + j * w) ≡ or_p (after st u es t (q + (j + 1) * w)) (then_p (q + j * w) (answer st es t (q + j * w)))
    row_next j l =
        let f = k.most.row.copies u c es i st h in
        copy_next st u es t w (q + j * w) f.0 k.some (f.1 j l) ∙ ap (λ (y : ℕ). or_p (after st u es t y) (then_p (q + j * w) (answer st es t (q + j * w)))) (sym (place_next q j w))

    -- what is chosen after some copies is chosen from the first on
    climb : (j : ℕ) → j ≤ n → (l : List ℕ) → after st u es t (q + j * w) ≡ some l → after st u es t q ≡ some l
    climb zero m l e = ap (after st u es t) (sym (place_zero q w)) ∙ e
    climb (suc j) m l e =
        climb j (omega arith) l
        (row_next j (omega arith)
        ∙ ap (λ (a : Option (List ℕ)). or_p a (then_p (q + j * w) (answer st es t (q + j * w)))) (ap (λ (y : ℕ). after st u es t (q + y * w)) (let z : j + 1 ≡ suc j = omega arith in z) ∙ e))

    climb_found : (j m : ℕ) → j ≤ n → Some m ≡ found_of (q + j * w) (after st u es t (q + j * w)) → after st u es t q ≡ after st u es t (q + j * w)
    climb_found j m l f = go (after st u es t (q + j * w)) refl f
      where
        go : (a : Option (List ℕ)) → after st u es t (q + j * w) ≡ a → Some m ≡ found_of (q + j * w) a → after st u es t q ≡ a
        go none e y = absurd (let z : ◌≡◌ {A = ℕ} 0 1 = cc in omega arith)
        go (some s) e y = climb j l s e

  -- j copies more, and up to h behind them
  module _ (j h : ℕ) (sum : j + h ≡ n) where
    place_most : q + n * w ≡ q + j * w + h * w
    place_most = ap (λ (a : ℕ). q + a * w) (sym sum) ∙ place_sum q j h w

    pub upper_repeating : Repeating items kinds b t at next w (q + j * w) h marks ends
    upper_repeating =
        let e = place_most in
        let l = k.most.row.inside in
        record {
          given = k.given;
          noted = k.noted;
          stands = k.stands;
          behind = k.behind;
          some = k.some;
          most = record {
            row = record {
              inside = omega arith;
              copies = λ u c es i st g.
                  let f = k.most.row.copies u c es i st g in
                  (f.0, λ a m. ap (λ (y : ℕ). fits st u (drop y t)) (sym (place_sum q j a w)) ∙ f.1 (j + a) (omega arith));
            };
            furthest = subst (Furthest items b t at) e k.most.furthest;
          };
        }

    -- a match after j copies or more is one of the element
    pub copied_upper : (marks' ends' : List ℕ) (f : CodeOption ℕ) (m : ℕ) → f ≡ Some m → Copied items b t at (q + j * w) marks marks' ends' f → Copied items b t at q marks marks' ends' f
    copied_upper marks' ends' f m e y = record {
      said = λ u c es i st g.
          let s = y.said u c es i st g in
          said_any st u (element u c) es t (after st u es t q) at q (q + j * w) ends' f (climb_found u c es i st g j m (omega arith) (sym e ∙ s.found)) s;
      kept = y.kept;
    }

    -- else fewer copies are left
    module _ (some_more : 1 ≤ j) (marks' ends' : List ℕ) (y : Copied items b t at (q + j * w) marks marks' ends' None) where
      pub lower_repeating : Repeating items kinds b t at next w q (j - 1) marks' ends'
      lower_repeating = record {
        given = k.given;
        noted = y.kept.noted;
        stands = k.stands;
        behind = k.behind;
        some = k.some;
        most = record {
          row = record {
            inside = row_place (j - 1) w (omega arith) (omega arith);
            copies = λ u c es i st g. let f = k.most.row.copies u c es i st g in (f.0, λ a m. f.1 a (omega arith));
          };
          furthest = λ u c es i st g.
              row_next u c es i st g (j - 1) (omega arith)
              ∙ ap (λ (a : Option (List ℕ)). or_p a (then_p (q + (j - 1) * w) (answer st es t (q + (j - 1) * w))))
              (ap (λ (a : ℕ). after st u es t (q + a * w)) (let z : j - 1 + 1 ≡ j = omega arith in z)
              ∙ found_none (q + j * w) (after st u es t (q + j * w)) (y.said u c es i st g).found);
        };
      }

      pub copied_lower : (marks₂ ends₂ : List ℕ) (r : CodeOption ℕ) → Copied items b t at q marks' marks₂ ends₂ r → Copied items b t at q marks marks₂ ends₂ r
      copied_lower marks₂ ends₂ r c = record { said = c.said; kept = kept_on items b t marks marks' marks₂ ends' ends₂ y.kept c.kept }
