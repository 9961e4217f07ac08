-- The laws of specs/TagsAtWork.
use mathlib.Core.Path.{◌≡◌, refl, sym, ap, ◌∙◌, subst}
use mathlib.Core.List.{List, [], ◌∷◌, ◌++◌, reverse_aux}
use Prim.Native.Nat.{ℕ, zero, suc, ◌+◌, ◌-◌, ◌≤◌, ◌<◌}
use native.Mathlib.Nat.{zero-add}
use native.Mathlib.Omega.{arith}
use Rattle.macros.specs.Macro.{Piece, Macro, tags, depth}
use Rattle.macros.specs.Macro.Piece.{element, start, end, left, right}
use Rattle.macros.specs.Macro.Mark.{stack}
use Rattle.macros.specs.Formed.{FormedPieces}
use Rattle.lines.specs.State.{State}
use Rattle.lines.specs.Matching.{Division, Divides, stops, tag_text}
use Rattle.lines.specs.Replacing.{Work, ◌>>=◌, puts, early, late, stores, acts, call_acts}
use Rattle.lines.specs.Steps.{with_move, ComesTo, Step.inserts as inserts, Step.stores as stores_text}
use Rattle.lines.specs.Tags.{Closes}
use Rattle.lines.specs.TagsAtWork.{TagAt, text_of_tag, TagInserts, TagStores, TagsStand}
use Rattle.lines.proofs.OccurLaws.{puts_step, store_step, moved_step}
use Rattle.lines.proofs.TagLaws.{tags_run}

-- the definition's text is the tag's
tag_text_lem : (st : State) (t : List ℕ) (es : List Piece) (p : ℕ) (d : Division) → Divides st t es p d → (n : ℕ) (g : TagAt es n) → tag_text t (n - 1) es (stops d) ≡ text_of_tag es n g t p d
tag_text_lem st t es p d h n g =
    ap (λ (k : ℕ). tag_text t k es (stops d)) (let a = g.number in let z : n - 1 ≡ tags g.front = omega arith in z)
    ∙ tags_run st t es p d h g.front g.inside g.back g.pieces g.own

pub tag_inserts : TagInserts
unfolding acts
tag_inserts st t es p d h n g w =
    let x : List ℕ = tag_text t (n - 1) es (stops d) in
    subst (λ (y : List ℕ). ComesTo (inserts y ∷ []) w (puts x w)) (tag_text_lem st t es p d h n g) (puts_step x w)

pub tag_stores : TagStores
unfolding call_acts
tag_stores st t es p d h n g i v w =
    let x : List ℕ = tag_text t (n - 1) es (stops d) in
    subst (λ (y : List ℕ). ComesTo (with_move stack i v (stores_text i y)) w (early stack v i w >>= stores i x >>= late stack v i)) (tag_text_lem st t es p d h n g)
    (moved_step stack i v (stores_text i x) (stores i x) (store_step i x) w)

-- A PATTERN HAS ITS TAGS

formed_inner : (es ps : List Piece) → FormedPieces (reverse_aux es ps) → FormedPieces ps
formed_inner [] ps h = h
formed_inner (element u c ∷ es) ps h = (formed_inner es (element u c ∷ ps) h).1
formed_inner (start ∷ es) ps h = formed_inner es (start ∷ ps) h
formed_inner (end ∷ es) ps h = formed_inner es (end ∷ ps) h
formed_inner (left ∷ es) ps h = (formed_inner es (left ∷ ps) h).1
formed_inner (right ∷ es) ps h = (formed_inner es (right ∷ ps) h).1

-- behind the pieces ps, newest first, the pieces es close all that is open
closes_rest : (es ps : List Piece) → FormedPieces (reverse_aux es ps) → depth (reverse_aux es ps) ≡ 0 → Closes (depth ps) es
unfolding depth
closes_rest [] ps f e = subst (λ (k : ℕ). Closes k []) (sym e) tt
closes_rest (element u c ∷ es) ps f e = closes_rest es (element u c ∷ ps) f e
closes_rest (start ∷ es) ps f e = closes_rest es (start ∷ ps) f e
closes_rest (end ∷ es) ps f e = closes_rest es (end ∷ ps) f e
closes_rest (left ∷ es) ps f e = closes_rest es (left ∷ ps) f e
closes_rest (right ∷ es) ps f e = go (depth ps) (formed_inner es (right ∷ ps) f).0 (closes_rest es (right ∷ ps) f e)
  where
    go : (k : ℕ) → 0 < k → Closes (k - 1) es → Closes k (right ∷ es)
    go zero l h = absurd (omega arith)
    go (suc k) l h = subst (λ (j : ℕ). Closes j es) (let z : suc k - 1 ≡ k = omega arith in z) h

-- the right brace of a tag, j braces being open inside it
record Right (j : ℕ) (es : List Piece) : Type 0 where
  inside : List Piece
  back : List Piece
  pieces : es ≡ inside ++ right ∷ back
  own : Closes j inside

cons_right : (i j : ℕ) (e : Piece) (es : List Piece) → ((ps : List Piece) → Closes i ps → Closes j (e ∷ ps)) → Right i es → Right j (e ∷ es)
cons_right i j e es f h = record { inside = e ∷ h.inside; back = h.back; pieces = ap (λ (ps : List Piece). e ∷ ps) h.pieces; own = f h.inside h.own }

find_right : (j k : ℕ) (es : List Piece) → Closes (suc (j + k)) es → Right j es
find_right j k [] h = absurd h
find_right j k (element u c ∷ es) h = cons_right j j (element u c) es (λ ps g. g) (find_right j k es h)
find_right j k (start ∷ es) h = cons_right j j start es (λ ps g. g) (find_right j k es h)
find_right j k (end ∷ es) h = cons_right j j end es (λ ps g. g) (find_right j k es h)
find_right j k (left ∷ es) h =
    cons_right (suc j) j left es (λ ps g. g) (find_right (suc j) k es (subst (λ (n : ℕ). Closes n es) (let z : suc (suc (j + k)) ≡ suc (suc j + k) = omega arith in z) h))
find_right zero k (right ∷ es) h = record { inside = []; back = es; pieces = refl; own = tt }
find_right (suc j) k (right ∷ es) h =
    cons_right j (suc j) right es (λ ps g. g) (find_right j k es (subst (λ (n : ℕ). Closes n es) (let z : suc j + k ≡ suc (j + k) = omega arith in z) h))

-- the left brace of a tag that has n before its own
record Left (n : ℕ) (es : List Piece) : Type 0 where
  front : List Piece
  rest : List Piece
  open₁ : ℕ
  pieces : es ≡ front ++ left ∷ rest
  before : tags front ≡ n
  closes : Closes (suc open₁) rest

cons_left : (i n : ℕ) (e : Piece) (es : List Piece) → ((ps : List Piece) → tags ps ≡ i → tags (e ∷ ps) ≡ n) → Left i es → Left n (e ∷ es)
cons_left i n e es f h =
    record { front = e ∷ h.front; rest = h.rest; open₁ = h.open₁; pieces = ap (λ (ps : List Piece). e ∷ ps) h.pieces; before = f h.front h.before; closes = h.closes }

find_left : (n k : ℕ) (es : List Piece) → Closes k es → n < tags es → Left n es
unfolding tags
find_left n k [] h l = absurd (omega arith)
find_left n k (element u c ∷ es) h l = cons_left n n (element u c) es (λ ps e. e) (find_left n k es h l)
find_left n k (start ∷ es) h l = cons_left n n start es (λ ps e. e) (find_left n k es h l)
find_left n k (end ∷ es) h l = cons_left n n end es (λ ps e. e) (find_left n k es h l)
find_left zero k (left ∷ es) h l = record { front = []; rest = es; open₁ = k; pieces = refl; before = refl; closes = h }
find_left (suc n) k (left ∷ es) h l = cons_left n (suc n) left es (λ ps e. ap suc e) (find_left n (suc k) es h (omega arith))
find_left n zero (right ∷ es) h l = absurd h
find_left n (suc k) (right ∷ es) h l = cons_left n n right es (λ ps e. e) (find_left n k es h l)

stand : (n : ℕ) (es : List Piece) → 1 ≤ n → (a : Left (n - 1) es) → Right 0 a.rest → TagAt es n
stand n es l a c =
    record {
      front = a.front;
      inside = c.inside;
      back = c.back;
      pieces = a.pieces ∙ ap (λ (ps : List Piece). a.front ++ left ∷ ps) c.pieces;
      own = c.own;
      number = (let e = a.before in omega arith);
    }

pub tags_stand : TagsStand
unfolding depth
tags_stand m f n b = stand n m.pattern b.0 a (find_right 0 a.open₁ a.rest (subst (λ (k : ℕ). Closes (suc k) a.rest) (sym (zero-add a.open₁)) a.closes))
  where
    a : Left (n - 1) m.pattern
    a = find_left (n - 1) 0 m.pattern (closes_rest m.pattern [] f.pattern.pieces f.pattern.shut) (omega arith)
