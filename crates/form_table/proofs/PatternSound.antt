-- What the walk over a pattern accepts are the items of well formed pieces.
use mathlib.Core.Path.{◌≡◌, refl, sym, ◌∙◌}
use mathlib.Core.Bool.{Bool, true, false, ◌&&◌}
use mathlib.Core.List.{List, [], ◌∷◌, ◌++◌, reverse}
use mathlib.Core.Option.{Option, none, some}
use Prim.Native.Nat.{ℕ, suc, ◌+◌, ◌*◌, ◌/◌, ◌%◌, ◌≤◌}
use native.Mathlib.Omega.{arith}
use lib.Dec.{eqb, ltb}
use lib.ListN.{length-reverse}
use borrow.Author.Tests.{eqb-true, ltb-true}
use Rattle.macros.specs.Bounds.{most_tags}
use Rattle.macros.specs.Macro.{Closure, Member, PatternUnit, Piece, within, is_range, tags, elements, depth}
use Rattle.macros.specs.Macro.Member.{single, range}
use Rattle.macros.specs.Macro.PatternUnit.{literal, kind, class, call_of}
use Rattle.macros.specs.Macro.Piece.{element, start, end, left, right}
use Rattle.macros.specs.Formed.{Octets, FormedMembers, FormedPieces, FormedPattern}
use Rattle.form_table.specs.Form.{closure_code, unit_code, unit_operand, unit_rest, piece_items, pattern_items}
use Rattle.form_table.specs.Walk.{bit, walk}
use Rattle.form_table.specs.PatternWalk.{PatternState, closure_length, closure_joint, closure_of, unit_of, element_at, element_step, sign_step, piece_step, opening, some_member, member_step, range_step, pattern_step, pattern_start, pattern_ends, pattern_spelled}
use Rattle.form_table.specs.PatternWalk.Joint.{loose}
use Rattle.form_table.specs.PatternWalk.PatternSpot.{behind_piece}
use Rattle.form_table.specs.PatternWalk.PatternState.{pattern_at}
use Rattle.form_table.proofs.Basics.{clash, not_some, and_left, and_right, picked, within_low, within_high}
use Rattle.form_table.proofs.Walks.{granted, some_same, walk_kept}
use Rattle.form_table.proofs.PatternCodes.{FormedHead, of_closure, of_unit}
use Rattle.form_table.proofs.PatternCost.{top, cost, joint_of, spot_of, cost_last}
use Rattle.form_table.proofs.PatternStates.{Walked, items_of, FormedWalked, state_of, at_literal, at_kind, at_call, at_class_lem, at_single_lem, at_end_lem, at_range_lem, at_shut, at_left, at_right, at_start_lem, at_dollar, more_pieces, items_class, items_single, items_end, items_range, items_shut, formed_onto}
use Rattle.form_table.proofs.PatternStates.Walked.{pieces, members, ends}

-- behind two more bytes
abbrev Next : Walked → ℕ → ℕ → PatternState → Type 0
Next w c o s = (v : Walked) × FormedWalked v × (s ≡ state_of v) × (items_of v ≡ items_of w ++ (c ∷ o ∷ []))

module _ (ps : List Piece) (f : FormedPieces ps) (c o : ℕ) (s : PatternState) where
  next_sign : o ≡ 0 → sign_step (6 + cost ps) (tags ps) (depth ps) (elements ps) c ≡ some s → Next (pieces ps) c o s
  unfolding sign_step piece_items
  next_sign z e =
      picked (eqb c 1) e
      (λ t e. granted (ltb (tags ps) most_tags) e λ g q. (pieces (left ∷ ps), (ltb-true _ _ g, f), sym q ∙ at_left ps, rw (eqb-true c 1 t, z) (more_pieces left ps)))
      λ x e. picked (eqb c 2) e
      (λ t e. granted (ltb 0 (depth ps)) e λ g q. (pieces (right ∷ ps), (ltb-true _ _ g, f), sym q ∙ at_right ps, rw (eqb-true c 2 t, z) (more_pieces right ps)))
      λ x e. picked (eqb c 3) e
      (λ t q. (pieces (start ∷ ps), f, sym (some_same q) ∙ at_start_lem ps, rw (eqb-true c 3 t, z) (more_pieces start ps)))
      λ x e. picked (eqb c 4) e
      (λ t q. (pieces (end ∷ ps), f, sym (some_same q) ∙ at_dollar ps, rw (eqb-true c 4 t, z) (more_pieces end ps)))
      λ x e. not_some e

  next_element : (u : PatternUnit) (k : Closure) → FormedHead u → c ≡ 4 * unit_code u + closure_code k → o ≡ unit_operand u
      → element_at (6 + cost ps) (tags ps) (depth ps) (elements ps) (joint_of (top ps)) u k ≡ s → Next (pieces ps) c o s
  unfolding piece_items unit_rest unit_operand
  next_element (literal b) k g p q e = (pieces (element (literal b) k ∷ ps), (g, f), sym e ∙ at_literal ps k b, rw (p, q) (more_pieces (element (literal b) k) ps))
  next_element (kind n) k g p q e = (pieces (element (kind n) k ∷ ps), (g, f), sym e ∙ at_kind ps k n, rw (p, q) (more_pieces (element (kind n) k) ps))
  next_element (call_of m i) k g p q e = (pieces (element (call_of m i) k ∷ ps), (g, f), sym e ∙ at_call ps k m i, rw (p, q) (more_pieces (element (call_of m i) k) ps))
  next_element (class neg ms) k g p q e =
      (members ps neg k [], (f, tt), sym e ∙ (rw g (at_class_lem ps k neg)), rw (p, q, g) (items_class ps neg k))

  next_piece : piece_step (6 + cost ps) (tags ps) (depth ps) (elements ps) (joint_of (top ps)) c o ≡ some s → Next (pieces ps) c o s
  unfolding piece_step element_step
  next_piece e =
      picked (ltb c 8) e
      (λ t e. picked (eqb o 0) e (λ z e. next_sign (eqb-true o 0 z) e) (λ x e. not_some e))
      (λ x e. by (unit_of (c / 4) o) (closure_of (c % 4)) refl refl e)
    where
      by : (x : Option PatternUnit) (y : Option Closure) → unit_of (c / 4) o ≡ x → closure_of (c % 4) ≡ y
          → element_step (6 + cost ps) (tags ps) (depth ps) (elements ps) (joint_of (top ps)) x y ≡ some s → Next (pieces ps) c o s
      by none y p q e = not_some e
      by (some u) none p q e = not_some e
      by (some u) (some k) p q e =
          let g : (unit_code u ≡ c / 4) × (unit_operand u ≡ o) × FormedHead u = of_unit (c / 4) o u p in
          next_element u k g.2 (omega (arith, g.0, of_closure (c % 4) k q)) (sym g.1) (some_same e)

-- a class cannot end at its beginning
no_member : (neg : Bool) → some_member (opening neg) ≡ false
unfolding some_member opening
no_member true = refl
no_member false = refl

module _ (ps : List Piece) (neg : Bool) (k : Closure) (c o : ℕ) (s : PatternState) where
  next_shut : (ms : List Member) → FormedPieces ps → FormedMembers ms → c ≡ 35 → o ≡ 0 → some_member (spot_of neg ms) ≡ true
      → pattern_at (6 + cost ps + 2 + bit neg + closure_length k + cost_last neg ms) (tags ps) (depth ps) (suc (elements ps)) (behind_piece (closure_joint loose k)) ≡ s
      → Next (members ps neg k ms) c o s
  next_shut [] f g p q w e = clash w (no_member neg)
  next_shut (m ∷ ms) f g p q w e = (
    pieces (element (class neg (reverse (m ∷ ms))) k ∷ ps),
    ((rw (length-reverse (m ∷ ms)) (omega arith), formed_onto (m ∷ ms) [] g tt), f),
    sym e ∙ at_shut ps k neg ms m,
    rw (p, q) (items_shut ps neg k (m ∷ ms)),
  )

  next_member : (ms : List Member) → FormedPieces ps → FormedMembers ms → pattern_step (state_of (members ps neg k ms)) c o ≡ some s → Next (members ps neg k ms) c o s
  unfolding pattern_step member_step
  next_member ms f g e =
      picked (eqb c 32) e
      (λ t e. granted (within 1 255 o) e λ w q. (
        members ps neg k (single o ∷ ms),
        (f, ((within_low 1 255 o w, within_high 1 255 o w), g)),
        sym q ∙ at_single_lem ps k neg ms o,
        rw (eqb-true c 32 t) (items_single ps neg k ms o),
      ))
      λ x e. picked (eqb c 33) e
      (λ t q. (ends ps neg k ms o, (f, g), sym (some_same q) ∙ at_end_lem ps k neg ms o, rw (eqb-true c 33 t) (items_end ps neg k ms o)))
      λ x e. picked (eqb c 35) e
      (λ t e. granted (eqb o 0 && some_member (spot_of neg ms)) e λ w q. next_shut ms f g (eqb-true c 35 t) (eqb-true o 0 (and_left (eqb o 0) _ w)) (and_right (eqb o 0) _ w) q)
      λ x e. not_some e

  next_range : (ms : List Member) (a : ℕ) → FormedPieces ps → FormedMembers ms → pattern_step (state_of (ends ps neg k ms a)) c o ≡ some s → Next (ends ps neg k ms a) c o s
  unfolding pattern_step range_step
  next_range ms a f g e =
      granted (eqb c 34 && is_range a o) e λ w q. (
        members ps neg k (range a o ∷ ms),
        (f, (and_right (eqb c 34) _ w, g)),
        sym q ∙ at_range_lem ps k neg ms a o,
        rw (eqb-true c 34 (and_left (eqb c 34) _ w)) (items_range ps neg k ms a o),
      )

next : (w : Walked) (c o : ℕ) (s : PatternState) → FormedWalked w → pattern_step (state_of w) c o ≡ some s → Next w c o s
unfolding pattern_step
next (pieces ps) c o s f e = next_piece ps f c o s e
next (members ps neg k ms) c o s f e = next_member ps neg k c o s ms f.0 f.1 e
next (ends ps neg k ms a) c o s f e = next_range ps neg k c o s ms a f.0 f.1 e

-- a state behind the bytes d
pub data Stands (s : PatternState) (d : List ℕ) : Type 0 where
  stands : (w : Walked) → FormedWalked w → s ≡ state_of w → items_of w ≡ d → Stands s d

pub pattern_kept : (s s' : PatternState) (d : List ℕ) (c o : ℕ) → Stands s d → c ≤ 255 → o ≤ 255 → pattern_step s c o ≡ some s' → Stands s' (d ++ (c ∷ o ∷ []))
pattern_kept s s' d c o (stands w f p q) h l e =
    let n : Next w c o s' = next w c o s' f (rw p at e) in
    stands n.0 n.1 n.2 (n.3 ∙ rw q)

-- the whole pattern, newest piece first
pub record PatternOf (t n : ℕ) (l : List ℕ) : Type 0 where
  pub newest : List Piece
  pub formed : FormedPattern newest
  pub items : pattern_items (reverse newest) ≡ l
  pub tagged : tags newest ≡ t
  pub spelled : n ≡ 6 + cost newest

pattern_end_lem : (t : ℕ) (l : List ℕ) (st : PatternState) → Stands st l → pattern_ends t st ≡ true → PatternOf t (pattern_spelled st) l
unfolding pattern_ends pattern_spelled items_of
pattern_end_lem t l st (stands (pieces ps) f p q) e =
    let g : (eqb (tags ps) t && (eqb (depth ps) 0 && ltb 0 (elements ps))) ≡ true = rw p at e in
    let h : (eqb (depth ps) 0 && ltb 0 (elements ps)) ≡ true = and_right (eqb (tags ps) t) _ g in
    record {
      newest = ps;
      formed = record { pieces = f; shut = eqb-true (depth ps) 0 (and_left (eqb (depth ps) 0) _ h); some_element = ltb-true 0 (elements ps) (and_right (eqb (depth ps) 0) _ h) };
      items = q;
      tagged = eqb-true (tags ps) t (and_left (eqb (tags ps) t) _ g);
      spelled = rw p;
    }
pattern_end_lem t l st (stands (members ps neg k ms) f p q) e = clash e (rw p)
pattern_end_lem t l st (stands (ends ps neg k ms a) f p q) e = clash e (rw p)

pub pattern_sound : (t : ℕ) (l : List ℕ) (st : PatternState) → Octets l → walk pattern_step pattern_start l ≡ some st → pattern_ends t st ≡ true → PatternOf t (pattern_spelled st) l
unfolding pattern_start cost tags depth elements joint_of items_of pattern_items
pattern_sound t l st o e h =
    pattern_end_lem t l st (walk_kept pattern_step Stands pattern_kept l [] pattern_start st (stands (pieces []) tt refl refl) o e) h
