-- The states of the walk over a pattern, each by what has been walked over.
use mathlib.Core.Path.{◌≡◌, refl, sym, ap, ◌∙◌}
use mathlib.Core.Bool.{Bool, true, false}
use mathlib.Core.List.{List, [], ◌∷◌, ◌++◌, append_assoc, append-nil, reverse, reverse_aux, reverse-cons}
use Prim.Native.Nat.{ℕ, suc, ◌+◌, ◌-◌, ◌*◌}
use native.Mathlib.Omega.{arith}
use lib.ListN.{length-append}
use Rattle.macros.specs.Macro.{Closure, Member, Mark, Piece, tags, elements, depth}
use Rattle.macros.specs.Macro.Member.{single, range}
use Rattle.macros.specs.Macro.PatternUnit.{literal, kind, class, call_of}
use Rattle.macros.specs.Macro.Piece.{element, start, end, left, right}
use Rattle.macros.specs.Write.{closure_bytes}
use Rattle.macros.specs.Formed.{FormedMembers, FormedPieces}
use Rattle.macros.specs.Spell.{leaves_unit, leaves, spell_member, spell_unit, spell_piece}
use Rattle.form_table.specs.Form.{closure_code, unit_code, unit_operand, member_items, members_items, unit_rest, piece_items, pattern_items}
use Rattle.form_table.specs.Walk.{bit}
use Rattle.form_table.specs.PatternWalk.{Joint, PatternState, closure_length, closure_joint, opening, element_at, owed, member_length, member_spot}
use Rattle.form_table.specs.PatternWalk.Joint.{loose}
use Rattle.form_table.specs.PatternWalk.Inside.{at_range}
use Rattle.form_table.specs.PatternWalk.PatternSpot.{behind_piece, in_class, in_range}
use Rattle.form_table.specs.PatternWalk.PatternState.{pattern_at}
use Rattle.form_table.proofs.PatternCost.{top, cost, joint_of, spot_of, cost_followed, cost_last, closure_length_lem, closure_joint_lem, literal_length_lem, literal_joint_lem, last_length, cost_owed, class_length}

-- pieces; in a class; in a range; lists are newest first
pub data Walked : Type 0 where
  pieces : List Piece → Walked
  members : List Piece → Bool → Closure → List Member → Walked
  ends : List Piece → Bool → Closure → List Member → ℕ → Walked

unfoldable pub flat : List Member → List ℕ
flat [] = []
flat (m ∷ ms) = member_items m ++ flat ms

unfoldable pub class_items : Bool → Closure → List Member → List ℕ
class_items neg k ms = (4 * unit_code (class neg []) + closure_code k) ∷ 0 ∷ flat (reverse ms)

unfoldable pub items_of : Walked → List ℕ
items_of (pieces ps) = pattern_items (reverse ps)
items_of (members ps neg k ms) = pattern_items (reverse ps) ++ class_items neg k ms
items_of (ends ps neg k ms a) = pattern_items (reverse ps) ++ (class_items neg k ms ++ (33 ∷ a ∷ []))

abbrev pub FormedWalked : Walked → Type 0
FormedWalked (pieces ps) = FormedPieces ps
FormedWalked (members ps neg k ms) = FormedPieces ps × FormedMembers ms
FormedWalked (ends ps neg k ms a) = FormedPieces ps × FormedMembers ms

abbrev pub state_of : Walked → PatternState
state_of (pieces ps) = pattern_at (6 + cost ps) (tags ps) (depth ps) (elements ps) (behind_piece (joint_of (top ps)))
state_of (members ps neg k ms) =
    pattern_at (6 + cost ps + 2 + bit neg + closure_length k + cost_last neg ms) (tags ps) (depth ps) (suc (elements ps)) (in_class (closure_joint loose k) (spot_of neg ms))
state_of (ends ps neg k ms a) =
    pattern_at (6 + cost ps + 2 + bit neg + closure_length k + cost_followed neg ms + 3) (tags ps) (depth ps) (suc (elements ps)) (in_range (closure_joint loose k) a)

-- STATES

-- two states behind a piece
same : (n m t d e : ℕ) (i j : Joint) → n ≡ m → i ≡ j → pattern_at n t d e (behind_piece i) ≡ pattern_at m t d e (behind_piece j)
same n m t d e i j p q = cc

module _ (ps : List Piece) (k : Closure) where
  pub at_literal : (b : ℕ) → element_at (6 + cost ps) (tags ps) (depth ps) (elements ps) (joint_of (top ps)) (literal b) k ≡ state_of (pieces (element (literal b) k ∷ ps))
  unfolding element_at cost tags depth elements spell_piece leaves_unit
  at_literal b =
      same _ _ (tags ps) (depth ps) (suc (elements ps)) _ _
      (omega (arith, literal_length_lem (top ps) b, closure_length_lem k, length-append (spell_unit (top ps) (literal b)) (closure_bytes k)))
      (rw (closure_joint_lem (literal b) k, literal_joint_lem b))

  pub at_kind : (n : ℕ) → element_at (6 + cost ps) (tags ps) (depth ps) (elements ps) (joint_of (top ps)) (kind n) k ≡ state_of (pieces (element (kind n) k ∷ ps))
  unfolding element_at cost tags depth elements spell_piece spell_unit leaves_unit joint_of
  at_kind n = same _ _ (tags ps) (depth ps) (suc (elements ps)) _ _ (omega (arith, closure_length_lem k)) (rw (closure_joint_lem (kind n) k))

  pub at_call : (m : Mark) (i : ℕ) → element_at (6 + cost ps) (tags ps) (depth ps) (elements ps) (joint_of (top ps)) (call_of m i) k ≡ state_of (pieces (element (call_of m i) k ∷ ps))
  unfolding element_at cost tags depth elements spell_piece spell_unit leaves_unit joint_of
  at_call m i = same _ _ (tags ps) (depth ps) (suc (elements ps)) _ _ (omega (arith, closure_length_lem k)) (rw (closure_joint_lem (call_of m i) k))

  module _ (neg : Bool) where
    pub at_class_lem : element_at (6 + cost ps) (tags ps) (depth ps) (elements ps) (joint_of (top ps)) (class neg []) k ≡ state_of (members ps neg k [])
    unfolding element_at cost_last
    at_class_lem = ap (λ (n : ℕ). pattern_at n (tags ps) (depth ps) (suc (elements ps)) (in_class (closure_joint loose k) (opening neg))) (omega arith)

    module _ (ms : List Member) where
      pub at_single_lem : (b : ℕ)
          → pattern_at (6 + cost ps + 2 + bit neg + closure_length k + cost_last neg ms + owed (spot_of neg ms) + member_length (spot_of neg ms) b) (tags ps) (depth ps)
          (suc (elements ps))
          (in_class (closure_joint loose k) (member_spot (spot_of neg ms) b)) ≡ state_of (members ps neg k (single b ∷ ms))
      unfolding cost_last
      at_single_lem b =
          ap (λ (n : ℕ). pattern_at n (tags ps) (depth ps) (suc (elements ps)) (in_class (closure_joint loose k) (member_spot (spot_of neg ms) b)))
          (omega (arith, cost_owed neg ms, last_length (spot_of neg ms) b))

      pub at_end_lem : (a : ℕ) → pattern_at (6 + cost ps + 2 + bit neg + closure_length k + cost_last neg ms + owed (spot_of neg ms) + 3) (tags ps) (depth ps) (suc (elements ps))
          (in_range (closure_joint loose k) a) ≡ state_of (ends ps neg k ms a)
      at_end_lem a =
          ap (λ (n : ℕ). pattern_at n (tags ps) (depth ps) (suc (elements ps)) (in_range (closure_joint loose k) a)) (omega (arith, cost_owed neg ms))

      pub at_range_lem : (a z : ℕ) → pattern_at (6 + cost ps + 2 + bit neg + closure_length k + cost_followed neg ms + 3) (tags ps) (depth ps) (suc (elements ps))
          (in_class (closure_joint loose k) at_range) ≡ state_of (members ps neg k (range a z ∷ ms))
      unfolding cost_last spell_member
      at_range_lem a z =
          ap (λ (n : ℕ). pattern_at n (tags ps) (depth ps) (suc (elements ps)) (in_class (closure_joint loose k) at_range)) (omega arith)

      pub at_shut : (m : Member)
          → pattern_at (6 + cost ps + 2 + bit neg + closure_length k + cost_last neg (m ∷ ms)) (tags ps) (depth ps) (suc (elements ps)) (behind_piece (closure_joint loose k))
          ≡ state_of (pieces (element (class neg (reverse (m ∷ ms))) k ∷ ps))
      unfolding cost tags depth elements spell_piece leaves_unit joint_of
      at_shut m =
          same _ _ (tags ps) (depth ps) (suc (elements ps)) _ _
          (omega (arith, class_length (top ps) neg m ms, closure_length_lem k, length-append (spell_unit (top ps) (class neg (reverse (m ∷ ms)))) (closure_bytes k)))
          (rw (closure_joint_lem (class neg (reverse (m ∷ ms))) k))

-- braces, `^` and `$`
module _ (ps : List Piece) where
  pub at_left : pattern_at (suc (6 + cost ps)) (suc (tags ps)) (suc (depth ps)) (elements ps) (behind_piece loose) ≡ state_of (pieces (left ∷ ps))
  unfolding cost tags depth elements spell_piece leaves joint_of
  at_left = same _ _ (suc (tags ps)) (suc (depth ps)) (elements ps) loose loose (omega arith) refl

  pub at_right : pattern_at (suc (6 + cost ps)) (tags ps) (depth ps - 1) (elements ps) (behind_piece loose) ≡ state_of (pieces (right ∷ ps))
  unfolding cost tags depth elements spell_piece leaves joint_of
  at_right = same _ _ (tags ps) (depth ps - 1) (elements ps) loose loose (omega arith) refl

  pub at_start_lem : pattern_at (suc (6 + cost ps)) (tags ps) (depth ps) (suc (elements ps)) (behind_piece loose) ≡ state_of (pieces (start ∷ ps))
  unfolding cost tags depth elements spell_piece leaves joint_of
  at_start_lem = same _ _ (tags ps) (depth ps) (suc (elements ps)) loose loose (omega arith) refl

  pub at_dollar : pattern_at (suc (6 + cost ps)) (tags ps) (depth ps) (suc (elements ps)) (behind_piece loose) ≡ state_of (pieces (end ∷ ps))
  unfolding cost tags depth elements spell_piece leaves joint_of
  at_dollar = same _ _ (tags ps) (depth ps) (suc (elements ps)) loose loose (omega arith) refl

-- ITEMS

pub pattern_append : (ps qs : List Piece) → pattern_items (ps ++ qs) ≡ pattern_items ps ++ pattern_items qs
unfolding pattern_items
pattern_append [] qs = refl
pattern_append (p ∷ ps) qs = rw (pattern_append ps qs) (sym (append_assoc (piece_items p) (pattern_items ps) (pattern_items qs)))

flat_append : (ms ns : List Member) → flat (ms ++ ns) ≡ flat ms ++ flat ns
unfolding flat
flat_append [] ns = refl
flat_append (m ∷ ms) ns = rw (flat_append ms ns) (sym (append_assoc (member_items m) (flat ms) (flat ns)))

flat_more : (m : Member) (ms : List Member) → flat (reverse (m ∷ ms)) ≡ flat (reverse ms) ++ member_items m
unfolding flat
flat_more m ms = rw (reverse-cons m ms, flat_append (reverse ms) (m ∷ [])) (rw (append-nil (member_items m)))

flat_end : (ms : List Member) → members_items ms ≡ flat ms ++ (35 ∷ 0 ∷ [])
unfolding members_items flat
flat_end [] = refl
flat_end (m ∷ ms) = rw (flat_end ms) (sym (append_assoc (member_items m) (flat ms) (35 ∷ 0 ∷ [])))

pub more_pieces : (p : Piece) (ps : List Piece) → items_of (pieces (p ∷ ps)) ≡ items_of (pieces ps) ++ piece_items p
unfolding items_of pattern_items
more_pieces p ps = rw (reverse-cons p ps, pattern_append (reverse ps) (p ∷ [])) (rw (append-nil (piece_items p)))

class_code : (neg : Bool) (ms ns : List Member) → unit_code (class neg ms) ≡ unit_code (class neg ns)
unfolding unit_code
class_code true ms ns = refl
class_code false ms ns = refl

module _ (ps : List Piece) (neg : Bool) (k : Closure) where
  pub items_class : items_of (members ps neg k []) ≡ items_of (pieces ps) ++ ((4 * unit_code (class neg []) + closure_code k) ∷ 0 ∷ [])
  unfolding items_of class_items flat
  items_class = refl

  module _ (ms : List Member) where
    pub items_single : (b : ℕ) → items_of (members ps neg k (single b ∷ ms)) ≡ items_of (members ps neg k ms) ++ (32 ∷ b ∷ [])
    unfolding items_of class_items member_items
    items_single b = rw (flat_more (single b) ms, append_assoc (pattern_items (reverse ps)))

    pub items_end : (a : ℕ) → items_of (ends ps neg k ms a) ≡ items_of (members ps neg k ms) ++ (33 ∷ a ∷ [])
    unfolding items_of
    items_end a = rw (append_assoc (pattern_items (reverse ps)))

    pub items_range : (a z : ℕ) → items_of (members ps neg k (range a z ∷ ms)) ≡ items_of (ends ps neg k ms a) ++ (34 ∷ z ∷ [])
    unfolding items_of class_items member_items
    items_range a z = rw (flat_more (range a z) ms) (simp append_assoc)

    pub items_shut : items_of (pieces (element (class neg (reverse ms)) k ∷ ps)) ≡ items_of (members ps neg k ms) ++ (35 ∷ 0 ∷ [])
    unfolding items_of class_items piece_items unit_operand unit_rest
    items_shut =
        more_pieces (element (class neg (reverse ms)) k) ps
        ∙ rw (class_code neg (reverse ms) [], flat_end (reverse ms)) (sym (append_assoc (pattern_items (reverse ps)) (class_items neg k ms) (35 ∷ 0 ∷ [])))

pub formed_onto : (ms ns : List Member) → FormedMembers ms → FormedMembers ns → FormedMembers (reverse_aux ms ns)
formed_onto [] ns f g = g
formed_onto (m ∷ ms) ns f g = formed_onto ms (m ∷ ns) f.1 (f.0, g)
