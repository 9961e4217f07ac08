-- A spelled macro is bytes, and none of them is 0.
use mathlib.Core.Path.{refl, ◌≡◌}
use mathlib.Core.Bool.{Bool, false, true, ◌||◌}
use mathlib.Core.List.{◌++◌, List, [], reverse_aux, ◌∷◌}
use mathlib.Core.Option.{Option, none}
use Prim.Native.Nat.{◌%◌, ◌+◌, ◌/◌, ◌<◌, suc, zero, ℕ, ◌≤◌}
use native.Mathlib.Omega.{arith}
use lib.Dec.{eqb, ltb}
use borrow.Author.Tests.{ltb-false, ltb-true}
use Rattle.macros.specs.Macro.{Action, Call, Closure, Macro, Mark, Member, Move, PatternUnit, Piece, Symbol, among, digit, ascii_lower, mark_byte, pick, ascii_upper}
use Rattle.macros.specs.Macro.Closure.{once, one_or_more, zero_or_more}
use Rattle.macros.specs.Macro.Member.{range, single}
use Rattle.macros.specs.Macro.Mark.{counter, stack}
use Rattle.macros.specs.Macro.PatternUnit.{call_of, class, kind, literal}
use Rattle.macros.specs.Macro.Piece.{element, end, left, right, start}
use Rattle.macros.specs.Macro.Sign.{minus, plus}
use Rattle.macros.specs.Macro.Move.{after, before, still}
use Rattle.macros.specs.Macro.Call.{divide, insert, set_increment, set_to, store_tag, store_text}
use Rattle.macros.specs.Macro.Action.{call, tag, text}
use Rattle.macros.specs.Macro.Symbol.{equal, less}
use Rattle.macros.specs.Formed.{Byte, Bytes, Formed, FormedAction, FormedCall, FormedCommands, FormedMembers, FormedPieces, FormedReplacement, FormedUnit, Letter}
use Rattle.macros.specs.Read.{Joinable}
use Rattle.macros.specs.ReadSoFar.Joinable.{nothing}
use Rattle.macros.specs.Write.{byte, call_bytes, closure_bytes, commands_bytes, digits, digits_by, escape_byte, inner_bytes, mark_of, name_bytes, sign_byte, symbol_sign}
use Rattle.macros.specs.Spell.{Before, behind, needs_class, none?}
use Rattle.macros.specs.Spell.Before.{a_range, a_single, bracket, tilde}
use Rattle.macros.specs.Spell.{call_text_signs}
use Rattle.macros.proofs.Tests.{alnum, clash, first_alnum, second_alnum, within_left, within_right}
use Rattle.macros.proofs.Styles.{Style, action_bytes, action_leaves, class_bytes, member_bytes, members_bytes, pattern_bytes, piece_bytes, piece_leaves, replacement_bytes, spelled, text_bytes, unit_bytes}
use Rattle.macros.proofs.BackPattern.{formed_tail}

pub whole_append : (s t : List ℕ) → Bytes s → Bytes t → Bytes (s ++ t)
whole_append [] t x z = z
whole_append (b ∷ s) t x z = (x.0, whole_append s t x.1 z)

whole_byte : (p : Bool) (b : ℕ) → Byte b → Bytes (byte p b)
unfolding byte escape_byte pick
whole_byte false b h = (h, tt)
whole_byte true b h = (omega arith, (by (eqb b 10) (eqb b 9), tt))
  where
    by : (p q : Bool) → Byte (pick p 110 (pick q 116 b))
    by true q = omega arith
    by false true = omega arith
    by false false = h

whole_digits : (k n : ℕ) → n ≤ k → Bytes (digits_by k n)
unfolding digits_by pick
whole_digits zero n h = (omega arith, tt)
whole_digits (suc k) n h = by (ltb n 10) refl (λ g. whole_digits k (n / 10) g)
  where
    by : (p : Bool) → ltb n 10 ≡ p → (n / 10 ≤ k → Bytes (digits_by k (n / 10))) → Bytes (pick p ((48 + n) ∷ []) (digits_by k (n / 10) ++ ((48 + n % 10) ∷ [])))
    by true e w = let g : n < 10 = ltb-true n 10 e in (omega arith, tt)
    by false e w = let g : 10 ≤ n = ltb-false n 10 e in whole_append (digits_by k (n / 10)) ((48 + n % 10) ∷ []) (w (omega arith)) (omega arith, tt)

alnum_byte : (b : ℕ) → alnum b ≡ true → Byte b
unfolding alnum digit ascii_upper ascii_lower
alnum_byte b e = by (digit b) (ascii_upper b) (ascii_lower b) refl refl refl e
  where
    by : (x y z : Bool) → digit b ≡ x → ascii_upper b ≡ y → ascii_lower b ≡ z → (x || (y || z)) ≡ true → Byte b
    by true y z f g h e = omega (arith, within_left 48 57 b f, within_right 48 57 b f)
    by false true z f g h e = omega (arith, within_left 65 90 b g, within_right 65 90 b g)
    by false false true f g h e = omega (arith, within_left 97 122 b h, within_right 97 122 b h)
    by false false false f g h e = clash e refl

pub mark_byte_lem : (m : Mark) → Byte (mark_byte m)
unfolding mark_byte
mark_byte_lem stack = omega arith
mark_byte_lem counter = omega arith

whole_name : (i : ℕ) (h : Move) → Letter i → Bytes (name_bytes i h)
unfolding name_bytes sign_byte
whole_name i still g = (omega arith, tt)
whole_name i (before plus) g = (omega arith, (omega arith, tt))
whole_name i (before minus) g = (omega arith, (omega arith, tt))
whole_name i (after plus) g = (omega arith, (omega arith, tt))
whole_name i (after minus) g = (omega arith, (omega arith, tt))

module _ (y : Style) where
  whole_members : (c : Before) (ms : List Member) → FormedMembers ms → Bytes (members_bytes y c ms)
  unfolding members_bytes member_bytes behind
  whole_members c [] g = (omega arith, tt)
  whole_members c (single a ∷ ms) g = whole_append (byte (y.class_too a || needs_class c (none? ms) a) a) (members_bytes y a_single ms) (whole_byte _ a g.0) (whole_members a_single ms g.1)
  whole_members c (range a z ∷ ms) g =
      (alnum_byte a (first_alnum a z g.0), (omega arith, (alnum_byte z (second_alnum a z g.0), whole_members a_range ms g.1)))

  whole_unit : (h : Joinable) (u : PatternUnit) → FormedUnit u → Bytes (unit_bytes y h u)
  unfolding unit_bytes class_bytes
  whole_unit h (literal b) g = whole_byte _ b g
  whole_unit h (kind k) g = (omega arith, (omega arith, tt))
  whole_unit h (class true ms) g = (omega arith, (omega arith, whole_members tilde ms g.1))
  whole_unit h (class false ms) g = (omega arith, whole_members bracket ms g.1)
  whole_unit h (call_of m i) g = (mark_byte_lem m, (omega arith, (omega arith, (omega arith, tt))))

  whole_closure : (k : Closure) → Bytes (closure_bytes k)
  unfolding closure_bytes
  whole_closure once = tt
  whole_closure one_or_more = (omega arith, tt)
  whole_closure zero_or_more = (omega arith, (omega arith, tt))

  whole_pattern : (l ps : List Piece) (h : Joinable) → FormedPieces (reverse_aux l ps) → Bytes (pattern_bytes y h l)
  unfolding pattern_bytes piece_bytes
  whole_pattern [] ps h g = tt
  whole_pattern (element u k ∷ l) ps h g =
      whole_append (unit_bytes y h u ++ closure_bytes k) (pattern_bytes y (piece_leaves y (element u k)) l)
      (whole_append (unit_bytes y h u) (closure_bytes k) (whole_unit h u (formed_tail l (element u k ∷ ps) g).0) (whole_closure k)) (whole_pattern l (element u k ∷ ps) (piece_leaves y (element u k)) g)
  whole_pattern (start ∷ l) ps h g = (omega arith, whole_pattern l (start ∷ ps) (piece_leaves y start) g)
  whole_pattern (end ∷ l) ps h g = (omega arith, whole_pattern l (end ∷ ps) (piece_leaves y end) g)
  whole_pattern (left ∷ l) ps h g = (omega arith, whole_pattern l (left ∷ ps) (piece_leaves y left) g)
  whole_pattern (right ∷ l) ps h g = (omega arith, whole_pattern l (right ∷ ps) (piece_leaves y right) g)

  whole_text_lem : (t : List ℕ) → Bytes t → Bytes (text_bytes y t)
  unfolding text_bytes
  whole_text_lem [] g = tt
  whole_text_lem (b ∷ t) g = whole_append (byte (y.text_too b || among call_text_signs b) b) (text_bytes y t) (whole_byte _ b g.0) (whole_text_lem t g.1)

  whole_numbered : (i b n : ℕ) → Letter i → Byte b → Bytes (i ∷ b ∷ (digits n ++ (41 ∷ [])))
  unfolding digits
  whole_numbered i b n g h =
      let c : Byte i = omega (arith, g) in
      (c, (h, whole_append (digits n) (41 ∷ []) (whole_digits n n (omega arith)) (omega arith, tt)))

  whole_inner : (k : ℕ) (c : Call) → FormedCall k c → Bytes (inner_bytes (text_bytes y) c)
  unfolding inner_bytes digits
  whole_inner k (insert m i h) g = whole_append (name_bytes i h) (41 ∷ []) (whole_name i h g.names) (omega arith, tt)
  whole_inner k (store_tag n i h) g =
      whole_append (digits n) _ (whole_digits n n (omega arith)) (omega arith, whole_append (name_bytes i h) (41 ∷ []) (whole_name i h g.names) (omega arith, tt))
  whole_inner k (set_to m i n) g = whole_numbered i 61 n g.names (omega arith)
  whole_inner k (store_text i h t) g =
      whole_append (name_bytes i h) _ (whole_name i h g.names.0)
      (omega arith, whole_append (text_bytes y t) (58 ∷ 41 ∷ []) (whole_text_lem t g.names.1) (omega arith, (omega arith, tt)))
  whole_inner k (set_increment i n) g = whole_numbered i 44 n g.names (omega arith)
  whole_inner k (divide i n) g = whole_numbered i 58 n g.names (omega arith)

  whole_call : (k : ℕ) (c : Call) → FormedCall k c → Bytes (call_bytes (text_bytes y) c)
  unfolding call_bytes
  whole_call k c g = (mark_byte_lem (mark_of c), (omega arith, whole_inner k c g))

  whole_action : (k : ℕ) (a : Option Mark) (p : Action) → FormedAction k p → Bytes (action_bytes y a p)
  unfolding action_bytes digits
  whole_action k a (text b) g = whole_byte _ b g
  whole_action k a (tag n) g = (omega arith, whole_append (digits n) (125 ∷ []) (whole_digits n n (omega arith)) (omega arith, tt))
  whole_action k a (call c) g = whole_call k c g

  whole_replacement : (k : ℕ) (a : Option Mark) (ps : List Action) → FormedReplacement k ps → Bytes (replacement_bytes y a ps)
  unfolding replacement_bytes
  whole_replacement k a [] g = tt
  whole_replacement k a (p ∷ ps) g = whole_append (action_bytes y a p) (replacement_bytes y (action_leaves y p) ps) (whole_action k a p g.0) (whole_replacement k (action_leaves y p) ps g.1)

  whole_commands : (k : ℕ) (cs : List Call) → FormedCommands k cs → Bytes (commands_bytes (text_bytes y) cs)
  unfolding commands_bytes
  whole_commands k [] g = tt
  whole_commands k (c ∷ cs) g = whole_append (call_bytes (text_bytes y) c) (commands_bytes (text_bytes y) cs) (whole_call k c g.0.1) (whole_commands k cs g.1)

  pub whole_spelled : (m : Macro) → Formed m → Bytes (spelled y m)
  unfolding spelled symbol_sign
  whole_spelled m g = whole_append (commands_bytes (text_bytes y) m.before) _ (whole_commands 0 m.before g.before) (
    omega arith,
    whole_append (pattern_bytes y nothing m.pattern) _ (whole_pattern m.pattern [] nothing g.pattern.pieces) (
      omega arith,
      (
        by m.symbol,
        (
          omega arith,
          whole_append (replacement_bytes y none m.replacement) _ (whole_replacement _ none m.replacement g.replacement)
              (omega arith, whole_append (commands_bytes (text_bytes y) m.commands) (59 ∷ []) (whole_commands _ m.commands g.commands) (omega arith, tt)),
        ),
      ),
    ),
  )
    where
      by : (a : Symbol) → Byte (symbol_sign a)
      by equal = omega arith
      by less = omega arith
