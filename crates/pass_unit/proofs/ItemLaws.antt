-- The items of a pattern from a place on: which piece begins there, and where the next one does.
-- Assumes nothing.
use Prim.Native.Nat.{ℕ, ◌+◌, ◌-◌, ◌%◌, ◌≤◌}
use mathlib.Core.Path.{◌≡◌, refl, sym, ap, ◌∙◌}
use mathlib.Core.Bool.{Bool, true, false, false≢true, ◌||◌}
use mathlib.Core.List.{List, [], ◌∷◌, ◌++◌, append_assoc}
use native.Mathlib.Nat.{add-zero}
use native.Mathlib.Omega.{arith}
use lib.Dec.{eqb}
use lib.ListN.{length, get_or, drop, length-append, length-drop}
use lib.Seq.{drop_at, drop-drop, get_or-drop, drop-append_seam}
use Rattle.macros.specs.Macro.{Member, Piece, within}
use Rattle.macros.specs.Macro.Member.{single, range}
use Rattle.macros.specs.Macro.Mark.{stack, counter}
use Rattle.macros.specs.Macro.PatternUnit.{literal, kind, class, call_of}
use Rattle.macros.specs.Macro.Piece.{element, start, end, left, right}
use Rattle.form_table.specs.Form.{member_items, members_items, unit_rest, piece_items, pattern_items}
use Rattle.lines.specs.Matching.{is_member}
use Rattle.pass_unit.specs.Pattern.{FormedUnits, IsRest}
use Rattle.form_element.specs.Element.{code_unit, element_of, SomePiece, AnyPiece}
use Rattle.pass_unit.specs.Pieces.{members_of, Lettered, Stands, IsUnit, IsElement, Members, SomeMembers, FirstMember}
use Rattle.form_element.specs.declared.Element.{Element}
use Rattle.form_element.specs.declared.Unit.{Unit as CodeUnit}
use Rattle.form_element.specs.declared.Unit.TheVariants.{Literal, Kind, Class, ClassNot, StackCall, CounterCall, Start, End, Left, Right}

-- a list that begins at a place
module _ (l : List ℕ) (i : ℕ) (v : List ℕ) (e : v ≡ drop i l) where
  pub peek : (k : ℕ) → get_or l (i + k) 0 ≡ get_or v k 0
  peek k = sym (get_or-drop i l k 0) ∙ ap (λ (x : List ℕ). get_or x k 0) (sym e)

  pub peek_first : get_or l i 0 ≡ get_or v 0 0
  peek_first = ap (λ (j : ℕ). get_or l j 0) (sym (add-zero i)) ∙ peek 0

  pub long : length v ≡ length l - i
  long = ap length e ∙ length-drop i l

  pub onward : (a r : List ℕ) → v ≡ a ++ r → r ≡ drop (i + length a) l
  onward a r f = sym (drop-append_seam a r) ∙ ap (drop (length a)) (sym f ∙ e) ∙ drop-drop (length a) i l

-- THE REST OF A PATTERN

items_append : (a b : List Piece) → pattern_items (a ++ b) ≡ pattern_items a ++ pattern_items b
unfolding pattern_items
items_append [] b = refl
items_append (e ∷ a) b = rw (items_append a b) (sym (append_assoc (piece_items e) (pattern_items a) (pattern_items b)))

formed_rest : (a b : List Piece) → FormedUnits (a ++ b) → FormedUnits b
formed_rest [] b f = f
formed_rest (element u c ∷ a) b f = formed_rest a b f.1
formed_rest (start ∷ a) b f = formed_rest a b f
formed_rest (end ∷ a) b f = formed_rest a b f
formed_rest (left ∷ a) b f = formed_rest a b f
formed_rest (right ∷ a) b f = formed_rest a b f

members_even : (ms : List Member) → (length (members_items ms) % 2 ≡ 0) × (2 ≤ length (members_items ms))
unfolding members_items member_items
members_even [] = (refl, omega arith)
members_even (single c ∷ ms) = let h = members_even ms in (omega arith, omega arith)
members_even (range a z ∷ ms) = let h = members_even ms in (omega arith, omega arith)

pub piece_even : (e : Piece) → (length (piece_items e) % 2 ≡ 0) × (2 ≤ length (piece_items e))
unfolding piece_items unit_rest
piece_even (element (literal b) c) = (refl, omega arith)
piece_even (element (kind n) c) = (refl, omega arith)
piece_even (element (class neg ms) c) = let h = members_even ms in (omega arith, omega arith)
piece_even (element (call_of m i) c) = (refl, omega arith)
piece_even start = (refl, omega arith)
piece_even end = (refl, omega arith)
piece_even left = (refl, omega arith)
piece_even right = (refl, omega arith)

pattern_even : (es : List Piece) → length (pattern_items es) % 2 ≡ 0
unfolding pattern_items
pattern_even [] = refl
pattern_even (e ∷ es) =
    let h = piece_even e in
    let k = pattern_even es in
    let l = length-append (piece_items e) (pattern_items es) in
    omega arith

module _ (items : List ℕ) (at : ℕ) (es : List Piece) (r : IsRest items at es) where
  pub rest_items : pattern_items es ≡ drop at items
  rest_items = sym (drop_at (pattern_items r.prior) (pattern_items es) at r.place) ∙ ap (drop at) (sym (items_append r.prior es) ∙ r.whole.form)

  pub rest_long : at + length (pattern_items es) ≡ length items
  rest_long =
      let l = length-append (pattern_items r.prior) (pattern_items es) in
      let k = ap length (sym (items_append r.prior es) ∙ r.whole.form) in
      let p = r.place in
      omega arith

  pub rest_even : at % 2 ≡ 0
  rest_even = let h = pattern_even r.prior in let p = r.place in omega arith

module _ (items : List ℕ) (at : ℕ) (e : Piece) (es : List Piece) (r : IsRest items at (e ∷ es)) where
  pub rest_next : IsRest items (at + length (piece_items e)) es
  unfolding pattern_items
  rest_next = record {
    prior = r.prior ++ (e ∷ []);
    whole = rw (append_assoc r.prior (e ∷ []) es) r.whole;
    place =
        let a = items_append r.prior (e ∷ []) in
        let l = length-append (pattern_items r.prior) (piece_items e ++ []) in
        let k = length-append (piece_items e) [] in
        let p = r.place in
        ap length a ∙ omega arith;
  }

  pub rest_inside : (at + length (piece_items e) ≤ length items) × (at + 2 ≤ length items)
  unfolding pattern_items
  rest_inside =
      let l = rest_long items at (e ∷ es) r in
      let k = length-append (piece_items e) (pattern_items es) in
      let h = piece_even e in
      (omega arith, omega arith)

  rest_letter : Lettered (code_unit e)
  rest_letter = go e (formed_rest r.prior (e ∷ es) r.whole.formed)
    where
      go : (x : Piece) → FormedUnits (x ∷ es) → Lettered (code_unit x)
      go (element (literal b) c) f = tt
      go (element (kind n) c) f = tt
      go (element (class false ms) c) f = tt
      go (element (class true ms) c) f = tt
      go (element (call_of stack i) c) f = f.0
      go (element (call_of counter i) c) f = f.0
      go start f = tt
      go end f = tt
      go left f = tt
      go right f = tt

-- nothing is left at the items' end, and something before it
pub rest_end : (items : List ℕ) (at : ℕ) (es : List Piece) → IsRest items at es → at ≡ length items → es ≡ []
rest_end items at [] r h = refl
rest_end items at (e ∷ es) r h = absurd (let l = rest_inside items at e es r in omega arith)

pub rest_more : (items : List ℕ) (at : ℕ) (es : List Piece) → IsRest items at es → (at ≡ length items → ⊥) → Stands items at
unfolding pattern_items
rest_more items at [] r h = absurd (h (let l = rest_long items at [] r in omega arith))
rest_more items at (e ∷ es) r h = record { piece = e; pieces = es; is = r }

-- ITS ELEMENT

module _ (items : List ℕ) (at : ℕ) (s : Stands items at) where
  pub piece_here : SomePiece items at
  unfolding pattern_items
  piece_here = record { piece = s.piece; behind = pattern_items s.pieces; is = rest_items items at (s.piece ∷ s.pieces) s.is }

  pub element_is : (x : Element) → AnyPiece items at (λ p. x ≡ element_of p) → IsElement items at x
  unfolding pattern_items
  element_is x f =
      record {
        unit = record { stands = s; unit = is_unit; letter = rw (← is_unit s.piece s.pieces s.is) (rest_letter items at s.piece s.pieces s.is) };
        closure = λ e es r. sym (ap (λ (y : Element). y.closure) (same e es r));
      }
    where
      same : (e : Piece) (es : List Piece) → IsRest items at (e ∷ es) → x ≡ element_of e
      same e es r = f e (pattern_items es) (rest_items items at (e ∷ es) r)

      is_unit : (e : Piece) (es : List Piece) → IsRest items at (e ∷ es) → code_unit e ≡ x.unit
      is_unit e es r = sym (ap (λ (y : Element). y.unit) (same e es r))

-- CLASSES

abbrev pub has_members : CodeUnit → Bool
has_members (Literal c) = false
has_members (Kind n) = false
has_members Class = true
has_members ClassNot = true
has_members (StackCall i) = false
has_members (CounterCall i) = false
has_members Start = false
has_members End = false
has_members Left = false
has_members Right = false

class_items_lem : (e : Piece) → has_members (code_unit e) ≡ true → (c b : ℕ) × (piece_items e ≡ c ∷ b ∷ members_items (members_of e))
unfolding piece_items unit_rest
class_items_lem (element (literal b) c) h = absurd (false≢true h)
class_items_lem (element (kind n) c) h = absurd (false≢true h)
class_items_lem (element (class false ms) c) h = (_, _, refl)
class_items_lem (element (class true ms) c) h = (_, _, refl)
class_items_lem (element (call_of stack i) c) h = absurd (false≢true h)
class_items_lem (element (call_of counter i) c) h = absurd (false≢true h)
class_items_lem start h = absurd (false≢true h)
class_items_lem end h = absurd (false≢true h)
class_items_lem left h = absurd (false≢true h)
class_items_lem right h = absurd (false≢true h)

plain_items : (e : Piece) → has_members (code_unit e) ≡ false → length (piece_items e) ≡ 2
unfolding piece_items unit_rest
plain_items (element (literal b) c) h = refl
plain_items (element (kind n) c) h = refl
plain_items (element (class false ms) c) h = absurd (false≢true (sym h))
plain_items (element (class true ms) c) h = absurd (false≢true (sym h))
plain_items (element (call_of stack i) c) h = refl
plain_items (element (call_of counter i) c) h = refl
plain_items start h = refl
plain_items end h = refl
plain_items left h = refl
plain_items right h = refl

module _ (items : List ℕ) (at : ℕ) (u : CodeUnit) (is : IsUnit items at u) where
  pub unit_inside : at + 2 ≤ length items
  unit_inside = (rest_inside items at is.stands.piece is.stands.pieces is.stands.is).1

  class_at : has_members u ≡ true → (e : Piece) (es : List Piece) (r : IsRest items at (e ∷ es)) → Members items (at + 2) (members_of e) (pattern_items es) × (length (piece_items e) ≡ 2 + length (members_items (members_of e)))
  unfolding pattern_items
  class_at h e es r =
      let k = class_items_lem e (ap has_members (is.unit e es r) ∙ h) in
      let i = rest_items items at (e ∷ es) r in
      (onward items at (pattern_items (e ∷ es)) i (k.0 ∷ k.1 ∷ []) (members_items (members_of e) ++ pattern_items es) (ap (λ (x : List ℕ). x ++ pattern_items es) k.2), (let z = ap length k.2 in omega arith))

  pub class_some : has_members u ≡ true → SomeMembers items (at + 2)
  class_some h = record { members = members_of is.stands.piece; behind = pattern_items is.stands.pieces; is = (class_at h is.stands.piece is.stands.pieces is.stands.is).0 }

  pub class_members : has_members u ≡ true → (e : Piece) (es : List Piece) → IsRest items at (e ∷ es) → Members items (at + 2) (members_of e) (pattern_items es)
  class_members h e es r = (class_at h e es r).0

  pub behind_class : has_members u ≡ true → (n : ℕ) → ((ms : List Member) (r : List ℕ) → Members items (at + 2) ms r → n ≡ at + 2 + length (members_items ms)) → (e : Piece) (es : List Piece) → IsRest items at (e ∷ es) → n ≡ at + length (piece_items e)
  behind_class h n f e es r =
      let a = f (members_of e) (pattern_items es) (class_members h e es r) in
      let b = (class_at h e es r).1 in
      omega arith

  pub behind_plain : has_members u ≡ false → (e : Piece) (es : List Piece) → IsRest items at (e ∷ es) → at + 2 ≡ at + length (piece_items e)
  behind_plain h e es r = let a = plain_items e (ap has_members (is.unit e es r) ∙ h) in omega arith

-- MEMBERS

member_split : (m : Member) (ms : List Member) (r : List ℕ) → members_items (m ∷ ms) ++ r ≡ member_items m ++ (members_items ms ++ r)
unfolding members_items
member_split m ms r = append_assoc (member_items m) (members_items ms) r

first_long : (m : Member) (ms : List Member) → length (members_items (m ∷ ms)) ≡ length (member_items m) + length (members_items ms)
unfolding members_items
first_long m ms = length-append (member_items m) (members_items ms)

member_wide : (m : Member) → 2 ≤ length (member_items m)
unfolding member_items
member_wide (single c) = omega arith
member_wide (range a z) = omega arith

or_false : (x : Bool) → (x || false) ≡ x
or_false true = refl
or_false false = refl

pub member_cons : (m : Member) (ms : List Member) (b : ℕ) → is_member (m ∷ ms) b ≡ (is_member (m ∷ []) b || is_member ms b)
unfolding is_member
member_cons (single c) ms b = ap (λ (x : Bool). x || is_member ms b) (sym (or_false (eqb b c)))
member_cons (range a z) ms b = ap (λ (x : Bool). x || is_member ms b) (sym (or_false (within a z b)))

module _ (items : List ℕ) (i : ℕ) where
  pub members_next : (m : Member) (ms : List Member) (r : List ℕ) → Members items i (m ∷ ms) r → Members items (i + length (member_items m)) ms r
  members_next m ms r h = onward items i (members_items (m ∷ ms) ++ r) h (member_items m) (members_items ms ++ r) (member_split m ms r)

  members_inside : (ms : List Member) (r : List ℕ) → Members items i ms r → (i + length (members_items ms) ≤ length items) × (i + 2 ≤ length items)
  members_inside ms r h =
      let a = long items i (members_items ms ++ r) h in
      let b = length-append (members_items ms) r in
      let c = members_even ms in
      (omega arith, omega arith)

  pub some_inside : SomeMembers items i → i + 2 ≤ length items
  some_inside s = (members_inside s.members s.behind s.is).1

  pub first_inside : (s : FirstMember items i) → i + length (member_items s.member) + 2 ≤ length items
  first_inside s =
      let a = (members_inside (s.member ∷ s.members) s.behind s.is).0 in
      let b = first_long s.member s.members in
      let c = members_even s.members in
      omega arith

  -- what stands at the place
  pub none_left : get_or items i 0 ≡ 35 → (ms : List Member) (r : List ℕ) → Members items i ms r → ms ≡ []
  unfolding members_items member_items
  none_left e [] r h = refl
  none_left e (single c ∷ ms) r h = absurd (let p = peek_first items i (members_items (single c ∷ ms) ++ r) h in omega arith)
  none_left e (range a z ∷ ms) r h = absurd (let p = peek_first items i (members_items (range a z ∷ ms) ++ r) h in omega arith)

  not_none : (get_or items i 0 ≡ 35 → ⊥) → (r : List ℕ) → Members items i [] r → ⊥
  unfolding members_items
  not_none e r h = e (peek_first items i (members_items [] ++ r) h)

  pub at_single_lem : (b : ℕ) → get_or items i 0 ≡ 32 → (m : Member) (ms : List Member) (r : List ℕ) → Members items i (m ∷ ms) r → (eqb b (get_or items (i + 1) 0) ≡ is_member (m ∷ []) b) × (2 ≡ length (member_items m))
  unfolding members_items member_items is_member
  at_single_lem b e (single c) ms r h = (ap (eqb b) (peek items i (members_items (single c ∷ ms) ++ r) h 1) ∙ sym (or_false (eqb b c)), refl)
  at_single_lem b e (range a z) ms r h = absurd (let p = peek_first items i (members_items (range a z ∷ ms) ++ r) h in omega arith)

  pub at_range_lem : (b : ℕ) → (get_or items i 0 ≡ 32 → ⊥) → (m : Member) (ms : List Member) (r : List ℕ) → Members items i (m ∷ ms) r
      → (within (get_or items (i + 1) 0) (get_or items (i + 3) 0) b ≡ is_member (m ∷ []) b) × (4 ≡ length (member_items m))
  unfolding members_items member_items is_member
  at_range_lem b e (single c) ms r h = absurd (e (peek_first items i (members_items (single c ∷ ms) ++ r) h))
  at_range_lem b e (range a z) ms r h =
      (rw (peek items i (members_items (range a z ∷ ms) ++ r) h 1, peek items i (members_items (range a z ∷ ms) ++ r) h 3) (sym (or_false (within a z b))), refl)

-- a walk over the members from a place: what holds of all of them and of those left at i
pub record Walked (items : List ℕ) (from i : ℕ) (P : List Member → List Member → Type 0) : Type 0 where
  pub some : SomeMembers items i
  pub same : (ms : List Member) (r : List ℕ) → Members items from ms r → (ms' : List Member) × Members items i ms' r × P ms ms'

pub walked_start : (items : List ℕ) (from : ℕ) (P : List Member → List Member → Type 0) → SomeMembers items from → ((ms : List Member) → P ms ms) → Walked items from from P
walked_start items from P s p = record { some = s; same = λ ms r h. (ms, h, p ms) }

module _ (items : List ℕ) (from i : ℕ) (P : List Member → List Member → Type 0) (k : Walked items from i P) where
  pub walked_inside : i + 2 ≤ length items
  walked_inside = some_inside items i k.some

  pub walked_end : get_or items i 0 ≡ 35 → (ms : List Member) (r : List ℕ) → Members items from ms r → P ms []
  walked_end e ms r h = let s = k.same ms r h in rw (none_left items i e s.0 r s.1) at s.2

  module _ (e : get_or items i 0 ≡ 35 → ⊥) where
    pub walked_first : FirstMember items i
    walked_first = go k.some.members k.some.is
      where
        go : (ms : List Member) → Members items i ms k.some.behind → FirstMember items i
        go [] h = absurd (not_none items i e k.some.behind h)
        go (m ∷ ms) h = record { member = m; members = ms; behind = k.some.behind; is = h }

    -- what holds of all of them and of the first that is left
    pub walked_here : (Q : List Member → Type 0) → ((ms₀ : List Member) (m : Member) (ms : List Member) (r : List ℕ) → Members items i (m ∷ ms) r → P ms₀ (m ∷ ms) → Q ms₀)
        → (ms : List Member) (r : List ℕ) → Members items from ms r → Q ms
    walked_here Q f ms r h = go (k.same ms r h).0 (k.same ms r h).1 (k.same ms r h).2
      where
        go : (ms' : List Member) → Members items i ms' r → P ms ms' → Q ms
        go [] g p = absurd (not_none items i e r g)
        go (m ∷ ms') g p = f ms m ms' r g p

    pub walked_next : (n : ℕ) (Q : List Member → List Member → Type 0) → ((m : Member) (ms : List Member) (r : List ℕ) → Members items i (m ∷ ms) r → n ≡ length (member_items m))
        → ((ms₀ : List Member) (m : Member) (ms : List Member) (r : List ℕ) → Members items i (m ∷ ms) r → P ms₀ (m ∷ ms) → Q ms₀ ms) → Walked items from (i + n) Q
    walked_next n Q f g = record {
      some = let s = walked_first in record { members = s.members; behind = s.behind; is = on s.member s.members s.behind s.is };
      same = λ ms r h. go ms r (k.same ms r h).0 (k.same ms r h).1 (k.same ms r h).2;
    }
      where
        on : (m : Member) (ms : List Member) (r : List ℕ) → Members items i (m ∷ ms) r → Members items (i + n) ms r
        on m ms r h = rw (f m ms r h) (members_next items i m ms r h)

        go : (ms₀ : List Member) (r : List ℕ) (ms : List Member) → Members items i ms r → P ms₀ ms → (ms' : List Member) × Members items (i + n) ms' r × Q ms₀ ms'
        go ms₀ r [] h p = absurd (not_none items i e r h)
        go ms₀ r (m ∷ ms) h p = (ms, on m ms r h, g ms₀ m ms r h p)

module _ (items : List ℕ) (from i : ℕ) (P : List Member → List Member → Type 0) (k : Walked items from i P) (e : get_or items i 0 ≡ 35 → ⊥)
    (n : ℕ) (f : (m : Member) (ms : List Member) (r : List ℕ) → Members items i (m ∷ ms) r → n ≡ length (member_items m)) where
  pub step_inside : (i + n + 2 ≤ length items) × (2 ≤ n)
  step_inside =
      let s = walked_first items from i P k e in
      let a = first_inside items i s in
      let b = f s.member s.members s.behind s.is in
      let c = member_wide s.member in
      (omega arith, omega arith)

-- whether b is among them
abbrev pub Alike : ℕ → List Member → List Member → Type 0
Alike b ms ms' = is_member ms b ≡ is_member ms' b

module _ (items : List ℕ) (from i b : ℕ) (k : Walked items from i (Alike b)) where
  pub not_found : get_or items i 0 ≡ 35 → (ms : List Member) (r : List ℕ) → Members items from ms r → false ≡ is_member ms b
  unfolding is_member
  not_found e ms r h = sym (walked_end items from i (Alike b) k e ms r h)

  module _ (e : get_or items i 0 ≡ 35 → ⊥) (x : Bool) (is : (m : Member) (ms : List Member) (r : List ℕ) → Members items i (m ∷ ms) r → x ≡ is_member (m ∷ []) b) where
    first_is : (y : Bool) → x ≡ y → (ms₀ : List Member) (m : Member) (ms : List Member) (r : List ℕ) → Members items i (m ∷ ms) r → Alike b ms₀ (m ∷ ms) → is_member ms₀ b ≡ (y || is_member ms b)
    first_is y g ms₀ m ms r h p = p ∙ member_cons m ms b ∙ ap (λ (z : Bool). z || is_member ms b) (sym (is m ms r h) ∙ g)

    pub found_here : x ≡ true → (ms : List Member) (r : List ℕ) → Members items from ms r → true ≡ is_member ms b
    found_here g = walked_here items from i (Alike b) k e (λ ms. true ≡ is_member ms b) (λ ms₀ m ms r h p. sym (first_is true g ms₀ m ms r h p))

    pub not_here : x ≡ false → (n : ℕ) → ((m : Member) (ms : List Member) (r : List ℕ) → Members items i (m ∷ ms) r → n ≡ length (member_items m)) → Walked items from (i + n) (Alike b)
    not_here g n f = walked_next items from i (Alike b) k e n (Alike b) f (first_is false g)

-- where they end
abbrev pub Ahead : ℕ → ℕ → List Member → List Member → Type 0
Ahead from i ms ms' = from + length (members_items ms) ≡ i + length (members_items ms')

module _ (items : List ℕ) (from i : ℕ) (k : Walked items from i (Ahead from i)) where
  pub members_ended : get_or items i 0 ≡ 35 → (ms : List Member) (r : List ℕ) → Members items from ms r → i + 2 ≡ from + length (members_items ms)
  unfolding members_items
  members_ended e ms r h = sym (walked_end items from i (Ahead from i) k e ms r h)

  pub members_on : (get_or items i 0 ≡ 35 → ⊥) → (n : ℕ) → ((m : Member) (ms : List Member) (r : List ℕ) → Members items i (m ∷ ms) r → n ≡ length (member_items m)) → Walked items from (i + n) (Ahead from (i + n))
  members_on e n f =
      walked_next items from i (Ahead from i) k e n (Ahead from (i + n)) f
      (λ ms₀ m ms r h p. let a = first_long m ms in let b = f m ms r h in omega arith)
