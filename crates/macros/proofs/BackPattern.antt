-- A spelled pattern reads back as its pieces.
use mathlib.Core.Path.{ap, refl, ◌∙◌, ◌≡◌}
use mathlib.Core.Bool.{◌&&◌, Bool, and-false, false, true, ◌||◌}
use mathlib.Core.List.{◌++◌, List, [], append_assoc, reverse, reverse-reverse, reverse_aux, ◌∷◌}
use Prim.Native.Nat.{◌+◌, ◌-◌, ◌<◌, ℕ}
use native.Mathlib.Omega.{arith}
use lib.ListN.{length, length-reverse}
use lib.Dec.{eqb}
use borrow.Author.Tests.{eqb-true, le-leb, lt-ltb, ne_eqb}
use Rattle.macros.specs.Macro.{Mark, Member, PatternUnit, Piece, among, depth, digit, elements, is_range, ascii_lower, mark_byte, pick, tags, ascii_upper, within}
use Rattle.macros.specs.Macro.Closure.{once, one_or_more, zero_or_more}
use Rattle.macros.specs.Macro.Member.{range, single}
use Rattle.macros.specs.Macro.Mark.{counter, stack}
use Rattle.macros.specs.Macro.PatternUnit.{call_of, class, kind, literal}
use Rattle.macros.specs.Macro.Piece.{element, end, left, right, start}
use Rattle.macros.specs.Formed.{Between, FormedMember, FormedMembers, FormedPattern, FormedPieces, FormedUnit, Letter}
use Rattle.macros.specs.Read.{Joinable, Last, Part, breaks, class_end, closes, dashed, dashes, fresh, hold, members_at_end, kind_digit, members_byte, new_member, opened_byte, part_byte_by, pattern_byte, pattern_end, sign, signs, skips}
use Rattle.macros.specs.ReadSoFar.Joinable.{marked, nothing, query, starred, unit}
use Rattle.macros.specs.ReadSoFar.Last.{dash, free, member}
use Rattle.macros.specs.ReadSoFar.Part.{await_symbol, members, opened, pattern, pattern_call, pattern_called}
use Rattle.macros.specs.ReadSoFar.Step.{on}
use Rattle.macros.specs.Write.{byte, closure_bytes, escape_byte}
use Rattle.macros.specs.Spell.{Before, behind, joins, joins_class, needs, needs_class, none?}
use Rattle.macros.specs.Spell.Before.{a_range, a_single, bracket, tilde}
use Rattle.macros.specs.Spell.{class_signs}
use Rattle.macros.proofs.Tests.{absent, alnum, and_left, apart, clash, first_alnum, no_break, or_left, or_right, second_alnum, spared, spares}
use Rattle.macros.proofs.Styles.{Fair, Style, class_bytes, member_bytes, members_bytes, pattern_bytes, piece_bytes, piece_leaves, unit_bytes, unit_leaves}
use Rattle.macros.proofs.Readings.{Reads, escaped_escape, move, settled, then}
use Rattle.macros.proofs.Readings.Reads.{next, stay}

-- nothing joins: the byte acts on the settled pieces
settles : (h : Joinable) (ps : List Piece) (b : ℕ) → joins h b ≡ false → eqb b 42 ≡ false → pattern_byte h ps b ≡ fresh (settled h ps) b
unfolding joins pattern_byte closes settled pick
settles nothing ps b j e = refl
settles (unit u) ps b j e = simp e
settles (starred u) ps b j e = simp j
settles query ps b j e = simp (j, e)
settles (marked m) ps b j e = simp (j, e)

-- bytes that join nothing
pub loose : (h : Joinable) (b : ℕ) → kind_digit b ≡ false → eqb b 40 ≡ false → eqb b 45 ≡ false → joins h b ≡ false
unfolding joins
loose nothing b d e f = refl
loose (unit u) b d e f = refl
loose (starred u) b d e f = f
loose query b d e f = d
loose (marked m) b d e f = e

fresh_raw : (ps : List Piece) (b : ℕ) → among signs b ≡ false → fresh ps b ≡ on (pattern (hold b) ps)
unfolding fresh pick
fresh_raw ps b e = rw e

-- a byte that needs no `\` is none of these
pub record Plain (h : Joinable) (b : ℕ) : Type 0 where
  pub slash : eqb b 47 ≡ false
  pub sign : among signs b ≡ false
  pub star : eqb b 42 ≡ false
  pub joint : joins h b ≡ false

pub plain : (h : Joinable) (b : ℕ) → needs h b ≡ false → Plain h b
unfolding needs among signs
plain h b e =
    let m : among (47 ∷ signs) b ≡ false = or_left (among (47 ∷ signs) b) (joins h b) e in
    record {
      slash = absent (47 ∷ signs) b 47 m refl;
      sign = or_right (eqb b 47) (among signs b) m;
      star = absent (47 ∷ signs) b 42 m refl;
      joint = or_right (among (47 ∷ signs) b) (joins h b) e;
    }

read_escape : (h : Joinable) (ps : List Piece) (b : ℕ) → eqb b 110 ≡ false → eqb b 116 ≡ false
    → Reads (pattern h ps) (92 ∷ escape_byte b ∷ []) (pattern (unit (literal b)) (settled h ps))
unfolding skips part_byte_by fresh signs sign among breaks pick kind_digit within
read_escape h ps b f g =
    next refl (settles h ps 92 (loose h 92 refl refl refl) refl)
    (next refl (ap (λ (c : ℕ). on (pattern (unit (literal c)) (settled h ps))) (escaped_escape b f g)) stay)

read_raw : (h : Joinable) (ps : List Piece) (b : ℕ) → needs h b ≡ false → Reads (pattern h ps) (b ∷ []) (pattern (hold b) (settled h ps))
unfolding skips part_byte_by
read_raw h ps b e =
    let p = plain h b e in
    next p.slash (settles h ps b p.joint p.star ∙ fresh_raw (settled h ps) b p.sign) stay

-- `?` and `&` need no `\`, `n` and `t` neither
pub needs_free : (h : Joinable) (b : ℕ) → among (47 ∷ signs) b ≡ false → kind_digit b ≡ false → eqb b 40 ≡ false → eqb b 45 ≡ false → needs h b ≡ false
unfolding needs
needs_free h b m d e f = rw (m, loose h b d e f)

-- a byte that needs a `\` is held as a literal
held_literal : (h : Joinable) (b : ℕ) → needs h b ≡ true → hold b ≡ unit (literal b)
unfolding hold pick among signs kind_digit within
held_literal h b n =
    let never : (c : ℕ) → needs h c ≡ false → eqb b c ≡ false = λ c f. spares (needs h) b c f n in
    simp (
      never 63 (needs_free h 63 refl refl refl refl),
      never 38 (needs_free h 38 refl refl refl refl),
      never 35 (needs_free h 35 refl refl refl refl),
    )

module _ (y : Style) (fair : Fair y) where
  read_literal : (h : Joinable) (ps : List Piece) (b : ℕ) → Reads (pattern h ps) (unit_bytes y h (literal b)) (pattern (unit_leaves y (literal b)) (settled h ps))
  unfolding unit_bytes unit_leaves byte pick among signs kind_digit within
  read_literal h ps b = by (y.pattern_too b) (needs h b) refl refl
    where
      -- no style puts a `\` before n or t, and neither needs one
      escaping : (y.pattern_too b || needs h b) ≡ true → Reads (pattern h ps) (92 ∷ escape_byte b ∷ []) (pattern (unit (literal b)) (settled h ps))
      escaping e =
          let spare : (c : ℕ) → (y.pattern_too c || needs h c) ≡ false → eqb b c ≡ false = λ c f. spares (λ d. y.pattern_too d || needs h d) b c f e in
          read_escape h ps b (spare 110 (rw (fair.pattern_n, needs_free h 110 refl refl refl refl) refl)) (spare 116 (rw (fair.pattern_t, needs_free h 116 refl refl refl refl) refl))

      by : (p q : Bool) → y.pattern_too b ≡ p → needs h b ≡ q
          → Reads (pattern h ps) (byte (p || q) b) (pattern (pick p (unit (literal b)) (hold b)) (settled h ps))
      by true q e f = escaping (rw e refl)
      by false true e f = rw (held_literal h b f) (escaping (rw (e, f) refl))
      by false false e f = read_raw h ps b f

-- CLASS

members_raw : (ps : List Piece) (neg : Bool) (l : Last) (ms : List Member) (b : ℕ) → among class_signs b ≡ false
    → (eqb b 45 && dashes l) ≡ false → members_byte ps neg l ms b ≡ new_member ps neg l ms b
unfolding members_byte pick among
members_raw ps neg l ms b m e =
    simp (absent class_signs b 93 m refl, no_break class_signs b m refl refl refl, absent class_signs b 92 m refl, e)

-- what the spelling takes to stand before a member is what the reader holds
Fits : Before → Last → Type 0
Fits bracket free = Unit {0}
Fits bracket (member a) = ⊥
Fits bracket (dash a) = ⊥
Fits tilde free = Unit {0}
Fits tilde (member a) = ⊥
Fits tilde (dash a) = ⊥
Fits a_single free = ⊥
Fits a_single (member a) = Unit {0}
Fits a_single (dash a) = ⊥
Fits a_range free = Unit {0}
Fits a_range (member a) = ⊥
Fits a_range (dash a) = ⊥

-- a member that makes no range
new_single : (ps : List Piece) (neg : Bool) (c : Before) (l : Last) (ms : List Member) (a : ℕ) → Fits c l
    → new_member ps neg l ms a ≡ on (members ps neg (member a) (members_at_end l ms))
unfolding Fits new_member members_at_end
new_single ps neg c free ms a f = refl
new_single ps neg c (member x) ms a f = refl
new_single ps neg bracket (dash x) ms a f = absurd f
new_single ps neg tilde (dash x) ms a f = absurd f
new_single ps neg a_single (dash x) ms a f = absurd f
new_single ps neg a_range (dash x) ms a f = absurd f

no_dash_lem : (c : Before) (l : Last) (b : ℕ) → Fits c l → joins_class c false b ≡ false → (eqb b 45 && dashes l) ≡ false
unfolding Fits dashes joins_class
no_dash_lem bracket free b f j = simp and-false
no_dash_lem bracket (member a) b f j = absurd f
no_dash_lem bracket (dash a) b f j = absurd f
no_dash_lem tilde free b f j = simp and-false
no_dash_lem tilde (member a) b f j = absurd f
no_dash_lem tilde (dash a) b f j = absurd f
no_dash_lem a_single free b f j = absurd f
no_dash_lem a_single (member a) b f j = j
no_dash_lem a_single (dash a) b f j = absurd f
no_dash_lem a_range free b f j = simp and-false
no_dash_lem a_range (member a) b f j = absurd f
no_dash_lem a_range (dash a) b f j = absurd f

class_end_lem : (ps : List Piece) (neg : Bool) (l : Last) (ms : List Member) → 0 < length (members_at_end l ms)
    → Reads (members ps neg l ms) (93 ∷ []) (pattern (unit (class neg (reverse (members_at_end l ms)))) ps)
unfolding skips part_byte_by members_byte class_end pick
class_end_lem ps neg l ms h = next refl (by (members_at_end l ms) h) stay
  where
    by : (k : List Member) → 0 < length k → class_end ps neg k ≡ on (pattern (unit (class neg (reverse k))) ps)
    by [] h = absurd (omega arith)
    by (m ∷ k) h = refl

-- n and t need no `\` in a class
class_needs_n : (c : Before) (is_last : Bool) → needs_class c is_last 110 ≡ false
unfolding needs_class joins_class among
class_needs_n bracket is_last = refl
class_needs_n tilde is_last = refl
class_needs_n a_single is_last = refl
class_needs_n a_range is_last = refl

class_needs_t : (c : Before) (is_last : Bool) → needs_class c is_last 116 ≡ false
unfolding needs_class joins_class among
class_needs_t bracket is_last = refl
class_needs_t tilde is_last = refl
class_needs_t a_single is_last = refl
class_needs_t a_range is_last = refl

module _ (y : Style) (fair : Fair y) (ps : List Piece) (neg : Bool) where
  -- the class that has these members behind those
  abbrev Classed : List Member → List Member → Part
  Classed ms k = pattern (unit (class neg (reverse (reverse_aux ms k)))) ps

  escaped_member : (c : Before) (l : Last) (acc : List Member) (a : ℕ) → Fits c l → eqb a 110 ≡ false → eqb a 116 ≡ false
      → Reads (members ps neg l acc) (92 ∷ escape_byte a ∷ []) (members ps neg (member a) (members_at_end l acc))
  unfolding skips part_byte_by members_byte breaks among pick
  escaped_member c l acc a f g h =
      next refl refl (next refl (ap (new_member ps neg l acc) (escaped_escape a g h) ∙ new_single ps neg c l acc a f) stay)

  raw_member : (c : Before) (l : Last) (acc : List Member) (a : ℕ) → Fits c l → among class_signs a ≡ false → (eqb a 45 && dashes l) ≡ false
      → Reads (members ps neg l acc) (a ∷ []) (members ps neg (member a) (members_at_end l acc))
  unfolding skips part_byte_by
  raw_member c l acc a f m d = next refl (members_raw ps neg l acc a m d ∙ new_single ps neg c l acc a f) stay

  -- a dash at the end
  last_dash : (l : Last) (acc : List Member) (a : ℕ) → (eqb a 45 && dashes l) ≡ true → Reads (members ps neg l acc) (a ∷ 93 ∷ []) (Classed [] (single a ∷ members_at_end l acc))
  unfolding dashes members_at_end skips part_byte_by members_byte breaks among pick dashed class_end
  last_dash free acc a e = clash e (simp and-false)
  last_dash (dash x) acc a e = clash e (simp and-false)
  last_dash (member x) acc a e =
      let q : a ≡ 45 = eqb-true a 45 (and_left (eqb a 45) true e) in
      rw q (next refl refl (next refl refl stay))

  last_raw : (c : Before) (l : Last) (acc : List Member) (a : ℕ) → Fits c l → among class_signs a ≡ false → (d : Bool) → (eqb a 45 && dashes l) ≡ d
      → Reads (members ps neg l acc) (a ∷ 93 ∷ []) (Classed [] (single a ∷ members_at_end l acc))
  unfolding members_at_end
  last_raw c l acc a f m true e = last_dash l acc a e
  last_raw c l acc a f m false e = then (raw_member c l acc a f m e) (class_end_lem ps neg (member a) (members_at_end l acc) (omega arith))

  raw_single : (rest : List Member) (c : Before) (l : Last) (acc : List Member) (a : ℕ) → Fits c l → needs_class c (none? rest) a ≡ false
      → Reads (members ps neg (member a) (members_at_end l acc)) (members_bytes y a_single rest) (Classed rest (single a ∷ members_at_end l acc))
      → Reads (members ps neg l acc) (a ∷ members_bytes y a_single rest) (Classed rest (single a ∷ members_at_end l acc))
  unfolding needs_class none? members_bytes
  raw_single [] c l acc a f n ih = last_raw c l acc a f (or_left (among class_signs a) (joins_class c true a) n) (eqb a 45 && dashes l) refl
  raw_single (m ∷ rest) c l acc a f n ih =
      then (raw_member c l acc a f (or_left (among class_signs a) (joins_class c false a) n)
      (no_dash_lem c l a f (or_right (among class_signs a) (joins_class c false a) n))) ih

  escaped_single : (rest : List Member) (c : Before) (l : Last) (acc : List Member) (a : ℕ) → Fits c l → (y.class_too a || needs_class c (none? rest) a) ≡ true
      → Reads (members ps neg l acc) (92 ∷ escape_byte a ∷ []) (members ps neg (member a) (members_at_end l acc))
  escaped_single rest c l acc a f e =
      let spare : (d : ℕ) → (y.class_too d || needs_class c (none? rest) d) ≡ false → eqb a d ≡ false = λ d g. spares (λ b. y.class_too b || needs_class c (none? rest) b) a d g e in
      escaped_member c l acc a f (spare 110 (rw (fair.class_n, class_needs_n c (none? rest)) refl)) (spare 116 (rw (fair.class_t, class_needs_t c (none? rest)) refl))

  read_single : (rest : List Member) (c : Before) (l : Last) (acc : List Member) (a : ℕ) → Fits c l → (p q : Bool) → y.class_too a ≡ p → needs_class c (none? rest) a ≡ q
      → Reads (members ps neg (member a) (members_at_end l acc)) (members_bytes y a_single rest) (Classed rest (single a ∷ members_at_end l acc))
      → Reads (members ps neg l acc) (byte (p || q) a ++ members_bytes y a_single rest) (Classed rest (single a ∷ members_at_end l acc))
  unfolding byte
  read_single rest c l acc a f false false e n ih = raw_single rest c l acc a f n ih
  read_single rest c l acc a f true q e n ih = then (escaped_single rest c l acc a f (rw e refl)) ih
  read_single rest c l acc a f false true e n ih = then (escaped_single rest c l acc a f (rw (e, n) refl)) ih

  read_range : (c : Before) (l : Last) (acc : List Member) (a z : ℕ) → Fits c l → is_range a z ≡ true
      → Reads (members ps neg l acc) (a ∷ 45 ∷ z ∷ []) (members ps neg free (range a z ∷ members_at_end l acc))
  unfolding skips part_byte_by members_byte breaks among pick dashes dashed new_member members_at_end alnum digit ascii_upper ascii_lower within spared
  read_range c l acc a z f e =
      let p = first_alnum a z e in
      let q = second_alnum a z e in
      let d : eqb a 45 ≡ false = absent (45 ∷ []) a 45 (apart alnum (45 ∷ []) a p refl) refl in
      then (raw_member c l acc a f (apart alnum class_signs a p refl) (rw d refl))
      (next refl refl
      (next refl (members_raw ps neg (dash a) (members_at_end l acc) z (apart alnum class_signs z q refl) (simp and-false) ∙ rw e) stay))

  read_members : (ms : List Member) (c : Before) (l : Last) (acc : List Member) → Fits c l → FormedMembers ms → 0 < length (reverse_aux ms (members_at_end l acc))
      → Reads (members ps neg l acc) (members_bytes y c ms) (Classed ms (members_at_end l acc))
  unfolding members_bytes member_bytes behind members_at_end Fits
  read_members [] c l acc f g h = class_end_lem ps neg l acc h
  read_members (single a ∷ rest) c l acc f g h =
      read_single rest c l acc a f (y.class_too a) (needs_class c (none? rest) a) refl refl (read_members rest a_single (member a) (members_at_end l acc) tt g.1 h)
  read_members (range a z ∷ rest) c l acc f g h = then (read_range c l acc a z f g.0) (read_members rest a_range free (range a z ∷ members_at_end l acc) tt g.1 h)

-- the first byte is no `~`
Tilde-less : List ℕ → Type 0
Tilde-less [] = ⊥
Tilde-less (b ∷ w) = (eqb b 126 ≡ false)

tilde_more : (v w : List ℕ) → Tilde-less v → Tilde-less (v ++ w)
unfolding Tilde-less
tilde_more [] w h = absurd h
tilde_more (b ∷ v) w h = h

open_class : (ps : List Piece) (w : List ℕ) (t : Part) → Tilde-less w → Reads (members ps false free []) w t → Reads (opened ps) w t
unfolding Tilde-less skips part_byte_by opened_byte pick
open_class ps [] t h r = absurd h
open_class ps (b ∷ w) t h (next {st' = u} f e r) = move (opened ps) b u refl (rw h e) r

first_byte : (y : Style) (is_last : Bool) (m : Member) → FormedMember m → Tilde-less (member_bytes y bracket is_last m)
unfolding member_bytes Tilde-less byte needs_class joins_class alnum digit ascii_upper ascii_lower among within spared
first_byte y is_last (range a z) g = absent (126 ∷ []) a 126 (apart alnum (126 ∷ []) a (first_alnum a z g) refl) refl
first_byte y is_last (single a) g = by (y.class_too a) (needs_class bracket is_last a) refl
  where
    by : (p q : Bool) → needs_class bracket is_last a ≡ q → Tilde-less (byte (p || q) a)
    by true q e = refl
    by false true e = refl
    by false false e = or_right (among class_signs a) (eqb a 126) e

module _ (y : Style) (fair : Fair y) (h : Joinable) (ps : List Piece) where
  read_class : (neg : Bool) (ms : List Member) → 0 < length ms → FormedMembers ms
      → Reads (pattern h ps) (class_bytes y neg ms) (pattern (unit (class neg (reverse (reverse_aux ms [])))) (settled h ps))
  unfolding class_bytes skips part_byte_by fresh signs sign among breaks pick kind_digit within opened_byte members_at_end Fits members_bytes
  read_class true ms l g =
      next refl (settles h ps 91 (loose h 91 refl refl refl) refl)
      (next refl refl (read_members y fair (settled h ps) true ms tilde free [] tt g (rw (length-reverse ms) l)))
  read_class false [] l g = absurd (omega arith)
  read_class false (m ∷ ms) l g =
      next refl (settles h ps 91 (loose h 91 refl refl refl) refl)
      (open_class (settled h ps) _ _ (tilde_more (member_bytes y bracket (none? ms) m) _ (first_byte y (none? ms) m g.0))
      (read_members y fair (settled h ps) false (m ∷ ms) bracket free [] tt g (rw (length-reverse (m ∷ ms)) l)))

  read_kind : (k : ℕ) → Between 1 6 k → Reads (pattern h ps) (63 ∷ (48 + k) ∷ []) (pattern (unit (kind k)) (settled h ps))
  unfolding skips part_byte_by fresh signs sign among breaks pick kind_digit within hold pattern_byte
  read_kind k g =
      let e : 48 + k - 48 ≡ k = omega arith in
      next refl (settles h ps 63 (loose h 63 refl refl refl) refl)
      (move (pattern query (settled h ps)) (48 + k) (pattern (unit (kind k)) (settled h ps)) (ne_eqb (48 + k) 47 (omega arith)) (rw (le-leb 49 (48 + k) (omega arith), le-leb (48 + k) 54 (omega arith), e)) stay)

  read_mark : (m : Mark) → Reads (pattern h ps) (mark_byte m ∷ 40 ∷ []) (pattern_call m (settled h ps))
  unfolding mark_byte skips part_byte_by fresh signs sign among breaks pick kind_digit within hold pattern_byte
  read_mark stack = next refl (settles h ps 38 (loose h 38 refl refl refl) refl) (next refl refl stay)
  read_mark counter = next refl (settles h ps 35 (loose h 35 refl refl refl) refl) (next refl refl stay)

  read_call_of : (m : Mark) (i : ℕ) → Letter i → Reads (pattern h ps) (mark_byte m ∷ 40 ∷ i ∷ 41 ∷ []) (pattern (unit (call_of m i)) (settled h ps))
  unfolding skips part_byte_by pick within ascii_lower
  read_call_of m i g =
      then (read_mark m)
      (move (pattern_call m (settled h ps)) i (pattern_called m (settled h ps) i) (ne_eqb i 47 (omega arith)) (rw (le-leb 97 i g.0, le-leb i 122 g.1)) (next refl refl stay))

  read_unit : (u : PatternUnit) → FormedUnit u → Reads (pattern h ps) (unit_bytes y h u) (pattern (unit_leaves y u) (settled h ps))
  unfolding unit_bytes unit_leaves
  read_unit (literal b) g = read_literal y fair h ps b
  read_unit (kind k) g = read_kind k g
  read_unit (class neg ms) g = rw (reverse-reverse ms) at (read_class neg ms g.0 g.1)
  read_unit (call_of m i) g = read_call_of m i g

-- what is held behind a literal, by cases
pub held_by : (P : Joinable → Type 0) (b : ℕ) → (b ≡ 63 → P query) → ((m : Mark) → b ≡ mark_byte m → P (marked m)) → P (unit (literal b)) → P (hold b)
unfolding hold pick mark_byte
held_by P b q a u = by (eqb b 63) (eqb b 38) (eqb b 35) refl refl refl
  where
    by : (x y z : Bool) → eqb b 63 ≡ x → eqb b 38 ≡ y → eqb b 35 ≡ z → P (hold b)
    by true y z e f g = rw e (q (eqb-true b 63 e))
    by false true z e f g = rw (e, f) (a stack (eqb-true b 38 f))
    by false false true e f g = rw (e, f, g) (a counter (eqb-true b 35 g))
    by false false false e f g = rw (e, f, g) u

leaves_by : (y : Style) (P : Joinable → Type 0) (b : ℕ) → (b ≡ 63 → P query) → ((m : Mark) → b ≡ mark_byte m → P (marked m)) → P (unit (literal b)) → P (unit_leaves y (literal b))
unfolding unit_leaves pick
leaves_by y P b q a u = by (y.pattern_too b)
  where
    by : (x : Bool) → P (pick x (unit (literal b)) (hold b))
    by true = u
    by false = held_by P b q a u

-- a unit settles as itself
settled_unit : (y : Style) (u : PatternUnit) (ps : List Piece) → settled (unit_leaves y u) ps ≡ element u once ∷ ps
unfolding unit_leaves settled
settled_unit y (literal b) ps =
    leaves_by y (λ (h : Joinable). settled h ps ≡ element (literal b) once ∷ ps) b (λ e. rw e) (λ m e. rw e) refl
settled_unit y (kind k) ps = refl
settled_unit y (class neg ms) ps = refl
settled_unit y (call_of m i) ps = refl

-- and takes a closure
star_unit : (y : Style) (u : PatternUnit) (ps : List Piece) → pattern_byte (unit_leaves y u) ps 42 ≡ on (pattern (starred u) ps)
unfolding unit_leaves pattern_byte closes pick kind_digit within
star_unit y (literal b) ps =
    leaves_by y (λ (h : Joinable). pattern_byte h ps 42 ≡ on (pattern (starred (literal b)) ps)) b (λ e. rw e) (λ m e. rw e) refl
star_unit y (kind k) ps = refl
star_unit y (class neg ms) ps = refl
star_unit y (call_of m i) ps = refl

-- the pieces before the one that may still be joined
before_piece : Piece → List Piece → List Piece
before_piece (element u once) ps = ps
before_piece (element u one_or_more) ps = ps
before_piece (element u zero_or_more) ps = element u zero_or_more ∷ ps
before_piece start ps = start ∷ ps
before_piece end ps = end ∷ ps
before_piece left ps = left ∷ ps
before_piece right ps = right ∷ ps

settled_piece : (y : Style) (p : Piece) (ps : List Piece) → settled (piece_leaves y p) (before_piece p ps) ≡ p ∷ ps
unfolding before_piece piece_leaves settled
settled_piece y (element u once) ps = settled_unit y u ps
settled_piece y (element u one_or_more) ps = refl
settled_piece y (element u zero_or_more) ps = refl
settled_piece y start ps = refl
settled_piece y end ps = refl
settled_piece y left ps = refl
settled_piece y right ps = refl

pub formed_tail : (l ps : List Piece) → FormedPieces (reverse_aux l ps) → FormedPieces ps
formed_tail [] ps g = g
formed_tail (element u k ∷ l) ps g = (formed_tail l (element u k ∷ ps) g).1
formed_tail (start ∷ l) ps g = formed_tail l (start ∷ ps) g
formed_tail (end ∷ l) ps g = formed_tail l (end ∷ ps) g
formed_tail (left ∷ l) ps g = (formed_tail l (left ∷ ps) g).1
formed_tail (right ∷ l) ps g = (formed_tail l (right ∷ ps) g).1

module _ (y : Style) (fair : Fair y) where
  read_piece : (h : Joinable) (ps : List Piece) (p : Piece) → FormedPieces (p ∷ settled h ps)
      → Reads (pattern h ps) (piece_bytes y h p) (pattern (piece_leaves y p) (before_piece p (settled h ps)))
  unfolding piece_bytes closure_bytes piece_leaves before_piece skips part_byte_by fresh signs sign among breaks pick kind_digit within pattern_byte
  read_piece h ps (element u once) g = then (read_unit y fair h ps u g.0) stay
  read_piece h ps (element u one_or_more) g = then (read_unit y fair h ps u g.0) (next refl (star_unit y u (settled h ps)) stay)
  read_piece h ps (element u zero_or_more) g = then (read_unit y fair h ps u g.0) (next refl (star_unit y u (settled h ps)) (next refl refl stay))
  read_piece h ps start g = next refl (settles h ps 94 (loose h 94 refl refl refl) refl) stay
  read_piece h ps end g = next refl (settles h ps 36 (loose h 36 refl refl refl) refl) stay
  read_piece h ps left g =
      move (pattern h ps) 123 (pattern nothing (left ∷ settled h ps)) refl
      (settles h ps 123 (loose h 123 refl refl refl) refl ∙ rw (lt-ltb (tags (settled h ps)) 99 g.0)) stay
  read_piece h ps right g =
      move (pattern h ps) 125 (pattern nothing (right ∷ settled h ps)) refl
      (settles h ps 125 (loose h 125 refl refl refl) refl ∙ rw (lt-ltb 0 (depth (settled h ps)) g.0)) stay

  pub read_pattern : (l : List Piece) (h : Joinable) (ps : List Piece) → FormedPattern (reverse_aux l (settled h ps))
      → Reads (pattern h ps) (pattern_bytes y h l ++ (39 ∷ [])) (await_symbol (reverse_aux l (settled h ps)))
  unfolding pattern_bytes skips part_byte_by fresh signs sign among breaks pick kind_digit within pattern_end
  read_pattern [] h ps g =
      move (pattern h ps) 39 (await_symbol (settled h ps)) refl
      (settles h ps 39 (loose h 39 refl refl refl) refl ∙ rw (g.shut, lt-ltb 0 (elements (settled h ps)) g.some_element)) stay
  read_pattern (p ∷ l) h ps g =
      let e = settled_piece y p (settled h ps) in
      let r : Reads (pattern (piece_leaves y p) (before_piece p (settled h ps))) (pattern_bytes y (piece_leaves y p) l ++ (39 ∷ [])) (await_symbol (reverse_aux l (p ∷ settled h ps))) =
      rw e at (read_pattern l (piece_leaves y p) (before_piece p (settled h ps)) (rw e g)) in
      rw append_assoc (then (read_piece h ps p (formed_tail l (p ∷ settled h ps) g.pieces)) r)
