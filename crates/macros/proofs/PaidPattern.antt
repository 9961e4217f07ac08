-- A byte of a pattern or a class: what has been read is paid for, and stays well formed.
use mathlib.Core.Path.{refl, ◌∙◌, ◌≡◌}
use mathlib.Core.Bool.{◌&&◌, Bool, and-false, false, true, ◌||◌}
use mathlib.Core.List.{List, [], reverse, reverse_aux, ◌∷◌}
use Prim.Native.Nat.{◌+◌, ◌-◌, suc, ℕ, ◌≤◌}
use native.Mathlib.Nat.{add-zero}
use native.Mathlib.Omega.{arith}
use lib.ListN.{length, length-append, length-reverse}
use lib.Dec.{eqb}
use borrow.Author.Tests.{eqb-true, ltb-true}
use Rattle.macros.specs.Macro.{Mark, Member, Piece, among, depth, elements, mark_byte, pick, tags, within}
use Rattle.macros.specs.Macro.Closure.{once, one_or_more}
use Rattle.macros.specs.Macro.Member.{range, single}
use Rattle.macros.specs.Macro.Mark.{counter, stack}
use Rattle.macros.specs.Macro.PatternUnit.{class, kind, literal}
use Rattle.macros.specs.Macro.Piece.{element}
use Rattle.macros.specs.Formed.{Byte, FormedMembers, FormedPieces}
use Rattle.macros.specs.Read.{Joinable, Last, breaks, class_end, closes, dashed, dashes, escaped, fresh, hold, members_at_end, kind_digit, members_byte, new_member, opened_byte, pattern_byte, pattern_end, sign, signs}
use Rattle.macros.specs.ReadSoFar.Joinable.{marked, nothing, query, starred, unit}
use Rattle.macros.specs.ReadSoFar.Last.{dash, free, member}
use Rattle.macros.specs.ReadSoFar.Part.{members, opened, pattern}
use Rattle.macros.specs.ReadSoFar.Step.{on}
use Rattle.macros.specs.Write.{byte}
use Rattle.macros.specs.Spell.{Before, behind, joins, joins_class, leaves, leaves_unit, needs, needs_class, none?, spell_member, spell_members, spell_piece, spell_unit}
use Rattle.macros.specs.Spell.Before.{a_range, a_single, bracket, tilde}
use Rattle.macros.specs.Spell.{class_signs}
use Rattle.macros.proofs.Tests.{clash, unbroken, within_left, within_right}
use Rattle.macros.proofs.Readings.{settled}
use Rattle.macros.proofs.BackPattern.{needs_free}
use Rattle.macros.proofs.Costs.{Fit, Good, byte_least, byte_most, context, cost, cost_once, cost_star, cost_star_dash, cost_members, either, gap, gap_class, held_class, load, load_class, negs, slack, top}
use Rattle.macros.proofs.Costs.Good.{fault, fine}

pub literal_length_lem : (h : Joinable) (b : ℕ) → length (spell_unit h (literal b)) ≡ length (byte (needs h b) b)
unfolding spell_unit
literal_length_lem h b = refl

-- a raw byte that is no sign costs one byte, or two where it clashes
raw_tight : (h : Joinable) (b : ℕ) → eqb b 47 ≡ false → among signs b ≡ false → joins h b ≡ false → length (byte (needs h b) b) ≡ 1
unfolding needs among byte
raw_tight h b s m j = simp (s, m, j)

raw_gap : (h : Joinable) (b : ℕ) → eqb b 47 ≡ false → among signs b ≡ false → length (byte (needs h b) b) ≤ suc (gap h)
unfolding gap joins
raw_gap nothing b s m = omega (arith, raw_tight nothing b s m refl)
raw_gap (unit u) b s m = omega (arith, raw_tight (unit u) b s m refl)
raw_gap (starred u) b s m = byte_most _ b
raw_gap query b s m = byte_most _ b
raw_gap (marked k) b s m = byte_most _ b

-- what a raw literal holds: no slack is owed
hold_load : (b : ℕ) (ps : List Piece) → cost (settled (hold b) ps) + slack (hold b) ps ≡ cost (element (literal b) once ∷ ps)
unfolding hold pick settled slack leaves_unit gap mark_byte
hold_load b ps = by (eqb b 63) (eqb b 38) (eqb b 35) refl refl refl
  where
    by : (x y z : Bool) → eqb b 63 ≡ x → eqb b 38 ≡ y → eqb b 35 ≡ z
        → cost (settled (hold b) ps) + slack (hold b) ps ≡ cost (element (literal b) once ∷ ps)
    by true y z e f g = rw (eqb-true b 63 e, add-zero)
    by false true z e f g = rw (eqb-true b 38 f, add-zero)
    by false false true e f g = rw (eqb-true b 35 g, add-zero)
    by false false false e f g = simp (e, f, g, add-zero)

hold_fit : (b : ℕ) (ps : List Piece) → Byte b → FormedPieces ps → FormedPieces (settled (hold b) ps)
unfolding hold pick settled mark_byte
hold_fit b ps g h = by (eqb b 63) (eqb b 38) (eqb b 35)
  where
    by : (x y z : Bool) → FormedPieces (settled (pick x query (pick y (marked stack) (pick z (marked counter) (unit (literal b))))) ps)
    by true y z = (omega arith, h)
    by false true z = (omega arith, h)
    by false false true = (omega arith, h)
    by false false false = (g, h)

-- an escaped literal has paid for the slack that it leaves
pub escaped_load : (c : ℕ) (ps : List Piece) → length (byte (needs (top ps) c) c) + gap (leaves_unit (literal c)) ≤ 2
unfolding leaves_unit hold pick gap byte among signs kind_digit within
escaped_load c ps = by (eqb c 63) (eqb c 38) (eqb c 35) refl refl refl
  where
    by : (x y z : Bool) → eqb c 63 ≡ x → eqb c 38 ≡ y → eqb c 35 ≡ z
        → length (byte (needs (top ps) c) c) + gap (pick x query (pick y (marked stack) (pick z (marked counter) (unit (literal c))))) ≤ 2
    by true y z e f g = rw (eqb-true c 63 e, needs_free (top ps) 63 refl refl refl refl) (omega arith)
    by false true z e f g = rw (eqb-true c 38 f, needs_free (top ps) 38 refl refl refl refl) (omega arith)
    by false false true e f g = rw (eqb-true c 35 g, needs_free (top ps) 35 refl refl refl refl) (omega arith)
    by false false false e f g = omega (arith, byte_most (needs (top ps) c) c)

pub escaped_byte : (b : ℕ) → Byte b → Byte (escaped b)
unfolding escaped pick
escaped_byte b g = by (eqb b 110) (eqb b 116)
  where
    by : (p q : Bool) → Byte (pick p 10 (pick q 9 b))
    by true q = omega arith
    by false true = omega arith
    by false false = g

joins_query : (ps : List Piece) (b : ℕ) → kind_digit b ≡ false → joins (top (element (literal 63) once ∷ ps)) b ≡ false
unfolding top leaves leaves_unit hold pick joins
joins_query ps b e = e

joins_mark : (m : Mark) (ps : List Piece) (b : ℕ) → eqb b 40 ≡ false → joins (top (element (literal (mark_byte m)) once ∷ ps)) b ≡ false
unfolding top leaves leaves_unit hold pick joins mark_byte
joins_mark stack ps b e = e
joins_mark counter ps b e = e

kind_length : (k : ℕ) (h : Joinable) → length (spell_unit h (kind k)) ≡ 2
unfolding spell_unit
kind_length k h = refl

module _ (n b : ℕ) (g : Byte b) where
  module _ (ps : List Piece) (f : FormedPieces ps) where
    pattern_end_lem : suc (cost ps) ≤ n → Good n (pattern_end ps)
    unfolding pattern_end load Fit
    pattern_end_lem h =
        either
        (λ d. either (λ e. fine (omega arith) (record { pieces = f; shut = eqb-true (depth ps) 0 d; some_element = ltb-true 0 (elements ps) e })) (λ e. fault tt))
        (λ d. fault tt)

    sign_good : suc (cost ps) ≤ n → Good n (sign ps b)
    unfolding sign load Fit cost spell_piece slack top gap leaves settled
    sign_good h =
        either (λ e. pattern_end_lem h)
        (λ e. either (λ e. fault tt)
        (λ e. either (λ e. fault tt)
        (λ e. either (λ e. fine (omega arith) f)
        (λ e. either (λ e. fine (omega arith) f)
        (λ e. either (λ e. fine (omega arith) f)
        (λ e. either (λ e. fine (omega arith) f)
        (λ e. either (λ e. either (λ t. fine (omega arith) (ltb-true (tags ps) 99 t, f)) (λ t. fault tt))
        (λ e. either (λ t. fine (omega arith) (ltb-true 0 (depth ps) t, f)) (λ t. fault tt)))))))))

    fresh_good : eqb b 47 ≡ false → suc (cost ps) ≤ n → (among signs b ≡ false → suc (cost ps) + length (byte (needs (top ps) b) b) ≤ suc n) → Good n (fresh ps b)
    unfolding fresh load Fit
    fresh_good s h k =
        either (λ e. sign_good h)
        (λ e. fine (omega (arith, k e, hold_load b ps, cost_once (literal b) ps, literal_length_lem (top ps) b)) (hold_fit b ps g f))

    fresh_slack : eqb b 47 ≡ false → suc (cost ps + gap (top ps)) ≤ n → Good n (fresh ps b)
    fresh_slack s h = fresh_good s (omega arith) (λ m. omega (arith, raw_gap (top ps) b s m))

    fresh_tight : eqb b 47 ≡ false → suc (cost ps) ≤ n → joins (top ps) b ≡ false → Good n (fresh ps b)
    fresh_tight s h j = fresh_good s h (λ m. omega (arith, raw_tight (top ps) b s m j))

  pub pattern_good : (h : Joinable) (ps : List Piece) → eqb b 47 ≡ false → load (pattern h ps) ≤ n → Fit (pattern h ps) → Good n (pattern_byte h ps b)
  unfolding pattern_byte closes load Fit slack settled top leaves leaves_unit gap joins kind_digit
  pattern_good nothing ps s h f = fresh_slack ps f s h
  pattern_good (unit u) ps s h f =
      either (λ e. fine (omega (arith, cost_star u ps)) f) (λ e. fresh_slack (element u once ∷ ps) f s h)
  pattern_good (starred u) ps s h f =
      either (λ e. fine (omega (arith, cost_star_dash u ps, cost_star u ps)) f) (λ e. fresh_tight (element u one_or_more ∷ ps) f s (omega arith) e)
  pattern_good query ps s h f =
      let k : suc (cost ps) + 1 ≤ n = omega (arith, cost_once (literal 63) ps, literal_length_lem (top ps) 63, byte_least (needs (top ps) 63) 63) in
      either
      (λ e. fine (omega (arith, cost_once (kind (b - 48)) ps, kind_length (b - 48) (top ps))) ((omega (arith, within_left 49 54 b e), omega (arith, within_right 49 54 b e)), f.1))
      (λ d. either (λ e. fine (omega (arith, cost_star (literal 63) ps)) f) (λ e. fresh_tight (element (literal 63) once ∷ ps) f s (omega arith) (joins_query ps b d)))
  pattern_good (marked m) ps s h f =
      let c = mark_byte m in
      let k : suc (cost ps) + 1 ≤ n = omega (arith, cost_once (literal c) ps, literal_length_lem (top ps) c, byte_least (needs (top ps) c) c) in
      either
      (λ e. fine (omega arith) f.1)
      (λ d. either (λ e. fine (omega (arith, cost_star (literal c) ps)) f) (λ e. fresh_tight (element (literal c) once ∷ ps) f s (omega arith) (joins_mark m ps b d)))

-- CLASS

members_onto_cost : (neg : Bool) (ms l : List Member)
    → length (spell_members (context neg []) (reverse_aux ms l)) ≡ cost_members neg (none? l) ms + length (spell_members (context neg ms) l)
unfolding cost_members context spell_members none?
members_onto_cost neg [] l = omega arith
members_onto_cost neg (m ∷ ms) l =
    members_onto_cost neg ms (m ∷ l) ∙ omega (arith, length-append (spell_member (context neg ms) (none? l) m) (spell_members (behind m) l))

class_length : (h : Joinable) (neg : Bool) (ms : List Member) → length (spell_unit h (class neg (reverse ms))) ≡ 2 + negs neg + cost_members neg true ms
unfolding spell_unit negs context spell_members none?
class_length h true ms = omega (arith, members_onto_cost true ms [])
class_length h false ms = omega (arith, members_onto_cost false ms [])

last_less : (c : Before) (m : Member) → length (spell_member c true m) ≤ length (spell_member c false m)
unfolding spell_member needs_class joins_class
last_less c (range a z) = omega arith
last_less bracket (single a) = omega arith
last_less tilde (single a) = omega arith
last_less a_range (single a) = omega arith
last_less a_single (single a) = by (among class_signs a) (eqb a 45)
  where
    by : (x z : Bool) → length (byte (x || (z && false)) a) ≤ length (byte (x || (z && true)) a)
    by true z = omega arith
    by false true = unfold byte in omega arith
    by false false = omega arith

end_less : (neg : Bool) (l : Last) (ms : List Member) → cost_members neg true (members_at_end l ms) ≤ held_class neg l ms
unfolding members_at_end held_class cost_members context behind spell_member needs_class joins_class among byte
end_less neg free [] = omega arith
end_less neg free (m ∷ ms) = omega (arith, last_less (context neg ms) m)
end_less neg (member a) ms = omega (arith, last_less (context neg ms) (single a))
end_less neg (dash a) ms = omega arith

formed_onto : (ms l : List Member) → FormedMembers ms → FormedMembers l → FormedMembers (reverse_aux ms l)
formed_onto [] l f g = g
formed_onto (m ∷ ms) l f g = formed_onto ms (m ∷ l) f.1 (f.0, g)

-- what a new member costs there
unfoldable pub new_cost : Bool → Last → List Member → ℕ → ℕ
new_cost neg free ms c = length (byte (needs_class (context neg ms) false c) c)
new_cost neg (member a) ms c = length (byte (needs_class a_single false c) c)
new_cost neg (dash a) ms c = 1

pub new_most : (neg : Bool) (l : Last) (ms : List Member) (c : ℕ) → new_cost neg l ms c ≤ 2
unfolding new_cost
new_most neg free ms c = byte_most _ c
new_most neg (member a) ms c = byte_most _ c
new_most neg (dash a) ms c = omega arith

raw_member_tight : (c : Before) (b : ℕ) → among class_signs b ≡ false → joins_class c false b ≡ false → length (byte (needs_class c false b) b) ≡ 1
unfolding needs_class byte
raw_member_tight c b m j = simp (m, j)

raw_member_gap : (c : Before) (b : ℕ) → among class_signs b ≡ false → length (byte (needs_class c false b) b) ≤ suc (gap_class c)
unfolding gap_class joins_class
raw_member_gap bracket b m = byte_most _ b
raw_member_gap tilde b m = omega (arith, raw_member_tight tilde b m refl)
raw_member_gap a_single b m = byte_most _ b
raw_member_gap a_range b m = omega (arith, raw_member_tight a_range b m refl)

no_class_sign : (b : ℕ) → eqb b 93 ≡ false → breaks b ≡ false → eqb b 92 ≡ false → among class_signs b ≡ false
unfolding breaks among
no_class_sign b e f h =
    let u = unbroken b f in
    simp (e, u.0, u.1, u.2, h)

member_bytes_lem : (c : Before) (is_last : Bool) (a : ℕ) → length (spell_member c is_last (single a)) ≡ length (byte (needs_class c is_last a) a)
unfolding spell_member
member_bytes_lem c is_last a = refl

module _ (n : ℕ) (ps : List Piece) (f : FormedPieces ps) (neg : Bool) where
  class_good : (ms : List Member) → cost ps + 2 + negs neg + cost_members neg true ms ≤ n → FormedMembers ms → Good n (class_end ps neg ms)
  unfolding class_end load Fit settled slack leaves_unit gap
  class_good [] h g = fault tt
  class_good (m ∷ ms) h g =
      fine {st = pattern (unit (class neg (reverse (m ∷ ms)))) ps} (omega (arith, cost_once (class neg (reverse (m ∷ ms))) ps, class_length (top ps) neg (m ∷ ms)))
      ((rw (length-reverse (m ∷ ms)) (omega arith), formed_onto (m ∷ ms) [] g tt), f)

  pub new_good : (l : Last) (ms : List Member) (c : ℕ) → Byte c → cost ps + 2 + negs neg + held_class neg l ms + new_cost neg l ms c ≤ suc n → FormedMembers (members_at_end l ms)
      → Good n (new_member ps neg l ms c)
  unfolding new_member held_class new_cost load Fit load_class members_at_end cost_members context behind gap_class
  new_good free ms c g h e = fine {st = members ps neg (member c) ms} (omega (arith, member_bytes_lem (context neg ms) false c)) (f, (g, e))
  new_good (member a) ms c g h e = fine {st = members ps neg (member c) (single a ∷ ms)} (omega (arith, member_bytes_lem a_single false c)) (f, (g, e))
  new_good (dash a) ms c g h e =
      either (λ t. fine (omega (arith, member_bytes_lem (context neg ms) false a, byte_least (needs_class (context neg ms) false a) a, three (context neg ms) a c)) (f, (t, e.1.1)))
      (λ t. fault tt)
    where
      three : (k : Before) (a z : ℕ) → length (spell_member k false (range a z)) ≡ 3
      three k a z = unfold spell_member in refl

  dash_good : (l : Last) (ms : List Member) (b : ℕ) → cost ps + 2 + negs neg + held_class neg l ms ≤ n → FormedMembers (members_at_end l ms) → (eqb b 45 && dashes l) ≡ true
      → Good n (on (members ps neg (dashed l) ms))
  unfolding dashes dashed held_class load_class load Fit members_at_end
  dash_good free ms b h e d = clash d (simp and-false)
  dash_good (dash a) ms b h e d = clash d (simp and-false)
  dash_good (member a) ms b h e d = fine {st = members ps neg (dash a) ms} (omega arith) (f, (omega arith, e))

  -- a byte in a class, where a raw member would be paid for
  members_by : (l : Last) (ms : List Member) (b : ℕ) → Byte b → cost ps + 2 + negs neg + held_class neg l ms ≤ n
      → (among class_signs b ≡ false → (eqb b 45 && dashes l) ≡ false → cost ps + 2 + negs neg + held_class neg l ms + new_cost neg l ms b ≤ suc n)
      → FormedMembers (members_at_end l ms) → Good n (members_byte ps neg l ms b)
  unfolding members_byte load Fit
  members_by l ms b g h k e =
      either (λ x. class_good (members_at_end l ms) (omega (arith, end_less neg l ms)) e)
      (λ x. either (λ y. fault tt)
      (λ y. either (λ z. fine (omega arith) (f, e))
      (λ z. either (λ d. dash_good l ms b h e d)
      (λ d. new_good l ms b g (k (no_class_sign b x y z) d) e))))

  raw_paid : (l : Last) (ms : List Member) (b : ℕ) → cost ps + 2 + negs neg + load_class neg l ms ≤ n → among class_signs b ≡ false → (eqb b 45 && dashes l) ≡ false
      → cost ps + 2 + negs neg + held_class neg l ms + new_cost neg l ms b ≤ suc n
  unfolding load_class held_class new_cost dashes joins_class
  raw_paid free ms b h m d = omega (arith, raw_member_gap (context neg ms) b m)
  raw_paid (member a) ms b h m d = omega (arith, raw_member_tight a_single b m d)
  raw_paid (dash a) ms b h m d = omega arith

  held_less : (l : Last) (ms : List Member) → held_class neg l ms ≤ load_class neg l ms
  unfolding held_class load_class
  held_less free ms = omega arith
  held_less (member a) ms = omega arith
  held_less (dash a) ms = omega arith

  pub members_good : (l : Last) (ms : List Member) (b : ℕ) → Byte b → load (members ps neg l ms) ≤ n → FormedMembers (members_at_end l ms) → Good n (members_byte ps neg l ms b)
  unfolding load
  members_good l ms b g h e = members_by l ms b g (omega (arith, held_less l ms)) (raw_paid l ms b h) e

pub opened_good : (n : ℕ) (ps : List Piece) (b : ℕ) → FormedPieces ps → Byte b → load (opened ps) ≤ n → Good n (opened_byte ps b)
unfolding opened_byte load Fit negs load_class cost_members gap_class context held_class new_cost members_at_end
opened_good n ps b f g h =
    either (λ e. fine (omega arith) (f, tt))
    (λ e. members_by n ps f false free [] b g (omega arith) (λ m d. omega (arith, raw_member_tight bracket b m (no_tilde e))) tt)
  where
    no_tilde : eqb b 126 ≡ false → joins_class bracket false b ≡ false
    no_tilde e = unfold joins_class in e
