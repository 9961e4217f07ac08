-- The law of specs/PatternLaw: the test of a word-pattern is its grammar, and fails for one of 41's reasons.
-- Assumes nothing.
use mathlib.Core.Path.{◌≡◌, refl, sym, ap, ◌∙◌, subst}
use mathlib.Core.Logic.{inl, inr}
use Prim.Native.Nat.{ℕ, suc}
use native.Mathlib.Omega.{arith}
use mathlib.Core.Bool.{Bool, true, false, not, ◌&&◌, ◌||◌, false≢true, and-false}
use mathlib.Core.List.{List, [], ◌∷◌, ◌++◌}
use borrow.Author.Tests.{eqb-true, eqb-false}
use lib.Dec.{eqb}
use lib.ListN.{length}
use Rattle.kinds.specs.Kind.{kind_of}
use Rattle.macros.proofs.Tests.{and_left, and_right, spares}
use Rattle.words.specs.Word.{in_word, Run}
use Rattle.words.specs.Pattern.{dash, allowed, all_allowed, begins_with_dash, two_dashes, is_empty, is_pattern}
use Rattle.words.specs.PatternLaw.{Part, PartsFormed, NoDashFirst, DashesApart, bytes_of, IsPattern, AnotherByte, TwoDashes, NoPattern, PatternsExactly}
use Rattle.words.specs.PatternLaw.Part.{one_dash, plain}

-- BYTES

dash_apart : in_word dash ≡ false
unfolding kind_of
dash_apart = refl

-- a letter or digit is no dash
letter_not_dash : (c : ℕ) → in_word c ≡ true → eqb c dash ≡ false
letter_not_dash c h = spares in_word c dash dash_apart h

module _ (c : ℕ) (p : List ℕ) where
  allowed_is : (x : Bool) → allowed c ≡ x → all_allowed (c ∷ p) ≡ elim x [ true ↦ all_allowed p | false ↦ false ]
  unfolding all_allowed
  allowed_is x e = ap (λ (y : Bool). elim y [ true ↦ all_allowed p | false ↦ false ]) e

  dashes_is : (x : Bool) → (eqb c dash && begins_with_dash p) ≡ x → two_dashes (c ∷ p) ≡ elim x [ true ↦ true | false ↦ two_dashes p ]
  unfolding two_dashes
  dashes_is x e = ap (λ (y : Bool). elim y [ true ↦ true | false ↦ two_dashes p ]) e

  -- before a letter or digit the rest alone counts
  letter_allowed : in_word c ≡ true → all_allowed (c ∷ p) ≡ all_allowed p
  letter_allowed h = allowed_is true (ap (λ (y : Bool). y || in_word c) (letter_not_dash c h) ∙ h)

  letter_dashes : in_word c ≡ true → two_dashes (c ∷ p) ≡ two_dashes p
  letter_dashes h = dashes_is false (ap (λ (y : Bool). y && begins_with_dash p) (letter_not_dash c h))

-- WHAT THE GRAMMAR MAKES PASSES THE TEST

plain_allowed : (w s : List ℕ) → Run w → all_allowed (w ++ s) ≡ all_allowed s
unfolding Run
plain_allowed [] s r = refl
plain_allowed (c ∷ w) s r = letter_allowed c (w ++ s) r.0 ∙ plain_allowed w s r.1

plain_dashes : (w s : List ℕ) → Run w → two_dashes (w ++ s) ≡ two_dashes s
unfolding Run
plain_dashes [] s r = refl
plain_dashes (c ∷ w) s r = letter_dashes c (w ++ s) r.0 ∙ plain_dashes w s r.1

grammar_allowed : (ps : List Part) → PartsFormed ps → all_allowed (bytes_of ps) ≡ true
unfolding PartsFormed bytes_of all_allowed
grammar_allowed [] h = refl
grammar_allowed (one_dash ∷ ps) h = allowed_is dash (bytes_of ps) true refl ∙ grammar_allowed ps h
grammar_allowed (plain w ∷ ps) h = plain_allowed w (bytes_of ps) h.1 ∙ grammar_allowed ps h.2

plain_first : (w s : List ℕ) → (w ≡ [] → ⊥) → Run w → begins_with_dash (w ++ s) ≡ false
unfolding Run begins_with_dash
plain_first [] s n r = absurd (n refl)
plain_first (c ∷ w) s n r = letter_not_dash c r.0

no_dash_first : (ps : List Part) → PartsFormed ps → NoDashFirst ps → begins_with_dash (bytes_of ps) ≡ false
unfolding PartsFormed NoDashFirst bytes_of begins_with_dash
no_dash_first [] h n = refl
no_dash_first (one_dash ∷ ps) h n = absurd n
no_dash_first (plain w ∷ ps) h n = plain_first w (bytes_of ps) h.0 h.1

grammar_dashes : (ps : List Part) → PartsFormed ps → DashesApart ps → two_dashes (bytes_of ps) ≡ false
unfolding PartsFormed DashesApart bytes_of two_dashes
grammar_dashes [] h d = refl
grammar_dashes (one_dash ∷ ps) h d = dashes_is dash (bytes_of ps) false (no_dash_first ps h d.0) ∙ grammar_dashes ps h d.1
grammar_dashes (plain w ∷ ps) h d = plain_dashes w (bytes_of ps) h.1 ∙ grammar_dashes ps h.2 d

plain_some : (w s : List ℕ) → (w ≡ [] → ⊥) → is_empty (w ++ s) ≡ false
unfolding is_empty
plain_some [] s n = absurd (n refl)
plain_some (c ∷ w) s n = refl

grammar_some : (ps : List Part) → (ps ≡ [] → ⊥) → PartsFormed ps → is_empty (bytes_of ps) ≡ false
unfolding PartsFormed bytes_of is_empty
grammar_some [] n h = absurd (n refl)
grammar_some (one_dash ∷ ps) n h = refl
grammar_some (plain w ∷ ps) n h = plain_some w (bytes_of ps) h.0

-- by the three tests
form_is : (p : List ℕ) (x y z : Bool) → is_empty p ≡ x → all_allowed p ≡ y → two_dashes p ≡ z → is_pattern p ≡ (not x && (y && not z))
unfolding is_pattern
form_is p x y z e f g = rw (e, f, g) refl

passes : (p : List ℕ) → IsPattern p → is_pattern p ≡ true
passes p k =
    ap is_pattern (sym k.whole)
    ∙ form_is (bytes_of k.parts) false true false (grammar_some k.parts k.not_empty k.formed) (grammar_allowed k.parts k.formed)
    (grammar_dashes k.parts k.formed k.apart)

-- WHAT PASSES THE TEST IS MADE BY THE GRAMMAR: each byte a part

part_by : Bool → ℕ → Part
part_by true c = one_dash
part_by false c = plain (c ∷ [])

parts_of : List ℕ → List Part
parts_of [] = []
parts_of (c ∷ p) = part_by (eqb c dash) c ∷ parts_of p

bytes_by : (x : Bool) (c : ℕ) (ps : List Part) → eqb c dash ≡ x → bytes_of (part_by x c ∷ ps) ≡ c ∷ bytes_of ps
unfolding bytes_of part_by
bytes_by true c ps e = ap (λ (b : ℕ). b ∷ bytes_of ps) (sym (eqb-true c dash e))
bytes_by false c ps e = refl

bytes_back : (p : List ℕ) → bytes_of (parts_of p) ≡ p
unfolding bytes_of parts_of
bytes_back [] = refl
bytes_back (c ∷ p) = bytes_by (eqb c dash) c (parts_of p) refl ∙ ap (λ (s : List ℕ). c ∷ s) (bytes_back p)

one_byte : (c : ℕ) → c ∷ [] ≡ [] → ⊥
one_byte c e = let n : suc (length {A = ℕ} []) ≡ 0 = ap length e in omega arith

-- a byte that is allowed, and the rest are
split_allowed : (c : ℕ) (p : List ℕ) (x : Bool) → allowed c ≡ x → all_allowed (c ∷ p) ≡ true → (allowed c ≡ true) × (all_allowed p ≡ true)
split_allowed c p true e h = (e, sym (allowed_is c p true e) ∙ h)
split_allowed c p false e h = absurd (false≢true (sym (allowed_is c p false e) ∙ h))

parts_by : (x : Bool) (c : ℕ) (ps : List Part) → eqb c dash ≡ x → (x || in_word c) ≡ true → PartsFormed ps → PartsFormed (part_by x c ∷ ps)
unfolding PartsFormed part_by Run
parts_by true c ps e h k = k
parts_by false c ps e h k = (one_byte c, (h, tt), k)

all_parts : (p : List ℕ) → all_allowed p ≡ true → PartsFormed (parts_of p)
unfolding PartsFormed parts_of
all_parts [] h = tt
all_parts (c ∷ p) h = let k = split_allowed c p (allowed c) refl h in parts_by (eqb c dash) c (parts_of p) refl k.0 (all_parts p k.1)

-- no two dashes here, and none in the rest
split_dashes : (c : ℕ) (p : List ℕ) (x : Bool) → (eqb c dash && begins_with_dash p) ≡ x → two_dashes (c ∷ p) ≡ false → ((eqb c dash && begins_with_dash p) ≡ false) × (two_dashes p ≡ false)
split_dashes c p true e h = absurd (false≢true (sym h ∙ dashes_is c p true e))
split_dashes c p false e h = (e, sym (dashes_is c p false e) ∙ h)

first_by : (x : Bool) (c : ℕ) (ps : List Part) → x ≡ false → NoDashFirst (part_by x c ∷ ps)
unfolding NoDashFirst part_by
first_by true c ps e = absurd (false≢true (sym e))
first_by false c ps e = tt

no_first : (p : List ℕ) → begins_with_dash p ≡ false → NoDashFirst (parts_of p)
unfolding NoDashFirst begins_with_dash parts_of
no_first [] h = tt
no_first (c ∷ p) h = first_by (eqb c dash) c (parts_of p) h

apart_by : (x : Bool) (c : ℕ) (p : List ℕ) → (x && begins_with_dash p) ≡ false → DashesApart (parts_of p) → DashesApart (part_by x c ∷ parts_of p)
unfolding DashesApart part_by
apart_by true c p h k = (no_first p h, k)
apart_by false c p h k = k

all_apart : (p : List ℕ) → two_dashes p ≡ false → DashesApart (parts_of p)
unfolding DashesApart parts_of
all_apart [] h = tt
all_apart (c ∷ p) h = let k = split_dashes c p (eqb c dash && begins_with_dash p) refl h in apart_by (eqb c dash) c p k.0 (all_apart p k.1)

parts_some : (p : List ℕ) → is_empty p ≡ false → parts_of p ≡ [] → ⊥
unfolding is_empty parts_of
parts_some [] h e = false≢true (sym h)
parts_some (c ∷ p) h e = let n : suc (length (parts_of p)) ≡ 0 = ap length e in omega arith

-- THE REASONS

is_empty_lem : (p : List ℕ) → is_empty p ≡ true → p ≡ []
unfolding is_empty
is_empty_lem [] h = refl
is_empty_lem (c ∷ p) h = absurd (false≢true h)

-- a byte of neither kind
neither : (c : ℕ) (x : Bool) → eqb c dash ≡ x → (x || in_word c) ≡ false → (in_word c ≡ false) × (c ≡ dash → ⊥)
neither c true e h = absurd (false≢true (sym h))
neither c false e h = (h, eqb-false c dash e)

another_by : (c : ℕ) (p : List ℕ) (x : Bool) → allowed c ≡ x → all_allowed (c ∷ p) ≡ false → (all_allowed p ≡ false → AnotherByte p) → AnotherByte (c ∷ p)
another_by c p true e h ih =
    let k = ih (sym (allowed_is c p true e) ∙ h) in
    record { before = c ∷ k.before; byte = k.byte; after = k.after; stands = ap (λ (s : List ℕ). c ∷ s) k.stands; no_letter = k.no_letter; no_dash = k.no_dash }
another_by c p false e h ih =
    let k = neither c (eqb c dash) refl e in
    record { before = []; byte = c; after = p; stands = refl; no_letter = k.0; no_dash = k.1 }

another : (p : List ℕ) → all_allowed p ≡ false → AnotherByte p
unfolding all_allowed
another [] h = absurd (false≢true (sym h))
another (c ∷ p) h = another_by c p (allowed c) refl h (another p)

other_by : (c : ℕ) (x : Bool) → eqb c dash ≡ x → in_word c ≡ false → (c ≡ dash → ⊥) → (x || in_word c) ≡ false
other_by c true e h n = absurd (n (eqb-true c dash e))
other_by c false e h n = h

false_both : (x : Bool) → (elim x [ true ↦ false | false ↦ false ]) ≡ false
false_both true = refl
false_both false = refl

another_found : (a : List ℕ) (c : ℕ) (s : List ℕ) → in_word c ≡ false → (c ≡ dash → ⊥) → all_allowed (a ++ (c ∷ s)) ≡ false
another_found [] c s h n = allowed_is c s false (other_by c (eqb c dash) refl h n)
another_found (b ∷ a) c s h n =
    allowed_is b (a ++ (c ∷ s)) (allowed b) refl
    ∙ (ap (λ (y : Bool). elim (allowed b) [ true ↦ y | false ↦ false ]) (another_found a c s h n) ∙ false_both (allowed b))

begins : (p : List ℕ) → begins_with_dash p ≡ true → (s : List ℕ) × (p ≡ dash ∷ s)
unfolding begins_with_dash
begins [] h = absurd (false≢true h)
begins (c ∷ p) h = (p, ap (λ (b : ℕ). b ∷ p) (eqb-true c dash h))

two_by : (c : ℕ) (p : List ℕ) (x : Bool) → (eqb c dash && begins_with_dash p) ≡ x → two_dashes (c ∷ p) ≡ true → (two_dashes p ≡ true → TwoDashes p) → TwoDashes (c ∷ p)
two_by c p true e h ih =
    let k = eqb-true c dash (and_left (eqb c dash) (begins_with_dash p) e) in
    let g = begins p (and_right (eqb c dash) (begins_with_dash p) e) in
    record { before = []; after = g.0; stand = ap (λ (b : ℕ). b ∷ p) k ∙ ap (λ (s : List ℕ). dash ∷ s) g.1 }
two_by c p false e h ih =
    let k = ih (sym (dashes_is c p false e) ∙ h) in
    record { before = c ∷ k.before; after = k.after; stand = ap (λ (s : List ℕ). c ∷ s) k.stand }

two : (p : List ℕ) → two_dashes p ≡ true → TwoDashes p
unfolding two_dashes
two [] h = absurd (false≢true h)
two (c ∷ p) h = two_by c p (eqb c dash && begins_with_dash p) refl h (two p)

true_both : (x : Bool) → (elim x [ true ↦ true | false ↦ true ]) ≡ true
true_both true = refl
true_both false = refl

two_found : (a s : List ℕ) → two_dashes (a ++ (dash ∷ dash ∷ s)) ≡ true
unfolding begins_with_dash
two_found [] s = dashes_is dash (dash ∷ s) true refl
two_found (b ∷ a) s =
    let x : Bool = eqb b dash && begins_with_dash (a ++ (dash ∷ dash ∷ s)) in
    dashes_is b (a ++ (dash ∷ dash ∷ s)) x refl ∙ (ap (λ (y : Bool). elim x [ true ↦ true | false ↦ y ]) (two_found a s) ∙ true_both x)

-- THE LAW

module _ (p : List ℕ) where
  abbrev Answers : Bool → Type 0
  Answers true = IsPattern p
  Answers false = NoPattern p

  -- whichever way the tests go
  answers : (x y z : Bool) → is_empty p ≡ x → all_allowed p ≡ y → two_dashes p ≡ z → Answers (not x && (y && not z))
  answers true y z e f g = inl (is_empty_lem p e)
  answers false false z e f g = inr (inl (another p f))
  answers false true true e f g = inr (inr (two p g))
  answers false true false e f g =
      record { parts = parts_of p; whole = bytes_back p; not_empty = parts_some p e; formed = all_parts p f; apart = all_apart p g }

  answered : Answers (is_pattern p)
  answered =
      subst Answers (sym (form_is p (is_empty p) (all_allowed p) (two_dashes p) refl refl refl))
      (answers (is_empty p) (all_allowed p) (two_dashes p) refl refl refl)

  fails : NoPattern p → is_pattern p ≡ false
  unfolding is_empty
  fails (inl e) = form_is p true (all_allowed p) (two_dashes p) (ap is_empty e) refl refl
  fails (inr (inl k)) =
      form_is p (is_empty p) false (two_dashes p) refl (ap all_allowed k.stands ∙ another_found k.before k.byte k.after k.no_letter k.no_dash) refl
      ∙ and-false (not (is_empty p))
  fails (inr (inr k)) =
      form_is p (is_empty p) (all_allowed p) true refl refl (ap two_dashes k.stand ∙ two_found k.before k.after)
      ∙ (ap (λ (x : Bool). not (is_empty p) && x) (and-false (all_allowed p)) ∙ and-false (not (is_empty p)))

pub patterns_exactly : PatternsExactly
patterns_exactly p =
    record {
      taken = (λ e. subst (Answers p) e (answered p), passes p);
      refused = (λ e. subst (Answers p) e (answered p), fails p);
    }
