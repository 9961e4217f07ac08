-- The laws of specs/LookLaw: each answer has its reason, and a reason its answer.
-- Assumes nothing.
use mathlib.Core.Path.{◌≡◌, refl, sym, ap, ◌∙◌, subst}
use mathlib.Core.Logic.{inl, inr}
use Prim.Native.Nat.{ℕ, ◌<◌}
use native.Mathlib.Omega.{arith}
use mathlib.Core.Bool.{Bool, true, false, false≢true}
use mathlib.Core.List.{List, [], ◌∷◌}
use borrow.Author.Tests.{leb-true, leb-false, le-leb, lt-leb}
use lib.Dec.{leb}
use lib.ListN.{length}
use Rattle.macros.specs.Bounds.{most_line_bytes}
use Rattle.macros.specs.Refusals.LineRefusal.{line_too_long, bad_byte, bad_control}
use Rattle.lines.specs.Feeding.{has_bad_byte}
use Rattle.lines.specs.Demand.{HasBadByte}
use Rattle.lines.proofs.Demand3.{bad_byte_lem, no_bad_byte}
use Rattle.words.specs.Refusal.WordRefusal.{bad_pattern}
use Rattle.words.specs.Word.{Word, word, words_of}
use Rattle.words.specs.Pattern.{is_pattern}
use Rattle.words.specs.PatternLaw.{IsPattern}
use Rattle.words.specs.Cover.{covers}
use Rattle.words.specs.WordLaw.{OneOf, Above, Rising}
use Rattle.words.specs.Look.{Looked, covered_of, first_place, found_of, look_up}
use Rattle.words.specs.Look.Looked.{found, refused_line, refused_pattern}
use Rattle.words.specs.LookLaw.{FirstAt, Finds, LineTaken, Reason, AnswersExactly, TakenExactly}
use Rattle.words.proofs.PatternLaws.{patterns_exactly}
use Rattle.words.proofs.CoverLaws.{covers_exactly}
use Rattle.words.proofs.WordLaws.{place_of, text_of, words_exactly}

-- THE WORDS COVERED, among some words

-- a word, with those covered of the others
kept : Bool → Word → List Word → List Word
kept true x ws = x ∷ ws
kept false x ws = ws

covered_cons : (p : List ℕ) (q : ℕ) (w : List ℕ) (ws : List Word) → covered_of p (word q w ∷ ws) ≡ kept (covers p w) (word q w) (covered_of p ws)
unfolding covered_of kept
covered_cons p q w ws = by (covers p w) where
  by : (x : Bool) → (elim x [ true ↦ word q w ∷ covered_of p ws | false ↦ covered_of p ws ]) ≡ kept x (word q w) (covered_of p ws)
  by true = refl
  by false = refl

Hit : List ℕ → List Word → Word → Type 0
Hit p ws x = OneOf x ws × (covers p (text_of x) ≡ true)

hit_kept : (p : List ℕ) (y : Word) (ws zs : List Word) (x : Word) (c : Bool) → covers p (text_of y) ≡ c → (OneOf x zs → Hit p ws x) → OneOf x (kept c y zs) → Hit p (y ∷ ws) x
unfolding OneOf kept Hit
hit_kept p y ws zs x true e ih (inl h) = (inl h, ap (λ (z : Word). covers p (text_of z)) h ∙ e)
hit_kept p y ws zs x true e ih (inr h) = let k = ih h in (inr k.0, k.1)
hit_kept p y ws zs x false e ih h = let k = ih h in (inr k.0, k.1)

hits : (p : List ℕ) (ws : List Word) (x : Word) → OneOf x (covered_of p ws) → Hit p ws x
unfolding OneOf covered_of text_of
hits p [] x h = absurd h
hits p (word q w ∷ ws) x h = hit_kept p (word q w) ws (covered_of p ws) x (covers p w) refl (hits p ws x) (subst (OneOf x) (covered_cons p q w ws) h)

in_kept : (p : List ℕ) (y : Word) (ws zs : List Word) (x : Word) (c : Bool) → covers p (text_of y) ≡ c → covers p (text_of x) ≡ true → (OneOf x ws → OneOf x zs) → OneOf x (y ∷ ws) → OneOf x (kept c y zs)
unfolding OneOf kept
in_kept p y ws zs x true e f ih (inl h) = inl h
in_kept p y ws zs x true e f ih (inr h) = inr (ih h)
in_kept p y ws zs x false e f ih (inl h) = absurd (false≢true (sym e ∙ (ap (λ (z : Word). covers p (text_of z)) (sym h) ∙ f)))
in_kept p y ws zs x false e f ih (inr h) = ih h

is_hit_lem : (p : List ℕ) (ws : List Word) (x : Word) → covers p (text_of x) ≡ true → OneOf x ws → OneOf x (covered_of p ws)
unfolding OneOf covered_of text_of
is_hit_lem p [] x f h = absurd h
is_hit_lem p (word q w ∷ ws) x f h = subst (OneOf x) (sym (covered_cons p q w ws)) (in_kept p (word q w) ws (covered_of p ws) x (covers p w) refl f (is_hit_lem p ws x f) h)

above_kept : (c : Bool) (k q : ℕ) (w : List ℕ) (zs : List Word) → k < q → Above k zs → Above k (kept c (word q w) zs)
unfolding Above kept
above_kept true k q w zs l h = (l, h)
above_kept false k q w zs l h = h

above_covered : (p : List ℕ) (ws : List Word) (k : ℕ) → Above k ws → Above k (covered_of p ws)
unfolding Above covered_of
above_covered p [] k h = tt
above_covered p (word q w ∷ ws) k h = subst (Above k) (sym (covered_cons p q w ws)) (above_kept (covers p w) k q w (covered_of p ws) h.0 (above_covered p ws k h.1))

rising_kept : (c : Bool) (q : ℕ) (w : List ℕ) (zs : List Word) → Above q zs → Rising zs → Rising (kept c (word q w) zs)
unfolding Rising kept
rising_kept true q w zs a h = (a, h)
rising_kept false q w zs a h = h

rising_covered : (p : List ℕ) (ws : List Word) → Rising ws → Rising (covered_of p ws)
unfolding Rising covered_of
rising_covered p [] h = tt
rising_covered p (word q w ∷ ws) h = subst Rising (sym (covered_cons p q w ws)) (rising_kept (covers p w) q w (covered_of p ws) (above_covered p ws q h.0) (rising_covered p ws h.1))

first_at : (ws : List Word) → FirstAt ws (first_place ws)
unfolding FirstAt first_place
first_at [] = refl
first_at (word q w ∷ ws) = refl

-- ONE LIST: words in order are known by which they are

above_member : (p : ℕ) (x : Word) (ws : List Word) → Above p ws → OneOf x ws → p < place_of x
unfolding Above OneOf place_of
above_member p x [] a h = absurd h
above_member p x (word q w ∷ ws) a (inl e) = subst (λ (y : Word). p < place_of y) (sym e) a.0
above_member p x (word q w ∷ ws) a (inr h) = above_member p x ws a.1 h

Each : List Word → List Word → Type 0
Each xs ys = (x : Word) → OneOf x xs → OneOf x ys

heads : (p : ℕ) (v : List ℕ) (xs : List Word) (q : ℕ) (w : List ℕ) (ys : List Word) → Above p xs → Above q ys
    → OneOf (word p v) (word q w ∷ ys) → OneOf (word q w) (word p v ∷ xs) → word p v ≡ word q w
unfolding OneOf place_of
heads p v xs q w ys a b (inl e) k = e
heads p v xs q w ys a b (inr h) (inl e) = sym e
heads p v xs q w ys a b (inr h) (inr k) = let l : q < p = above_member q (word p v) ys b h in let m : p < q = above_member p (word q w) xs a k in absurd (omega arith)

behind_head : (p : ℕ) (v : List ℕ) (xs : List Word) (y : Word) (ys : List Word) → Above p xs → word p v ≡ y → Each (word p v ∷ xs) (y ∷ ys) → Each xs ys
unfolding Each OneOf place_of
behind_head p v xs y ys a e f x h = by (f x (inr h)) where
  by : OneOf x (y ∷ ys) → OneOf x ys
  by (inl g) = let l : p < place_of x = above_member p x xs a h in let n : place_of x ≡ p = ap place_of (g ∙ sym e) in absurd (omega arith)
  by (inr g) = g

one_list : (xs ys : List Word) → Rising xs → Rising ys → Each xs ys → Each ys xs → xs ≡ ys
unfolding Rising Each OneOf
one_list [] [] r s f g = refl
one_list [] (y ∷ ys) r s f g = absurd (g y (inl refl))
one_list (x ∷ xs) [] r s f g = absurd (f x (inl refl))
one_list (word p v ∷ xs) (word q w ∷ ys) r s f g =
    let e = heads p v xs q w ys r.0 s.0 (f (word p v) (inl refl)) (g (word q w) (inl refl)) in
    let k = one_list xs ys r.1 s.1 (behind_head p v xs (word q w) ys r.0 e f) (behind_head q w ys (word p v) xs s.0 (sym e) g) in
    ap (λ (x : Word). x ∷ xs) e ∙ ap (λ (l : List Word). word q w ∷ l) k

one_first : (ws : List Word) (p q : ℕ) → FirstAt ws p → FirstAt ws q → p ≡ q
unfolding FirstAt
one_first [] p q e f = e ∙ sym f
one_first (word r w ∷ ws) p q e f = e ∙ sym f

-- A LINE

module _ (t p : List ℕ) where
  each_covered : {n m q r : ℕ} (a : Finds t p n q) (b : Finds t p m r) → Each a.covered b.covered
  unfolding Each
  each_covered a b (word i w) h = let k = a.sound i w h in b.complete i w k.0 k.1

  same_covered : {n m q r : ℕ} (a : Finds t p n q) (b : Finds t p m r) → a.covered ≡ b.covered
  same_covered a b = one_list a.covered b.covered a.rising b.rising (each_covered a b) (each_covered b a)

  one_answer : {n m q r : ℕ} → Finds t p n q → Finds t p m r → found n q ≡ found m r
  one_answer {n} {m} {q} {r} a b =
      let e = same_covered a b in
      let k : n ≡ m = sym a.number ∙ (ap length e ∙ b.number) in
      let l : q ≡ r = one_first b.covered q r (subst (λ (ws : List Word). FirstAt ws q) e a.first) b.first in
      ap (λ (x : ℕ). found x q) k ∙ ap (found m) l

  abbrev covered : List Word
  covered = covered_of p (words_of t)

  line_finds : Finds t p (length covered) (first_place covered)
  unfolding Hit text_of
  line_finds =
      let e = words_exactly t in
      record {
        covered = covered;
        sound = λ q w h.
            let k = hits p (words_of t) (word q w) h in
            let i = e.sound q w k.0 in
            (i, (covers_exactly p w i.run).sound k.1);
        complete = λ q w i c. is_hit_lem p (words_of t) (word q w) ((covers_exactly p w i.run).complete c) (e.complete q w i);
        rising = rising_covered p (words_of t) e.rising;
        number = refl;
        first = first_at covered;
      }

  -- the answer by the three tests
  unfoldable pub told : Bool → Bool → Bool → Looked
  told false b c = refused_line line_too_long
  told true true c = refused_line bad_byte
  told true false false = refused_pattern bad_pattern
  told true false true = found_of covered

  pub told_by : (a b c : Bool) → leb (length t) most_line_bytes ≡ a → has_bad_byte t ≡ b → is_pattern p ≡ c → look_up t p ≡ told a b c
  unfolding look_up told
  told_by false b c e f g = rw (look_up, e) refl
  told_by true true c e f g = rw (look_up, e, f) refl
  told_by true false false e f g = rw (look_up, e, f, g) refl
  told_by true false true e f g = rw (look_up, e, f, g) refl

  taken : leb (length t) most_line_bytes ≡ true → has_bad_byte t ≡ false → LineTaken t
  taken e f = record { short = leb-true (length t) most_line_bytes e; clean = no_bad_byte t f }

  reason_by : (a b c : Bool) → leb (length t) most_line_bytes ≡ a → has_bad_byte t ≡ b → is_pattern p ≡ c → Reason t p (told a b c)
  unfolding told found_of
  reason_by false b c e f g = leb-false (length t) most_line_bytes e
  reason_by true true c e f g = (leb-true (length t) most_line_bytes e, bad_byte_lem t f)
  reason_by true false false e f g = (taken e f, (patterns_exactly p).refused.0 g)
  reason_by true false true e f g = (taken e f, (patterns_exactly p).taken.0 g, line_finds)

  reason : (a : Looked) → look_up t p ≡ a → Reason t p a
  reason a h =
      let k = told_by (leb (length t) most_line_bytes) (has_bad_byte t) (is_pattern p) refl refl refl in
      subst (Reason t p) (sym k ∙ h) (reason_by (leb (length t) most_line_bytes) (has_bad_byte t) (is_pattern p) refl refl refl)

  -- a line that is short, and clean or not
  bad_is : (x : Bool) → has_bad_byte t ≡ x → HasBadByte t → has_bad_byte t ≡ true
  bad_is true e h = e
  bad_is false e h = absurd (no_bad_byte t e h)

  clean_is : (x : Bool) → has_bad_byte t ≡ x → (HasBadByte t → ⊥) → has_bad_byte t ≡ false
  clean_is true e h = absurd (h (bad_byte_lem t e))
  clean_is false e h = e

  after_line : (c : Bool) → LineTaken t → is_pattern p ≡ c → look_up t p ≡ told true false c
  after_line c k g = told_by true false c (le-leb (length t) most_line_bytes k.short) (clean_is (has_bad_byte t) refl k.clean) g

  finds : LineTaken t → IsPattern p → look_up t p ≡ found (length covered) (first_place covered)
  unfolding told found_of
  finds k g = after_line true k ((patterns_exactly p).taken.1 g)

  given : (a : Looked) → Reason t p a → look_up t p ≡ a
  unfolding told
  given (refused_line line_too_long) h = told_by false (has_bad_byte t) (is_pattern p) (lt-leb (length t) most_line_bytes h) refl refl
  given (refused_line bad_byte) h = told_by true true (is_pattern p) (le-leb (length t) most_line_bytes h.0) (bad_is (has_bad_byte t) refl h.1) refl
  given (refused_line bad_control) h = absurd h
  given (refused_pattern bad_pattern) h = after_line false h.0 ((patterns_exactly p).refused.1 h.1)
  given (found n q) h = finds h.0 h.1 ∙ one_answer line_finds h.2

pub answers_exactly : AnswersExactly
answers_exactly t p a = (reason t p a, given t p a)

pub taken_exactly : TakenExactly
taken_exactly t p = (λ h. let k = reason t p (found h.0 h.1) h.2 in (k.0, k.1), λ h. (length (covered t p), first_place (covered t p), finds t p h.0 h.1))
