-- The law of specs/WordLaw: the words of a line are its longest runs, all of them, in order.
-- Assumes nothing.
use mathlib.Core.Path.{◌≡◌, refl, sym, ap, ◌∙◌, subst}
use mathlib.Core.Logic.{inl, inr}
use Prim.Native.Nat.{ℕ, suc, ◌+◌, ◌<◌}
use native.Mathlib.Omega.{arith}
use mathlib.Core.Bool.{Bool, true, false, not, ◌&&◌, false≢true}
use mathlib.Core.List.{List, [], ◌∷◌, ◌++◌, reverse, reverse-cons}
use lib.ListN.{length}
use lib.Seq.{append_snoc}
use Rattle.words.specs.Word.{in_word, Run, leading, Word, word, begun, words_from, words_of}
use Rattle.words.specs.WordLaw.{Apart, IsWord, OneOf, Above, Rising, WordsExactly}

-- THE LONGEST RUN AT THE HEAD

module _ (b : ℕ) (s : List ℕ) where
  pub leading_in : in_word b ≡ true → leading (b ∷ s) ≡ b ∷ leading s
  unfolding leading
  leading_in e = ap (λ (x : Bool). elim x [ true ↦ b ∷ leading s | false ↦ [] ]) e

  pub leading_out : in_word b ≡ false → leading (b ∷ s) ≡ []
  unfolding leading
  leading_out e = ap (λ (x : Bool). elim x [ true ↦ b ∷ leading s | false ↦ [] ]) e

-- what is behind it
record RunEnds (s : List ℕ) : Type 0 where
  after : List ℕ
  joins : s ≡ leading s ++ after
  run : Run (leading s)
  apart : Apart after

run_ends_by : (b : ℕ) (s : List ℕ) (x : Bool) → in_word b ≡ x → RunEnds s → RunEnds (b ∷ s)
unfolding Run Apart
run_ends_by b s true e k =
    let l = leading_in b s e in
    record {
      after = k.after;
      joins = ap (λ (z : List ℕ). b ∷ z) k.joins ∙ ap (λ (z : List ℕ). z ++ k.after) (sym l);
      run = subst Run (sym l) (e, k.run);
      apart = k.apart;
    }
run_ends_by b s false e k =
    let l = leading_out b s e in
    record { after = b ∷ s; joins = ap (λ (z : List ℕ). z ++ (b ∷ s)) (sym l); run = subst Run (sym l) tt; apart = e }

run_ends : (s : List ℕ) → RunEnds s
unfolding Run Apart leading
run_ends [] = record { after = []; joins = refl; run = tt; apart = tt }
run_ends (b ∷ s) = run_ends_by b s (in_word b) refl (run_ends s)

-- a run that ends there is the longest
leading_apart : (s : List ℕ) → Apart s → leading s ≡ []
unfolding Apart leading
leading_apart [] h = refl
leading_apart (b ∷ s) h = leading_out b s h

leading_whole : (w s : List ℕ) → Run w → Apart s → leading (w ++ s) ≡ w
unfolding Run
leading_whole [] s r a = leading_apart s a
leading_whole (b ∷ w) s r a = leading_in b (w ++ s) r.0 ∙ ap (λ (z : List ℕ). b ∷ z) (leading_whole w s r.1 a)

-- FROM A PLACE ON: a holds the bytes before it, the nearest first

joined_by : List ℕ → Bool
joined_by [] = false
joined_by (b ∷ a) = in_word b

not_joined : (a : List ℕ) → joined_by a ≡ false → Apart a
unfolding joined_by Apart
not_joined [] e = tt
not_joined (b ∷ a) e = e

apart_joined : (a : List ℕ) → Apart a → joined_by a ≡ false
unfolding joined_by Apart
apart_joined [] h = refl
apart_joined (b ∷ a) h = h

one_more : (a : List ℕ) (b : ℕ) (s : List ℕ) → reverse (b ∷ a) ++ s ≡ reverse a ++ (b ∷ s)
one_more a b s = ap (λ (z : List ℕ). z ++ s) (reverse-cons b a) ∙ append_snoc (reverse a) b s

and_true : (x y : Bool) → (x && not y) ≡ true → (x ≡ true) × (y ≡ false)
and_true true true e = absurd (false≢true e)
and_true true false e = (refl, refl)
and_true false y e = absurd (false≢true e)

unfoldable pub place_of : Word → ℕ
place_of (word p w) = p

unfoldable pub text_of : Word → List ℕ
text_of (word p w) = w

not_empty_lem : (b : ℕ) (s : List ℕ) → in_word b ≡ true → leading (b ∷ s) ≡ [] → ⊥
not_empty_lem b s e f = let l : b ∷ leading s ≡ [] = sym (leading_in b s e) ∙ f in let n : suc (length (leading s)) ≡ 0 = ap length l in omega arith

-- a word that begins here
here : (a : List ℕ) (b : ℕ) (s : List ℕ) → in_word b ≡ true → joined_by a ≡ false → IsWord (reverse a ++ (b ∷ s)) (length a) (leading (b ∷ s))
here a b s e f =
    let k = run_ends (b ∷ s) in
    record {
      before = a;
      after = k.after;
      line = ap (λ (z : List ℕ). reverse a ++ z) k.joins;
      place = refl;
      not_empty = not_empty_lem b s e;
      run = k.run;
      apart_before = not_joined a f;
      apart_after = k.apart;
    }

moved : {t t' : List ℕ} {p q : ℕ} {w v : List ℕ} → t ≡ t' → p ≡ q → w ≡ v → IsWord t p w → IsWord t' q v
moved {t} {t'} {p} {q} {w} {v} e f g h =
    subst (λ (x : List ℕ). IsWord x q v) e (subst (λ (x : ℕ). IsWord t x v) f (subst (λ (x : List ℕ). IsWord t p x) g h))

AreWords : List ℕ → List ℕ → Type 0
AreWords a s = (p : ℕ) (w : List ℕ) → OneOf (word p w) (words_from s (joined_by a) (length a)) → IsWord (reverse a ++ s) p w

are_by : (a : List ℕ) (b : ℕ) (s : List ℕ) (x : Bool) → (in_word b && not (joined_by a)) ≡ x → AreWords (b ∷ a) s → (p : ℕ) (w : List ℕ)
    → OneOf (word p w) (begun x (length a) (b ∷ s) (words_from s (in_word b) (suc (length a)))) → IsWord (reverse a ++ (b ∷ s)) p w
unfolding OneOf begun AreWords joined_by place_of text_of
are_by a b s true e ih p w (inl h) =
    let g = and_true (in_word b) (joined_by a) e in
    moved refl (sym (ap place_of h)) (sym (ap text_of h)) (here a b s g.0 g.1)
are_by a b s true e ih p w (inr h) = moved (one_more a b s) refl refl (ih p w h)
are_by a b s false e ih p w h = moved (one_more a b s) refl refl (ih p w h)

are_words : (s a : List ℕ) → AreWords a s
unfolding OneOf words_from AreWords
are_words [] a p w h = absurd h
are_words (b ∷ s) a p w h = are_by a b s (in_word b && not (joined_by a)) refl (are_words s (b ∷ a)) p w h

-- ALL OF THEM

keeps : (x : Bool) (p : ℕ) (s : List ℕ) (ws : List Word) (y : Word) → OneOf y ws → OneOf y (begun x p s ws)
unfolding OneOf begun
keeps true p s ws y h = inr h
keeps false p s ws y h = h

-- what is found from a place on is found from the line's start on
from_start : (a s : List ℕ) (y : Word) → OneOf y (words_from s (joined_by a) (length a)) → OneOf y (words_from (reverse a ++ s) false 0)
unfolding words_from joined_by
from_start [] s y h = h
from_start (b ∷ a) s y h =
    subst (λ (z : List ℕ). OneOf y (words_from z false 0)) (sym (one_more a b s))
    (from_start a (b ∷ s) y (keeps (in_word b && not (joined_by a)) (length a) (b ∷ s) (words_from s (in_word b) (suc (length a))) y h))

begun_here : (x : Bool) (p : ℕ) (s : List ℕ) (ws : List Word) (w : List ℕ) → x ≡ true → leading s ≡ w → OneOf (word p w) (begun x p s ws)
unfolding OneOf begun
begun_here true p s ws w e f = inl (ap (λ (z : List ℕ). word p z) (sym f))
begun_here false p s ws w e f = absurd (false≢true e)

first_word : (a w s : List ℕ) → (w ≡ [] → ⊥) → Run w → Apart a → Apart s → OneOf (word (length a) w) (words_from (w ++ s) (joined_by a) (length a))
unfolding words_from Run
first_word a [] s n r h k = absurd (n refl)
first_word a (b ∷ w) s n r h k =
    begun_here (in_word b && not (joined_by a)) (length a) (b ∷ (w ++ s)) (words_from (w ++ s) (in_word b) (suc (length a))) (b ∷ w)
    (ap (λ (x : Bool). x && not (joined_by a)) r.0 ∙ ap not (apart_joined a h)) (leading_whole (b ∷ w) s r k)

-- IN ORDER

above_begun : (x : Bool) (p q : ℕ) (s : List ℕ) (ws : List Word) → p < q → Above p ws → Above p (begun x q s ws)
unfolding Above begun
above_begun true p q s ws l h = (l, h)
above_begun false p q s ws l h = h

above : (s : List ℕ) (j : Bool) (p q : ℕ) → p < q → Above p (words_from s j q)
unfolding Above words_from
above [] j p q l = tt
above (b ∷ s) j p q l = above_begun (in_word b && not j) p q (b ∷ s) (words_from s (in_word b) (suc q)) l (above s (in_word b) p (suc q) (omega arith))

rising_begun : (x : Bool) (p : ℕ) (s : List ℕ) (ws : List Word) → Above p ws → Rising ws → Rising (begun x p s ws)
unfolding Rising begun
rising_begun true p s ws a h = (a, h)
rising_begun false p s ws a h = h

rising : (s : List ℕ) (j : Bool) (p : ℕ) → Rising (words_from s j p)
unfolding Rising words_from
rising [] j p = tt
rising (b ∷ s) j p = rising_begun (in_word b && not j) p (b ∷ s) (words_from s (in_word b) (suc p)) (above s (in_word b) p (suc p) (omega arith)) (rising s (in_word b) (suc p))

pub words_exactly : WordsExactly
unfolding words_of AreWords joined_by
words_exactly t =
    record {
      sound = λ p w h. are_words t [] p w h;
      complete = λ p w h.
          subst (λ (z : List ℕ). OneOf (word p w) (words_from z false 0)) (sym h.line)
          (from_start h.before (w ++ h.after) (word p w)
          (subst (λ (q : ℕ). OneOf (word q w) (words_from (w ++ h.after) (joined_by h.before) (length h.before))) h.place
          (first_word h.before w h.after h.not_empty h.run h.apart_before h.apart_after)));
      rising = rising t false 0;
    }
