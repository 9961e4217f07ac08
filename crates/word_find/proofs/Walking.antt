-- The walk over a line's words, run by run.
-- Assumes nothing.
use Prim.Native.Nat.{ℕ, zero, suc, ◌+◌, ◌-◌, ◌≤◌, ◌<◌}
use mathlib.Core.Path.{◌≡◌, refl, sym, ap, ◌∙◌, subst}
use mathlib.Core.Bool.{Bool, true, false, not, ◌&&◌}
use mathlib.Core.List.{List, [], ◌∷◌}
use native.Mathlib.Numerals.{add-one}
use native.Mathlib.Omega.{arith}
use mir.Val.{bool_byte}
use lib.Dec.{ltb}
use lib.ListN.{length, get_or, take, drop, length-drop, drop_of_length-le}
use lib.Seq.{drop-cons, drop-drop}
use borrow.Author.Tests.{le-ltb, ltb-true}
use Rattle.macros.specs.Macro.{pick}
use Rattle.words.specs.Word.{in_word, leading, Word, word, begun, words_from, words_of}
use Rattle.words.specs.Pattern.{is_empty}
use Rattle.words.specs.Cover.{covers}
use Rattle.words.specs.Look.{covered_of, first_place, found_of}
use Rattle.words.specs.Look.Looked.{found}
use Rattle.words.proofs.WordLaws.{leading_in, leading_out}
use Rattle.word_find.specs.Marks.{mark}
use Rattle.word_find.specs.Letters.{letters}
use Rattle.word_find.specs.Walk.{is_hit, first_of, rest, So}
use Rattle.word_find.proofs.Forming.{too_long}

-- THE END OF A RUN

module _ (t : List ℕ) (e : ℕ) (h : e < length t) where
  pub run_ends : in_word (get_or t e 0) ≡ false → length (leading (drop e t)) ≡ 0
  run_ends o = ap length (ap leading (drop-cons t e 0 h) ∙ leading_out (get_or t e 0) (drop (suc e) t) o)

  pub run_goes : in_word (get_or t e 0) ≡ true → length (leading (drop e t)) ≡ 1 + length (leading (drop (e + 1) t))
  run_goes o =
      let l = ap length (ap leading (drop-cons t e 0 h) ∙ leading_in (get_or t e 0) (drop (suc e) t) o) in
      rw (add-one e) (l ∙ omega arith)

pub run_over : (t : List ℕ) (e : ℕ) → length t ≤ e → length (leading (drop e t)) ≡ 0
unfolding leading
run_over t e h = ap (λ (s : List ℕ). length (leading s)) (drop_of_length-le t h)

-- the run is the part of the line
take_by : (b : ℕ) (s : List ℕ) (x : Bool) → in_word b ≡ x → take (length (leading s)) s ≡ leading s → take (length (leading (b ∷ s))) (b ∷ s) ≡ leading (b ∷ s)
take_by b s true e ih = let l = leading_in b s e in ap (λ (r : List ℕ). take (length r) (b ∷ s)) l ∙ (ap (λ (r : List ℕ). b ∷ r) ih ∙ sym l)
take_by b s false e ih = let l = leading_out b s e in ap (λ (r : List ℕ). take (length r) (b ∷ s)) l ∙ sym l

leading_take : (s : List ℕ) → take (length (leading s)) s ≡ leading s
unfolding leading
leading_take [] = refl
leading_take (b ∷ s) = take_by b s (in_word b) refl (leading_take s)

pub run_is : (t : List ℕ) (i e : ℕ) → e ≡ i + length (leading (drop i t)) → take (e - i) (drop i t) ≡ leading (drop i t)
run_is t i e h = let k : e - i ≡ length (leading (drop i t)) = omega arith in ap (λ (n : ℕ). take n (drop i t)) k ∙ leading_take (drop i t)

short_by : (b : ℕ) (s : List ℕ) (x : Bool) → in_word b ≡ x → length (leading s) ≤ length s → length (leading (b ∷ s)) ≤ length (b ∷ s)
short_by b s true e ih = omega (arith, ap length (leading_in b s e))
short_by b s false e ih = omega (arith, ap length (leading_out b s e))

leading_short : (s : List ℕ) → length (leading s) ≤ length s
unfolding leading
leading_short [] = omega arith
leading_short (b ∷ s) = short_by b s (in_word b) refl (leading_short s)

pub run_inside : (t : List ℕ) (i e : ℕ) → i ≤ length t → e ≡ i + length (leading (drop i t)) → e ≤ length t
run_inside t i e h k = omega (arith, leading_short (drop i t), length-drop i t)

take_short : (k : ℕ) (s : List ℕ) → length (take k s) ≤ length s
take_short zero s = omega arith
take_short (suc k) [] = omega arith
take_short (suc k) (b ∷ s) = omega (arith, take_short k s)

pub run_short : (t : List ℕ) (i e : ℕ) → length (take (e - i) (drop i t)) ≤ length t
run_short t i e = omega (arith, take_short (e - i) (drop i t), length-drop i t)

-- THE WORDS FROM THERE ON

-- inside a word the words are those behind the run and the byte behind it
skip_by : (b : ℕ) (s : List ℕ) (q : ℕ) (x : Bool) → in_word b ≡ x → words_from s true (suc q) ≡ words_from (drop (suc (length (leading s))) s) false (suc (suc q + length (leading s)))
    → begun (x && false) q (b ∷ s) (words_from s x (suc q)) ≡ words_from (drop (suc (length (leading (b ∷ s)))) (b ∷ s)) false (suc (q + length (leading (b ∷ s))))
unfolding begun
skip_by b s q true e ih =
    let l = leading_in b s e in
    let n : suc (suc q + length (leading s)) ≡ suc (q + suc (length (leading s))) = omega arith in
    ih ∙ (ap (words_from (drop (suc (length (leading s))) s) false) n ∙ ap (λ (r : List ℕ). words_from (drop (suc (length r)) (b ∷ s)) false (suc (q + length r))) (sym l))
skip_by b s q false e ih =
    let l = leading_out b s e in
    let n : suc q ≡ suc (q + 0) = omega arith in
    ap (words_from s false) n ∙ ap (λ (r : List ℕ). words_from (drop (suc (length r)) (b ∷ s)) false (suc (q + length r))) (sym l)

skip : (s : List ℕ) (q : ℕ) → words_from s true q ≡ words_from (drop (suc (length (leading s))) s) false (suc (q + length (leading s)))
unfolding words_from leading
skip [] q = refl
skip (b ∷ s) q = skip_by b s q (in_word b) refl (skip s (suc q))

-- from a place that no letter or digit stands before: the run there, if it is not empty, and the words behind it and the next byte
go_by : (b : ℕ) (s : List ℕ) (q : ℕ) (x : Bool) → in_word b ≡ x
    → begun (x && true) q (b ∷ s) (words_from s x (suc q))
    ≡ begun (not (is_empty (leading (b ∷ s)))) q (b ∷ s) (words_from (drop (suc (length (leading (b ∷ s)))) (b ∷ s)) false (suc (q + length (leading (b ∷ s)))))
unfolding begun is_empty
go_by b s q true e =
    let l = leading_in b s e in
    let n : suc (suc q + length (leading s)) ≡ suc (q + suc (length (leading s))) = omega arith in
    ap (λ (ws : List Word). word q (leading (b ∷ s)) ∷ ws) (skip s (suc q) ∙ ap (words_from (drop (suc (length (leading s))) s) false) n)
    ∙ ap (λ (r : List ℕ). begun (not (is_empty r)) q (b ∷ s) (words_from (drop (suc (length r)) (b ∷ s)) false (suc (q + length r)))) (sym l)
go_by b s q false e =
    let l = leading_out b s e in
    let n : suc q ≡ suc (q + 0) = omega arith in
    ap (words_from s false) n ∙ ap (λ (r : List ℕ). begun (not (is_empty r)) q (b ∷ s) (words_from (drop (suc (length r)) (b ∷ s)) false (suc (q + length r)))) (sym l)

go : (s : List ℕ) (q : ℕ) → 0 < length s
    → words_from s false q ≡ begun (not (is_empty (leading s))) q s (words_from (drop (suc (length (leading s))) s) false (suc (q + length (leading s))))
unfolding words_from
go [] q h = absurd (omega arith)
go (b ∷ s) q h = go_by b s q (in_word b) refl

-- a word, or none
abbrev pub more : Bool → Word → List Word → List Word
more true x ws = x ∷ ws
more false x ws = ws

covered_by : (p : List ℕ) (q : ℕ) (w : List ℕ) (ws : List Word) (x : Bool) → covers p w ≡ x → covered_of p (word q w ∷ ws) ≡ more x (word q w) (covered_of p ws)
unfolding covered_of
covered_by p q w ws true e = ap (λ (y : Bool). elim y [ true ↦ word q w ∷ covered_of p ws | false ↦ covered_of p ws ]) e
covered_by p q w ws false e = ap (λ (y : Bool). elim y [ true ↦ word q w ∷ covered_of p ws | false ↦ covered_of p ws ]) e

covered_run : (p s : List ℕ) (q : ℕ) (ws : List Word) (r : List ℕ) → leading s ≡ r → covered_of p (begun (not (is_empty r)) q s ws) ≡ more (is_hit p r) (word q r) (covered_of p ws)
unfolding begun is_empty is_hit
covered_run p s q ws [] e = refl
covered_run p s q ws (b ∷ r) e = ap (λ (w : List ℕ). covered_of p (word q w ∷ ws)) e ∙ covered_by p q (b ∷ r) ws (covers p (b ∷ r)) refl

-- ONE RUN MORE

module _ (p t : List ℕ) (i e : ℕ) (h : i < length t) (k : e ≡ i + length (leading (drop i t))) where
  pub rest_more : rest p t i ≡ more (is_hit p (leading (drop i t))) (word i (leading (drop i t))) (rest p t (e + 1))
  rest_more =
      let s : List ℕ = drop i t in
      let a : i + suc (length (leading s)) ≡ e + 1 = omega arith in
      let b : suc (i + length (leading s)) ≡ e + 1 = omega arith in
      let d : drop (suc (length (leading s))) s ≡ drop (e + 1) t = drop-drop (suc (length (leading s))) i t ∙ ap (λ (n : ℕ). drop n t) a in
      ap (covered_of p) (go s i (omega (arith, length-drop i t)))
      ∙ (covered_run p s i (words_from (drop (suc (length (leading s))) s) false (suc (i + length (leading s)))) (leading s) refl
      ∙ (ap (λ (z : List ℕ). more (is_hit p (leading s)) (word i (leading s)) (covered_of p (words_from z false (suc (i + length (leading s)))))) d
      ∙ ap (λ (n : ℕ). more (is_hit p (leading s)) (word i (leading s)) (covered_of p (words_from (drop (e + 1) t) false n))) b))

more_length : (x : Bool) (y : Word) (ws : List Word) → length (more x y ws) ≡ mark x + length ws
unfolding mark
more_length true y ws = omega arith
more_length false y ws = omega arith

more_first : (x : Bool) (n first i : ℕ) (w : List ℕ) (ws : List Word)
    → pick (ltb n 1) (first_place (more x (word i w) ws)) first ≡ pick (ltb (n + mark x) 1) (first_place ws) (first_of n (mark x) i first)
unfolding mark first_of first_place pick
more_first true n first i w ws = sym (ap (λ (y : Bool). pick y (first_place ws) (pick (ltb n 1) i first)) (le-ltb (n + 1) 1 (omega arith)))
more_first false n first i w ws = let z : n + 0 ≡ n = omega arith in sym (ap (λ (m : ℕ). pick (ltb m 1) (first_place ws) first) z)

first_none : (x : Bool) (n first i : ℕ) → (n ≡ 0 → first ≡ 0) → n + mark x ≡ 0 → first_of n (mark x) i first ≡ 0
unfolding mark first_of pick
first_none true n first i f h = absurd (omega arith)
first_none false n first i f h = f (omega arith)

low_by : (x y : Bool) (i first : ℕ) → first ≤ i → pick x first (pick y i first) ≤ i
unfolding pick
low_by true y i first l = l
low_by false true i first l = omega arith
low_by false false i first l = l

first_low : (n h i first : ℕ) → first ≤ i → first_of n h i first ≤ i
unfolding first_of
first_low n h i first l = low_by (ltb h 1) (ltb n 1) i first l

mark_small : (x : Bool) → mark x ≤ 1
unfolding mark
mark_small true = omega arith
mark_small false = omega arith

pub so_start : (p t : List ℕ) → So p t 0 0 0
unfolding words_of pick
so_start p t = record { count = omega arith; place = refl; none = λ h. refl; few = omega arith; low = omega arith; reach = omega arith }

module _ (p t : List ℕ) (n first i : ℕ) (s : So p t n first i) (l : i < length t) {e h : ℕ} (k : e ≡ i + length (leading (drop i t))) (g : h ≡ mark (is_hit p (take (e - i) (drop i t)))) where
  is_mark_lem : h ≡ mark (is_hit p (leading (drop i t)))
  is_mark_lem = g ∙ ap (λ (w : List ℕ). mark (is_hit p w)) (run_is t i e k)

  pub hit_small : h ≤ 1
  hit_small = omega (arith, is_mark_lem, mark_small (is_hit p (leading (drop i t))))

  so_marked : So p t (n + mark (is_hit p (leading (drop i t)))) (first_of n (mark (is_hit p (leading (drop i t)))) i first) (e + 1)
  so_marked =
      let x : Bool = is_hit p (leading (drop i t)) in
      let w : List ℕ = leading (drop i t) in
      let r = rest_more p t i e l k in
      let c : length (rest p t i) ≡ mark x + length (rest p t (e + 1)) = ap length r ∙ more_length x (word i w) (rest p t (e + 1)) in
      record {
        count = omega (arith, s.count, c);
        place = s.place ∙ (ap (λ (ws : List Word). pick (ltb n 1) (first_place ws) first) r ∙ more_first x n first i w (rest p t (e + 1)));
        none = first_none x n first i s.none;
        few = omega (arith, s.few, mark_small x);
        low = omega (arith, first_low n (mark x) i first s.low);
        reach = omega (arith, run_inside t i e (omega arith) k);
      }

  pub so_next : {f : ℕ} → f ≡ first_of n h i first → So p t (n + h) f (e + 1)
  so_next {f} z =
      subst (λ (m : ℕ). So p t (n + h) m (e + 1)) (sym z)
      (subst (λ (m : ℕ). So p t (n + m) (first_of n m i first) (e + 1)) (sym is_mark_lem) so_marked)

  pub next_inside : e ≤ length t
  next_inside = run_inside t i e (omega arith) k

rest_over : (p t : List ℕ) (i : ℕ) → length t ≤ i → rest p t i ≡ []
unfolding words_from covered_of
rest_over p t i l = ap (λ (z : List ℕ). covered_of p (words_from z false i)) (drop_of_length-le t l)

last_first : (x : Bool) (n first : ℕ) → ltb n 1 ≡ x → (n ≡ 0 → first ≡ 0) → pick x (first_place []) first ≡ first
unfolding pick first_place
last_first true n first e f = let l : n < 1 = ltb-true n 1 e in sym (f (omega arith))
last_first false n first e f = refl

pub so_done : (p t : List ℕ) (n first i : ℕ) → length t ≤ i → So p t n first i → found n first ≡ found_of (covered_of p (words_of t))
unfolding found_of
so_done p t n first i l s =
    let r = rest_over p t i l in
    let a : length (covered_of p (words_of t)) ≡ n = s.count ∙ (ap (λ (ws : List Word). n + length ws) r ∙ omega arith) in
    let b : first_place (covered_of p (words_of t)) ≡ first = s.place ∙ (ap (λ (ws : List Word). pick (ltb n 1) (first_place ws) first) r ∙ last_first (ltb n 1) n first refl s.none) in
    ap (λ (x : ℕ). found x first) (sym a) ∙ ap (found (length (covered_of p (words_of t)))) (sym b)

-- A RUN THAT IS A WORD COVERED, OR NOT

pub hit_empty : (p w : List ℕ) → length w < 1 → 0 ≡ mark (is_hit p w)
unfolding is_hit is_empty mark
hit_empty p [] h = refl
hit_empty p (b ∷ w) h = absurd (omega arith)

hit_by : (p w : List ℕ) → 1 ≤ length w → is_hit p w ≡ covers p w
unfolding is_hit is_empty
hit_by p [] h = absurd (omega arith)
hit_by p (b ∷ w) h = refl

pub hit_short : (p w : List ℕ) → 1 ≤ length w → length w < letters p → 0 ≡ mark (is_hit p w)
unfolding mark
hit_short p w h l = ap mark (sym (hit_by p w h ∙ too_long p w l))

mark_of : (x : Bool) → bool_byte x ≡ mark x
unfolding mark
mark_of true = refl
mark_of false = refl

pub hit_so : (p w : List ℕ) → 1 ≤ length w → {x : Bool} → x ≡ covers p w → bool_byte x ≡ mark (is_hit p w)
hit_so p w h {x} e = mark_of x ∙ ap mark (e ∙ sym (hit_by p w h))
