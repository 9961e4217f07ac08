-- Marks, step by step.
-- Assumes nothing.
use Prim.Native.Nat.{ℕ, suc, ◌+◌, ◌-◌, ◌≤◌, ◌<◌}
use mathlib.Core.Path.{◌≡◌, refl, sym, ap, ◌∙◌, subst}
use mathlib.Core.Bool.{Bool, true, false, ◌||◌}
use mathlib.Core.List.{List, [], ◌∷◌, ◌++◌}
use native.Mathlib.Numerals.{add-one}
use native.Mathlib.Omega.{arith}
use lib.Bits.{bit_or}
use lib.Dec.{eqb}
use lib.ListN.{length, get_or, set, drop, replicate, drop_of_length-le, length-append, length-drop, length-replicate, get_or-append, get_or-replicate}
use lib.Seq.{drop-cons, drop-length, get_or-set_same, get_or-set_other}
use borrow.Author.Tests.{eqb-true, eqb-false, eq-eqb}
use Rattle.macros.specs.Macro.{pick}
use Rattle.words.specs.Pattern.{dash, is_empty}
use Rattle.words.specs.Cover.{somewhere, byte_then, covers}
use Rattle.words.proofs.CoverLaws.{covers_dash, covers_byte}
use Rattle.word_find.specs.Marks.{mark, Marked, StepsDash, StepsByte, Steps}

-- a store, read at any place: by whether it is the place of the store
pub stored : (t : List ℕ) (i v : ℕ) → i < length t → (P : ℕ → Type 0) → (j : ℕ) → (j ≡ i → P v) → ((j ≡ i → ⊥) → P (get_or t j 0)) → P (get_or (set t i v) j 0)
stored t i v h P j here there = by (eqb j i) refl where
  by : (x : Bool) → eqb j i ≡ x → P (get_or (set t i v) j 0)
  by true e =
      let f : j ≡ i = eqb-true j i e in
      subst P (sym (ap (λ (k : ℕ). get_or (set t i v) k 0) f ∙ get_or-set_same t i v 0 h)) (here f)
  by false e = let f = eqb-false j i e in subst P (sym (get_or-set_other t i j v 0 f)) (there f)

-- THE START: nothing covers the empty end alone

-- marks below i are 0
pub record Zeros (t : List ℕ) (i : ℕ) : Type 0 where
  pub each : (j : ℕ) → j < i → get_or t j 0 ≡ 0

nothing_covers : (w : List ℕ) (i : ℕ) → i < length w → covers [] (drop i w) ≡ false
unfolding covers is_empty
nothing_covers w i h = ap is_empty (drop-cons w i 0 h)

nothing_ends : (w : List ℕ) (i : ℕ) → length w ≤ i → covers [] (drop i w) ≡ true
unfolding covers is_empty
nothing_ends w i h = ap is_empty (drop_of_length-le w h)

pub started : (t w : List ℕ) (i : ℕ) → i < length t → i ≡ length w → Zeros t i → Marked (set t i 1) [] w
unfolding mark
started t w i l e z =
    record {
      each = λ j h.
          stored t i 1 l (λ (x : ℕ). x ≡ mark (covers [] (drop j w))) j (λ f. ap mark (sym (nothing_ends w j (omega arith))))
          (λ f. z.each j (omega arith) ∙ ap mark (sym (nothing_covers w j (omega arith))));
    }

pub begun : (w d z : List ℕ) → z ≡ replicate (length w) 0 → length w < length d → Marked (set (z ++ drop (length w) d) (length w) 1) [] w
begun w d z e h =
    let l : length z ≡ length w = ap length e ∙ length-replicate {A = ℕ} (length w) 0 in
    let f : length (z ++ drop (length w) d) ≡ length d = length-append z (drop (length w) d) ∙ omega (arith, l, length-drop (length w) d) in
    started (z ++ drop (length w) d) w (length w) (omega (arith, f)) refl
    (record { each = λ j k. get_or-append z (drop (length w) d) 0 j (omega (arith, l)) ∙ (ap (λ (x : List ℕ). get_or x j 0) e ∙ get_or-replicate (length w) j 0 0 k) })

-- A DASH

-- from place i on the marks are those behind a dash, below it as they were; later is the mark at i, or 0 behind the last
pub record DashSo (t t' w : List ℕ) (later i : ℕ) : Type 0 where
  pub low : (j : ℕ) → j < i → get_or t' j 0 ≡ get_or t j 0
  pub high : (p : List ℕ) → Marked t p w → (j : ℕ) → i ≤ j → j ≤ length w → get_or t' j 0 ≡ mark (somewhere (covers p) (drop j w))
  pub next : (p : List ℕ) → Marked t p w → i ≤ length w → later ≡ mark (somewhere (covers p) (drop i w))
  pub none : length w < i → later ≡ 0

pub dash_none : (t w : List ℕ) → DashSo t t w 0 (length w + 1)
dash_none t w = record { low = λ j h. refl; high = λ p m j g h. absurd (omega arith); next = λ p m h. absurd (omega arith); none = λ h. refl }

either : (x y : Bool) → bit_or (mark x) (mark y) ≡ mark (x || y)
unfolding mark
either true true = refl
either true false = refl
either false true = refl
either false false = refl

either_none : (x : Bool) → bit_or (mark x) 0 ≡ mark x
unfolding mark
either_none true = refl
either_none false = refl

module _ (t t' w : List ℕ) (later i : ℕ) (l : i ≤ length w) (k : length w < length t') (s : DashSo t t' w later (suc i)) where
  -- the mark that is stored at i
  here_last : (p : List ℕ) → Marked t p w → length w ≤ i → bit_or (get_or t' i 0) later ≡ mark (somewhere (covers p) (drop i w))
  unfolding somewhere
  here_last p m h =
      let e : drop i w ≡ [] = drop_of_length-le w h in
      ap (λ (x : ℕ). bit_or (get_or t' i 0) x) (s.none (omega arith))
      ∙ (ap (λ (x : ℕ). bit_or x 0) (s.low i (omega arith) ∙ m.each i l)
      ∙ (either_none (covers p (drop i w)) ∙ (ap (λ (x : List ℕ). mark (covers p x)) e ∙ ap (λ (x : List ℕ). mark (somewhere (covers p) x)) (sym e))))

  here_more : (p : List ℕ) → Marked t p w → i < length w → bit_or (get_or t' i 0) later ≡ mark (somewhere (covers p) (drop i w))
  unfolding somewhere
  here_more p m h =
      let e : drop i w ≡ get_or w i 0 ∷ drop (suc i) w = drop-cons w i 0 h in
      ap (λ (x : ℕ). bit_or x later) (s.low i (omega arith) ∙ m.each i l)
      ∙ (ap (λ (x : ℕ). bit_or (mark (covers p (drop i w))) x) (s.next p m (omega arith))
      ∙ (either (covers p (drop i w)) (somewhere (covers p) (drop (suc i) w))
      ∙ (ap (λ (x : List ℕ). mark (covers p x || somewhere (covers p) (drop (suc i) w))) e ∙ ap (λ (x : List ℕ). mark (somewhere (covers p) x)) (sym e))))

  here : (p : List ℕ) → Marked t p w → bit_or (get_or t' i 0) later ≡ mark (somewhere (covers p) (drop i w))
  here p m = by (eqb i (length w)) refl where
    by : (x : Bool) → eqb i (length w) ≡ x → bit_or (get_or t' i 0) later ≡ mark (somewhere (covers p) (drop i w))
    by true e = here_last p m (omega (arith, eqb-true i (length w) e))
    by false e = let f = eqb-false i (length w) e in here_more p m (omega arith)

  pub dash_more : DashSo t (set t' i (bit_or (get_or t' i 0) later)) w (bit_or (get_or t' i 0) later) i
  dash_more =
      let v : ℕ = bit_or (get_or t' i 0) later in
      record {
        low = λ j h. stored t' i v (omega arith) (λ (x : ℕ). x ≡ get_or t j 0) j (λ e. absurd (omega arith)) (λ e. s.low j (omega arith));
        high = λ p m j g h.
            stored t' i v (omega arith) (λ (x : ℕ). x ≡ mark (somewhere (covers p) (drop j w))) j
            (λ e. here p m ∙ ap (λ (q : ℕ). mark (somewhere (covers p) (drop q w))) (sym e))
            (λ e. s.high p m j (omega arith) h);
        next = λ p m h. here p m;
        none = λ h. absurd (omega arith);
      }

pub dash_next : (t t' w : List ℕ) (later i : ℕ) → 0 < i → i ≤ length w + 1 → length w < length t' → DashSo t t' w later i
    → DashSo t (set t' (i - 1) (bit_or (get_or t' (i - 1) 0) later)) w (bit_or (get_or t' (i - 1) 0) later) (i - 1)
dash_next t t' w later i g l k s =
    let e : i ≡ suc (i - 1) = omega arith in
    dash_more t t' w later (i - 1) (omega arith) k (subst (DashSo t t' w later) e s)

pub dash_done : (t t' w : List ℕ) (later i : ℕ) → i ≤ 0 → DashSo t t' w later i → StepsDash t t' w
dash_done t t' w later i l s =
    record { step = λ p m. record { each = λ j h. s.high p m j (omega arith) h ∙ ap mark (sym (covers_dash dash p (eq-eqb dash dash refl) (drop j w))) } }

-- ANOTHER BYTE

-- below place i the marks are those behind the byte c, from it on as they were
pub record ByteSo (t t' w : List ℕ) (c i : ℕ) : Type 0 where
  pub low : (p : List ℕ) → Marked t p w → (j : ℕ) → j < i → get_or t' j 0 ≡ mark (byte_then c (covers p) (drop j w))
  pub high : (j : ℕ) → i ≤ j → get_or t' j 0 ≡ get_or t j 0

pub byte_none : (t w : List ℕ) (c : ℕ) → ByteSo t t w c 0
byte_none t w c = record { low = λ p m j h. absurd (omega arith); high = λ j h. refl }

marked_byte : (c b : ℕ) (x : Bool) (v : List ℕ) (f : List ℕ → Bool) → f v ≡ x → pick (eqb c b) (mark x) 0 ≡ mark (byte_then c f (b ∷ v))
unfolding byte_then mark pick
marked_byte c b x v f e = by (eqb c b) where
  by : (y : Bool) → pick y (mark x) 0 ≡ mark (elim y [ true ↦ f v | false ↦ false ])
  by true = ap mark (sym e)
  by false = refl

module _ (t t' w : List ℕ) (c i : ℕ) (l : i < length w) (k : length w < length t') (s : ByteSo t t' w c i) where
  byte_here_lem : (p : List ℕ) → Marked t p w → pick (eqb c (get_or w i 0)) (get_or t' (i + 1) 0) 0 ≡ mark (byte_then c (covers p) (drop i w))
  byte_here_lem p m =
      let e : drop i w ≡ get_or w i 0 ∷ drop (i + 1) w = rw (add-one i) (drop-cons w i 0 l) in
      ap (λ (x : ℕ). pick (eqb c (get_or w i 0)) x 0) (s.high (i + 1) (omega arith) ∙ m.each (i + 1) (omega arith))
      ∙ (marked_byte c (get_or w i 0) (covers p (drop (i + 1) w)) (drop (i + 1) w) (covers p) refl
      ∙ ap (λ (x : List ℕ). mark (byte_then c (covers p) x)) (sym e))

  pub byte_more : {v : ℕ} → v ≡ pick (eqb c (get_or w i 0)) (get_or t' (i + 1) 0) 0 → ByteSo t (set t' i v) w c (i + 1)
  byte_more {v} e =
      record {
        low = λ p m j h.
            stored t' i v (omega arith) (λ (x : ℕ). x ≡ mark (byte_then c (covers p) (drop j w))) j
            (λ f. e ∙ (byte_here_lem p m ∙ ap (λ (q : ℕ). mark (byte_then c (covers p) (drop q w))) (sym f)))
            (λ f. s.low p m j (omega arith));
        high = λ j h. stored t' i v (omega arith) (λ (x : ℕ). x ≡ get_or t j 0) j (λ f. absurd (omega arith)) (λ f. s.high j (omega arith));
      }

-- no byte stands behind the word
byte_end : (c : ℕ) (f : List ℕ → Bool) (w : List ℕ) (i : ℕ) → length w ≤ i → byte_then c f (drop i w) ≡ false
unfolding byte_then
byte_end c f w i h = ap (byte_then c f) (drop_of_length-le w h)

pub byte_done : (t t' w : List ℕ) (c i : ℕ) → i ≡ length w → i < length t' → ByteSo t t' w c i → StepsByte t (set t' i 0) w c
unfolding mark
byte_done t t' w c i e l s =
    record {
      step = λ d p m.
          record {
            each = λ j h.
                stored t' i 0 l (λ (x : ℕ). x ≡ mark (byte_then c (covers p) (drop j w))) j (λ f. ap mark (sym (byte_end c (covers p) w j (omega arith))))
                (λ f. s.low p m j (omega arith))
                ∙ ap mark (sym (covers_byte c p d (drop j w)));
          };
    }

-- ANY BYTE

pub step_dash : {t t' w : List ℕ} {c : ℕ} → c ≡ 45 → StepsDash t t' w → Steps t t' w c
step_dash {t} {t'} {w} {c} e s = record { step = λ p m. subst (λ (x : ℕ). Marked t' (x ∷ p) w) (sym e) (s.step p m) }

pub step_byte : {t t' w : List ℕ} {c : ℕ} → eqb c dash ≡ false → StepsByte t t' w c → Steps t t' w c
step_byte d s = record { step = λ p m. s.step d p m }

-- THE WHOLE PATTERN

one_more : (p t t' w : List ℕ) (k : ℕ) → k < length p → Marked t (drop (suc k) p) w → Steps t t' w (get_or p k 0) → Marked t' (drop k p) w
one_more p t t' w k h m s = subst (λ (x : List ℕ). Marked t' x w) (sym (drop-cons p k 0 h)) (s.step (drop (suc k) p) m)

pub first_marked : (p t w : List ℕ) → Marked t [] w → Marked t (drop (length p) p) w
first_marked p t w m = subst (λ (x : List ℕ). Marked t x w) (sym (drop-length p)) m

pub next_marked : (p t t' w : List ℕ) (k : ℕ) → 0 < k → k ≤ length p → Marked t (drop k p) w → Steps t t' w (get_or p (k - 1) 0) → Marked t' (drop (k - 1) p) w
next_marked p t t' w k g l m s =
    let e : k ≡ suc (k - 1) = omega arith in
    one_more p t t' w (k - 1) (omega arith) (subst (λ (j : ℕ). Marked t (drop j p) w) e m) s

is_one : (x : Bool) → eqb (mark x) 1 ≡ x
unfolding mark
is_one true = refl
is_one false = refl

pub answered : (p t w : List ℕ) (k : ℕ) → k ≤ 0 → Marked t (drop k p) w → eqb (get_or t 0 0) 1 ≡ covers p w
answered p t w k l m =
    let e : k ≡ 0 = omega arith in
    let n : Marked t p w = subst (λ (j : ℕ). Marked t (drop j p) w) e m in
    ap (λ (x : ℕ). eqb x 1) (n.each 0 (omega arith)) ∙ is_one (covers p w)
