-- The law of specs/CoverLaw: the test of covering is the relation.
-- Assumes nothing.
use mathlib.Core.Path.{◌≡◌, refl, sym, ap, ◌∙◌, subst}
use Prim.Native.Nat.{ℕ, suc}
use native.Mathlib.Omega.{arith}
use mathlib.Core.Bool.{Bool, true, false, ◌||◌, false≢true, or-true}
use mathlib.Core.List.{List, [], ◌∷◌, ◌++◌}
use borrow.Author.Tests.{eqb-true, eq-eqb}
use lib.Dec.{eqb}
use lib.ListN.{length}
use Rattle.words.specs.Word.{Run}
use Rattle.words.specs.Pattern.{dash, is_empty}
use Rattle.words.specs.Cover.{first_run, later_runs, filled, dashes, Runs, Covers, somewhere, byte_then, covers}
use Rattle.words.specs.CoverLaw.{CoversExactly}

-- A BYTE OF THE PATTERN, by whether it is a dash

module _ (c : ℕ) (p : List ℕ) where
  module _ (d : eqb c dash ≡ true) where
    pub covers_dash : (w : List ℕ) → covers (c ∷ p) w ≡ somewhere (covers p) w
    unfolding covers
    covers_dash w = ap (λ (x : Bool). elim x [ true ↦ somewhere (covers p) w | false ↦ byte_then c (covers p) w ]) d

    filled_dash : (rs : List (List ℕ)) → filled (c ∷ p) rs ≡ first_run rs ++ filled p (later_runs rs)
    unfolding filled
    filled_dash rs = ap (λ (x : Bool). elim x [ true ↦ first_run rs ++ filled p (later_runs rs) | false ↦ c ∷ filled p rs ]) d

    dashes_dash : dashes (c ∷ p) ≡ suc (dashes p)
    unfolding dashes
    dashes_dash = ap (λ (x : Bool). elim x [ true ↦ suc (dashes p) | false ↦ dashes p ]) d

  module _ (d : eqb c dash ≡ false) where
    pub covers_byte : (w : List ℕ) → covers (c ∷ p) w ≡ byte_then c (covers p) w
    unfolding covers
    covers_byte w = ap (λ (x : Bool). elim x [ true ↦ somewhere (covers p) w | false ↦ byte_then c (covers p) w ]) d

    filled_byte : (rs : List (List ℕ)) → filled (c ∷ p) rs ≡ c ∷ filled p rs
    unfolding filled
    filled_byte rs = ap (λ (x : Bool). elim x [ true ↦ first_run rs ++ filled p (later_runs rs) | false ↦ c ∷ filled p rs ]) d

    dashes_byte : dashes (c ∷ p) ≡ dashes p
    unfolding dashes
    dashes_byte = ap (λ (x : Bool). elim x [ true ↦ suc (dashes p) | false ↦ dashes p ]) d

-- WHAT THE TEST FINDS IS A CHOICE

run_front : (r s : List ℕ) → Run (r ++ s) → Run r
unfolding Run
run_front [] s h = tt
run_front (b ∷ r) s h = (h.0, run_front r s h.1)

run_back : (r s : List ℕ) → Run (r ++ s) → Run s
unfolding Run
run_back [] s h = h
run_back (b ∷ r) s h = run_back r s h.1

-- the bytes that a dash takes, and the rest, of which f holds
record Split (f : List ℕ → Bool) (w : List ℕ) : Type 0 where
  taken : List ℕ
  rest : List ℕ
  joins : taken ++ rest ≡ w
  holds : f rest ≡ true

split_by : (f : List ℕ → Bool) (b : ℕ) (w : List ℕ) (x : Bool) → f (b ∷ w) ≡ x → (x || somewhere f w) ≡ true → (somewhere f w ≡ true → Split f w) → Split f (b ∷ w)
split_by f b w true e h ih = record { taken = []; rest = b ∷ w; joins = refl; holds = e }
split_by f b w false e h ih = let s = ih h in record { taken = b ∷ s.taken; rest = s.rest; joins = ap (λ (l : List ℕ). b ∷ l) s.joins; holds = s.holds }

splits : (f : List ℕ → Bool) (w : List ℕ) → somewhere f w ≡ true → Split f w
unfolding somewhere
splits f [] e = record { taken = []; rest = []; joins = refl; holds = e }
splits f (b ∷ w) e = split_by f b w (f (b ∷ w)) refl e (splits f w)

Shows : List ℕ → Type 0
Shows p = (w : List ℕ) → Run w → covers p w ≡ true → Covers p w

shows_end : Shows []
unfolding covers is_empty filled dashes Runs Shows
shows_end [] h e = record { runs = []; one_each = refl; are_runs = tt; whole = refl }
shows_end (b ∷ w) h e = absurd (false≢true e)

shows_dash : (c : ℕ) (p : List ℕ) → eqb c dash ≡ true → Shows p → Shows (c ∷ p)
unfolding Runs first_run later_runs Shows
shows_dash c p d ih w h e =
    let s = splits (covers p) w (sym (covers_dash c p d w) ∙ e) in
    let h₂ : Run (s.taken ++ s.rest) = subst Run (sym s.joins) h in
    let k = ih s.rest (run_back s.taken s.rest h₂) s.holds in
    record {
      runs = s.taken ∷ k.runs;
      one_each = ap suc k.one_each ∙ sym (dashes_dash c p d);
      are_runs = (run_front s.taken s.rest h₂, k.are_runs);
      whole = filled_dash c p d (s.taken ∷ k.runs) ∙ (ap (λ (l : List ℕ). s.taken ++ l) k.whole ∙ s.joins);
    }

if_true : (x y : Bool) → (elim x [ true ↦ y | false ↦ false ]) ≡ true → (x ≡ true) × (y ≡ true)
if_true true y e = (refl, e)
if_true false y e = absurd (false≢true e)

shows_byte : (c : ℕ) (p : List ℕ) → eqb c dash ≡ false → Shows p → (w : List ℕ) → Run w → byte_then c (covers p) w ≡ true → Covers (c ∷ p) w
unfolding byte_then Run Shows
shows_byte c p d ih [] h e = absurd (false≢true e)
shows_byte c p d ih (b ∷ w) h e =
    let g = if_true (eqb c b) (covers p w) e in
    let k = ih w h.1 g.1 in
    record {
      runs = k.runs;
      one_each = k.one_each ∙ sym (dashes_byte c p d);
      are_runs = k.are_runs;
      whole = filled_byte c p d k.runs ∙ (ap (λ (l : List ℕ). c ∷ l) k.whole ∙ ap (λ (x : ℕ). x ∷ w) (eqb-true c b g.0));
    }

shows_by : (c : ℕ) (p : List ℕ) (x : Bool) → eqb c dash ≡ x → Shows p → Shows (c ∷ p)
unfolding Shows
shows_by c p true d ih = shows_dash c p d ih
shows_by c p false d ih = λ w h e. shows_byte c p d ih w h (sym (covers_byte c p d w) ∙ e)

shows : (p : List ℕ) → Shows p
shows [] = shows_end
shows (c ∷ p) = shows_by c p (eqb c dash) refl (shows p)

-- A CHOICE IS FOUND

-- f holds behind the bytes r
somewhere_after : (f : List ℕ → Bool) (r s : List ℕ) → f s ≡ true → somewhere f (r ++ s) ≡ true
unfolding somewhere
somewhere_after f [] [] e = e
somewhere_after f [] (b ∷ s) e = ap (λ (x : Bool). x || somewhere f s) e
somewhere_after f (b ∷ r) s e = ap (λ (x : Bool). f (b ∷ (r ++ s)) || x) (somewhere_after f r s e) ∙ or-true (f (b ∷ (r ++ s)))

Found : List ℕ → Type 0
Found p = (rs : List (List ℕ)) → length rs ≡ dashes p → covers p (filled p rs) ≡ true

found_dash : (c : ℕ) (p : List ℕ) → eqb c dash ≡ true → Found p → Found (c ∷ p)
unfolding first_run later_runs Found
found_dash c p d ih [] l = absurd (let z = l ∙ dashes_dash c p d in omega arith)
found_dash c p d ih (r ∷ rs) l =
    let k : length rs ≡ dashes p = let z = l ∙ dashes_dash c p d in omega arith in
    covers_dash c p d (filled (c ∷ p) (r ∷ rs)) ∙ (ap (somewhere (covers p)) (filled_dash c p d (r ∷ rs)) ∙ somewhere_after (covers p) r (filled p rs) (ih rs k))

own_byte : (c : ℕ) (f : List ℕ → Bool) (w : List ℕ) → byte_then c f (c ∷ w) ≡ f w
unfolding byte_then
own_byte c f w = ap (λ (x : Bool). elim x [ true ↦ f w | false ↦ false ]) (eq-eqb c c refl)

found_byte : (c : ℕ) (p : List ℕ) → eqb c dash ≡ false → Found p → Found (c ∷ p)
unfolding Found
found_byte c p d ih rs l =
    covers_byte c p d (filled (c ∷ p) rs) ∙ (ap (byte_then c (covers p)) (filled_byte c p d rs) ∙ (own_byte c (covers p) (filled p rs) ∙ ih rs (l ∙ dashes_byte c p d)))

found_by : (c : ℕ) (p : List ℕ) (x : Bool) → eqb c dash ≡ x → Found p → Found (c ∷ p)
found_by c p true d ih = found_dash c p d ih
found_by c p false d ih = found_byte c p d ih

found_end : Found []
unfolding covers is_empty filled Found
found_end rs l = refl

finds : (p : List ℕ) → Found p
finds [] = found_end
finds (c ∷ p) = found_by c p (eqb c dash) refl (finds p)

pub covers_exactly : CoversExactly
unfolding Shows Found
covers_exactly p w h = record { sound = shows p w h; complete = λ k. ap (covers p) (sym k.whole) ∙ finds p k.runs k.one_each }
