-- The bytes that count, from a place on.
-- Assumes nothing.
use mathlib.Core.Path.{◌≡◌, refl, ap, sym, ◌∙◌}
use mathlib.Core.Bool.{Bool, true, false, not}
use mathlib.Core.List.{List, [], ◌∷◌}
use Prim.Native.Nat.{ℕ, suc, ◌+◌, ◌-◌, ◌≤◌, ◌<◌}
use native.Mathlib.Omega.{arith}
use native.Mathlib.Numerals.{add-one}
use lib.Dec.{eqb, ltb}
use lib.ListN.{length, get_or, take, drop, length-take, drop_of_length-le}
use lib.Seq.{drop-cons, drop-drop, get_or-take}
use borrow.Author.Tests.{ne_eqb, le-ltb, lt-ltb}
use Rattle.macros.specs.Macro.{pick}
use Rattle.read_scan.specs.Bytes.{refused, Placed, with?, outside, up_to, seen, unended, byte_here, first, next_byte, spaceless, next_in_call}
use Rattle.read_scan.specs.Bytes.Placed.{byte_at}
use Rattle.read_scan.specs.Scan.{At, Reached}
use Rattle.read_scan.specs.declared.FileFault.{FileFault}
use Rattle.read_scan.specs.declared.FileFault.TheVariants.{Incomplete, MacroTooLong}
use Rattle.std.specs.Prelude.{Ok}

-- the bytes that count from p on, in a skip or not
unfoldable pub seen_in : Bool → List ℕ → ℕ → ℕ → List Placed
seen_in k s a p = outside k p (drop p (up_to s a))

module _ {s : List ℕ} {a p b : ℕ} (x : At s a p b) where
  the_next : drop p (up_to s a) ≡ b ∷ drop (p + 1) (up_to s a)
  unfolding up_to
  the_next =
      let l : p < length (take (a + 513) s) = rw (length-take (a + 513) s) (omega (arith, x.there, x.counted)) in
      rw (add-one p) (drop-cons (take (a + 513) s) p 0 l ∙ rw (get_or-take (a + 513) s p 0 (omega (arith, x.counted)), x.byte) refl)

  -- a slash
  pub seen_slash : (k : Bool) → b ≡ 47 → seen_in k s a p ≡ seen_in (not k) s a (p + 1)
  unfolding seen_in outside with? pick
  seen_slash k e = rw the_next (simp (e, add-one))

  -- any other byte in a skip
  pub seen_within : (b ≡ 47 → ⊥) → seen_in true s a p ≡ seen_in true s a (p + 1)
  unfolding seen_in outside with? pick
  seen_within e = rw the_next (simp (ne_eqb _ _ e, add-one))

  -- and in none
  pub seen_here : (b ≡ 47 → ⊥) → seen_in false s a p ≡ byte_at b p ∷ seen s a (p + 1)
  unfolding seen_in seen outside with? pick
  seen_here e = rw the_next (simp (ne_eqb _ _ e, add-one))

module _ (s : List ℕ) (a p : ℕ) where
  -- behind the 513th byte, and at the file's end
  pub seen_late : (k : Bool) → a + 513 ≤ p → seen_in k s a p ≡ []
  unfolding seen_in up_to outside
  seen_late k h = rw (drop_of_length-le (take (a + 513) s) {i = p} (rw (length-take (a + 513) s) (omega arith))) refl

  pub seen_end : (k : Bool) → length s ≤ p → seen_in k s a p ≡ []
  unfolding seen_in up_to outside
  seen_end k h = rw (drop_of_length-le (take (a + 513) s) {i = p} (rw (length-take (a + 513) s) (omega arith))) refl

  pub unended_late : p ≤ length s → p ≤ a + 513 → 512 < p - a → unended s a ≡ refused MacroTooLong (p - 1)
  unfolding unended pick
  unended_late l m h =
      let n : a + 512 ≡ p - 1 = omega arith in
      simp (lt-ltb 512 (length s - a) (omega arith), n)

  pub unended_end : length s ≤ p → p ≤ length s → p - a ≤ 512 → unended s a ≡ refused Incomplete p
  unfolding unended pick
  unended_end l m h =
      let n : length s ≡ p = omega arith in
      rw n (simp (le-ltb _ _ h))

  -- the byte at p itself
  pub stays_late : p ≤ length s → p ≤ a + 513 → 512 < p - a → refused MacroTooLong (p - 1) ≡ byte_here s a p
  unfolding byte_here up_to pick
  stays_late l m h =
      let e : length (take (a + 513) s) ≤ p = rw (length-take (a + 513) s) (omega arith) in
      rw (le-ltb p (length (take (a + 513) s)) e) (sym (unended_late l m h))

  pub stays_end : length s ≤ p → p ≤ length s → p - a ≤ 512 → refused Incomplete p ≡ byte_here s a p
  unfolding byte_here up_to pick
  stays_end l m h =
      let e : length (take (a + 513) s) ≤ p = rw (length-take (a + 513) s) (omega arith) in
      rw (le-ltb p (length (take (a + 513) s)) e) (sym (unended_end l m h))

  pub stays_here : p < length s → p - a ≤ 512 → a ≤ p → Ok (get_or s p 0, p) ≡ byte_here s a p
  unfolding byte_here up_to pick
  stays_here l h m =
      let e : p < length (take (a + 513) s) = rw (length-take (a + 513) s) (omega arith) in
      rw (lt-ltb p (length (take (a + 513) s)) e) refl

-- a byte that counts: behind it the others from the next place on
outside_rest : (xs : List ℕ) (k : Bool) (p : ℕ) (s : List ℕ) {b q : ℕ} {w : List Placed} → drop p s ≡ xs → outside k p xs ≡ byte_at b q ∷ w
    → w ≡ outside false (q + 1) (drop (q + 1) s)
unfolding outside with? pick
outside_rest [] k p s h e = let z : ◌≡◌ {A = ℕ} 0 1 = cc in absurd (omega arith)
outside_rest (c ∷ cs) k p s {b} {q} {w} h e = by (eqb c 47) k refl refl (λ j. outside_rest cs j (suc p) s t)
  where
    t : drop (suc p) s ≡ cs
    t = rw (← add-one p) (sym (drop-drop 1 p s) ∙ rw h refl)

    by : (y j : Bool) → eqb c 47 ≡ y → k ≡ j → ((j : Bool) → outside j (suc p) cs ≡ byte_at b q ∷ w → w ≡ outside false (q + 1) (drop (q + 1) s))
        → w ≡ outside false (q + 1) (drop (q + 1) s)
    by true j f g on = on (not k) (sym (simp f) ∙ e)
    by false true f g on = on true (sym (simp (f, g)) ∙ e)
    by false false f g on =
        let o : outside k p (c ∷ cs) ≡ byte_at c p ∷ outside false (suc p) cs = simp (f, g) in
        let i : q ≡ p = cc in
        let j : w ≡ outside false (suc p) cs = cc in
        rw (i, add-one p, t) j

unended_refuses : (s : List ℕ) (a b q : ℕ) → unended s a ≡ Ok (b, q) → ⊥
unfolding unended pick
unended_refuses s a b q = by (ltb 512 (length s - a))
  where
    by : (y : Bool) → pick y (refused MacroTooLong (a + 512)) (refused Incomplete (length s)) ≡ Ok (b, q) → ⊥
    by true e = let z : ◌≡◌ {A = ℕ} 0 1 = cc in omega arith
    by false e = let z : ◌≡◌ {A = ℕ} 0 1 = cc in omega arith

-- what the next byte shows of the bytes that count
pub seen_byte : (s : List ℕ) (a p b q : ℕ) → Ok (b, q) ≡ next_byte s a p → seen s a p ≡ byte_at b q ∷ seen s a (q + 1)
unfolding next_byte first seen
seen_byte s a p b q e = by (seen s a p) refl e
  where
    by : (xs : List Placed) → seen s a p ≡ xs → Ok (b, q) ≡ first (unended s a) xs → seen s a p ≡ byte_at b q ∷ seen s a (q + 1)
    by [] f g = absurd (unended_refuses s a b q (sym g))
    by (byte_at c u ∷ w) f g =
        let k : ◌≡◌ {A = ℕ × ℕ} (c, u) (b, q) = cc in
        let i : c ≡ b = ap (λ (x : ℕ × ℕ). x.0) k in
        let j : u ≡ q = ap (λ (x : ℕ × ℕ). x.1) k in
        let h : seen s a p ≡ byte_at b q ∷ w = rw (← i, ← j) f in
        rw (← outside_rest _ false p (up_to s a) refl h) h

pub seen_none : (s : List ℕ) (a p : ℕ) (f : FileFault) (q : ℕ) → refused f q ≡ next_byte s a p → (seen s a p ≡ []) × (refused f q ≡ unended s a)
unfolding next_byte first
seen_none s a p f q e = by (seen s a p) refl e
  where
    by : (xs : List Placed) → seen s a p ≡ xs → refused f q ≡ first (unended s a) xs → (seen s a p ≡ []) × (refused f q ≡ unended s a)
    by [] i g = (i, g)
    by (byte_at c u ∷ w) i g = let z : ◌≡◌ {A = ℕ} 0 1 = cc in absurd (omega arith)

pub seen_start : (s : List ℕ) (a p : ℕ) → seen s a p ≡ seen_in false s a p
unfolding seen seen_in
seen_start s a p = refl

-- from p the reading came to v
module _ (s : List ℕ) (a p v : ℕ) (k : Bool) (g : seen s a p ≡ seen_in k s a v) (z : Reached s a v) where
  pub next_late : 512 < v - a → refused MacroTooLong (v - 1) ≡ next_byte s a p
  unfolding next_byte first
  next_late h = rw (g ∙ seen_late s a v k (omega arith)) (sym (unended_late s a v z.1 z.2 h))

  pub next_end_lem : length s ≤ v → v - a ≤ 512 → refused Incomplete v ≡ next_byte s a p
  unfolding next_byte first
  next_end_lem l h = rw (g ∙ seen_end s a v k l) (sym (unended_end s a v l z.1 h))

pub next_here : (p : ℕ) {s : List ℕ} {a v b : ℕ} → seen s a p ≡ seen_in false s a v → At s a v b → (b ≡ 47 → ⊥) → Ok (b, v) ≡ next_byte s a p
unfolding next_byte first
next_here p g x e = rw (g ∙ seen_here x e) refl

-- in a call: from p only skips and spaces up to v
module _ (s : List ℕ) (a p v : ℕ) (g : spaceless (seen s a p) ≡ spaceless (seen s a v)) where
  pub in_call_none : {f : FileFault} {q : ℕ} → refused f q ≡ next_byte s a v → refused f q ≡ next_in_call s a p
  unfolding next_in_call first spaceless
  in_call_none {f} {q} e =
      let h = seen_none s a v f q e in
      rw (g ∙ ap spaceless h.0) h.1

  module _ {b q : ℕ} (e : Ok (b, q) ≡ next_byte s a v) where
    pub in_call_here : (b ≡ 32 → ⊥) → Ok (b, q) ≡ next_in_call s a p
    unfolding next_in_call first spaceless with?
    in_call_here f = rw (g ∙ ap spaceless (seen_byte s a v b q e)) (simp (ne_eqb _ _ f))

    pub in_call_space : b ≡ 32 → spaceless (seen s a p) ≡ spaceless (seen s a (q + 1))
    unfolding spaceless with?
    in_call_space f = g ∙ (ap spaceless (seen_byte s a v b q e) ∙ rw f refl)
