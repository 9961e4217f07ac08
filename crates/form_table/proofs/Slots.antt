-- A slot passes the check exactly if it is the form of a macro that some file spells.
use mathlib.Core.Path.{◌≡◌, refl, sym, ap, ◌∙◌}
use mathlib.Core.Bool.{Bool, true, false, ◌&&◌}
use mathlib.Core.List.{List, [], ◌∷◌, ◌++◌, append_assoc}
use Prim.Native.Nat.{ℕ, zero, suc, ◌+◌, ◌-◌, ◌*◌, ◌/◌, ◌%◌, ◌≤◌}
use native.Mathlib.Omega.{arith}
use lib.Dec.{eqb, leb}
use lib.ListN.{length, replicate, get_or, take, drop, length-drop, take-append-drop}
use lib.Seq.{take-append_seam, drop-append_seam, drop-drop, length-take-le}
use borrow.Author.Tests.{eqb-true, eqb-false, leb-true, le-leb}
use Rattle.macros.specs.Macro.{Symbol, Macro, tags, within}
use Rattle.macros.specs.Macro.Symbol.{equal, less}
use Rattle.macros.specs.Formed.{Octets}
use Rattle.macros.specs.Accepted.{Spellable}
use Rattle.form_bytes.specs.Zeros.{all_zero}
use Rattle.form_table.specs.Form.{slot_bytes, header_bytes, body_bytes, pattern_items, replacement_items, calls_items, two, symbol_code, header, body, slot}
use Rattle.form_table.specs.Check.{items_fit, two_at, items_at, parts_fit, slot_fits}
use Rattle.form_table.proofs.Basics.{and_left, and_right, within_low, within_high, octets_take, octets_drop, octet_at}
use Rattle.form_table.proofs.Sizes.{body_length, body_size}
use Rattle.form_table.proofs.MacroItems.{MacroOf, items_sound, items_there}

-- ZEROS

pub zero_all : (n : ℕ) → all_zero (replicate n 0) ≡ true
unfolding all_zero
zero_all zero = refl
zero_all (suc n) = zero_all n

pub all_zero_lem : (s : List ℕ) → all_zero s ≡ true → s ≡ replicate (length s) 0
unfolding all_zero
all_zero_lem [] e = refl
all_zero_lem (b ∷ s) e = rw (eqb-true b 0 (and_left (eqb b 0) (all_zero s) e)) (ap (λ (l : List ℕ). 0 ∷ l) (all_zero_lem s (and_right (eqb b 0) (all_zero s) e)))

-- LAYOUT: the parts behind the header

module _ (s : List ℕ) where
  -- the items at a place where they are known to stand
  items_here : (xs ys : List ℕ) (n : ℕ) → drop (header_bytes + n) s ≡ xs ++ ys → items_at s n (length xs) ≡ xs
  unfolding items_at
  items_here xs ys n e = rw e (take-append_seam xs ys)

  -- what stands behind them
  behind_items : (xs ys : List ℕ) (n k : ℕ) → drop n s ≡ xs ++ ys → n + length xs ≡ k → drop k s ≡ ys
  behind_items xs ys n k e h = rw (← h) (sym (drop-drop (length xs) n s) ∙ rw e (drop-append_seam xs ys))

module _ (s bs ps rs cs zs : List ℕ) (e : drop header_bytes s ≡ bs ++ (ps ++ (rs ++ (cs ++ zs)))) where
  first : items_at s 0 (length bs) ≡ bs
  first = items_here s bs (ps ++ (rs ++ (cs ++ zs))) 0 e

  behind_first_lem : drop (header_bytes + length bs) s ≡ ps ++ (rs ++ (cs ++ zs))
  behind_first_lem = behind_items s bs _ header_bytes (header_bytes + length bs) e refl

  second : items_at s (length bs) (length ps) ≡ ps
  second = items_here s ps (rs ++ (cs ++ zs)) (length bs) behind_first_lem

  behind_second : drop (header_bytes + (length bs + length ps)) s ≡ rs ++ (cs ++ zs)
  behind_second = behind_items s ps _ (header_bytes + length bs) (header_bytes + (length bs + length ps)) behind_first_lem (omega arith)

  third : items_at s (length bs + length ps) (length rs) ≡ rs
  third = items_here s rs (cs ++ zs) (length bs + length ps) behind_second

  behind_third : drop (header_bytes + (length bs + length ps + length rs)) s ≡ cs ++ zs
  behind_third = behind_items s rs _ (header_bytes + (length bs + length ps)) (header_bytes + (length bs + length ps + length rs)) behind_second (omega arith)

  fourth : items_at s (length bs + length ps + length rs) (length cs) ≡ cs
  fourth = items_here s cs zs (length bs + length ps + length rs) behind_third

  behind_fourth : drop (header_bytes + length bs + length ps + length rs + length cs) s ≡ zs
  behind_fourth =
      behind_items s cs zs (header_bytes + (length bs + length ps + length rs)) (header_bytes + length bs + length ps + length rs + length cs) behind_third (omega arith)

  parts_fit_lem : length bs + length ps + length rs + length cs ≤ body_bytes → all_zero zs ≡ true → items_fit (get_or s 1 0) bs ps rs cs ≡ true
      → parts_fit s (length bs) (length ps) (length rs) (length cs) ≡ true
  unfolding parts_fit
  parts_fit_lem h z i =
      rw (le-leb (length bs + length ps + length rs + length cs) body_bytes h, behind_fourth, first, second, third, fourth, z) i

-- THERE

symbol_range : (y : Symbol) → within 1 2 (symbol_code y) ≡ true
unfolding symbol_code within
symbol_range equal = refl
symbol_range less = refl

two_there : (n : ℕ) → n % 256 + 256 * (n / 256) ≡ n
two_there n = omega arith

module _ (m : Macro) where
  abbrev B : List ℕ
  B = calls_items m.before

  abbrev P : List ℕ
  P = pattern_items m.pattern

  abbrev R : List ℕ
  R = replacement_items m.replacement

  abbrev C : List ℕ
  C = calls_items m.commands

  abbrev Z : List ℕ
  Z = replicate (body_bytes - length (body m)) 0

  slot_parts : drop header_bytes (slot m) ≡ B ++ (P ++ (R ++ (C ++ Z)))
  unfolding slot header two body
  slot_parts = simp append_assoc

  pub before_part : items_at (slot m) 0 (length (calls_items m.before)) ≡ calls_items m.before
  before_part = first (slot m) B P R C Z slot_parts

  pub pattern_part : items_at (slot m) (length (calls_items m.before)) (length (pattern_items m.pattern)) ≡ pattern_items m.pattern
  pattern_part = second (slot m) B P R C Z slot_parts

  pub replacement_part : items_at (slot m) (length (calls_items m.before) + length (pattern_items m.pattern)) (length (replacement_items m.replacement))
      ≡ replacement_items m.replacement
  replacement_part = third (slot m) B P R C Z slot_parts

  pub commands_part :
      items_at (slot m) (length (calls_items m.before) + length (pattern_items m.pattern) + length (replacement_items m.replacement))
      (length (calls_items m.commands))
      ≡ calls_items m.commands
  commands_part = fourth (slot m) B P R C Z slot_parts

  pub before_at : two_at (slot m) 2 ≡ length (calls_items m.before)
  unfolding two_at slot header two
  before_at = two_there (length (calls_items m.before))

  pub pattern_at_lem : two_at (slot m) 4 ≡ length (pattern_items m.pattern)
  unfolding two_at slot header two
  pattern_at_lem = two_there (length (pattern_items m.pattern))

  pub replacement_at : two_at (slot m) 6 ≡ length (replacement_items m.replacement)
  unfolding two_at slot header two
  replacement_at = two_there (length (replacement_items m.replacement))

  pub commands_at : two_at (slot m) 8 ≡ length (calls_items m.commands)
  unfolding two_at slot header two
  commands_at = two_there (length (calls_items m.commands))

  tags_at : get_or (slot m) 1 0 ≡ tags m.pattern
  unfolding slot header
  tags_at = refl

  pub symbol_at : get_or (slot m) 0 0 ≡ symbol_code m.symbol
  unfolding slot header
  symbol_at = refl

  pub slot_there : Spellable m → slot_fits (slot m) ≡ true
  unfolding slot_fits
  slot_there f =
      let h : length B + length P + length R + length C ≤ body_bytes = omega (arith, body_length m, body_size m, f.1) in
      rw (symbol_at, symbol_range m.symbol, before_at, pattern_at_lem, replacement_at, commands_at)
      (parts_fit_lem (slot m) B P R C Z slot_parts h (zero_all (body_bytes - length (body m))) (rw tags_at (items_there m f)))

-- SOUND

-- the bytes of the header
ten : (s : List ℕ) → header_bytes ≤ length s
    → take header_bytes s
    ≡ get_or s 0 0 ∷ get_or s 1 0 ∷ get_or s 2 0 ∷ get_or s 3 0 ∷ get_or s 4 0 ∷ get_or s 5 0 ∷ get_or s 6 0 ∷ get_or s 7 0 ∷ get_or s 8 0 ∷ get_or s 9 0 ∷ []
ten [] h = absurd (omega arith)
ten (_ ∷ []) h = absurd (omega arith)
ten (_ ∷ _ ∷ []) h = absurd (omega arith)
ten (_ ∷ _ ∷ _ ∷ []) h = absurd (omega arith)
ten (_ ∷ _ ∷ _ ∷ _ ∷ []) h = absurd (omega arith)
ten (_ ∷ _ ∷ _ ∷ _ ∷ _ ∷ []) h = absurd (omega arith)
ten (_ ∷ _ ∷ _ ∷ _ ∷ _ ∷ _ ∷ []) h = absurd (omega arith)
ten (_ ∷ _ ∷ _ ∷ _ ∷ _ ∷ _ ∷ _ ∷ []) h = absurd (omega arith)
ten (_ ∷ _ ∷ _ ∷ _ ∷ _ ∷ _ ∷ _ ∷ _ ∷ []) h = absurd (omega arith)
ten (_ ∷ _ ∷ _ ∷ _ ∷ _ ∷ _ ∷ _ ∷ _ ∷ _ ∷ []) h = absurd (omega arith)
ten (_ ∷ _ ∷ _ ∷ _ ∷ _ ∷ _ ∷ _ ∷ _ ∷ _ ∷ _ ∷ _) h = refl

two_back : (a b : ℕ) → a ≤ 255 → two (a + 256 * b) ≡ a ∷ b ∷ []
unfolding two
two_back a b h =
    let p : (a + 256 * b) % 256 ≡ a = omega arith in
    let q : (a + 256 * b) / 256 ≡ b = omega arith in
    rw (p, q)

symbol_back : (b : ℕ) → within 1 2 b ≡ true → (y : Symbol) × (symbol_code y ≡ b)
unfolding symbol_code
symbol_back b e = by (eqb b 1) refl
  where
    by : (x : Bool) → eqb b 1 ≡ x → (y : Symbol) × (symbol_code y ≡ b)
    by true f = (less, sym (eqb-true b 1 f))
    by false f = (equal, omega (arith, eqb-false b 1 f, within_low 1 2 b e, within_high 1 2 b e))

-- the bytes from a place of the body on: the items there, and what is behind them
cut : (s : List ℕ) (n k e : ℕ) → header_bytes + n + k ≡ e → drop (header_bytes + n) s ≡ items_at s n k ++ drop e s
unfolding items_at
cut s n k e h =
    sym (take-append-drop k (drop (header_bytes + n) s))
    ∙ ap (λ (l : List ℕ). take k (drop (header_bytes + n) s) ++ l) (drop-drop k (header_bytes + n) s ∙ ap (λ (i : ℕ). drop i s) h)

-- the bytes behind the header, by their lengths
split : (s : List ℕ) (b p r c : ℕ)
    → drop header_bytes s
    ≡ items_at s 0 b ++ (items_at s b p ++ (items_at s (b + p) r ++ (items_at s (b + p + r) c ++ drop (header_bytes + b + p + r + c) s)))
split s b p r c =
    cut s 0 b (header_bytes + b) refl
    ∙ ap (λ (l : List ℕ). items_at s 0 b ++ l)
    (cut s b p (header_bytes + (b + p)) (omega arith)
    ∙ ap (λ (l : List ℕ). items_at s b p ++ l)
    (cut s (b + p) r (header_bytes + (b + p + r)) (omega arith)
    ∙ ap (λ (l : List ℕ). items_at s (b + p) r ++ l) (cut s (b + p + r) c (header_bytes + b + p + r + c) (omega arith))))

module _ (s : List ℕ) (h : length s ≡ slot_bytes) (o : Octets s) where
  length_at : (n k : ℕ) → n + k ≤ body_bytes → length (items_at s n k) ≡ k
  unfolding items_at
  length_at n k g = length-take-le k (drop (header_bytes + n) s) (rw (length-drop (header_bytes + n) s, h) (omega arith))

  octets_at : (n k : ℕ) → Octets (items_at s n k)
  unfolding items_at
  octets_at n k = octets_take k _ (octets_drop (header_bytes + n) s o)

  module _ (b p r c : ℕ) (g : b + p + r + c ≤ body_bytes) (z : all_zero (drop (header_bytes + b + p + r + c) s) ≡ true) (y : Symbol)
      (x : MacroOf (get_or s 1 0) (items_at s 0 b) (items_at s b p) (items_at s (b + p) r) (items_at s (b + p + r) c)) where
    abbrev found : Macro
    found = record { before = x.before; pattern = x.pattern; symbol = y; replacement = x.replacement; commands = x.commands }

    before_length : length (calls_items x.before) ≡ b
    before_length = rw x.before_of (length_at 0 b (omega arith))

    pattern_length : length (pattern_items x.pattern) ≡ p
    pattern_length = rw x.pattern_of (length_at b p (omega arith))

    replacement_length : length (replacement_items x.replacement) ≡ r
    replacement_length = rw x.replacement_of (length_at (b + p) r (omega arith))

    commands_length : length (calls_items x.commands) ≡ c
    commands_length = rw x.commands_of (length_at (b + p + r) c (omega arith))

    zeros : replicate (body_bytes - length (body found)) 0 ≡ drop (header_bytes + b + p + r + c) s
    zeros =
        let e : body_bytes - length (body found) ≡ length (drop (header_bytes + b + p + r + c) s) =
        omega (
          arith,
          body_length found,
          before_length,
          pattern_length,
          replacement_length,
          commands_length,
          length-drop (header_bytes + b + p + r + c) s,
          h,
        )
        in
        rw e (sym (all_zero_lem (drop (header_bytes + b + p + r + c) s) z))

    body_back : body found ++ replicate (body_bytes - length (body found)) 0 ≡ drop header_bytes s
    unfolding body
    body_back = rw (zeros, x.before_of, x.pattern_of, x.replacement_of, x.commands_of) (simp append_assoc (sym (split s b p r c)))

    header_back : symbol_code y ≡ get_or s 0 0 → b ≡ two_at s 2 → p ≡ two_at s 4 → r ≡ two_at s 6 → c ≡ two_at s 8 → header found ≡ take header_bytes s
    unfolding header two_at
    header_back e₀ e₁ e₂ e₃ e₄ =
        rw (
          ten s (omega arith),
          e₀,
          before_length ∙ e₁,
          pattern_length ∙ e₂,
          replacement_length ∙ e₃,
          commands_length ∙ e₄,
          x.tagged,
          two_back (get_or s 2 0) (get_or s 3 0) (octet_at s 2 o),
          two_back (get_or s 4 0) (get_or s 5 0) (octet_at s 4 o),
          two_back (get_or s 6 0) (get_or s 7 0) (octet_at s 6 o),
          two_back (get_or s 8 0) (get_or s 9 0) (octet_at s 8 o),
        )

    slot_back : symbol_code y ≡ get_or s 0 0 → b ≡ two_at s 2 → p ≡ two_at s 4 → r ≡ two_at s 6 → c ≡ two_at s 8 → slot found ≡ s
    unfolding slot
    slot_back e₀ e₁ e₂ e₃ e₄ = rw (header_back e₀ e₁ e₂ e₃ e₄, body_back) (take-append-drop header_bytes s)

  pub slot_sound : slot_fits s ≡ true → (m : Macro) × Spellable m × (slot m ≡ s)
  unfolding slot_fits parts_fit
  slot_sound e =
      let b : ℕ = two_at s 2 in
      let p : ℕ = two_at s 4 in
      let r : ℕ = two_at s 6 in
      let c : ℕ = two_at s 8 in
      let e₁ : (leb (b + p + r + c) body_bytes
      && (all_zero (drop (header_bytes + b + p + r + c) s)
      && items_fit (get_or s 1 0) (items_at s 0 b) (items_at s b p) (items_at s (b + p) r) (items_at s (b + p + r) c))) ≡ true =
      and_right (within 1 2 (get_or s 0 0)) _ e in
      let e₂ : (all_zero (drop (header_bytes + b + p + r + c) s)
      && items_fit (get_or s 1 0) (items_at s 0 b) (items_at s b p) (items_at s (b + p) r) (items_at s (b + p + r) c)) ≡ true =
      and_right (leb (b + p + r + c) body_bytes) _ e₁ in
      by b p r c refl refl refl refl (symbol_back (get_or s 0 0) (and_left _ _ e)) (leb-true (b + p + r + c) body_bytes (and_left _ _ e₁)) (and_left _ _ e₂)
      (items_sound (get_or s 1 0) (items_at s 0 b) (items_at s b p) (items_at s (b + p) r) (items_at s (b + p + r) c)
      (octets_at 0 b) (octets_at b p) (octets_at (b + p) r) (octets_at (b + p + r) c)
      (and_right (all_zero (drop (header_bytes + b + p + r + c) s)) _ e₂))
    where
      by : (b p r c : ℕ) → b ≡ two_at s 2 → p ≡ two_at s 4 → r ≡ two_at s 6 → c ≡ two_at s 8 → (y : Symbol) × (symbol_code y ≡ get_or s 0 0)
          → b + p + r + c ≤ body_bytes → all_zero (drop (header_bytes + b + p + r + c) s) ≡ true
          → MacroOf (get_or s 1 0) (items_at s 0 b) (items_at s b p) (items_at s (b + p) r) (items_at s (b + p + r) c)
          → (m : Macro) × Spellable m × (slot m ≡ s)
      by b p r c e₁ e₂ e₃ e₄ y g z x =
          (found b p r c g z y.0 x, x.spellable y.0, slot_back b p r c g z y.0 x y.1 e₁ e₂ e₃ e₄)
