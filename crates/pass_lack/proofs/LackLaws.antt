-- A pattern that must have a byte which the line lacks has no division there.
-- Assumes nothing.
use Prim.Native.Nat.{ℕ, zero, suc, ◌+◌, ◌≤◌, ◌<◌}
use mathlib.Core.Path.{◌≡◌, refl, sym, ap, ◌∙◌, subst}
use mathlib.Core.Bool.{true, false, false≢true}
use mathlib.Core.Logic.{inl, inr}
use mathlib.Core.List.{List, [], ◌∷◌, ◌++◌}
use mathlib.Core.Option.{Option, none, some}
use native.Mathlib.Numerals.{add-one}
use native.Mathlib.Omega.{arith}
use native.Mathlib.Decide.{ℕ_discrete}
use borrow.Author.Tests.{eqb-true}
use lib.Dec.{eqb}
use lib.ListN.{length, get_or, set, drop, replicate, length-set, length-replicate, drop_of_length-le}
use lib.Seq.{drop-cons, get_or-set_same, get_or-set_other}
use Rattle.macros.specs.Macro.{Member, Piece}
use Rattle.macros.specs.Macro.Member.{single, range}
use Rattle.macros.specs.Macro.Closure.{once, one_or_more, zero_or_more}
use Rattle.macros.specs.Macro.Mark.{stack, counter}
use Rattle.macros.specs.Macro.PatternUnit.{literal, kind, class, call_of}
use Rattle.macros.specs.Macro.Piece.{element, start, end, left, right}
use Rattle.macros.specs.Formed.{Bytes}
use Rattle.form_table.specs.Form.{closure_code, unit_code, unit_operand, member_items, members_items, unit_rest, piece_items, pattern_items}
use Rattle.lines.specs.State.{State}
use Rattle.lines.specs.Matching.{span, byte_fits, fits, width, Copies, Allowed, Satisfies, Division, Divides}
use Rattle.lines.specs.Choosing.{chosen}
use Rattle.lines.specs.Choice.{Chosen}
use Rattle.lines.proofs.ChoiceLaws.{choice}
use Rattle.pass_lack.specs.Lacking.{flagged, flags_of, Absent, SomeAbsent}

-- THE FLAGS

-- a flag that is 1 stays so
stays : (t flags : List ℕ) (b : ℕ) → b < length flags → get_or flags b 0 ≡ 1 → get_or (flagged flags t) b 0 ≡ 1
unfolding flagged
stays [] flags b l e = e
stays (c ∷ t) flags b l e = stays t (set flags c 1) b (let z = length-set flags c 1 in omega arith) (by (ℕ_discrete b c))
  where
    by : Dec (b ≡ c) → get_or (set flags c 1) b 0 ≡ 1
    by (yes x) = subst (λ (k : ℕ). get_or (set flags k 1) b 0 ≡ 1) x (get_or-set_same flags b 1 0 l)
    by (no x) = get_or-set_other flags c b 1 0 x ∙ e

has_flag : (t flags : List ℕ) (i : ℕ) → i < length t → Bytes t → length flags ≡ 256 → get_or (flagged flags t) (get_or t i 0) 0 ≡ 1
unfolding flagged
has_flag [] flags i l h k = absurd (omega arith)
has_flag (b ∷ t) flags zero l h k = stays t (set flags b 1) b (let z = length-set flags b 1 in let y = h.0 in omega arith) (get_or-set_same flags b 1 0 (let y = h.0 in omega arith))
has_flag (b ∷ t) flags (suc i) l h k = has_flag t (set flags b 1) i (omega arith) h.1 (length-set flags b 1 ∙ k)

flagged_size : (t flags : List ℕ) → length (flagged flags t) ≡ length flags
unfolding flagged
flagged_size [] flags = refl
flagged_size (b ∷ t) flags = flagged_size t (set flags b 1) ∙ length-set flags b 1

pub flags_size : (t : List ℕ) → length (flags_of t) ≡ 256
flags_size t = flagged_size t (replicate 256 0) ∙ length-replicate {A = ℕ} 256 0

-- THE CODE'S LOOPS

pub flag_more : (line present : List ℕ) (i : ℕ) → i < length line → flagged present (drop i line) ≡ flagged (set present (get_or line i 0) 1) (drop (i + 1) line)
unfolding flagged
flag_more line present i h = ap (flagged present) (drop-cons line i 0 h) ∙ ap (λ (k : ℕ). flagged (set present (get_or line i 0) 1) (drop k line)) (sym (add-one i))

pub flag_end : (line present : List ℕ) (i : ℕ) → length line ≤ i → flagged present (drop i line) ≡ present
unfolding flagged
flag_end line present i h = ap (flagged present) (drop_of_length-le line {i = i} h)

-- the first of some items, and those behind it
pub absent_here : (flags l : List ℕ) → 2 ≤ length l → Absent flags (get_or l 0 0) (get_or l 1 0) → SomeAbsent flags l
absent_here flags [] h a = absurd (omega arith)
absent_here flags (c ∷ []) h a = absurd (omega arith)
absent_here flags (c ∷ b ∷ l) h a = inl a

pub absent_next : (flags l : List ℕ) → 2 ≤ length l → SomeAbsent flags (drop 2 l) → SomeAbsent flags l
absent_next flags [] h a = absurd (omega arith)
absent_next flags (c ∷ []) h a = absurd (omega arith)
absent_next flags (c ∷ b ∷ l) h a = inr a

pub absent_past : (flags l : List ℕ) → (Absent flags (get_or l 0 0) (get_or l 1 0) → ⊥) → SomeAbsent flags l → SomeAbsent flags (drop 2 l)
absent_past flags [] n a = absurd a
absent_past flags (c ∷ []) n a = absurd a
absent_past flags (c ∷ b ∷ l) n (inl a) = absurd (n a)
absent_past flags (c ∷ b ∷ l) n (inr a) = a

pub absent_over : (flags l : List ℕ) → length l < 2 → SomeAbsent flags l → ⊥
absent_over flags [] h a = a
absent_over flags (c ∷ []) h a = a
absent_over flags (c ∷ b ∷ l) h a = omega arith

-- THE DIVISIONS

behind_members : (flags : List ℕ) (ms : List Member) (l : List ℕ) → SomeAbsent flags (members_items ms ++ l) → SomeAbsent flags l
unfolding members_items member_items
behind_members flags [] l (inl a) = absurd (let z = a.most in omega arith)
behind_members flags [] l (inr a) = a
behind_members flags (single c ∷ ms) l (inl a) = absurd (let z = a.most in omega arith)
behind_members flags (single c ∷ ms) l (inr a) = behind_members flags ms l a
behind_members flags (range x z ∷ ms) l (inl a) = absurd (let z = a.most in omega arith)
behind_members flags (range x z ∷ ms) l (inr (inl a)) = absurd (let z = a.most in omega arith)
behind_members flags (range x z ∷ ms) l (inr (inr a)) = behind_members flags ms l a

module _ (t : List ℕ) (bytes : Bytes t) (st : State) where
  -- a literal stands where its flag is 1
  stands : (b p : ℕ) (s : List ℕ) → drop p t ≡ s → byte_fits (eqb b) s ≡ true → get_or (flags_of t) b 0 ≡ 0 → ⊥
  unfolding byte_fits
  stands b p [] e f z = false≢true f
  stands b p (x ∷ s) e f z =
      let l : p < length t = inside p t x s e in
      let y : get_or t p 0 ≡ x = first p t x s e in
      let w : get_or (flags_of t) (get_or t p 0) 0 ≡ 1 = has_flag t (replicate 256 0) p l bytes (length-replicate {A = ℕ} 256 0) in
      let v : b ≡ x = eqb-true b x f in
      let u : get_or (flags_of t) b 0 ≡ 1 = ap (λ (k : ℕ). get_or (flags_of t) k 0) (v ∙ sym y) ∙ w in
      let n : ◌≡◌ {A = ℕ} 0 1 = sym z ∙ u in
      omega arith
    where
      inside : (p : ℕ) (t : List ℕ) (x : ℕ) (s : List ℕ) → drop p t ≡ x ∷ s → p < length t
      inside zero [] x s e = absurd (let n : ◌≡◌ {A = ℕ} 0 (suc (length s)) = ap length e in omega arith)
      inside (suc p) [] x s e = absurd (let n : ◌≡◌ {A = ℕ} 0 (suc (length s)) = ap length e in omega arith)
      inside zero (y ∷ t) x s e = omega arith
      inside (suc p) (y ∷ t) x s e = let k = inside p t x s e in omega arith

      first : (p : ℕ) (t : List ℕ) (x : ℕ) (s : List ℕ) → drop p t ≡ x ∷ s → get_or t p 0 ≡ x
      first zero [] x s e = absurd (let n : ◌≡◌ {A = ℕ} 0 (suc (length s)) = ap length e in omega arith)
      first (suc p) [] x s e = absurd (let n : ◌≡◌ {A = ℕ} 0 (suc (length s)) = ap length e in omega arith)
      first zero (y ∷ t) x s e = ap (λ (l : List ℕ). get_or l 0 0) e
      first (suc p) (y ∷ t) x s e = first p t x s e

  copied : (b p n : ℕ) → 1 ≤ n → Copies st (literal b) t n p → get_or (flags_of t) b 0 ≡ 0 → ⊥
  unfolding Copies fits
  copied b p zero l h z = omega arith
  copied b p (suc n) l h z = stands b p (drop p t) refl h.0 z

  divides_none : (es : List Piece) → SomeAbsent (flags_of t) (pattern_items es) → (p : ℕ) (d : Division) → Divides st t es p d → ⊥
  unfolding pattern_items piece_items unit_code closure_code unit_operand unit_rest Divides Satisfies Allowed width
  divides_none [] a p d h = a
  divides_none (e ∷ es) a p [] h = h
  divides_none (element (literal b) once ∷ es) (inl a) p (span n q ∷ d) h = let k = h.0.0 in copied b p n (omega arith) h.0.1 a.flag
  divides_none (element (literal b) one_or_more ∷ es) (inl a) p (span n q ∷ d) h = copied b p n h.0.0 h.0.1 a.flag
  divides_none (element (literal b) zero_or_more ∷ es) (inl a) p (span n q ∷ d) h = let z = a.most in omega arith
  divides_none (element (literal b) once ∷ es) (inr a) p (span n q ∷ d) h = divides_none es a q d h.1
  divides_none (element (literal b) one_or_more ∷ es) (inr a) p (span n q ∷ d) h = divides_none es a q d h.1
  divides_none (element (literal b) zero_or_more ∷ es) (inr a) p (span n q ∷ d) h = divides_none es a q d h.1
  divides_none (element (kind k) c ∷ es) (inl a) p (span n q ∷ d) h = let z = a.most in omega arith
  divides_none (element (kind k) c ∷ es) (inr a) p (span n q ∷ d) h = divides_none es a q d h.1
  divides_none (element (call_of stack j) c ∷ es) (inl a) p (span n q ∷ d) h = let z = a.most in omega arith
  divides_none (element (call_of stack j) c ∷ es) (inr a) p (span n q ∷ d) h = divides_none es a q d h.1
  divides_none (element (call_of counter j) c ∷ es) (inl a) p (span n q ∷ d) h = let z = a.most in omega arith
  divides_none (element (call_of counter j) c ∷ es) (inr a) p (span n q ∷ d) h = divides_none es a q d h.1
  divides_none (start ∷ es) (inl a) p (span n q ∷ d) h = let z = a.least in omega arith
  divides_none (start ∷ es) (inr a) p (span n q ∷ d) h = divides_none es a q d h.1
  divides_none (end ∷ es) (inl a) p (span n q ∷ d) h = let z = a.least in omega arith
  divides_none (end ∷ es) (inr a) p (span n q ∷ d) h = divides_none es a q d h.1
  divides_none (left ∷ es) (inl a) p (span n q ∷ d) h = let z = a.least in omega arith
  divides_none (left ∷ es) (inr a) p (span n q ∷ d) h = divides_none es a q d h.1
  divides_none (right ∷ es) (inl a) p (span n q ∷ d) h = let z = a.least in omega arith
  divides_none (right ∷ es) (inr a) p (span n q ∷ d) h = divides_none es a q d h.1
  divides_none (element (class true ms) c ∷ es) (inl a) p (span n q ∷ d) h = let z = a.most in omega arith
  divides_none (element (class true ms) c ∷ es) (inr a) p (span n q ∷ d) h = divides_none es (behind_members (flags_of t) ms (pattern_items es) a) q d h.1
  divides_none (element (class false ms) c ∷ es) (inl a) p (span n q ∷ d) h = let z = a.most in omega arith
  divides_none (element (class false ms) c ∷ es) (inr a) p (span n q ∷ d) h = divides_none es (behind_members (flags_of t) ms (pattern_items es) a) q d h.1

pub absent_none : (t : List ℕ) → Bytes t → (es : List Piece) → SomeAbsent (flags_of t) (pattern_items es) → (st : State) (p : ℕ) → chosen st es p (drop p t) ≡ none
absent_none t bytes es a st p = by (chosen st es p (drop p t)) (choice st t es p)
  where
    by : (o : Option Division) → Chosen (Divides st t es p) o → o ≡ none
    by none c = refl
    by (some d) c = absurd (divides_none t bytes st es a p d c.0)
