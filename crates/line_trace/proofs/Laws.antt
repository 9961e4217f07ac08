-- Texts put one behind the other into a memory.
-- Assumes nothing.
use Prim.Native.Nat.{ℕ, ◌+◌, ◌-◌, ◌/◌, ◌%◌, ◌≤◌, ◌<◌}
use mathlib.Core.Path.{◌≡◌, refl, sym, ap, subst, ◌∙◌}
use mathlib.Core.List.{List, [], ◌∷◌, ◌++◌, append_assoc}
use native.Mathlib.Decide.{dec_le}
use native.Mathlib.Omega.{arith}
use native.Mathlib.Numerals.{add-one}
use native.Mathlib.Nat.{add-zero}
use lib.ListN.{length, take, drop, get_or, set, replicate, length-append, length-replicate, replicate-append-replicate, length-set}
use lib.Seq.{paste, paste-zero, paste-suc, length-paste, take-paste, drop-paste, take-length, drop_at, drop-drop}
use Rattle.macros.specs.Write.{digits}
use Rattle.macros.specs.Quoted.{bytes}
use Rattle.form_table.proofs.Digits.{digits_few, digits_two}
use Rattle.lines.specs.Trace.{trace_line, three_lines}
use Rattle.line_memory.specs.Memory.{padded}
use Rattle.line_memory.proofs.Copying.{padded_front}
use Rattle.line_trace.specs.Tracing.{Puts}

drop_zeros : (k m : ℕ) → k ≤ m → drop k (replicate {A = ℕ} m 0) ≡ replicate (m - k) 0
drop_zeros k m h =
    let e : k + (m - k) ≡ m = omega arith in
    ap (drop k) (ap (λ (j : ℕ). replicate {A = ℕ} j 0) (sym e) ∙ sym (replicate-append-replicate k (m - k) 0)) ∙ drop_at (replicate k 0) (replicate (m - k) 0) k (length-replicate {A = ℕ} k 0)

-- what stands behind a text of zeros
behind : (s : List ℕ) (n at k : ℕ) {old : List ℕ} → length s ≡ at → at + k ≤ n → old ≡ padded s n → drop (at + k) old ≡ replicate (n - (at + k)) 0
behind s n at k {old} l h e =
    let m : n - length s - k ≡ n - (at + k) = omega arith in
    sym (drop-drop k at old)
    ∙ ap (λ (o : List ℕ). drop k (drop at o)) e
    ∙ ap (drop k) (drop_at s (replicate (n - length s) 0) at l)
    ∙ drop_zeros k (n - length s) (omega arith)
    ∙ ap (λ (j : ℕ). replicate {A = ℕ} j 0) m

pub pasted : (old text new : List ℕ) (at r : ℕ) → at + length text ≤ length old → new ≡ paste old at text (length text) → r ≡ at + length text → Puts old at text new r
pasted old text new at r h e q = record { room = h; holds = e; next = q }

-- into a memory that holds the text s and zeros behind it
pub puts_behind : {old text new : List ℕ} {at r : ℕ} → Puts old at text new r → (s : List ℕ) → length s ≡ at → old ≡ padded s (length old)
    → new ≡ padded (s ++ text) (length old)
puts_behind {old} {text} {new} {at} p s l f =
    let n : length old - (at + length text) ≡ length old - length (s ++ text) = omega (arith, length-append s text) in
    let a : take at old ≡ s = padded_front s (length old) at l f in
    let b : take (length text) text ≡ text = take-length text in
    let c : drop (at + length text) old ≡ replicate (length old - length (s ++ text)) 0 = behind s (length old) at (length text) l p.room f ∙ ap (λ (j : ℕ). replicate {A = ℕ} j 0) n in
    p.holds ∙ rw (a, b, c) refl

-- one byte
pub puts_one : (old : List ℕ) (at b : ℕ) → at < length old → Puts old at (b ∷ []) (set old at b) (at + 1)
puts_one old at b h =
    let e : set (paste old at (b ∷ []) 0) (at + 0) b ≡ paste old at (b ∷ []) 1 = paste-suc old at (b ∷ []) 0 0 (omega arith) (omega arith) in
    pasted old (b ∷ []) (set old at b) at (at + 1) (omega arith) (ap (λ (o : List ℕ). set o at b) (paste-zero old at (b ∷ [])) ∙ ap (λ (j : ℕ). set (paste old at (b ∷ []) 0) j b) (sym (add-zero at)) ∙ e) refl

-- one text behind the other
pub puts_then : {old s mid t new : List ℕ} {at p r : ℕ} → Puts old at s mid p → length mid ≡ length old → Puts mid p t new r → Puts old at (s ++ t) new r
puts_then {old} {s} {mid} {t} {new} {at} {p} {r} x l y =
    let k = length-append s t in
    record {
      room = omega (arith, x.next, y.room, l, k);
      holds = y.holds ∙ ap (λ (h : List ℕ). h ++ take (length t) t ++ drop (p + length t) mid) head ∙ ap (λ (h : List ℕ). take at old ++ s ++ take (length t) t ++ h) tail ∙ joined;
      next = y.next ∙ omega (arith, x.next, k);
    }
  where
    head : take p mid ≡ take at old ++ s
    head =
        ap (λ (j : ℕ). take j mid) x.next ∙ ap (take (at + length s)) x.holds
        ∙ take-paste old at s (length s) (omega (arith, x.room)) (omega arith) ∙ ap (λ (h : List ℕ). take at old ++ h) (take-length s)

    behind_it : drop p mid ≡ drop p old
    behind_it =
        ap (λ (j : ℕ). drop j mid) x.next ∙ ap (drop (at + length s)) x.holds
        ∙ drop-paste old at s (length s) (omega (arith, x.room)) (omega arith) ∙ ap (λ (j : ℕ). drop j old) (sym x.next)

    tail : drop (p + length t) mid ≡ drop (at + length (s ++ t)) old
    tail =
        sym (drop-drop (length t) p mid) ∙ ap (drop (length t)) behind_it ∙ drop-drop (length t) p old
        ∙ ap (λ (j : ℕ). drop j old) (let e : p + length t ≡ at + length (s ++ t) = omega (arith, x.next, length-append s t) in e)

    joined : take at old ++ s ++ take (length t) t ++ drop (at + length (s ++ t)) old ≡ paste old at (s ++ t) (length (s ++ t))
    joined =
        ap (λ (h : List ℕ). h ++ drop (at + length (s ++ t)) old)
        (ap (λ (h : List ℕ). take at old ++ s ++ h) (take-length t) ∙ append_assoc (take at old) s t ∙ ap (λ (h : List ℕ). take at old ++ h) (sym (take-length (s ++ t))))

-- THE LOOP that copies a text

module _ (old text : List ℕ) (at : ℕ) (fits : at + length text ≤ length old) where
  pub copied_more : (new : List ℕ) (i : ℕ) → new ≡ paste old at text i → i < length text → set new (at + i) (get_or text i 0) ≡ paste old at text (i + 1)
  copied_more new i e h = rw (e, add-one) (paste-suc old at text i 0 (omega arith) h)

  pub copied_length : (new : List ℕ) (i : ℕ) → new ≡ paste old at text i → i ≤ length text → length new ≡ length old
  copied_length new i e h = rw e (length-paste old at text i (omega arith) h)

  pub copied_all : (new : List ℕ) (i r : ℕ) → new ≡ paste old at text i → i ≡ length text → r ≡ at + i → Puts old at text new r
  copied_all new i r e h s = pasted old text new at r fits (rw h at e) (rw h at s)

-- A MACRO'S NUMBER

pub digits_small : (n : ℕ) → n < 100 → length (digits n) ≤ 2
digits_small n h = by (dec_le 10 n)
  where
    by : Dec (10 ≤ n) → length (digits n) ≤ 2
    by (yes g) = let e = ap {A = List ℕ} length (digits_two n g (omega arith)) in omega arith
    by (no g) = let e = ap {A = List ℕ} length (digits_few n (omega arith)) in omega arith

pub puts_digit : (old : List ℕ) (at n : ℕ) → n < 10 → at + length (digits n) ≤ length old → Puts old at (digits n) (set old at (48 + n)) (at + 1)
puts_digit old at n g h =
    let e = digits_few n g in
    let l = ap {A = List ℕ} length e in
    subst (λ (s : List ℕ). Puts old at s (set old at (48 + n)) (at + 1)) (sym e) (puts_one old at (48 + n) (omega arith))

pub puts_digits : (old : List ℕ) (at n : ℕ) → 10 ≤ n → n < 100 → at + length (digits n) ≤ length old
    → Puts old at (digits n) (set (set old at (48 + n / 10)) (at + 1) (48 + n % 10)) (at + 2)
puts_digits old at n g h f =
    let e = digits_two n g (omega arith) in
    let l = ap {A = List ℕ} length e in
    let m : length (set old at (48 + n / 10)) ≡ length old = simp length-set in
    let p = puts_then (puts_one old at (48 + n / 10) (omega arith)) m (puts_one (set old at (48 + n / 10)) (at + 1) (48 + n % 10) (omega arith)) in
    let q : at + 1 + 1 ≡ at + 2 = omega arith in
    subst (λ (r : ℕ). Puts old at (digits n) (set (set old at (48 + n / 10)) (at + 1) (48 + n % 10)) r) q
    (subst (λ (s : List ℕ). Puts old at s (set (set old at (48 + n / 10)) (at + 1) (48 + n % 10)) (at + 1 + 1)) (sym e) p)

-- THE THREE LINES

-- as they are put
abbrev put_text : List ℕ → ℕ → List ℕ → List ℕ
put_text before n after = bytes "oldline:" ++ (before ++ (bytes "\nmacro #:" ++ (digits n ++ (bytes "\nnewline:" ++ (after ++ bytes "\n")))))

pub lines_text : (before : List ℕ) (n : ℕ) (after : List ℕ) → put_text before n after ≡ three_lines before n after
unfolding three_lines trace_line
lines_text before n after = simp append_assoc

pub lines_size : (before : List ℕ) (n : ℕ) (after : List ℕ) → length (three_lines before n after) ≡ 27 + length before + length (digits n) + length after
lines_size before n after = ap length (sym (lines_text before n after)) ∙ simp length-append (omega arith)

pub puts_lines : {old new : List ℕ} {at r : ℕ} (before : List ℕ) (n : ℕ) (after : List ℕ) → Puts old at (put_text before n after) new r → Puts old at (three_lines before n after) new r
puts_lines {old} {new} {at} {r} before n after p = subst (λ (s : List ℕ). Puts old at s new r) (lines_text before n after) p
