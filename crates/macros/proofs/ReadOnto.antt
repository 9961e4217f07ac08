-- The promise of specs/ReadOnto.antt, proved: a reader with older macros goes along with one that has none.
use mathlib.Core.Path.{ap, refl, sym, ◌∙◌, ◌≡◌}
use mathlib.Core.Bool.{◌&&◌, Bool, false, not, true}
use mathlib.Core.List.{◌++◌, List, [], append_assoc, append-nil, reverse, reverse-append, reverse-reverse, ◌∷◌}
use mathlib.Core.Option.{Option, none, some}
use Prim.Native.Nat.{◌+◌, ◌-◌, ◌<◌, suc, ℕ, ◌≤◌}
use native.Mathlib.Omega.{arith}
use lib.ListN.{length, length-append, length-reverse}
use lib.Dec.{eqb, ltb}
use borrow.Author.Tests.{eqb-false, eqb-true, le-ltb, lt-ltb, ltb-false, ltb-true}
use Rattle.macros.specs.Bounds.{most_file_bytes, most_macro_bytes, most_macros}
use Rattle.macros.specs.Refusals.{FileRefusal}
use Rattle.macros.specs.Refusals.FileRefusal.{file_too_long, macro_too_long, too_many_macros, zero_byte}
use Rattle.macros.specs.Macro.{Macro, Mark, Table, mark_byte, pick}
use Rattle.macros.specs.Macro.Mark.{counter, stack}
use Rattle.macros.specs.Read.{Next, Pending, Prior, Reader, Step, at_end, count, first_call, first_zero, further, macro_of, no_calls, outside, outside_fresh}
use Rattle.macros.specs.Read.{part_byte, read_file, read_from, read_onto, skips, step, taken, read_file_by, read_from_by, read_onto_by, step_by}
use Rattle.macros.specs.ReadSoFar.Joinable.{nothing}
use Rattle.macros.specs.ReadSoFar.CallSite.{calls_so_far}
use Rattle.macros.specs.ReadSoFar.Phase.{begun}
use Rattle.macros.specs.ReadSoFar.Part.{calling, pattern}
use Rattle.macros.specs.ReadSoFar.Step.{done, on, opens, stop}
use Rattle.macros.specs.ReadFile.Pending.{at_mark, clear}
use Rattle.macros.specs.ReadFile.Reader.{between, inside}
use Rattle.macros.specs.ReadFile.Next.{go, refuse, refuse_before}
use Rattle.macros.specs.ReadFile.Read.{refused_at, table}
use Rattle.macros.specs.Begins.{Opening, call_sign}
use Rattle.macros.specs.Begins.Opening.{by_call, by_quote}
use Rattle.macros.specs.FirstFault.{NoZero, Plain}
use Rattle.macros.specs.ReadOnto.{Begins, OntoIsAppending}
use Rattle.macros.proofs.Tests.{clash}
use Rattle.macros.proofs.Round.{read_go, read_refuse, read_refuse_before}
use Rattle.macros.proofs.Pending.{First, Fresh, Pends, Signed, after, after_before, after_go, after_one, after_refuse, before_not_go}
use Rattle.macros.proofs.Pending.{look_first, look_fresh, not_go, pends_one, read_after, sign_skips, signed_call}
use Rattle.macros.proofs.Pending.First.{opened, too_long, too_many}
use Rattle.macros.proofs.Pending.Fresh.{other, quoted, sign, too_many}
use Rattle.macros.proofs.FirstFault.{no_zero}

not_table : {A : Type 0} {k : FileRefusal} {p : ℕ} {ms : Table} → refused_at k p ≡ table ms → A
not_table e = let z : ◌≡◌ {A = ℕ} 0 1 = cc in absurd (omega arith)

-- the macros of a reader, with the one that is open
held : Reader → ℕ
held (between skip a ms) = length ms
held (inside skip n st pr) = suc (length pr.macros)

-- a byte outside skips with which a macro begins: its quote, or the `(` behind a call's `&` or `#`
starts : Pending → ℕ → Bool
starts clear b = eqb b 39
starts (at_mark m n) b = pick (eqb b 40) true (eqb b 39)

module _ (old : List Macro) where
  -- older macros behind those before the open one
  behind : Prior → Prior
  behind pr = record { calls = pr.calls; macros = pr.macros ++ old }

  -- a reader with older macros behind its own
  shift : Reader → Reader
  shift (between skip a ms) = between skip a (ms ++ old)
  shift (inside skip n st pr) = inside skip n st (behind pr)

  shift_next : Next → Next
  shift_next (go r) = go (shift r)
  shift_next (refuse k) = refuse k
  shift_next (refuse_before k n) = refuse_before k n

  -- a macro that begins at this byte has room
  Room : Reader → ℕ → Type 0
  Room (between skip a ms) b = (eqb b 47 ≡ false) → skip ≡ false → starts a b ≡ true → length ms + length old < most_macros
  Room (inside skip n st pr) b = Unit {0}

  count_shift : (n : ℕ) (r : Reader) → count n (shift r) ≡ shift_next (count n r)
  unfolding count shift_next
  count_shift n r = by (ltb n most_macro_bytes)
    where
      by : (c : Bool) → pick c (go (shift r)) (refuse macro_too_long) ≡ shift_next (pick c (go r) (refuse macro_too_long))
      by true = unfold pick in refl
      by false = unfold pick in refl

  taken_shift : (n : ℕ) (pr : Prior) (x : Step) → taken n (behind pr) x ≡ shift_next (taken n pr x)
  unfolding taken shift_next shift behind
  taken_shift n pr (on st) = count_shift n (inside false (suc n) st pr)
  taken_shift n pr (opens cs) = count_shift n (inside false (suc n) (pattern nothing []) (record { calls = cs; macros = pr.macros }))
  taken_shift n pr (done f l cs) = count_shift n (between false clear (macro_of pr.calls f l cs ∷ pr.macros))
  taken_shift n pr (stop k) = refl

  fresh_shift : (ms : List Macro) (b : ℕ) → (eqb b 39 ≡ true → length ms + length old < most_macros)
      → outside_fresh (ms ++ old) b ≡ shift_next (outside_fresh ms b)
  unfolding outside_fresh shift shift_next behind
  fresh_shift ms b h = by (eqb b 39) (eqb b 38) (eqb b 35) refl
    where
      by : (c d e : Bool) → eqb b 39 ≡ c
          → pick c (pick (ltb (length (ms ++ old)) most_macros) (go (inside false 1 (pattern nothing []) (no_calls (ms ++ old)))) (refuse too_many_macros))
          (pick d (go (between false (at_mark stack 1) (ms ++ old))) (pick e (go (between false (at_mark counter 1) (ms ++ old))) (go (between false clear (ms ++ old)))))
          ≡ shift_next
          (pick c (pick (ltb (length ms) most_macros) (go (inside false 1 (pattern nothing []) (no_calls ms))) (refuse too_many_macros))
          (pick d (go (between false (at_mark stack 1) ms)) (pick e (go (between false (at_mark counter 1) ms)) (go (between false clear ms)))))
      by true d e f =
          unfold pick in
          let l = h f in
          let x : length (ms ++ old) < 96 = rw (length-append ms old) l in
          let y : length ms < 96 = omega arith in
          rw (lt-ltb (length (ms ++ old)) 96 x, lt-ltb (length ms) 96 y)
      by false true e f = unfold pick in refl
      by false false true f = unfold pick in refl
      by false false false f = unfold pick in refl

  first_shift : (m : Mark) (n : ℕ) (ms : List Macro) → length ms + length old < most_macros → first_call m n (ms ++ old) ≡ shift_next (first_call m n ms)
  unfolding first_call shift shift_next behind
  first_shift m n ms l =
      let x : length (ms ++ old) < 96 = rw (length-append ms old) l in
      let y : length ms < 96 = omega arith in
      rw (lt-ltb (length (ms ++ old)) 96 x, lt-ltb (length ms) 96 y) (by (ltb n most_macro_bytes))
    where
      by : (c : Bool)
          → pick true
          (pick c (go (inside false (suc n) (calling (calls_so_far []) (begun m)) (no_calls (ms ++ old)))) (refuse_before macro_too_long (n - most_macro_bytes)))
          (refuse_before too_many_macros n)
          ≡ shift_next
          (pick true (pick c (go (inside false (suc n) (calling (calls_so_far []) (begun m)) (no_calls ms))) (refuse_before macro_too_long (n - most_macro_bytes)))
          (refuse_before too_many_macros n))
      by true = unfold pick in refl
      by false = unfold pick in refl

  outside_shift : (a : Pending) (ms : List Macro) (b : ℕ) → (starts a b ≡ true → length ms + length old < most_macros)
      → outside a (ms ++ old) b ≡ shift_next (outside a ms b)
  unfolding outside starts
  outside_shift clear ms b h = fresh_shift ms b h
  outside_shift (at_mark m n) ms b h = by (eqb b 40) h
    where
      by : (c : Bool) → (pick c true (eqb b 39) ≡ true → length ms + length old < most_macros)
          → pick c (first_call m n (ms ++ old)) (outside_fresh (ms ++ old) b) ≡ shift_next (pick c (first_call m n ms) (outside_fresh ms b))
      by true g = unfold pick in first_shift m n ms (g refl)
      by false g = unfold pick in fresh_shift ms b g

  step_shift : (r : Reader) (b : ℕ) → Room r b → step (shift r) b ≡ shift_next (step r b)
  unfolding step_by shift shift_next Room behind
  step_shift (between skip a ms) b h = by (eqb b 47) skip refl refl
    where
      by : (c d : Bool) → eqb b 47 ≡ c → skip ≡ d
          → pick c (go (between (not d) (further a) (ms ++ old))) (pick d (go (between true (further a) (ms ++ old))) (outside a (ms ++ old) b))
          ≡ shift_next (pick c (go (between (not d) (further a) ms)) (pick d (go (between true (further a) ms)) (outside a ms b)))
      by true d e f = unfold pick in refl
      by false true e f = unfold pick in refl
      by false false e f = unfold pick in outside_shift a ms b (h e f)
  step_shift (inside skip n st pr) b h = by (skips st && eqb b 47) skip
    where
      by : (c d : Bool)
          → pick c (count n (inside (not d) (suc n) st (behind pr))) (pick d (count n (inside true (suc n) st (behind pr))) (taken n (behind pr) (part_byte st b)))
          ≡ shift_next (pick c (count n (inside (not d) (suc n) st pr)) (pick d (count n (inside true (suc n) st pr)) (taken n pr (part_byte st b))))
      by true d = unfold pick in count_shift n (inside (not d) (suc n) st pr)
      by false true = unfold pick in count_shift n (inside true (suc n) st pr)
      by false false = unfold pick in taken_shift n pr (part_byte st b)

-- how the macros of a reader grow at one byte
data Grows (r r' : Reader) (b : ℕ) : Type 0 where
  same : held r' ≡ held r → Grows r r' b
  begins : (a : Pending) (ms : List Macro) → r ≡ between false a ms → eqb b 47 ≡ false → starts a b ≡ true → held r' ≡ suc (length ms) → Grows r r' b

count_held : (n : ℕ) (r r' : Reader) → count n r ≡ go r' → held r' ≡ held r
unfolding count
count_held n r r' e = by (ltb n most_macro_bytes) e
  where
    by : (c : Bool) → pick c (go r) (refuse macro_too_long) ≡ go r' → held r' ≡ held r
    by true f = unfold pick in let z : r ≡ r' = cc in rw z
    by false f = unfold pick in not_go f

taken_held : (n : ℕ) (pr : Prior) (x : Step) (r' : Reader) → taken n pr x ≡ go r' → held r' ≡ suc (length pr.macros)
unfolding taken held
taken_held n pr (on st) r' e = count_held n (inside false (suc n) st pr) r' e
taken_held n pr (opens cs) r' e = count_held n (inside false (suc n) (pattern nothing []) (record { calls = cs; macros = pr.macros })) r' e
taken_held n pr (done f l cs) r' e = count_held n (between false clear (macro_of pr.calls f l cs ∷ pr.macros)) r' e
taken_held n pr (stop k) r' e = not_go e

held_of : (x r : Reader) → go x ≡ go r → held r ≡ held x
held_of x r e = let z : x ≡ r = cc in rw z

fresh_held : (ms : List Macro) (b : ℕ) (r : Reader) → outside_fresh ms b ≡ go r → held r ≡ pick (eqb b 39) (suc (length ms)) (length ms)
unfolding held pick
fresh_held ms b r e = by (look_fresh ms b)
  where
    by : Fresh ms b (outside_fresh ms b) → held r ≡ pick (eqb b 39) (suc (length ms)) (length ms)
    by (quoted x z) = rw x (held_of _ r (sym z ∙ e))
    by (too_many z) = not_go (sym z ∙ e)
    by (sign m x y z) = rw x (held_of _ r (sym z ∙ e))
    by (other x z) = rw x (held_of _ r (sym z ∙ e))

first_held : (m : Mark) (n : ℕ) (ms : List Macro) (r : Reader) → first_call m n ms ≡ go r → held r ≡ suc (length ms)
unfolding held
first_held m n ms r e = by (look_first m n ms)
  where
    by : First m n ms (first_call m n ms) → held r ≡ suc (length ms)
    by (opened z) = held_of _ r (sym z ∙ e)
    by (too_long x z) = before_not_go (sym z ∙ e)
    by (too_many z) = before_not_go (sym z ∙ e)

outside_held : (a : Pending) (ms : List Macro) (b : ℕ) (r : Reader) → outside a ms b ≡ go r → held r ≡ pick (starts a b) (suc (length ms)) (length ms)
unfolding outside starts
outside_held clear ms b r e = fresh_held ms b r e
outside_held (at_mark m n) ms b r e = by (eqb b 40) e
  where
    by : (c : Bool) → pick c (first_call m n ms) (outside_fresh ms b) ≡ go r → held r ≡ pick (pick c true (eqb b 39)) (suc (length ms)) (length ms)
    by true z = unfold pick in first_held m n ms r z
    by false z = unfold pick in fresh_held ms b r z

step_grows : (r r' : Reader) (b : ℕ) → step r b ≡ go r' → Grows r r' b
unfolding step_by held
step_grows (between skip a ms) r' b e = by (eqb b 47) skip refl e
  where
    starting : (c : Bool) → eqb b 47 ≡ false → starts a b ≡ c → held r' ≡ pick c (suc (length ms)) (length ms) → Grows (between false a ms) r' b
    starting true x y z = unfold pick in begins a ms refl x y z
    starting false x y z = unfold pick in same z

    by : (c d : Bool) → eqb b 47 ≡ c
        → pick c (go (between (not d) (further a) ms)) (pick d (go (between true (further a) ms)) (outside a ms b)) ≡ go r' → Grows (between d a ms) r' b
    by true d x z = unfold pick in same (held_of _ r' z)
    by false true x z = unfold pick in same (held_of _ r' z)
    by false false x z = unfold pick in starting (starts a b) x refl (outside_held a ms b r' z)
step_grows (inside skip n st pr) r' b e = by (skips st && eqb b 47) skip e
  where
    by : (c d : Bool) → pick c (count n (inside (not d) (suc n) st pr)) (pick d (count n (inside true (suc n) st pr)) (taken n pr (part_byte st b))) ≡ go r'
        → Grows (inside skip n st pr) r' b
    by true d e = unfold pick in same (count_held n (inside (not d) (suc n) st pr) r' e)
    by false true e = unfold pick in same (count_held n (inside true (suc n) st pr) r' e)
    by false false e = unfold pick in same (taken_held n pr (part_byte st b) r' e)

-- the reader at the end of bytes that are read as a table
table_after_lem : (u : List ℕ) (q : ℕ) (r : Reader) (new : Table) → read_from q r u ≡ table new → (a : Pending) × (after r u ≡ go (between false a (reverse new)))
unfolding read_from_by after at_end
table_after_lem [] q (between true a ms) new e = unfold pick in not_table e
table_after_lem [] q (between false a ms) new e = unfold pick in let z : reverse ms ≡ new = cc in (a, rw (← z, reverse-reverse ms))
table_after_lem [] q (inside skip n st pr) new e = not_table e
table_after_lem (b ∷ u) q r new e = by (step r b) refl (λ x f. table_after_lem u (suc q) x new f)
  where
    by : (w : Next) → step r b ≡ w → ((x : Reader) → read_from (suc q) x u ≡ table new → (a : Pending) × (after x u ≡ go (between false a (reverse new))))
        → (a : Pending) × (after r (b ∷ u) ≡ go (between false a (reverse new)))
    by (go x) f ih = let i = ih x (sym (read_go q r x b u f) ∙ e) in (i.0, after_go r x b u f ∙ i.1)
    by (refuse k) f ih = not_table (sym (read_refuse q k r b u f) ∙ e)
    by (refuse_before k n) f ih = not_table (sym (read_refuse_before q k n r b u f) ∙ e)

-- the macros never become fewer
after_more : (u : List ℕ) (r r' : Reader) → after r u ≡ go r' → held r ≤ held r'
unfolding after held
after_more [] r r' e = let z : r ≡ r' = cc in rw z (omega arith)
after_more (b ∷ u) r r' e = by (step r b) refl (λ x f. after_more u x r' f)
  where
    less : (x : Reader) → Grows r x b → held r ≤ held x
    less x (same f) = omega arith
    less x (begins a ms f g h i) = rw f (omega (arith, i))

    by : (w : Next) → step r b ≡ w → ((x : Reader) → after x u ≡ go r' → held x ≤ held r') → held r ≤ held r'
    by (go x) f ih =
        let y = less x (step_grows r x b f) in
        let z = ih x (sym (after_go r x b u f) ∙ e) in
        omega arith
    by (refuse k) f ih = not_go (sym (after_refuse r k b u f) ∙ e)
    by (refuse_before k n) f ih = before_not_go (sym (after_before r k n b u f) ∙ e)

module _ (old : List Macro) where
  -- there is room where the next reader's macros fit
  room : (r r' : Reader) (b : ℕ) → step r b ≡ go r' → held r' + length old ≤ most_macros → Room old r b
  unfolding Room step_by held
  room (inside skip n st pr) r' b e h = tt
  room (between skip a ms) r' b e h = λ f g i. by f g i
    where
      by : eqb b 47 ≡ false → skip ≡ false → starts a b ≡ true → length ms + length old < most_macros
      by f g i =
          unfold pick in
          let z : outside a ms b ≡ go r' = rw (f, g) at e in
          let y : held r' ≡ suc (length ms) = rw i at (outside_held a ms b r' z) in
          omega (arith, h)

  after_shift : (u : List ℕ) (r r' : Reader) → after r u ≡ go r' → held r' + length old ≤ most_macros → after (shift old r) u ≡ go (shift old r')
  unfolding after shift_next
  after_shift [] r r' e h = let z : r ≡ r' = cc in rw z
  after_shift (b ∷ u) r r' e h = by (step r b) refl (λ x f. after_shift u x r' f h)
    where
      by : (w : Next) → step r b ≡ w → ((x : Reader) → after x u ≡ go r' → after (shift old x) u ≡ go (shift old r')) → after (shift old r) (b ∷ u) ≡ go (shift old r')
      by (go x) f ih =
          let g : after x u ≡ go r' = sym (after_go r x b u f) ∙ e in
          let l = after_more u x r' g in
          let s : step (shift old r) b ≡ go (shift old x) = step_shift old r b (room r x b f (omega arith)) ∙ rw f in
          after_go (shift old r) (shift old x) b u s ∙ ih x g
      by (refuse k) f ih = not_go (sym (after_refuse r k b u f) ∙ e)
      by (refuse_before k n) f ih = before_not_go (sym (after_before r k n b u f) ∙ e)

-- 10 AND 11

-- no byte 0 is found
nonzero : (p : ℕ) (s : List ℕ) → first_zero p s ≡ none → NoZero s
unfolding first_zero
nonzero p [] e = tt
nonzero p (b ∷ s) e = by (eqb b 0) refl e (λ f. nonzero (suc p) s f)
  where
    by : (x : Bool) → eqb b 0 ≡ x → pick x (some p) (first_zero (suc p) s) ≡ none → (first_zero (suc p) s ≡ none → NoZero s) → (1 ≤ b) × NoZero s
    by true q f ih = unfold pick in let z : ◌≡◌ {A = ℕ} 0 1 = cc in absurd (omega arith)
    by false q f ih = unfold pick in (omega (arith, eqb-false b 0 q), ih f)

plain_before : (u v : List ℕ) → NoZero (u ++ v) → NoZero u
plain_before [] v g = tt
plain_before (b ∷ u) v g = (g.0, plain_before u v g.1)

pub read_plain : (older : Table) (s : List ℕ) → Plain s → read_onto older s ≡ read_from 0 (between false clear (reverse older)) s
unfolding read_onto_by pick
read_plain older s g = simp (le-ltb 32768 (length s) g.0, no_zero 0 s g.1)

-- a file is plain, or 10 or 11 refuses it on any table
data Looked (s : List ℕ) : Type 0 where
  plain : Plain s → Looked s
  refused : (k : FileRefusal) (p : ℕ) → ((older : Table) → read_onto older s ≡ refused_at k p) → Looked s

look : (s : List ℕ) → Looked s
unfolding read_onto_by
look s = by (ltb most_file_bytes (length s)) (first_zero 0 s) refl refl
  where
    by : (x : Bool) (o : Option ℕ) → ltb most_file_bytes (length s) ≡ x → first_zero 0 s ≡ o → Looked s
    by true o e f = refused file_too_long most_file_bytes (λ older. unfold pick in rw e)
    by false (some p) e f = refused zero_byte p (λ older. unfold pick in rw (e, f))
    by false none e f = plain (ltb-false _ _ e, nonzero 0 s f)

-- THE PROMISE

abbrev none_before : Reader
none_before = between false clear []

-- the end of bytes behind which no macro and no skip is open
end_of : (u : List ℕ) (r : Reader) (a : Pending) (ms : List Macro) → after r u ≡ go (between false a ms) → read_from 0 r u ≡ table (reverse ms)
unfolding read_from_by at_end pick
end_of u r a ms e = ap (read_from 0 r) (sym (append-nil u)) ∙ read_after u [] 0 r (between false a ms) e

end_table : (u : List ℕ) (a : Pending) (ms : List Macro) → Plain u → after none_before u ≡ go (between false a ms) → read_file u ≡ table (reverse ms)
unfolding read_file_by
end_table u a ms g e = read_plain [] u g ∙ end_of u none_before a ms e

plain_front : (u v : List ℕ) → Plain (u ++ v) → Plain u
plain_front u v g = let l = length-append u v in (omega (arith, g.0), plain_before u v g.1)

-- the 97th macro's first quote
quote_full : (a : Pending) (ms : List Macro) → length ms ≡ most_macros → step (between false a ms) 39 ≡ refuse too_many_macros
unfolding step_by outside outside_fresh pick
quote_full clear ms h = let l : 96 ≤ length ms = omega arith in rw (le-ltb (length ms) 96 l)
quote_full (at_mark m n) ms h = let l : 96 ≤ length ms = omega arith in rw (le-ltb (length ms) 96 l)

-- the `(` of the first call before its pattern
call_full : (m : Mark) (n : ℕ) (ms : List Macro) → length ms ≡ most_macros → step (between false (at_mark m n) ms) 40 ≡ refuse_before too_many_macros n
unfolding step_by outside first_call pick
call_full m n ms h = let l : 96 ≤ length ms = omega arith in rw (le-ltb (length ms) 96 l)

-- the bytes with which the 97th macro begins, whatever follows
opening_full : (w v : List ℕ) (q : ℕ) (a : Pending) (ms : List Macro) → Opening w → length ms ≡ most_macros
    → read_from q (between false a ms) (w ++ v) ≡ refused_at too_many_macros q
opening_full w v q a ms by_quote h = read_refuse q too_many_macros (between false a ms) 39 v (quote_full a ms h)
opening_full w v q a ms (by_call m u s) h =
    let n : ℕ = suc (length u) in
    let z : q + n - n ≡ q = omega arith in
    ap (λ (y : List ℕ). read_from q (between false a ms) (mark_byte m ∷ y)) (append_assoc u (40 ∷ []) v)
    ∙ (read_after (mark_byte m ∷ u) (40 ∷ v) q (between false a ms) (between false (at_mark m (suc (length u))) ms) (sign_skips m u a ms s)
    ∙ (read_refuse_before (q + suc (length u)) too_many_macros (suc (length u)) (between false (at_mark m (suc (length u))) ms) 40 v (call_full m (suc (length u)) ms h)
    ∙ ap (refused_at too_many_macros) z))

-- a macro begins at a quote
at_quote : (u v : List ℕ) (b : ℕ) (a : Pending) (ms : List Macro) → Plain u → after none_before u ≡ go (between false a ms) → b ≡ 39
    → Begins (u ++ (b ∷ v)) (length ms) (length u)
at_quote u v b a ms g e f = record {
  before = u;
  opening = 39 ∷ [];
  rest = v;
  macros = reverse ms;
  stands = rw f;
  opens = by_quote;
  place = refl;
  read = end_table u a ms g e;
  count = length-reverse ms;
}

-- a macro begins at the sign of a call
at_sign : (u v : List ℕ) (b : ℕ) (m : Mark) (n : ℕ) (ms : List Macro) → Plain u → (w : Signed none_before u false m n ms) → b ≡ 40
    → Begins (u ++ (b ∷ v)) (length ms) (length w.before)
at_sign u v b m n ms g w f = record {
  before = w.before;
  opening = call_sign m w.behind;
  rest = v;
  macros = reverse ms;
  stands = signed_call w b v f;
  opens = by_call m w.behind w.skipping;
  place = refl;
  read = end_table w.before w.pending ms (plain_front w.before (mark_byte m ∷ w.behind) (rw w.stands at g)) w.read;
  count = length-reverse ms;
}

module _ (old : List Macro) where
  -- a macro begins where there is none to spare, or has room
  data Quoting (s : List ℕ) (r : Reader) (b : ℕ) : Type 0 where
    fits : Room old r b → Quoting s r b
    past : (j q : ℕ) → Begins s j q → length old + j ≡ most_macros → Quoting s r b

  -- a macro begins at this byte, or at the sign that is pending
  begins_here : (u v : List ℕ) (b : ℕ) (a : Pending) (ms : List Macro) → Plain u → after none_before u ≡ go (between false a ms)
      → Pends none_before u (between false a ms) → starts a b ≡ true → (q : ℕ) × Begins (u ++ (b ∷ v)) (length ms) q
  unfolding starts
  begins_here u v b clear ms g e w f = (length u, at_quote u v b clear ms g e (eqb-true b 39 f))
  begins_here u v b (at_mark m n) ms g e w f = by (eqb b 40) refl f
    where
      by : (c : Bool) → eqb b 40 ≡ c → pick c true (eqb b 39) ≡ true → (q : ℕ) × Begins (u ++ (b ∷ v)) (length ms) q
      by true x y = (length w.before, at_sign u v b m n ms g w (eqb-true b 40 x))
      by false x y = unfold pick in (length u, at_quote u v b (at_mark m n) ms g e (eqb-true b 39 y))

  find : (u v : List ℕ) (b : ℕ) (r : Reader) → Plain u → after none_before u ≡ go r → Pends none_before u r → held r + length old ≤ most_macros
      → Quoting (u ++ (b ∷ v)) r b
  unfolding Room held
  find u v b (inside skip n st pr) g e w h = fits tt
  find u v b (between true a ms) g e w h = fits (λ i j k. clash refl j)
  find u v b (between false a ms) g e w h = by (starts a b) (ltb (length ms + length old) most_macros) refl refl
    where
      by : (c d : Bool) → starts a b ≡ c → ltb (length ms + length old) most_macros ≡ d → Quoting (u ++ (b ∷ v)) (between false a ms) b
      by c true x y = fits (λ i j k. ltb-true _ _ y)
      by false false x y = fits (λ i j k. clash k x)
      by true false x y =
          let t = begins_here u v b a ms g e w x in
          let l : most_macros ≤ length ms + length old = ltb-false _ _ y in
          past (length ms) t.0 t.1 (omega arith)

  roomy : (a : Pending) (ms : List Macro) (r : Reader) (b : ℕ) → r ≡ between false a ms → eqb b 47 ≡ false → starts a b ≡ true → Room old r b
      → length ms + length old < most_macros
  unfolding Room
  roomy a ms r b e f g m = let n : Room old (between false a ms) b = rw e at m in n f refl g

  next_fits : (r x : Reader) (b : ℕ) → Grows r x b → Room old r b → held r + length old ≤ most_macros → held x + length old ≤ most_macros
  unfolding held
  next_fits r x b (same f) m h = omega arith
  next_fits r x b (begins a ms f g k l) m h = let n = roomy a ms r b f g k m in omega (arith, l)

  faulty_from : (v s u : List ℕ) (q : ℕ) (r : Reader) (k : FileRefusal) (p : ℕ) → s ≡ u ++ v → Plain s → after none_before u ≡ go r → Pends none_before u r
      → held r + length old ≤ most_macros → ((j q : ℕ) → Begins s j q → length old + j ≡ most_macros → ⊥) → read_from q r v ≡ refused_at k p
      → read_from q (shift old r) v ≡ refused_at k p
  unfolding read_from_by at_end shift shift_next
  faulty_from [] s u q (between true a ms) k p z g e w h never f = unfold pick in f
  faulty_from [] s u q (between false a ms) k p z g e w h never f = unfold pick in not_table (sym f)
  faulty_from [] s u q (inside skip n st pr) k p z g e w h never f = f
  faulty_from (b ∷ v) s u q r k p z g e w h never f =
      by (step r b) refl (rw (← z) at (find u v b r (plain_front u (b ∷ v) (rw z at g)) e w h))
      (λ x i l y. faulty_from v s (u ++ (b ∷ [])) (suc q) x k p (z ∙ sym (append_assoc u (b ∷ []) v)) g (after_one u none_before r x b e i)
      (pends_one none_before u b r x e w i) l never y)
    where
      by : (y : Next) → step r b ≡ y → Quoting s r b
          → ((x : Reader) → step r b ≡ go x → held x + length old ≤ most_macros → read_from (suc q) x v ≡ refused_at k p → read_from (suc q) (shift old x) v ≡ refused_at k p)
          → read_from q (shift old r) (b ∷ v) ≡ refused_at k p
      by y i (past j o t c) ih = absurd (never j o t c)
      by (go x) i (fits m) ih =
          let y : step (shift old r) b ≡ go (shift old x) = step_shift old r b m ∙ rw i in
          read_go q (shift old r) (shift old x) b v y ∙ ih x i (next_fits r x b (step_grows r x b i) m h) (sym (read_go q r x b v i) ∙ f)
      by (refuse j) i (fits m) ih =
          let y : step (shift old r) b ≡ refuse j = step_shift old r b m ∙ rw i in
          read_refuse q j (shift old r) b v y ∙ (sym (read_refuse q j r b v i) ∙ f)
      by (refuse_before j n) i (fits m) ih =
          let y : step (shift old r) b ≡ refuse_before j n = step_shift old r b m ∙ rw i in
          read_refuse_before q j n (shift old r) b v y ∙ (sym (read_refuse_before q j n r b v i) ∙ f)

adds : (older : Table) (s : List ℕ) (new : Table) → read_file s ≡ table new → length older + length new ≤ most_macros → Looked s → read_onto older s ≡ table (older ++ new)
unfolding read_file_by shift held
adds older s new e h (refused k p f) = not_table (sym (f []) ∙ e)
adds older s new e h (plain g) =
    let t = table_after_lem s 0 none_before new (sym (read_plain [] s g) ∙ e) in
    let x = after_shift (reverse older) s none_before (between false t.0 (reverse new)) t.1 (omega (arith, length-reverse new, length-reverse older)) in
    read_plain older s g ∙ (end_of s (between false clear (reverse older)) t.0 (reverse new ++ reverse older) x
    ∙ rw (reverse-append (reverse new) (reverse older), reverse-reverse older, reverse-reverse new))

fills : (older : Table) (s : List ℕ) (j p : ℕ) → Plain s → Begins s j p → length older + j ≡ most_macros → read_onto older s ≡ refused_at too_many_macros p
unfolding read_file_by shift held
fills older s j p g t h =
    let u = t.before in
    let f : Plain u = plain_front u (t.opening ++ t.rest) (rw t.stands at g) in
    let x = table_after_lem u 0 none_before t.macros (sym (read_plain [] u f) ∙ t.read) in
    let l : length (reverse t.macros ++ reverse older) ≡ most_macros = rw (length-append (reverse t.macros) (reverse older), length-reverse t.macros, length-reverse older) (omega (arith, t.count)) in
    let e = after_shift (reverse older) u none_before (between false x.0 (reverse t.macros)) x.1 (omega (arith, t.count, length-reverse t.macros, length-reverse older)) in
    let z : 0 + length u ≡ p = omega (arith, t.place) in
    read_plain older s g ∙ (ap (read_from 0 (between false clear (reverse older))) t.stands
    ∙ (read_after u (t.opening ++ t.rest) 0 (between false clear (reverse older)) (between false x.0 (reverse t.macros ++ reverse older)) e
    ∙ (opening_full t.opening t.rest (0 + length u) x.0 (reverse t.macros ++ reverse older) t.opens l ∙ ap (refused_at too_many_macros) z)))

faults : (older : Table) (s : List ℕ) (k : FileRefusal) (p : ℕ) → length older ≤ most_macros → read_file s ≡ refused_at k p
    → ((j q : ℕ) → Begins s j q → length older + j ≡ most_macros → ⊥) → Looked s → read_onto older s ≡ refused_at k p
unfolding read_file_by shift held after
faults older s k p h e never (refused i q f) = f older ∙ (sym (f []) ∙ e)
faults older s k p h e never (plain g) =
    read_plain older s g
    ∙ faulty_from (reverse older) s s [] 0 none_before k p refl g refl tt (omega (arith, length-reverse older))
    (λ j q t c. never j q t (omega (arith, length-reverse older))) (sym (read_plain [] s g) ∙ e)

pub onto_is_appending : OntoIsAppending
onto_is_appending older s h = record {
  added = λ new e l. adds older s new e l (look s);
  full = λ j p g t l. fills older s j p g t l;
  faulty = λ k p e never. faults older s k p h e never (look s);
}
