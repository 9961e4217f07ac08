-- The machine from a place on: one byte further, for every state.
-- Assumes nothing.
use mathlib.Core.Path.{◌≡◌, refl, ap, sym, ◌∙◌}
use mathlib.Core.Bool.{Bool, true, false, not, ◌&&◌, and-false}
use mathlib.Core.List.{List, [], ◌∷◌}
use Prim.Native.Nat.{ℕ, suc, ◌+◌, ◌-◌, ◌≤◌, ◌<◌}
use native.Mathlib.Omega.{arith}
use native.Mathlib.Numerals.{add-one}
use lib.ListN.{length, get_or, drop, drop_of_length-le}
use lib.Seq.{drop-cons, drop-drop}
use lib.Dec.{eqb, ltb}
use borrow.Author.Tests.{ne_eqb, le-ltb, lt-ltb, ltb-true, ltb-false}
use Rattle.macros.specs.Refusals.{FileRefusal}
use Rattle.macros.specs.Refusals.FileRefusal.{incomplete, bad_call, macro_too_long}
use Rattle.macros.specs.Macro.{Call, Macro, pick}
use Rattle.macros.specs.Read.{Part, Step, Pending, Prior, Reader, Next as Stepped, read_from, step, part_byte, taken, count, macro_of, skips, at_end, breaks, otherwise}
use Rattle.macros.specs.Read.{read_from_by, step_by}
use Rattle.macros.specs.ReadSoFar.Joinable.{nothing}
use Rattle.macros.specs.ReadSoFar.Part.{calls, pattern, pattern_escape, opened, members, members_escape, pattern_call, pattern_called, await_symbol, await_quote, replacement, replacement_escape, tag_number, calling, call_text, call_text_escape, commands}
use Rattle.macros.specs.ReadSoFar.Step.{on, opens, done, stop}
use Rattle.macros.specs.ReadFile.Pending.{clear}
use Rattle.macros.specs.ReadFile.Reader.{between, inside}
use Rattle.macros.specs.ReadFile.Next.{go, refuse, refuse_before}
use Rattle.macros.specs.ReadFile.Read.{refused_at as file_refused_at}
use Rattle.read_scan.specs.Bytes.{Next as CodeNext, refused, seen, spaceless}
use Rattle.read_scan.proofs.Bytes.{in_call_none, in_call_here, in_call_space}
use Rattle.read_scan.specs.Scan.{MacroRead, at_symbol, noted, go_on, read_macro, after, run, At, Here, Reached, Passes, Calls, wrong_call}
use Rattle.read_scan.specs.Scan.MacroRead.{refused_at, macro_to}
use Rattle.read_scan.specs.declared.FileFault.{FileFault}
use Rattle.std.specs.Prelude.{Result, Ok, Err, IsErr, IsErrAnd}
use Rattle.std.proofs.lemmas.Result.{err_from_is_err_and}

pub read_go : (p : ℕ) (r r' : Reader) (b : ℕ) (bs : List ℕ) → step r b ≡ go r' → read_from p r (b ∷ bs) ≡ read_from (suc p) r' bs
unfolding read_from_by
read_go p r r' b bs e = rw (e, read_from_by)

pub read_refuse : (p : ℕ) (k : FileRefusal) (r : Reader) (b : ℕ) (bs : List ℕ) → step r b ≡ refuse k → read_from p r (b ∷ bs) ≡ file_refused_at k p
unfolding read_from_by
read_refuse p k r b bs e = rw (e, read_from_by)

-- from a part to itself
pub noted_same : (st : Part) (q : ℕ) (o : MacroRead) → noted st st q o ≡ o
noted_same (calls a cs) q o = refl
noted_same (pattern h ps) q o = refl
noted_same (pattern_escape ps) q o = refl
noted_same (opened ps) q o = refl
noted_same (members ps neg l xs) q o = refl
noted_same (members_escape ps neg l xs) q o = refl
noted_same (pattern_call m ps) q o = refl
noted_same (pattern_called m ps i) q o = refl
noted_same (await_symbol ps) q o = refl
noted_same (await_quote f) q o = refl
noted_same (replacement a f l) q o = refl
noted_same (replacement_escape f l) q o = refl
noted_same (tag_number n f l) q o = refl
noted_same (calling pl ph) q o = refl
noted_same (call_text pl i v t) q o = refl
noted_same (call_text_escape pl i v t) q o = refl
noted_same (commands a f l cs) q o = refl

-- ONE BYTE OF A MACRO

module _ (pr : Prior) (p n : ℕ) (k : Bool) (st : Part) (b : ℕ) (bs : List ℕ) where
  on_in : (k' : Bool) (n' : ℕ) (st' : Part) (pr' : Prior) → step (inside k n st pr) b ≡ go (inside k' n' st' pr')
      → read_macro pr p k n st (b ∷ bs) ≡ noted st st' (suc p) (read_macro pr' (suc p) k' n' st' bs)
  unfolding read_macro
  on_in k' n' st' pr' e = ap (λ (x : Stepped). go_on st p (λ i j z r. read_macro r (suc p) i j z bs) x) e

  pub out_of : (i : Bool) (w : Pending) (m : Macro) (ms : List Macro) → step (inside k n st pr) b ≡ go (between i w (m ∷ ms)) → read_macro pr p k n st (b ∷ bs) ≡ macro_to (suc p) m
  unfolding read_macro
  out_of i w m ms e = ap (λ (x : Stepped). go_on st p (λ i j z r. read_macro r (suc p) i j z bs) x) e

  pub macro_refuse : (c : FileRefusal) → step (inside k n st pr) b ≡ refuse c → read_macro pr p k n st (b ∷ bs) ≡ refused_at c p
  unfolding read_macro
  macro_refuse c e = ap (λ (x : Stepped). go_on st p (λ i j z r. read_macro r (suc p) i j z bs) x) e

-- two parts that are noted alike
go_same : (st st' : Part) (p : ℕ) (f : Bool → ℕ → Part → Prior → MacroRead) → ((x : Part) (q : ℕ) (o : MacroRead) → noted st x q o ≡ noted st' x q o) → (x : Stepped) → go_on st p f x ≡ go_on st' p f x
go_same st st' p f h (go (inside k n z pr)) = h z (suc p) (f k n z pr)
go_same st st' p f h (go (between k a [])) = refl
go_same st st' p f h (go (between k a (m ∷ ms))) = refl
go_same st st' p f h (refuse c) = refl
go_same st st' p f h (refuse_before c n) = refl

macro_same : (pr : Prior) (p n : ℕ) (st st' : Part) (b : ℕ) (bs : List ℕ) → ((x : Part) (q : ℕ) (o : MacroRead) → noted st x q o ≡ noted st' x q o)
    → step (inside false n st pr) b ≡ step (inside false n st' pr) b → read_macro pr p false n st (b ∷ bs) ≡ read_macro pr p false n st' (b ∷ bs)
unfolding read_macro
macro_same pr p n st st' b bs h e =
    ap (λ (x : Stepped). go_on st p (λ i j z r. read_macro r (suc p) i j z bs) x) e
    ∙ go_same st st' p (λ i j z r. read_macro r (suc p) i j z bs) h (step (inside false n st' pr) b)

-- READING A FILE GOES ON BEHIND EACH MACRO

-- a step in a macro keeps the macros before it, and leaves it by one macro more
abbrev Shape : List Macro → Stepped → Type 0
Shape ms (go (inside k n st pr)) = pr.macros ≡ ms
Shape ms (go (between k a [])) = ⊥
Shape ms (go (between k a (m ∷ ks))) = (k ≡ false) × (a ≡ clear) × (ks ≡ ms)
Shape ms (refuse c) = Unit {0}
Shape ms (refuse_before c n) = ⊥

pick_shape : (ms : List Macro) (y : Bool) (u v : Stepped) → Shape ms u → Shape ms v → Shape ms (pick y u v)
unfolding pick
pick_shape ms true u v f g = f
pick_shape ms false u v f g = g

count_shape : (ms : List Macro) (n : ℕ) (r : Reader) → Shape ms (go r) → Shape ms (count n r)
unfolding count
count_shape ms n r f = pick_shape ms (ltb n 512) (go r) (refuse macro_too_long) f tt

taken_shape : (pr : Prior) (n : ℕ) (x : Step) → Shape pr.macros (taken n pr x)
unfolding taken
taken_shape pr n (on st) = count_shape pr.macros n (inside false (suc n) st pr) refl
taken_shape pr n (opens cs) = count_shape pr.macros n (inside false (suc n) (pattern nothing []) (record { calls = cs; macros = pr.macros })) refl
taken_shape pr n (done f as₁ ks) = count_shape pr.macros n (between false clear (macro_of pr.calls f as₁ ks ∷ pr.macros)) (refl, refl, refl)
taken_shape pr n (stop c) = tt

step_shape : (pr : Prior) (k : Bool) (n : ℕ) (st : Part) (b : ℕ) → Shape pr.macros (step (inside k n st pr) b)
unfolding step_by
step_shape pr k n st b =
    let ms = pr.macros in
    pick_shape ms (skips st && eqb b 47) (count n (inside (not k) (suc n) st pr)) (pick k (count n (inside true (suc n) st pr)) (taken n pr (part_byte st b)))
    (count_shape ms n (inside (not k) (suc n) st pr) refl)
    (pick_shape ms k (count n (inside true (suc n) st pr)) (taken n pr (part_byte st b)) (count_shape ms n (inside true (suc n) st pr) refl) (taken_shape pr n (part_byte st b)))

at_symbol_after : (s : List ℕ) (ms : List Macro) (st : Part) (q : ℕ) (o : MacroRead) → after s ms (at_symbol st q o) ≡ after s ms o
unfolding after
at_symbol_after s ms (calls a cs) q o = refl
at_symbol_after s ms (pattern h ps) q o = refl
at_symbol_after s ms (pattern_escape ps) q o = refl
at_symbol_after s ms (opened ps) q o = refl
at_symbol_after s ms (members ps neg l xs) q o = refl
at_symbol_after s ms (members_escape ps neg l xs) q o = refl
at_symbol_after s ms (pattern_call m ps) q o = refl
at_symbol_after s ms (pattern_called m ps i) q o = refl
at_symbol_after s ms (await_symbol ps) q o = refl
at_symbol_after s ms (await_quote f) q o = refl
at_symbol_after s ms (replacement a f l) q o = refl
at_symbol_after s ms (replacement_escape f l) q o = refl
at_symbol_after s ms (tag_number n f l) q o = refl
at_symbol_after s ms (calling pl ph) q o = refl
at_symbol_after s ms (call_text pl i v t) q o = refl
at_symbol_after s ms (call_text_escape pl i v t) q o = refl
at_symbol_after s ms (commands a f l cs) q o = refl

noted_after : (s : List ℕ) (ms : List Macro) (st st' : Part) (q : ℕ) (o : MacroRead) → after s ms (noted st st' q o) ≡ after s ms o
noted_after s ms (calls a cs) st' q o = refl
noted_after s ms (pattern h ps) st' q o = at_symbol_after s ms st' q o
noted_after s ms (pattern_escape ps) st' q o = refl
noted_after s ms (opened ps) st' q o = refl
noted_after s ms (members ps neg l xs) st' q o = refl
noted_after s ms (members_escape ps neg l xs) st' q o = refl
noted_after s ms (pattern_call m ps) st' q o = refl
noted_after s ms (pattern_called m ps i) st' q o = refl
noted_after s ms (await_symbol ps) st' q o = refl
noted_after s ms (await_quote f) st' q o = refl
noted_after s ms (replacement a f l) st' q o = refl
noted_after s ms (replacement_escape f l) st' q o = refl
noted_after s ms (tag_number n f l) st' q o = refl
noted_after s ms (calling pl ph) st' q o = refl
noted_after s ms (call_text pl i v t) st' q o = refl
noted_after s ms (call_text_escape pl i v t) st' q o = refl
noted_after s ms (commands a f l cs) st' q o = refl

-- the byte's step, and what reading on from there comes to
behind_byte_lem : (s : List ℕ) (pr : Prior) (p : ℕ) (k : Bool) (n : ℕ) (st : Part) (b : ℕ) (bs : List ℕ) → bs ≡ drop (suc p) s
    → ((i : Bool) (j : ℕ) (z : Part) (r : Prior) → read_from (suc p) (inside i j z r) bs ≡ after s r.macros (read_macro r (suc p) i j z bs))
    → (x : Stepped) → Shape pr.macros x → step (inside k n st pr) b ≡ x → read_from p (inside k n st pr) (b ∷ bs) ≡ after s pr.macros (read_macro pr p k n st (b ∷ bs))
unfolding after
behind_byte_lem s pr p k n st b bs e f (go (inside i j z r)) h g =
    let v : read_from (suc p) (inside i j z r) bs ≡ after s pr.macros (read_macro r (suc p) i j z bs) = f i j z r ∙ ap (λ (l : List Macro). after s l (read_macro r (suc p) i j z bs)) h in
    read_go p _ _ b bs g ∙ (v ∙ sym (ap (after s pr.macros) (on_in pr p n k st b bs i j z r g) ∙ noted_after s pr.macros st z (suc p) _))
behind_byte_lem s pr p k n st b bs e f (go (between i a [])) h g = absurd h
behind_byte_lem s pr p k n st b bs e f (go (between i a (m ∷ ks))) h g =
    let g' : step (inside k n st pr) b ≡ go (between false clear (m ∷ pr.macros)) = g ∙ rw (h.0, h.1, h.2) refl in
    read_go p _ _ b bs g' ∙ sym (ap (after s pr.macros) (out_of pr p n k st b bs false clear m pr.macros g') ∙ rw (← e) refl)
behind_byte_lem s pr p k n st b bs e f (refuse c) h g = read_refuse p c _ b bs g ∙ sym (ap (after s pr.macros) (macro_refuse pr p n k st b bs c g))
behind_byte_lem s pr p k n st b bs e f (refuse_before c j) h g = absurd h

pub read_after : (s : List ℕ) (pr : Prior) (p : ℕ) (k : Bool) (n : ℕ) (st : Part) (bs : List ℕ) → bs ≡ drop p s → read_from p (inside k n st pr) bs ≡ after s pr.macros (read_macro pr p k n st bs)
unfolding read_from_by at_end read_macro after
read_after s pr p k n st [] e = refl
read_after s pr p k n st (b ∷ bs) e =
    let e' : bs ≡ drop (suc p) s = ap (drop 1) e ∙ (drop-drop 1 p s ∙ ap (λ (j : ℕ). drop j s) (add-one p)) in
    behind_byte_lem s pr p k n st b bs e' (λ i j z r. read_after s r (suc p) i j z bs e') (step (inside k n st pr) b) (step_shape pr k n st b) refl

module _ (s : List ℕ) (a : ℕ) (pr : Prior) where
  -- behind the 513th byte
  pub run_late : (k : Bool) (p : ℕ) (st : Part) → 512 < p - a → run s a pr k p st ≡ refused_at macro_too_long (p - 1)
  unfolding run pick
  run_late k p st h = simp (lt-ltb _ _ h)

  pub run_now : (k : Bool) (p : ℕ) (st : Part) → p - a ≤ 512 → run s a pr k p st ≡ read_macro pr p k (p - a) st (drop p s)
  unfolding run pick
  run_now k p st h = simp (le-ltb _ _ h)

  pub run_here : (k : Bool) (p : ℕ) (st : Part) → p < length s → p - a ≤ 512
      → run s a pr k p st ≡ read_macro pr p k (p - a) st (get_or s p 0 ∷ drop (suc p) s)
  run_here k p st l h = run_now k p st h ∙ rw (drop-cons s p 0 l) refl

  -- the file's end
  pub run_end : (k : Bool) (p : ℕ) (st : Part) → length s ≤ p → p - a ≤ 512 → run s a pr k p st ≡ refused_at incomplete p
  unfolding read_macro
  run_end k p st e h = run_now k p st h ∙ rw (drop_of_length-le s {i = p} e) refl

module _ {s : List ℕ} {a p b : ℕ} (x : At s a p b) (pr : Prior) where
  byte_first : (k : Bool) (st : Part) → run s a pr k p st ≡ read_macro pr p k (p - a) st (b ∷ drop (suc p) s)
  byte_first k st = run_here s a pr k p st x.there (omega (arith, x.counted)) ∙ rw x.byte refl

  -- one byte: on to a reader in the macro, if it is counted
  counted : (k j : Bool) (st st' : Part) (pr' : Prior) → ((q : ℕ) (o : MacroRead) → noted st st' q o ≡ o)
      → step (inside k (p - a) st pr) b ≡ count (p - a) (inside j (suc (p - a)) st' pr')
      → run s a pr k p st ≡ run s a pr' j (p + 1) st'
  unfolding pick count
  counted k j st st' pr' g e = byte_first k st ∙ by (ltb (p - a) 512) refl
    where
      n : p + 1 - a ≡ suc (p - a)
      n = omega (arith, x.behind)

      z : p + 1 - 1 ≡ p
      z = omega arith

      by : (y : Bool) → ltb (p - a) 512 ≡ y → read_macro pr p k (p - a) st (b ∷ drop (suc p) s) ≡ run s a pr' j (p + 1) st'
      by true f =
          on_in pr p (p - a) k st b _ j (suc (p - a)) st' pr' (e ∙ rw f refl)
          ∙ (g (suc p) _ ∙ sym (run_now s a pr' j (p + 1) st' (omega (arith, ltb-true (p - a) 512 f)) ∙ rw (n, add-one) refl))
      by false f =
          macro_refuse pr p (p - a) k st b _ macro_too_long (e ∙ rw f refl)
          ∙ sym (run_late s a pr' j (p + 1) st' (omega (arith, x.behind, ltb-false (p - a) 512 f)) ∙ ap (refused_at macro_too_long) z)

  stops : (k : Bool) (st : Part) (c : FileRefusal) → step (inside k (p - a) st pr) b ≡ refuse c → run s a pr k p st ≡ refused_at c p
  stops k st c e = byte_first k st ∙ macro_refuse pr p (p - a) k st b _ c e

  -- a slash, in a state that has skips
  pub at_slash : (k : Bool) (st : Part) → skips st ≡ true → b ≡ 47 → run s a pr k p st ≡ run s a pr (not k) (p + 1) st
  unfolding step_by pick
  at_slash k st f e = counted k (not k) st st pr (noted_same st) (simp (f, e))

  -- any other byte in a skip
  pub at_within : (st : Part) → (b ≡ 47 → ⊥) → run s a pr true p st ≡ run s a pr true (p + 1) st
  unfolding step_by pick
  at_within st e = counted true true st st pr (noted_same st) (simp (ne_eqb _ _ e, and-false))

  -- a byte outside of a skip, in a state where it begins none
  pub at_on : (st st' : Part) → ((q : ℕ) (o : MacroRead) → noted st st' q o ≡ o) → (skips st && eqb b 47) ≡ false → part_byte st b ≡ on st' → run s a pr false p st ≡ run s a pr false (p + 1) st'
  unfolding step_by pick taken
  at_on st st' g f e = counted false false st st' pr g (simp (f, e))

  -- the quote behind calls before a pattern
  pub at_opens : (st : Part) (cs : List Call) → ((q : ℕ) (o : MacroRead) → noted st (pattern nothing []) q o ≡ o) → (skips st && eqb b 47) ≡ false → part_byte st b ≡ opens cs → run s a pr false p st ≡ run s a (record { calls = cs; macros = pr.macros }) false (p + 1) (pattern nothing [])
  unfolding step_by pick taken
  at_opens st cs g f e = counted false false st (pattern nothing []) (record { calls = cs; macros = pr.macros }) g (simp (f, e))

  -- such a byte, with what is noted behind it, and as the 513th
  pub at_noted : (st st' : Part) → p - a < 512 → (skips st && eqb b 47) ≡ false → part_byte st b ≡ on st' → run s a pr false p st ≡ noted st st' (p + 1) (run s a pr false (p + 1) st')
  unfolding step_by pick taken count
  at_noted st st' h f e =
      let n : p + 1 - a ≡ suc (p - a) = omega (arith, x.behind) in
      byte_first false st
      ∙ (on_in pr p (p - a) false st b _ false (suc (p - a)) st' pr (simp (f, e, lt-ltb _ _ h))
      ∙ sym (rw (run_now s a pr false (p + 1) st' (omega arith), n, add-one) refl))

  pub at_late : (st st' : Part) → 512 ≤ p - a → (skips st && eqb b 47) ≡ false → part_byte st b ≡ on st' → run s a pr false p st ≡ refused_at macro_too_long p
  unfolding step_by pick taken count
  at_late st st' h f e = stops false st macro_too_long (simp (f, e, le-ltb _ _ h))

  pub at_stop : (st : Part) (c : FileRefusal) → (skips st && eqb b 47) ≡ false → part_byte st b ≡ stop c → run s a pr false p st ≡ refused_at c p
  unfolding step_by pick taken
  at_stop st c f e = stops false st c (simp (f, e))

  -- two states that do the same with the byte
  pub at_same : (st st' : Part) → ((x : Part) (q : ℕ) (o : MacroRead) → noted st x q o ≡ noted st' x q o) → (skips st && eqb b 47) ≡ false → (skips st' && eqb b 47) ≡ false → part_byte st b ≡ part_byte st' b
      → run s a pr false p st ≡ run s a pr false p st'
  unfolding step_by pick
  at_same st st' h f f' e =
      byte_first false st
      ∙ (macro_same pr p (p - a) st st' b _ h (simp (f, f', e)) ∙ sym (byte_first false st'))

-- a byte that begins no skip, in any state
module _ {s : List ℕ} {a p b : ℕ} (x : Here s a p b) (pr : Prior) where
  unslashed : (st : Part) → (skips st && eqb b 47) ≡ false
  unslashed st = simp (ne_eqb _ _ x.plain, and-false)

  pub here_on : (st st' : Part) → ((q : ℕ) (o : MacroRead) → noted st st' q o ≡ o) → part_byte st b ≡ on st' → run s a pr false p st ≡ run s a pr false (p + 1) st'
  here_on st st' g e = at_on x.stands pr st st' g (unslashed st) e

  pub here_opens : (st : Part) (cs : List Call) → ((q : ℕ) (o : MacroRead) → noted st (pattern nothing []) q o ≡ o) → part_byte st b ≡ opens cs → run s a pr false p st ≡ run s a (record { calls = cs; macros = pr.macros }) false (p + 1) (pattern nothing [])
  here_opens st cs g e = at_opens x.stands pr st cs g (unslashed st) e

  pub here_noted : (st st' : Part) → p - a < 512 → part_byte st b ≡ on st' → run s a pr false p st ≡ noted st st' (p + 1) (run s a pr false (p + 1) st')
  here_noted st st' h e = at_noted x.stands pr st st' h (unslashed st) e

  pub here_late : (st st' : Part) → 512 ≤ p - a → part_byte st b ≡ on st' → run s a pr false p st ≡ refused_at macro_too_long p
  here_late st st' h e = at_late x.stands pr st st' h (unslashed st) e

  pub here_stop : (st : Part) (c : FileRefusal) → part_byte st b ≡ stop c → run s a pr false p st ≡ refused_at c p
  here_stop st c e = at_stop x.stands pr st c (unslashed st) e

  pub here_same : (st st' : Part) → ((x : Part) (q : ℕ) (o : MacroRead) → noted st x q o ≡ noted st' x q o) → part_byte st b ≡ part_byte st' b → run s a pr false p st ≡ run s a pr false p st'
  here_same st st' g e = at_same x.stands pr st st' g (unslashed st) (unslashed st') e

-- the place behind a byte
pub reached_behind : {s : List ℕ} {a p b : ℕ} → At s a p b → Reached s a (p + 1)
reached_behind x = (omega (arith, x.behind), omega (arith, x.there), omega (arith, x.counted))

pub reached_at : {s : List ℕ} {a p b : ℕ} → At s a p b → Reached s a p
reached_at x = (x.behind, omega (arith, x.there), omega (arith, x.counted))

stop_pick : (st : Part) (y : Bool) → pick false (on st) (pick y (stop incomplete) (stop bad_call)) ≡ stop (pick y incomplete bad_call)
unfolding pick
stop_pick st true = refl
stop_pick st false = refl

-- a byte that a call cannot have
pub otherwise_wrong : (st : Part) (b : ℕ) → (b ≡ 32 → ⊥) → otherwise st b ≡ stop (wrong_call b)
unfolding otherwise wrong_call
otherwise_wrong st b e = simp (ne_eqb _ _ e) (stop_pick st (breaks b))

-- IN A CALL

-- from p to v there are skips and spaces alone: the machine comes to v in every state that passes over spaces
pub record Spaces (s : List ℕ) (a p v : ℕ) : Type 0 where
  pub same : spaceless (seen s a p) ≡ spaceless (seen s a v)
  pub comes : (st : Part) (pr : Prior) → skips st ≡ true → part_byte st 32 ≡ on st → run s a pr false p st ≡ run s a pr false v st

module _ {s : List ℕ} {a p v : ℕ} (g : Spaces s a p v) (l : p ≤ v) {r : CodeNext} (z : Passes s a v r) where
  pub calls_fault : {f : FileFault} {q : ℕ} → r ≡ refused f q → Calls s a p r
  calls_fault {f} {q} e =
      let h : Passes s a v (refused f q) = rw e at z in
      rw e
      (record {
        exact = in_call_none s a p v g.same h.exact;
        found = h.found;
        answer = λ st pr i j. g.comes st pr i j ∙ h.answer st pr i;
      })

  module _ {b q : ℕ} (e : r ≡ Ok (b, q)) where
    pub in_call : Passes s a v (Ok (b, q))
    in_call = rw e at z

    pub calls_byte_lem : (b ≡ 32 → ⊥) → Calls s a p (Ok (b, q))
    calls_byte_lem f =
        record {
          exact = in_call_here s a p v g.same in_call.exact f;
          found = (omega (arith, in_call.found.0), in_call.found.1, f);
          answer = λ st pr i j. g.comes st pr i j ∙ in_call.answer st pr i;
        }

    pub calls_space : b ≡ 32 → Spaces s a p (q + 1)
    calls_space f =
        record {
          same = in_call_space s a p v g.same in_call.exact f;
          comes = λ st pr i j. g.comes st pr i j ∙ (in_call.answer st pr i ∙ here_on in_call.found.1 pr st st (noted_same st) (rw f j));
        }

-- the error that `?` hands on
pub handed_on : {T E : Type 0} {r : Result T E} {e : E} → IsErr r × IsErrAnd r (λ y. y ≡ e) → r ≡ Err e
handed_on {r} h =
    let x = err_from_is_err_and r h.1 in
    x.1 ∙ ap Err x.2
