-- The laws of specs/NextLaw, proved; and the next macro by the macro's own machine.
-- Assumes nothing.
use mathlib.Core.Path.{◌≡◌, refl, ap, sym, ◌∙◌}
use mathlib.Core.Bool.{Bool, true, false, not}
use mathlib.Core.List.{List, [], ◌∷◌}
use Prim.Native.Nat.{ℕ, suc, ◌+◌, ◌-◌, ◌≤◌}
use native.Mathlib.Omega.{arith}
use native.Mathlib.Numerals.{add-one}
use lib.ListN.{length, drop, length-drop}
use lib.Seq.{drop-drop}
use Rattle.macros.specs.Refusals.{FileRefusal}
use Rattle.macros.specs.Refusals.FileRefusal.{macro_too_long}
use Rattle.macros.specs.Macro.{Macro, pick}
use Rattle.macros.specs.Read.{Part, Step, Pending, Prior, Reader, Next, step, further, outside, outside_fresh, first_call, no_calls, read_from, at_end, count, taken, part_byte, macro_of}
use Rattle.macros.specs.Read.{step_by, read_from_by}
use Rattle.macros.specs.ReadSoFar.Joinable.{nothing}
use Rattle.macros.specs.ReadSoFar.Part.{calls, pattern, pattern_escape, opened, members, members_escape, pattern_call, pattern_called, await_symbol, await_quote, replacement, replacement_escape, tag_number, calling, call_text, call_text_escape, commands}
use Rattle.macros.specs.ReadSoFar.Step.{on, opens, done, stop}
use Rattle.macros.specs.ReadFile.Pending.{clear, at_mark}
use Rattle.macros.specs.ReadFile.Reader.{between, inside}
use Rattle.macros.specs.ReadFile.Next.{go, refuse, refuse_before}
use Rattle.macros.specs.ReadFile.Read.{refused_at as file_refused_at}
use Rattle.macros.proofs.Pending.{First, look_first}
use Rattle.macros.proofs.Pending.First.{opened as first_opened, too_long, too_many}
use Rattle.read_scan.specs.Scan.{MacroRead, at_symbol, noted, go_on, read_macro, after}
use Rattle.read_scan.specs.Scan.MacroRead.{refused_at as none_at, pattern_to, macro_to as one_to}
use Rattle.read_scan.proofs.Laws.{read_go, read_refuse, read_after}
use Rattle.read_start.specs.Start.{comes}
use Rattle.read_start.specs.Next.{Coming, ends_at, onward, next_by, next_from}
use Rattle.read_start.specs.Next.Coming.{macro_to, refused_at, no_more}
use Rattle.read_start.specs.NextLaw.{read_on, ReadNext, NextPlace}

-- ONE BYTE

module _ (p : ℕ) (b : ℕ) (bs : List ℕ) where
  pub next_by_lem : (r : Reader) (x : Next) → step r b ≡ x → next_by p r (b ∷ bs) ≡ onward r p (λ r'. next_by (suc p) r' bs) x
  unfolding next_by
  next_by_lem r x e = ap (λ (y : Next). onward r p (λ r'. next_by (suc p) r' bs) y) e

  pub next_go : (k : Bool) (a : Pending) (ms : List Macro) (r : Reader) → step (between k a ms) b ≡ go r → next_by p (between k a ms) (b ∷ bs) ≡ next_by (suc p) r bs
  next_go k a ms r e = next_by_lem (between k a ms) (go r) e

  pub next_refuse : (k : Bool) (a : Pending) (ms : List Macro) (c : FileRefusal) → step (between k a ms) b ≡ refuse c → next_by p (between k a ms) (b ∷ bs) ≡ refused_at c p
  next_refuse k a ms c e = next_by_lem (between k a ms) (refuse c) e

  pub next_before : (k : Bool) (a : Pending) (ms : List Macro) (c : FileRefusal) (n : ℕ) → step (between k a ms) b ≡ refuse_before c n → next_by p (between k a ms) (b ∷ bs) ≡ refused_at c (p - n)
  next_before k a ms c n e = next_by_lem (between k a ms) (refuse_before c n) e

-- IN A MACRO

at_symbol_comes : (st : Part) (q : ℕ) (o : MacroRead) → comes (at_symbol st q o) ≡ comes o
unfolding comes
at_symbol_comes (calls a cs) q o = refl
at_symbol_comes (pattern h ps) q o = refl
at_symbol_comes (pattern_escape ps) q o = refl
at_symbol_comes (opened ps) q o = refl
at_symbol_comes (members ps neg l xs) q o = refl
at_symbol_comes (members_escape ps neg l xs) q o = refl
at_symbol_comes (pattern_call m ps) q o = refl
at_symbol_comes (pattern_called m ps i) q o = refl
at_symbol_comes (await_symbol ps) q o = refl
at_symbol_comes (await_quote f) q o = refl
at_symbol_comes (replacement a f l) q o = refl
at_symbol_comes (replacement_escape f l) q o = refl
at_symbol_comes (tag_number n f l) q o = refl
at_symbol_comes (calling pl ph) q o = refl
at_symbol_comes (call_text pl i v t) q o = refl
at_symbol_comes (call_text_escape pl i v t) q o = refl
at_symbol_comes (commands a f l cs) q o = refl

noted_comes : (st st' : Part) (q : ℕ) (o : MacroRead) → comes (noted st st' q o) ≡ comes o
noted_comes (calls a cs) st' q o = refl
noted_comes (pattern h ps) st' q o = at_symbol_comes st' q o
noted_comes (pattern_escape ps) st' q o = refl
noted_comes (opened ps) st' q o = refl
noted_comes (members ps neg l xs) st' q o = refl
noted_comes (members_escape ps neg l xs) st' q o = refl
noted_comes (pattern_call m ps) st' q o = refl
noted_comes (pattern_called m ps i) st' q o = refl
noted_comes (await_symbol ps) st' q o = refl
noted_comes (await_quote f) st' q o = refl
noted_comes (replacement a f l) st' q o = refl
noted_comes (replacement_escape f l) st' q o = refl
noted_comes (tag_number n f l) st' q o = refl
noted_comes (calling pl ph) st' q o = refl
noted_comes (call_text pl i v t) st' q o = refl
noted_comes (call_text_escape pl i v t) st' q o = refl
noted_comes (commands a f l cs) st' q o = refl

-- a byte in a macro
onward_comes : (k : Bool) (n : ℕ) (st : Part) (pr : Prior) (p : ℕ) (f : Reader → Coming) (g : Bool → ℕ → Part → Prior → MacroRead)
    → ((i : Bool) (j : ℕ) (z : Part) (r : Prior) → f (inside i j z r) ≡ comes (g i j z r))
    → (x : Next) → onward (inside k n st pr) p f x ≡ comes (go_on st p g x)
unfolding comes
onward_comes k n st pr p f g h (go (inside i j z r)) = h i j z r ∙ sym (noted_comes st z (suc p) (g i j z r))
onward_comes k n st pr p f g h (go (between i a [])) = refl
onward_comes k n st pr p f g h (go (between i a (m ∷ ms))) = refl
onward_comes k n st pr p f g h (refuse c) = refl
onward_comes k n st pr p f g h (refuse_before c j) = refl

pub next_after : (pr : Prior) (p : ℕ) (k : Bool) (n : ℕ) (st : Part) (bs : List ℕ) → next_by p (inside k n st pr) bs ≡ comes (read_macro pr p k n st bs)
unfolding next_by read_macro comes ends_at
next_after pr p k n st [] = refl
next_after pr p k n st (b ∷ bs) =
    onward_comes k n st pr p (λ r. next_by (suc p) r bs) (λ i j z r. read_macro r (suc p) i j z bs) (λ i j z r. next_after r (suc p) i j z bs) (step (inside k n st pr) b)

-- READING ON

after_comes : (s : List ℕ) (ms : List Macro) (o : MacroRead) → after s ms o ≡ read_on s ms (comes o)
unfolding after comes read_on
after_comes s ms (none_at c q) = refl
after_comes s ms (pattern_to q ps o) = after_comes s ms o
after_comes s ms (one_to q m) = refl

-- a step between macros keeps them, or begins one behind them
pub data Steps (ms : List Macro) : Next → Type 0 where
  stays : (k : Bool) (a : Pending) → Steps ms (go (between k a ms))
  enters : (k : Bool) (n : ℕ) (st : Part) → Steps ms (go (inside k n st (no_calls ms)))
  refuses : (c : FileRefusal) → Steps ms (refuse c)
  refuses_before : (c : FileRefusal) (n : ℕ) → Steps ms (refuse_before c n)

pick_steps : (ms : List Macro) (y : Bool) (u v : Next) → Steps ms u → Steps ms v → Steps ms (pick y u v)
unfolding pick
pick_steps ms true u v f g = f
pick_steps ms false u v f g = g

fresh_steps : (ms : List Macro) (b : ℕ) → Steps ms (outside_fresh ms b)
unfolding outside_fresh
fresh_steps ms b =
    pick_steps ms _ _ _ (pick_steps ms _ _ _ (enters _ _ _) (refuses _)) (pick_steps ms _ _ _ (stays _ _) (pick_steps ms _ _ _ (stays _ _) (stays _ _)))

outside_steps : (a : Pending) (ms : List Macro) (b : ℕ) → Steps ms (outside a ms b)
unfolding outside first_call
outside_steps clear ms b = fresh_steps ms b
outside_steps (at_mark m n) ms b =
    pick_steps ms _ _ _ (pick_steps ms _ _ _ (pick_steps ms _ _ _ (enters _ _ _) (refuses_before _ _)) (refuses_before _ _)) (fresh_steps ms b)

pub between_steps : (k : Bool) (a : Pending) (ms : List Macro) (b : ℕ) → Steps ms (step (between k a ms) b)
unfolding step_by
between_steps k a ms b = pick_steps ms _ _ _ (stays _ _) (pick_steps ms _ _ _ (stays _ _) (outside_steps a ms b))

-- the bytes behind a byte
pub behind_drop : (s : List ℕ) (p b : ℕ) (bs : List ℕ) → (b ∷ bs) ≡ drop p s → bs ≡ drop (suc p) s
behind_drop s p b bs e = ap (drop 1) e ∙ (drop-drop 1 p s ∙ ap (λ (j : ℕ). drop j s) (add-one p))

read_before : (p n : ℕ) (c : FileRefusal) (r : Reader) (b : ℕ) (bs : List ℕ) → step r b ≡ refuse_before c n → read_from p r (b ∷ bs) ≡ file_refused_at c (p - n)
unfolding read_from_by
read_before p n c r b bs e = rw (e, read_from_by)

between_read : (s : List ℕ) (p : ℕ) (k : Bool) (a : Pending) (ms : List Macro) (bs : List ℕ) → bs ≡ drop p s → read_from p (between k a ms) bs ≡ read_on s ms (next_by p (between k a ms) bs)
unfolding next_by read_from_by at_end ends_at read_on
between_read s p true a ms [] e = unfold pick in refl
between_read s p false a ms [] e = unfold pick in refl
between_read s p k a ms (b ∷ bs) e = by (step (between k a ms) b) (between_steps k a ms b) refl (λ j w. between_read s (suc p) j w ms bs e')
  where
    e' : bs ≡ drop (suc p) s
    e' = behind_drop s p b bs e

    by : (x : Next) → Steps ms x → step (between k a ms) b ≡ x → ((j : Bool) (w : Pending) → read_from (suc p) (between j w ms) bs ≡ read_on s ms (next_by (suc p) (between j w ms) bs))
        → read_from p (between k a ms) (b ∷ bs) ≡ read_on s ms (next_by p (between k a ms) (b ∷ bs))
    by x (stays j w) f ih = read_go p _ _ b bs f ∙ (ih j w ∙ ap (read_on s ms) (sym (next_go p b bs k a ms _ f)))
    by x (enters j n st) f ih =
        read_go p _ _ b bs f
        ∙ (read_after s (no_calls ms) (suc p) j n st bs e'
        ∙ (after_comes s ms (read_macro (no_calls ms) (suc p) j n st bs)
        ∙ ap (read_on s ms) (sym (next_go p b bs k a ms _ f ∙ next_after (no_calls ms) (suc p) j n st bs))))
    by x (refuses c) f ih = read_refuse p c _ b bs f ∙ ap (read_on s ms) (sym (next_refuse p b bs k a ms c f))
    by x (refuses_before c n) f ih = read_before p n c _ b bs f ∙ ap (read_on s ms) (sym (next_before p b bs k a ms c n f))

pub read_next : ReadNext
unfolding next_from
read_next s p ms = between_read s p false clear ms (drop p s) refl

-- A STEP IN A MACRO keeps the macros before it, and leaves it by one macro more
pub data Inner (ms : List Macro) : Next → Type 0 where
  keeps : (k : Bool) (n : ℕ) (st : Part) (pr : Prior) → pr.macros ≡ ms → Inner ms (go (inside k n st pr))
  leaves : (m : Macro) → Inner ms (go (between false clear (m ∷ ms)))
  stops : (c : FileRefusal) → Inner ms (refuse c)

pick_inner : (ms : List Macro) (y : Bool) (u v : Next) → Inner ms u → Inner ms v → Inner ms (pick y u v)
unfolding pick
pick_inner ms true u v f g = f
pick_inner ms false u v f g = g

count_inner : (ms : List Macro) (n : ℕ) (r : Reader) → Inner ms (go r) → Inner ms (count n r)
unfolding count
count_inner ms n r f = pick_inner ms _ _ _ f (stops macro_too_long)

taken_inner : (pr : Prior) (n : ℕ) (x : Step) → Inner pr.macros (taken n pr x)
unfolding taken
taken_inner pr n (on st) = count_inner pr.macros n _ (keeps _ _ _ pr refl)
taken_inner pr n (opens cs) = count_inner pr.macros n _ (keeps _ _ _ (record { calls = cs; macros = pr.macros }) refl)
taken_inner pr n (done f as₁ ks) = count_inner pr.macros n _ (leaves (macro_of pr.calls f as₁ ks))
taken_inner pr n (stop c) = stops c

pub inside_steps : (k : Bool) (n : ℕ) (st : Part) (pr : Prior) (b : ℕ) → Inner pr.macros (step (inside k n st pr) b)
unfolding step_by
inside_steps k n st pr b =
    pick_inner pr.macros _ _ _ (count_inner pr.macros n _ (keeps _ _ _ pr refl))
    (pick_inner pr.macros _ _ _ (count_inner pr.macros n _ (keeps _ _ _ pr refl)) (taken_inner pr n (part_byte st b)))

-- WHERE A REFUSAL STANDS

same_refusal : {c d : FileRefusal} {p q : ℕ} → refused_at c p ≡ refused_at d q → p ≡ q
same_refusal e = cc

no_refusal : {A : Type 0} {c : FileRefusal} {p q : ℕ} {m : Macro} → macro_to p m ≡ refused_at c q → A
no_refusal e = let z : ◌≡◌ {A = ℕ} 0 1 = cc in absurd (omega arith)

more_no_refusal : {A : Type 0} {c : FileRefusal} {q : ℕ} → no_more ≡ refused_at c q → A
more_no_refusal e = let z : ◌≡◌ {A = ℕ} 0 1 = cc in absurd (omega arith)

-- in a macro
inside_place : (pr : Prior) (p : ℕ) (k : Bool) (n : ℕ) (st : Part) (bs : List ℕ) (c : FileRefusal) (q : ℕ) → next_by p (inside k n st pr) bs ≡ refused_at c q → (p ≤ q) × (q ≤ p + length bs)
unfolding next_by ends_at
inside_place pr p k n st [] c q e = let z = same_refusal e in (omega arith, omega arith)
inside_place pr p k n st (b ∷ bs) c q e = by (step (inside k n st pr) b) (inside_steps k n st pr b) e (λ r i j z f. inside_place r (suc p) i j z bs c q f)
  where
    by : (x : Next) → Inner pr.macros x → onward (inside k n st pr) p (λ r. next_by (suc p) r bs) x ≡ refused_at c q
        → ((r : Prior) (i : Bool) (j : ℕ) (z : Part) → next_by (suc p) (inside i j z r) bs ≡ refused_at c q → (suc p ≤ q) × (q ≤ suc p + length bs))
        → (p ≤ q) × (q ≤ p + suc (length bs))
    by x (keeps i j z r h) f ih = let v = ih r i j z f in (omega (arith, v.0), omega (arith, v.1))
    by x (leaves m) f ih = no_refusal f
    by x (stops d) f ih = let z = same_refusal f in (omega arith, omega arith)

-- between macros, p0 and what is pending behind it up to p
abbrev Since : (p0 p : ℕ) → Pending → Type 0
Since p0 p clear = p0 ≤ p
Since p0 p (at_mark m n) = p0 + n ≤ p

abbrev Kept : (p0 p : ℕ) → Next → Type 0
Kept p0 p (go (between k a ms)) = Since p0 (suc p) a
Kept p0 p (go (inside k n st pr)) = p0 ≤ p
Kept p0 p (refuse c) = p0 ≤ p
Kept p0 p (refuse_before c n) = p0 + n ≤ p

pick_kept : (p0 p : ℕ) (y : Bool) (u v : Next) → Kept p0 p u → Kept p0 p v → Kept p0 p (pick y u v)
unfolding pick
pick_kept p0 p true u v f g = f
pick_kept p0 p false u v f g = g

since_place : (p0 p : ℕ) (a : Pending) → Since p0 p a → p0 ≤ p
since_place p0 p clear h = h
since_place p0 p (at_mark m n) h = omega arith

since_further : (p0 p : ℕ) (a : Pending) → Since p0 p a → Since p0 (suc p) (further a)
unfolding further
since_further p0 p clear h = omega arith
since_further p0 p (at_mark m n) h = omega arith

fresh_kept : (p0 p : ℕ) (ms : List Macro) (b : ℕ) → p0 ≤ p → Kept p0 p (outside_fresh ms b)
unfolding outside_fresh
fresh_kept p0 p ms b h =
    pick_kept p0 p _ _ _ (pick_kept p0 p _ (go (inside false 1 (pattern nothing []) (no_calls ms))) _ h h)
    (pick_kept p0 p _ _ _ (omega arith) (pick_kept p0 p _ _ _ (omega arith) (omega arith)))

outside_kept : (p0 p : ℕ) (a : Pending) (ms : List Macro) (b : ℕ) → Since p0 p a → Kept p0 p (outside a ms b)
unfolding outside
outside_kept p0 p clear ms b h = fresh_kept p0 p ms b h
outside_kept p0 p (at_mark m n) ms b h = pick_kept p0 p _ _ _ (first (first_call m n ms) (look_first m n ms)) (fresh_kept p0 p ms b (omega arith))
  where
    first : (x : Next) → First m n ms x → Kept p0 p x
    first x (first_opened e) = rw e (omega arith)
    first x (too_long l e) = rw e (omega arith)
    first x (too_many e) = rw e h

between_kept : (p0 p : ℕ) (k : Bool) (a : Pending) (ms : List Macro) (b : ℕ) → Since p0 p a → Kept p0 p (step (between k a ms) b)
unfolding step_by
between_kept p0 p k a ms b h =
    pick_kept p0 p _ (go (between (not k) (further a) ms)) _ (since_further p0 p a h)
    (pick_kept p0 p _ (go (between true (further a) ms)) _ (since_further p0 p a h) (outside_kept p0 p a ms b h))

between_place : (p0 p : ℕ) (k : Bool) (a : Pending) (ms : List Macro) (bs : List ℕ) (c : FileRefusal) (q : ℕ) → Since p0 p a → next_by p (between k a ms) bs ≡ refused_at c q → (p0 ≤ q) × (q ≤ p + length bs)
unfolding next_by ends_at
between_place p0 p true a ms [] c q h e = unfold pick in let z = same_refusal e in let y = since_place p0 p a h in (omega arith, omega arith)
between_place p0 p false a ms [] c q h e = unfold pick in more_no_refusal e
between_place p0 p k a ms (b ∷ bs) c q h e = by (step (between k a ms) b) (between_steps k a ms b) (between_kept p0 p k a ms b h) e (λ i w g f. between_place p0 (suc p) i w ms bs c q g f)
  where
    by : (x : Next) → Steps ms x → Kept p0 p x → onward (between k a ms) p (λ r. next_by (suc p) r bs) x ≡ refused_at c q
        → ((i : Bool) (w : Pending) → Since p0 (suc p) w → next_by (suc p) (between i w ms) bs ≡ refused_at c q → (p0 ≤ q) × (q ≤ suc p + length bs))
        → (p0 ≤ q) × (q ≤ p + suc (length bs))
    by x (stays i w) g f ih = let v = ih i w g f in (v.0, omega (arith, v.1))
    by x (enters i n st) g f ih = let v = inside_place (no_calls ms) (suc p) i n st bs c q f in (omega (arith, v.0), omega (arith, v.1))
    by x (refuses d) g f ih = let z = same_refusal f in (omega arith, omega arith)
    by x (refuses_before d n) g f ih = let z = same_refusal f in (omega arith, omega arith)

pub next_place : NextPlace
unfolding next_from
next_place s p ms c q l e =
    let v = between_place p p false clear ms (drop p s) c q (omega arith) e in
    (v.0, omega (arith, v.1, length-drop p s))
