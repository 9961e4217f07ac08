-- The macros that a reader has made are never lost: a byte leaves them as they are, or adds one behind its `;`.
use mathlib.Core.Path.{ap, refl, subst, sym, ◌∙◌, ◌≡◌}
use mathlib.Core.Bool.{◌&&◌, Bool, false, not, true}
use mathlib.Core.List.{◌++◌, List, [], append_assoc, reverse, reverse-append, ◌∷◌}
use Prim.Native.Nat.{suc, ℕ}
use lib.Dec.{eqb, ltb}
use Rattle.macros.specs.Bounds.{most_macro_bytes}
use Rattle.macros.specs.Refusals.FileRefusal.{macro_too_long}
use Rattle.macros.specs.Macro.{Macro, Mark, Table, pick}
use Rattle.macros.specs.Read.{Next, Part, Pending, Prior, Reader, Step, count, first_call, further, macro_of, outside, outside_fresh, part_byte, skips, step, taken}
use Rattle.macros.specs.Read.{step_by}
use Rattle.macros.specs.ReadSoFar.Step.{done, on, opens, stop}
use Rattle.macros.specs.ReadFile.Pending.{at_mark, clear}
use Rattle.macros.specs.ReadFile.Reader.{between, inside}
use Rattle.macros.specs.ReadFile.Next.{go, refuse, refuse_before}
use Rattle.macros.proofs.Pending.{First, Fresh, after, after_before, after_go, after_refuse, before_not_go, look_first, look_fresh, not_go}
use Rattle.macros.proofs.Pending.First.{opened, too_long, too_many}
use Rattle.macros.proofs.Pending.Fresh.{other, quoted, sign, too_many}
use Rattle.faults.specs.Recover.{whole_macros}

-- the macros of a reader that are whole, newest first
unfoldable pub newest : Reader → List Macro
newest (between skip a ms) = ms
newest (inside skip n st pr) = pr.macros

pub whole_newest : (r : Reader) → whole_macros r ≡ reverse (newest r)
unfolding newest whole_macros
whole_newest (between skip a ms) = refl
whole_newest (inside skip n st pr) = refl

-- what a byte does to them
pub data Grown (r r' : Reader) : Type 0 where
  same : newest r' ≡ newest r → Grown r r'
  more : (m : Macro) → r' ≡ between false clear (m ∷ newest r) → Grown r r'

unwrap : {r r' : Reader} → go r ≡ go r' → r' ≡ r
unwrap e = cc

fresh_same : (ms : List Macro) (b : ℕ) (r' : Reader) → outside_fresh ms b ≡ go r' → newest r' ≡ ms
unfolding newest
fresh_same ms b r' e = by (look_fresh ms b)
  where
    by : Fresh ms b (outside_fresh ms b) → newest r' ≡ ms
    by (quoted x z) = ap newest (unwrap (sym z ∙ e))
    by (too_many z) = not_go (sym z ∙ e)
    by (sign m x y z) = ap newest (unwrap (sym z ∙ e))
    by (other x z) = ap newest (unwrap (sym z ∙ e))

first_same : (m : Mark) (n : ℕ) (ms : List Macro) (r' : Reader) → first_call m n ms ≡ go r' → newest r' ≡ ms
unfolding newest
first_same m n ms r' e = by (look_first m n ms)
  where
    by : First m n ms (first_call m n ms) → newest r' ≡ ms
    by (opened z) = ap newest (unwrap (sym z ∙ e))
    by (too_long l z) = before_not_go (sym z ∙ e)
    by (too_many z) = before_not_go (sym z ∙ e)

outside_same : (a : Pending) (ms : List Macro) (b : ℕ) (r' : Reader) → outside a ms b ≡ go r' → newest r' ≡ ms
unfolding outside
outside_same clear ms b r' e = fresh_same ms b r' e
outside_same (at_mark m n) ms b r' e = by (eqb b 40) e
  where
    by : (c : Bool) → pick c (first_call m n ms) (outside_fresh ms b) ≡ go r' → newest r' ≡ ms
    by true f = unfold pick in first_same m n ms r' f
    by false f = unfold pick in fresh_same ms b r' f

counted : (n : ℕ) (r r' : Reader) → count n r ≡ go r' → r' ≡ r
unfolding count
counted n r r' e = by (ltb n most_macro_bytes) e
  where
    by : (c : Bool) → pick c (go r) (refuse macro_too_long) ≡ go r' → r' ≡ r
    by true f = unfold pick in unwrap f
    by false f = unfold pick in not_go f

-- a byte in a macro stays in it, or ends it
pub data InMacro (pr : Prior) : Reader → Type 0 where
  stays : {skip : Bool} {n : ℕ} {st : Part} {pr' : Prior} → pr'.macros ≡ pr.macros → InMacro pr (inside skip n st pr')
  ends : (m : Macro) → InMacro pr (between false clear (m ∷ pr.macros))

count_in : (pr : Prior) (n : ℕ) (r r' : Reader) → InMacro pr r → count n r ≡ go r' → InMacro pr r'
count_in pr n r r' g e = subst (InMacro pr) (sym (counted n r r' e)) g

taken_in : (n : ℕ) (pr : Prior) (x : Step) (r' : Reader) → taken n pr x ≡ go r' → InMacro pr r'
unfolding taken
taken_in n pr (on st) r' e = count_in pr n _ r' (stays refl) e
taken_in n pr (opens cs) r' e = count_in pr n _ r' (stays refl) e
taken_in n pr (done f l cs) r' e = count_in pr n _ r' (ends (macro_of pr.calls f l cs)) e
taken_in n pr (stop k) r' e = not_go e

pub in_macro : (skip : Bool) (n : ℕ) (st : Part) (pr : Prior) (r' : Reader) (b : ℕ) → step (inside skip n st pr) b ≡ go r' → InMacro pr r'
unfolding step_by
in_macro skip n st pr r' b e = by (skips st && eqb b 47) skip e
  where
    by : (c d : Bool) → pick c (count n (inside (not d) (suc n) st pr)) (pick d (count n (inside true (suc n) st pr)) (taken n pr (part_byte st b))) ≡ go r'
        → InMacro pr r'
    by true d z = unfold pick in count_in pr n _ r' (stays refl) z
    by false true z = unfold pick in count_in pr n _ r' (stays refl) z
    by false false z = unfold pick in taken_in n pr (part_byte st b) r' z

-- a byte between macros makes none
pub between_same : (skip : Bool) (a : Pending) (ms : List Macro) (r' : Reader) (b : ℕ) → step (between skip a ms) b ≡ go r' → newest r' ≡ ms
unfolding step_by newest
between_same skip a ms r' b e = by (eqb b 47) skip e
  where
    by : (c d : Bool) → pick c (go (between (not d) (further a) ms)) (pick d (go (between true (further a) ms)) (outside a ms b)) ≡ go r' → newest r' ≡ ms
    by true d z = unfold pick in ap newest (unwrap z)
    by false true z = unfold pick in ap newest (unwrap z)
    by false false z = unfold pick in outside_same a ms b r' z

pub step_grown : (r r' : Reader) (b : ℕ) → step r b ≡ go r' → Grown r r'
unfolding newest
step_grown (between skip a ms) r' b e = same (between_same skip a ms r' b e)
step_grown (inside skip n st pr) r' b e = by r' (in_macro skip n st pr r' b e)
  where
    by : (x : Reader) → InMacro pr x → Grown (inside skip n st pr) x
    by x (stays g) = same g
    by x (ends m) = more m refl

-- bytes after bytes
pub after_grown : (u : List ℕ) (r r' : Reader) → after r u ≡ go r' → (new : List Macro) × (newest r' ≡ new ++ newest r)
unfolding after newest
after_grown [] r r' e = ([], ap newest (unwrap e))
after_grown (b ∷ u) r r' e = by (step r b) refl (λ x f. after_grown u x r' f)
  where
    on_by : (x : Reader) → Grown r x → (new : List Macro) × (newest r' ≡ new ++ newest x) → (new : List Macro) × (newest r' ≡ new ++ newest r)
    on_by x (same g) i = (i.0, i.1 ∙ ap (λ y. i.0 ++ y) g)
    on_by x (more m g) i =
        let z : newest x ≡ m ∷ newest r = ap newest g in
        (i.0 ++ (m ∷ []), i.1 ∙ (ap (λ y. i.0 ++ y) z ∙ sym (append_assoc i.0 (m ∷ []) (newest r))))

    by : (w : Next) → step r b ≡ w → ((x : Reader) → after x u ≡ go r' → (new : List Macro) × (newest r' ≡ new ++ newest x))
        → (new : List Macro) × (newest r' ≡ new ++ newest r)
    by (go x) f ih = on_by x (step_grown r x b f) (ih x (sym (after_go r x b u f) ∙ e))
    by (refuse k) f ih = not_go (sym (after_refuse r k b u f) ∙ e)
    by (refuse_before k n) f ih = before_not_go (sym (after_before r k n b u f) ∙ e)

-- in the order of the table
pub whole_grown : (u : List ℕ) (r r' : Reader) → after r u ≡ go r' → (new : Table) × (whole_macros r' ≡ whole_macros r ++ new)
whole_grown u r r' e =
    let g = after_grown u r r' e in
    (reverse g.0, whole_newest r' ∙ (ap reverse g.1 ∙ (reverse-append g.0 (newest r) ∙ ap (λ x. x ++ reverse g.0) (sym (whole_newest r)))))
