-- What is read onto a table stands behind the macros that were there; and when it is one macro.
use mathlib.Core.Path.{◌≡◌, refl, sym, ap, ◌∙◌, subst}
use mathlib.Core.Bool.{Bool, true, false, not, ◌&&◌}
use mathlib.Core.List.{List, [], ◌∷◌, ◌++◌, reverse, reverse-append, reverse-reverse, append-nil}
use mathlib.Core.Option.{Option, none, some}
use Prim.Native.Nat.{ℕ, zero, suc, ◌+◌, ◌-◌}
use native.Mathlib.Omega.{arith}
use lib.Dec.{ltb}
use lib.ListN.{length, length-append}
use Rattle.macros.specs.Bounds.{most_file_bytes, most_macros, most_macro_bytes}
use Rattle.macros.specs.Refusals.FileRefusal.{file_too_long, zero_byte, incomplete, macro_too_long, too_many_macros}
use Rattle.macros.specs.Quoted.{◌is◌}
use Rattle.macros.specs.Macro.{Mark, Macro, Table, pick}
use Rattle.macros.specs.ReadSoFar.{Step, on, opens, done, stop, pattern, nothing}
use Rattle.macros.specs.ReadParts.{skips, part_byte_by}
use Rattle.macros.specs.ReadFile.{Pending, clear, at_mark, Prior, Reader, between, inside, Next, go, refuse, refuse_before, count, macro_of, taken}
use Rattle.macros.specs.ReadFile.{outside_fresh, first_call, outside, step_by}
use Rattle.macros.specs.ReadFile.{Read, refused_at, table, at_end, read_from_by, first_zero, read_onto_by}

-- the macros ms, newest first, have those of old behind them
abbrev Behind : List Macro → List Macro → Type 0
Behind old ms = (new : List Macro) × (ms ≡ new ++ old)

abbrev so_far : Reader → List Macro
so_far (between skip a ms) = ms
so_far (inside skip n st pr) = pr.macros

abbrev Keeps : List Macro → Next → Type 0
Keeps old (go r) = Behind old (so_far r)
Keeps old (refuse k) = Unit {0}
Keeps old (refuse_before k n) = Unit {0}

which : (old : List Macro) (c : Bool) (x y : Next) → Keeps old x → Keeps old y → Keeps old (pick c x y)
unfolding pick
which old true x y h g = h
which old false x y h g = g

count_keeps : (old : List Macro) (n : ℕ) (r : Reader) → Behind old (so_far r) → Keeps old (count n r)
unfolding count
count_keeps old n r h = which old (ltb n most_macro_bytes) (go r) (refuse macro_too_long) h tt

taken_keeps : (old : List Macro) (n : ℕ) (pr : Prior) (x : Step) → Behind old pr.macros → Keeps old (taken n pr x)
unfolding taken
taken_keeps old n pr (on st) h = count_keeps old n (inside false (suc n) st pr) h
taken_keeps old n pr (opens cs) h = count_keeps old n (inside false (suc n) (pattern nothing []) (record { calls = cs; macros = pr.macros })) h
taken_keeps old n pr (done f as₁ ks) h =
    let m : Macro = macro_of pr.calls f as₁ ks in
    count_keeps old n (between false clear (m ∷ pr.macros)) (m ∷ h.0, ap (λ (l : List Macro). m ∷ l) h.1)
taken_keeps old n pr (stop r) h = tt

-- before a pattern
fresh_keeps : (old ms : List Macro) (b : ℕ) → Behind old ms → Keeps old (outside_fresh ms b)
unfolding outside_fresh
fresh_keeps old ms b h =
    which old (b is "'") _ _ (which old (ltb (length ms) most_macros) _ _ h tt) (which old (b is "&") _ _ h (which old (b is "#") _ _ h h))

first_keeps : (old : List Macro) (m : Mark) (n : ℕ) (ms : List Macro) → Behind old ms → Keeps old (first_call m n ms)
unfolding first_call
first_keeps old m n ms h = which old (ltb (length ms) most_macros) _ _ (which old (ltb n most_macro_bytes) _ _ h tt) tt

outside_keeps : (old : List Macro) (a : Pending) (ms : List Macro) (b : ℕ) → Behind old ms → Keeps old (outside a ms b)
unfolding outside
outside_keeps old clear ms b h = fresh_keeps old ms b h
outside_keeps old (at_mark m n) ms b h = which old (b is "(") _ _ (first_keeps old m n ms h) (fresh_keeps old ms b h)

step_keeps : (longest : ℕ) (old : List Macro) (r : Reader) (b : ℕ) → Behind old (so_far r) → Keeps old (step_by longest r b)
unfolding step_by
step_keeps longest old (between skip a ms) b h = which old (b is "/") _ _ h (which old skip _ _ h (outside_keeps old a ms b h))
step_keeps longest old (inside skip n st pr) b h =
    which old (skips st && b is "/") _ _ (count_keeps old n (inside (not skip) (suc n) st pr) h)
    (which old skip _ _ (count_keeps old n (inside true (suc n) st pr) h) (taken_keeps old n pr (part_byte_by longest st b) h))

-- what was read, both tables oldest first
abbrev pub Onto : Table → Read → Type 0
Onto older (refused_at r p) = Unit {0}
Onto older (table ms) = (new : Table) × (ms ≡ older ++ new)

read_onto_lem : (longest : ℕ) (old : List Macro) (s : List ℕ) (p : ℕ) (r : Reader) → Behind old (so_far r) → Onto (reverse old) (read_from_by longest p r s)
unfolding read_from_by at_end pick
read_onto_lem longest old [] p (between true a ms) h = tt
read_onto_lem longest old [] p (between false a ms) h = (reverse h.0, ap reverse h.1 ∙ reverse-append h.0 old)
read_onto_lem longest old [] p (inside skip n st pr) h = tt
read_onto_lem longest old (b ∷ s) p r h = by (step_by longest r b) (step_keeps longest old r b h) (λ q g. read_onto_lem longest old s (suc p) q g)
  where
    by : (v : Next) → Keeps old v → ((q : Reader) → Behind old (so_far q) → Onto (reverse old) (read_from_by longest (suc p) q s))
        → Onto (reverse old) (elim v [ go r' ↦ read_from_by longest (suc p) r' s | refuse k ↦ refused_at k p | refuse_before k n ↦ refused_at k (p - n) ])
    by (go q) k ih = ih q k
    by (refuse n) k ih = tt
    by (refuse_before n j) k ih = tt

-- THE LAW
pub reads_onto : (longest : ℕ) (older : Table) (s : List ℕ) → Onto older (read_onto_by longest older s)
unfolding read_onto_by pick
reads_onto longest older s = by (ltb most_file_bytes (length s)) (first_zero 0 s)
  where
    by : (x : Bool) (o : Option ℕ)
        → Onto older (pick x (refused_at file_too_long most_file_bytes) (elim o [ none ↦ read_from_by longest 0 (between false clear (reverse older)) s | some p ↦ refused_at zero_byte p ]))
    by true o = tt
    by false (some p) = tt
    by false none = rw (reverse-reverse older) at (read_onto_lem longest (reverse older) s 0 (between false clear (reverse older)) ([], refl))

-- one macro more
pub one_more : (ms ks new : Table) → ks ≡ ms ++ new → length ks ≡ suc (length ms) → (m : Macro) × (ks ≡ ms ++ (m ∷ []))
one_more ms ks [] e n = absurd (let a : length ks ≡ length ms = ap length (e ∙ append-nil ms) in omega arith)
one_more ms ks (m ∷ []) e n = (m, e)
one_more ms ks (m ∷ k ∷ new) e n =
    absurd (let a : length ks ≡ length ms + suc (suc (length new)) = ap length e ∙ length-append ms (m ∷ k ∷ new) in omega arith)

pub one_length : (ms ks : Table) (m : Macro) → ks ≡ ms ++ (m ∷ []) → length ks ≡ suc (length ms)
one_length ms ks m e = let a : length ks ≡ length ms + 1 = ap length e ∙ length-append ms (m ∷ []) in omega arith
