-- Reading bytes after bytes; and what a pending `&` or `#` is: what was read between macros ends in that sign and skips (02, N2).
use mathlib.Core.Path.{ap, refl, subst, sym, ◌∙◌, ◌≡◌}
use mathlib.Core.Bool.{◌&&◌, Bool, false, not, true}
use mathlib.Core.Logic.{◌⊎◌, inl, inr}
use mathlib.Core.List.{◌++◌, List, [], append_assoc, append-nil, ◌∷◌}
use Prim.Native.Nat.{◌+◌, ◌-◌, suc, ℕ, ◌≤◌}
use native.Mathlib.Omega.{arith}
use lib.ListN.{length, length-append}
use lib.Dec.{eqb, ltb}
use borrow.Author.Tests.{eqb-false, eqb-true, ltb-false, ne_eqb}
use Rattle.macros.specs.Bounds.{most_macro_bytes, most_macros}
use Rattle.macros.specs.Refusals.{FileRefusal}
use Rattle.macros.specs.Refusals.FileRefusal.{macro_too_long, too_many_macros}
use Rattle.macros.specs.Macro.{Macro, Mark, mark_byte, pick}
use Rattle.macros.specs.Macro.Mark.{counter, stack}
use Rattle.macros.specs.Read.{Next, Pending, Prior, Reader, Step, count, first_call, further, no_calls, outside, outside_fresh}
use Rattle.macros.specs.Read.{part_byte, read_from, skips, step, taken, step_by}
use Rattle.macros.specs.ReadSoFar.Joinable.{nothing}
use Rattle.macros.specs.ReadSoFar.CallSite.{calls_so_far}
use Rattle.macros.specs.ReadSoFar.Phase.{begun}
use Rattle.macros.specs.ReadSoFar.Part.{calling, pattern}
use Rattle.macros.specs.ReadSoFar.Step.{done, on, opens, stop}
use Rattle.macros.specs.ReadFile.Pending.{at_mark, clear}
use Rattle.macros.specs.ReadFile.Reader.{between, inside}
use Rattle.macros.specs.ReadFile.Next.{go, refuse, refuse_before}
use Rattle.macros.specs.ReadFile.Read.{refused_at}
use Rattle.macros.specs.Begins.{NoSlash, Skipped, call_sign, skip_over}
use Rattle.macros.specs.Begins.Skipped.{a_skip, no_skip}
use Rattle.macros.proofs.Round.{read_go}

-- three things that a byte does, no two of them one
pub not_go : {A : Type 0} {k : FileRefusal} {r : Reader} → refuse k ≡ go r → A
not_go e = let z : ◌≡◌ {A = ℕ} 0 1 = cc in absurd (omega arith)

pub before_not_go : {A : Type 0} {k : FileRefusal} {n : ℕ} {r : Reader} → refuse_before k n ≡ go r → A
before_not_go e = let z : ◌≡◌ {A = ℕ} 0 1 = cc in absurd (omega arith)

go_not_before : {A : Type 0} {k : FileRefusal} {n : ℕ} {r : Reader} → go r ≡ refuse_before k n → A
go_not_before e = let z : ◌≡◌ {A = ℕ} 0 1 = cc in absurd (omega arith)

refuse_not_before : {A : Type 0} {k j : FileRefusal} {n : ℕ} → refuse j ≡ refuse_before k n → A
refuse_not_before e = let z : ◌≡◌ {A = ℕ} 0 1 = cc in absurd (omega arith)

-- A BYTE OUTSIDE SKIPS, BETWEEN MACROS

-- a byte that joins no sign: a quote, with room for its macro or without; a `&` or `#`; another
pub data Fresh (ms : List Macro) (b : ℕ) (x : Next) : Type 0 where
  quoted : eqb b 39 ≡ true → x ≡ go (inside false 1 (pattern nothing []) (no_calls ms)) → Fresh ms b x
  too_many : x ≡ refuse too_many_macros → Fresh ms b x
  sign : (m : Mark) → eqb b 39 ≡ false → b ≡ mark_byte m → x ≡ go (between false (at_mark m 1) ms) → Fresh ms b x
  other : eqb b 39 ≡ false → x ≡ go (between false clear ms) → Fresh ms b x

pub look_fresh : (ms : List Macro) (b : ℕ) → Fresh ms b (outside_fresh ms b)
unfolding outside_fresh
look_fresh ms b = by (eqb b 39) (ltb (length ms) most_macros) (eqb b 38) (eqb b 35) refl refl refl
  where
    by : (c d g h : Bool) → eqb b 39 ≡ c → eqb b 38 ≡ g → eqb b 35 ≡ h → Fresh ms b
        (pick c (pick d (go (inside false 1 (pattern nothing []) (no_calls ms))) (refuse too_many_macros))
        (pick g (go (between false (at_mark stack 1) ms)) (pick h (go (between false (at_mark counter 1) ms)) (go (between false clear ms)))))
    by true true g h e x y = unfold pick in quoted e refl
    by true false g h e x y = unfold pick in too_many refl
    by false d true h e x y = unfold pick in sign stack e (unfold mark_byte in eqb-true b 38 x) refl
    by false d false true e x y = unfold pick in sign counter e (unfold mark_byte in eqb-true b 35 y) refl
    by false d false false e x y = unfold pick in other e refl

-- the `(` of a first call, n bytes behind its sign
pub data First (m : Mark) (n : ℕ) (ms : List Macro) (x : Next) : Type 0 where
  opened : x ≡ go (inside false (suc n) (calling (calls_so_far []) (begun m)) (no_calls ms)) → First m n ms x
  too_long : most_macro_bytes ≤ n → x ≡ refuse_before macro_too_long (n - most_macro_bytes) → First m n ms x
  too_many : x ≡ refuse_before too_many_macros n → First m n ms x

pub look_first : (m : Mark) (n : ℕ) (ms : List Macro) → First m n ms (first_call m n ms)
unfolding first_call
look_first m n ms = by (ltb (length ms) most_macros) (ltb n most_macro_bytes) refl
  where
    by : (c d : Bool) → ltb n most_macro_bytes ≡ d → First m n ms
        (pick c (pick d (go (inside false (suc n) (calling (calls_so_far []) (begun m)) (no_calls ms))) (refuse_before macro_too_long (n - most_macro_bytes)))
        (refuse_before too_many_macros n))
    by true true e = unfold pick in opened refl
    by true false e = unfold pick in too_long (ltb-false n 512 e) refl
    by false d e = unfold pick in too_many refl

-- BYTES AFTER BYTES

unfoldable pub after : Reader → List ℕ → Next
after r [] = go r
after r (b ∷ s) = elim (step r b) [ go r' ↦ after r' s | refuse k ↦ refuse k | refuse_before k n ↦ refuse_before k n ]

pub after_go : (r r' : Reader) (b : ℕ) (s : List ℕ) → step r b ≡ go r' → after r (b ∷ s) ≡ after r' s
unfolding after
after_go r r' b s e = rw (e, after)

pub after_refuse : (r : Reader) (k : FileRefusal) (b : ℕ) (s : List ℕ) → step r b ≡ refuse k → after r (b ∷ s) ≡ refuse k
unfolding after
after_refuse r k b s e = rw (e, after)

pub after_before : (r : Reader) (k : FileRefusal) (n b : ℕ) (s : List ℕ) → step r b ≡ refuse_before k n → after r (b ∷ s) ≡ refuse_before k n
unfolding after
after_before r k n b s e = rw (e, after)

-- bytes and then others
pub after_append : (u v : List ℕ) (r r' : Reader) → after r u ≡ go r' → after r (u ++ v) ≡ after r' v
unfolding after
after_append [] v r r' e = let z : r ≡ r' = cc in rw z
after_append (c ∷ u) v r r' e = by (step r c) refl (λ x g. after_append u v x r' g)
  where
    by : (y : Next) → step r c ≡ y → ((x : Reader) → after x u ≡ go r' → after x (u ++ v) ≡ after r' v) → after r (c ∷ (u ++ v)) ≡ after r' v
    by (go x) g ih = after_go r x c (u ++ v) g ∙ ih x (sym (after_go r x c u g) ∙ e)
    by (refuse k) g ih = not_go (sym (after_refuse r k c u g) ∙ e)
    by (refuse_before k n) g ih = before_not_go (sym (after_before r k n c u g) ∙ e)

-- one byte more
pub after_one : (u : List ℕ) (r r' r'' : Reader) (b : ℕ) → after r u ≡ go r' → step r' b ≡ go r'' → after r (u ++ (b ∷ [])) ≡ go r''
unfolding after
after_one u r r' r'' b e f = after_append u (b ∷ []) r r' e ∙ after_go r' r'' b [] f

-- reading on behind bytes
pub read_after : (u v : List ℕ) (q : ℕ) (r r' : Reader) → after r u ≡ go r' → read_from q r (u ++ v) ≡ read_from (q + length u) r' v
unfolding after
read_after [] v q r r' e = let z : r ≡ r' = cc in let x : q + 0 ≡ q = omega arith in rw (x, z)
read_after (b ∷ u) v q r r' e = by (step r b) refl (λ x f. read_after u v (suc q) x r' f)
  where
    by : (w : Next) → step r b ≡ w → ((x : Reader) → after x u ≡ go r' → read_from (suc q) x (u ++ v) ≡ read_from (suc q + length u) r' v)
        → read_from q r (b ∷ (u ++ v)) ≡ read_from (q + suc (length u)) r' v
    by (go x) f ih =
        let y : q + suc (length u) ≡ suc q + length u = omega arith in
        rw y (read_go q r x b (u ++ v) f ∙ ih x (sym (after_go r x b u f) ∙ e))
    by (refuse k) f ih = not_go (sym (after_refuse r k b u f) ∙ e)
    by (refuse_before k n) f ih = before_not_go (sym (after_before r k n b u f) ∙ e)

-- SKIPS BETWEEN MACROS

-- k bytes more behind a pending sign
unfoldable pub more : ℕ → Pending → Pending
more k clear = clear
more k (at_mark m n) = at_mark m (n + k)

more_one : (k : ℕ) (a : Pending) → more k (further a) ≡ more (suc k) a
unfolding more further
more_one k clear = refl
more_one k (at_mark m n) = let z : suc n + k ≡ n + suc k = omega arith in rw z

more_last : (k : ℕ) (a : Pending) → further (more k a) ≡ more (suc k) a
unfolding more further
more_last k clear = refl
more_last k (at_mark m n) = let z : suc (n + k) ≡ n + suc k = omega arith in rw z

more_none : (a : Pending) → more 0 a ≡ a
unfolding more
more_none clear = refl
more_none (at_mark m n) = let z : n + 0 ≡ n = omega arith in rw z

more_more : (j k : ℕ) (a : Pending) → more k (more j a) ≡ more (j + k) a
unfolding more
more_more j k clear = refl
more_more j k (at_mark m n) = let z : n + j + k ≡ n + (j + k) = omega arith in rw z

pub skip_length : (t : List ℕ) → length (skip_over t) ≡ suc (suc (length t))
skip_length t = simp length-append (omega arith)

-- bytes in a skip
pub skip_on : (t : List ℕ) (a : Pending) (ms : List Macro) → NoSlash t → after (between true a ms) t ≡ go (between true (more (length t) a) ms)
unfolding after
skip_on [] a ms g = rw (more_none a)
skip_on (b ∷ t) a ms g =
    after_go (between true a ms) (between true (further a) ms) b t (unfold step_by pick in rw (ne_eqb b 47 g.0))
    ∙ (skip_on t (further a) ms g.1 ∙ ap (λ x. go (between true x ms)) (more_one (length t) a))

-- a skip
pub skip_over_lem : (t : List ℕ) (a : Pending) (ms : List Macro) → NoSlash t
    → after (between false a ms) (skip_over t) ≡ go (between false (more (length (skip_over t)) a) ms)
skip_over_lem t a ms g =
    after_go (between false a ms) (between true (further a) ms) 47 (t ++ (47 ∷ [])) (unfold step_by pick in refl)
    ∙ (after_one t (between true (further a) ms) (between true (more (length t) (further a)) ms) (between false (further (more (length t) (further a))) ms) 47
    (skip_on t (further a) ms g) (unfold step_by pick in refl)
    ∙ ap (λ x. go (between false x ms)) (ap further (more_one (length t) a) ∙ (more_last (suc (length t)) a ∙ ap (λ (k : ℕ). more k a) (sym (skip_length t)))))

-- skips, one behind the other
pub skips_over : (u : List ℕ) (a : Pending) (ms : List Macro) → Skipped u → after (between false a ms) u ≡ go (between false (more (length u) a) ms)
unfolding after
skips_over u a ms no_skip = rw (more_none a)
skips_over u a ms (a_skip t v g s) =
    after_append (skip_over t) v (between false a ms) (between false (more (length (skip_over t)) a) ms) (skip_over_lem t a ms g)
    ∙ (skips_over v (more (length (skip_over t)) a) ms s
    ∙ ap (λ x. go (between false x ms)) (more_more (length (skip_over t)) (length v) a ∙ ap (λ (k : ℕ). more k a) (sym (length-append (skip_over t) v))))

-- a sign between macros, whatever stands before it
sign_on : (m : Mark) (a : Pending) (ms : List Macro) → step (between false a ms) (mark_byte m) ≡ go (between false (at_mark m 1) ms)
unfolding step_by outside outside_fresh mark_byte pick
sign_on stack clear ms = refl
sign_on stack (at_mark m n) ms = refl
sign_on counter clear ms = refl
sign_on counter (at_mark m n) ms = refl

-- a sign and skips
pub sign_skips : (m : Mark) (u : List ℕ) (a : Pending) (ms : List Macro) → Skipped u
    → after (between false a ms) (mark_byte m ∷ u) ≡ go (between false (at_mark m (suc (length u))) ms)
unfolding more
sign_skips m u a ms s =
    let z : 1 + length u ≡ suc (length u) = omega arith in
    after_go (between false a ms) (between false (at_mark m 1) ms) (mark_byte m) u (sign_on m a ms)
    ∙ (skips_over u (at_mark m 1) ms s ∙ ap (λ (n : ℕ). go (between false (at_mark m n) ms)) z)

-- WHAT IS PENDING

-- skips, the last of them not closed
pub record OpenSkip (w : List ℕ) : Type 0 where
  pub closed : List ℕ
  pub inner : List ℕ
  pub stands : w ≡ closed ++ (47 ∷ inner)
  pub skipped : Skipped closed
  pub slashless : NoSlash inner

-- skips; skip: whether one is open
abbrev pub Skipping : Bool → List ℕ → Type 0
Skipping false w = Skipped w
Skipping true w = OpenSkip w

-- the bytes u, read from r on, end in the mark m and skips behind it, n bytes in all; before it the macros ms had been read
pub record Signed (r : Reader) (u : List ℕ) (skip : Bool) (m : Mark) (n : ℕ) (ms : List Macro) : Type 0 where
  pub before : List ℕ
  pub behind : List ℕ
  pub pending : Pending
  pub stands : u ≡ before ++ (mark_byte m ∷ behind)
  pub since : n ≡ suc (length behind)
  pub skipping : Skipping skip behind
  pub read : after r before ≡ go (between false pending ms)

module _ {r : Reader} {u : List ℕ} {skip : Bool} {m : Mark} {n : ℕ} {ms : List Macro} (x : Signed r u skip m n ms) where
  pub signed_length : length u ≡ length x.before + n
  signed_length = ap length x.stands ∙ (length-append x.before (mark_byte m ∷ x.behind) ∙ ap (λ (k : ℕ). length x.before + k) (sym x.since))

  -- with a `(` behind it, it is a call's sign
  pub signed_call : (b : ℕ) (v : List ℕ) → b ≡ 40 → u ++ (b ∷ v) ≡ x.before ++ (call_sign m x.behind ++ v)
  signed_call b v e =
      ap (λ y. y ++ (b ∷ v)) x.stands
      ∙ (append_assoc x.before (mark_byte m ∷ x.behind) (b ∷ v)
      ∙ rw (e, append_assoc x.behind (40 ∷ []) v))

-- a reader, reached from r by the bytes u, has its sign, if one is pending, in them
abbrev pub Pends : Reader → List ℕ → Reader → Type 0
Pends r u (between skip clear ms) = Unit {0}
Pends r u (between skip (at_mark m n) ms) = Signed r u skip m n ms
Pends r u (inside skip n st pr) = Unit {0}

skipped_more : (w t : List ℕ) → Skipped w → NoSlash t → Skipped (w ++ skip_over t)
skipped_more w t no_skip g = subst Skipped (append-nil (skip_over t)) (a_skip t [] g no_skip)
skipped_more w t (a_skip s v h e) g = subst Skipped (sym (append_assoc (skip_over s) v (skip_over t))) (a_skip s (v ++ skip_over t) h (skipped_more v t e g))

slashless_more : (t : List ℕ) (b : ℕ) → NoSlash t → (b ≡ 47 → ⊥) → NoSlash (t ++ (b ∷ []))
slashless_more [] b g e = (e, tt)
slashless_more (c ∷ t) b g e = (g.0, slashless_more t b g.1 e)

-- a `/` opens a skip or closes it
turn : (skip : Bool) (w : List ℕ) → Skipping skip w → Skipping (not skip) (w ++ (47 ∷ []))
turn false w s = record { closed = w; inner = []; stands = refl; skipped = s; slashless = tt }
turn true w s =
    subst Skipped (sym (append_assoc s.closed (47 ∷ s.inner) (47 ∷ [])) ∙ ap (λ x. x ++ (47 ∷ [])) (sym s.stands))
    (skipped_more s.closed s.inner s.skipped s.slashless)

-- another byte stays in it
stay_in : (w : List ℕ) (b : ℕ) → Skipping true w → (b ≡ 47 → ⊥) → Skipping true (w ++ (b ∷ []))
stay_in w b s e = record {
  closed = s.closed;
  inner = s.inner ++ (b ∷ []);
  stands = ap (λ x. x ++ (b ∷ [])) s.stands ∙ append_assoc s.closed (47 ∷ s.inner) (b ∷ []);
  skipped = s.skipped;
  slashless = slashless_more s.inner b s.slashless e;
}

module _ (s : Reader) (u : List ℕ) (b : ℕ) where
  -- one byte more behind the sign
  sign_more : (skip skip' : Bool) (m : Mark) (n : ℕ) (ms : List Macro) (x : Signed s u skip m n ms) → Skipping skip' (x.behind ++ (b ∷ []))
      → Signed s (u ++ (b ∷ [])) skip' m (suc n) ms
  sign_more skip skip' m n ms x g = record {
    before = x.before;
    behind = x.behind ++ (b ∷ []);
    pending = x.pending;
    stands = ap (λ y. y ++ (b ∷ [])) x.stands ∙ append_assoc x.before (mark_byte m ∷ x.behind) (b ∷ []);
    since = let l = length-append x.behind (b ∷ []) in omega (arith, x.since);
    skipping = g;
    read = x.read;
  }

  further_pends : (skip skip' : Bool) (a : Pending) (ms : List Macro) → Pends s u (between skip a ms)
      → ((w : List ℕ) → Skipping skip w → Skipping skip' (w ++ (b ∷ []))) → Pends s (u ++ (b ∷ [])) (between skip' (further a) ms)
  unfolding further
  further_pends skip skip' clear ms x f = tt
  further_pends skip skip' (at_mark m n) ms x f = sign_more skip skip' m n ms x (f x.behind x.skipping)

  same_pends : (x r : Reader) → Pends s (u ++ (b ∷ [])) x → go x ≡ go r → Pends s (u ++ (b ∷ [])) r
  same_pends x r g e = let z : x ≡ r = cc in subst (λ y. Pends s (u ++ (b ∷ [])) y) z g

  count_pends : (n : ℕ) (x r : Reader) → Pends s (u ++ (b ∷ [])) x → count n x ≡ go r → Pends s (u ++ (b ∷ [])) r
  unfolding count
  count_pends n x r g e = by (ltb n most_macro_bytes) e
    where
      by : (c : Bool) → pick c (go x) (refuse macro_too_long) ≡ go r → Pends s (u ++ (b ∷ [])) r
      by true f = unfold pick in same_pends x r g f
      by false f = unfold pick in not_go f

  taken_pends : (n : ℕ) (pr : Prior) (x : Step) (r : Reader) → taken n pr x ≡ go r → Pends s (u ++ (b ∷ [])) r
  unfolding taken
  taken_pends n pr (on st) r e = count_pends n _ r tt e
  taken_pends n pr (opens cs) r e = count_pends n _ r tt e
  taken_pends n pr (done f l cs) r e = count_pends n _ r tt e
  taken_pends n pr (stop k) r e = not_go e

  -- a sign begins at this byte
  sign_begins : (m : Mark) (a : Pending) (ms : List Macro) → b ≡ mark_byte m → after s u ≡ go (between false a ms) → Signed s (u ++ (b ∷ [])) false m 1 ms
  sign_begins m a ms e f = record { before = u; behind = []; pending = a; stands = rw e; since = refl; skipping = no_skip; read = f }

  pub fresh_pends : (a : Pending) (ms : List Macro) (r : Reader) → after s u ≡ go (between false a ms) → outside_fresh ms b ≡ go r → Pends s (u ++ (b ∷ [])) r
  fresh_pends a ms r f e = by (look_fresh ms b)
    where
      by : Fresh ms b (outside_fresh ms b) → Pends s (u ++ (b ∷ [])) r
      by (quoted x z) = same_pends _ r tt (sym z ∙ e)
      by (too_many z) = not_go (sym z ∙ e)
      by (sign m x y z) = same_pends _ r (sign_begins m a ms y f) (sym z ∙ e)
      by (other x z) = same_pends _ r tt (sym z ∙ e)

  first_pends : (m : Mark) (n : ℕ) (ms : List Macro) (r : Reader) → first_call m n ms ≡ go r → Pends s (u ++ (b ∷ [])) r
  first_pends m n ms r e = by (look_first m n ms)
    where
      by : First m n ms (first_call m n ms) → Pends s (u ++ (b ∷ [])) r
      by (opened z) = same_pends _ r tt (sym z ∙ e)
      by (too_long x z) = before_not_go (sym z ∙ e)
      by (too_many z) = before_not_go (sym z ∙ e)

  outside_pends : (a : Pending) (ms : List Macro) (r : Reader) → after s u ≡ go (between false a ms) → outside a ms b ≡ go r → Pends s (u ++ (b ∷ [])) r
  unfolding outside
  outside_pends clear ms r f e = fresh_pends clear ms r f e
  outside_pends (at_mark m n) ms r f e = by (eqb b 40) e
    where
      by : (c : Bool) → pick c (first_call m n ms) (outside_fresh ms b) ≡ go r → Pends s (u ++ (b ∷ [])) r
      by true z = unfold pick in first_pends m n ms r z
      by false z = unfold pick in fresh_pends (at_mark m n) ms r f z

  -- one byte more
  pub pends_one : (r r' : Reader) → after s u ≡ go r → Pends s u r → step r b ≡ go r' → Pends s (u ++ (b ∷ [])) r'
  unfolding step_by
  pends_one (between skip a ms) r' f g e = by (eqb b 47) skip refl f g e
    where
      by : (c d : Bool) → eqb b 47 ≡ c → after s u ≡ go (between d a ms) → Pends s u (between d a ms)
          → pick c (go (between (not d) (further a) ms)) (pick d (go (between true (further a) ms)) (outside a ms b)) ≡ go r' → Pends s (u ++ (b ∷ [])) r'
      by true d x f g z = unfold pick in same_pends _ r' (further_pends d (not d) a ms g (λ w i. rw (eqb-true b 47 x) (turn d w i))) z
      by false true x f g z = unfold pick in same_pends _ r' (further_pends true true a ms g (λ w i. stay_in w b i (eqb-false b 47 x))) z
      by false false x f g z = unfold pick in outside_pends a ms r' f z
  pends_one (inside skip n st pr) r' f g e = by (skips st && eqb b 47) skip e
    where
      by : (c d : Bool)
          → pick c (count n (inside (not d) (suc n) st pr)) (pick d (count n (inside true (suc n) st pr)) (taken n pr (part_byte st b))) ≡ go r'
          → Pends s (u ++ (b ∷ [])) r'
      by true d z = unfold pick in count_pends n _ r' tt z
      by false true z = unfold pick in count_pends n _ r' tt z
      by false false z = unfold pick in taken_pends n pr (part_byte st b) r' z

-- and bytes more
pends_more : (v u : List ℕ) (s r r' : Reader) → after s u ≡ go r → Pends s u r → after r v ≡ go r' → Pends s (u ++ v) r'
unfolding after
pends_more [] u s r r' e g f = let z : r ≡ r' = cc in rw (append-nil u) (subst (λ x. Pends s u x) z g)
pends_more (b ∷ v) u s r r' e g f =
    by (step r b) refl (λ x h. pends_more v (u ++ (b ∷ [])) s x r' (after_one u s r x b e h) (pends_one s u b r x e g h))
  where
    by : (w : Next) → step r b ≡ w → ((x : Reader) → step r b ≡ go x → after x v ≡ go r' → Pends s ((u ++ (b ∷ [])) ++ v) r') → Pends s (u ++ (b ∷ v)) r'
    by (go x) h ih = subst (λ y. Pends s y r') (append_assoc u (b ∷ []) v) (ih x h (sym (after_go r x b v h) ∙ f))
    by (refuse k) h ih = not_go (sym (after_refuse r k b v h) ∙ f)
    by (refuse_before k n) h ih = before_not_go (sym (after_before r k n b v h) ∙ f)

-- from a start between macros
pub pends : (u : List ℕ) (ms : List Macro) (r : Reader) → after (between false clear ms) u ≡ go r → Pends (between false clear ms) u r
unfolding after
pends u ms r e = pends_more u [] (between false clear ms) (between false clear ms) r refl tt e

-- WHAT IS REFUSED LATER THAN ITS PLACE

-- the `(` of a macro's first call, by which 19 or 18 is refused n bytes before it
pub record AtCall (r : Reader) (b : ℕ) (k : FileRefusal) (n : ℕ) : Type 0 where
  pub mark : Mark
  pub since : ℕ
  pub macros : List Macro
  pub reader : r ≡ between false (at_mark mark since) macros
  pub byte : b ≡ 40
  pub fault : ((k ≡ too_many_macros) × (n ≡ since)) ⊎ ((k ≡ macro_too_long) × (n + most_macro_bytes ≡ since))

-- it is in what was read
pub call_length : (s : Reader) (u : List ℕ) (r : Reader) (b : ℕ) (k : FileRefusal) (n : ℕ) → Pends s u r → AtCall r b k n → n ≤ length u
call_length s u r b k n g c = by c.fault
  where
    x : Signed s u false c.mark c.since c.macros
    x = subst (λ y. Pends s u y) c.reader g

    by : ((k ≡ too_many_macros) × (n ≡ c.since)) ⊎ ((k ≡ macro_too_long) × (n + most_macro_bytes ≡ c.since)) → n ≤ length u
    by (inl f) = omega (arith, signed_length x, f.1)
    by (inr f) = omega (arith, signed_length x, f.1)

count_no_call : {A : Type 0} (n j : ℕ) (k : FileRefusal) (r : Reader) → count n r ≡ refuse_before k j → A
unfolding count
count_no_call n j k r e = by (ltb n most_macro_bytes) e
  where
    by : {A : Type 0} (c : Bool) → pick c (go r) (refuse macro_too_long) ≡ refuse_before k j → A
    by true f = unfold pick in go_not_before f
    by false f = unfold pick in refuse_not_before f

taken_no_call : {A : Type 0} (n j : ℕ) (k : FileRefusal) (pr : Prior) (x : Step) → taken n pr x ≡ refuse_before k j → A
unfolding taken
taken_no_call n j k pr (on st) e = count_no_call n j k _ e
taken_no_call n j k pr (opens cs) e = count_no_call n j k _ e
taken_no_call n j k pr (done f l cs) e = count_no_call n j k _ e
taken_no_call n j k pr (stop i) e = refuse_not_before e

pub fresh_no_call : {A : Type 0} (ms : List Macro) (b n : ℕ) (k : FileRefusal) → outside_fresh ms b ≡ refuse_before k n → A
fresh_no_call ms b n k e = by (look_fresh ms b)
  where
    by : {A : Type 0} → Fresh ms b (outside_fresh ms b) → A
    by (quoted x z) = go_not_before (sym z ∙ e)
    by (too_many z) = refuse_not_before (sym z ∙ e)
    by (sign m x y z) = go_not_before (sym z ∙ e)
    by (other x z) = go_not_before (sym z ∙ e)

first_call_lem : (m : Mark) (n j : ℕ) (ms : List Macro) (k : FileRefusal) → first_call m n ms ≡ refuse_before k j
    → ((k ≡ too_many_macros) × (j ≡ n)) ⊎ ((k ≡ macro_too_long) × (j + most_macro_bytes ≡ n))
first_call_lem m n j ms k e = by (look_first m n ms)
  where
    by : First m n ms (first_call m n ms) → ((k ≡ too_many_macros) × (j ≡ n)) ⊎ ((k ≡ macro_too_long) × (j + most_macro_bytes ≡ n))
    by (opened z) = go_not_before (sym z ∙ e)
    by (too_long l z) =
        let f : refuse_before k j ≡ refuse_before macro_too_long (n - most_macro_bytes) = sym e ∙ z in
        let y : j ≡ n - most_macro_bytes = cc in
        inr (cc, omega arith)
    by (too_many z) = let f : refuse_before k j ≡ refuse_before too_many_macros n = sym e ∙ z in inl (cc, cc)

outside_call : (a : Pending) (ms : List Macro) (b : ℕ) (k : FileRefusal) (n : ℕ) → outside a ms b ≡ refuse_before k n → AtCall (between false a ms) b k n
unfolding outside
outside_call clear ms b k n e = fresh_no_call ms b n k e
outside_call (at_mark m c) ms b k n e = by (eqb b 40) refl e
  where
    by : (d : Bool) → eqb b 40 ≡ d → pick d (first_call m c ms) (outside_fresh ms b) ≡ refuse_before k n → AtCall (between false (at_mark m c) ms) b k n
    by true f z = unfold pick in record { mark = m; since = c; macros = ms; reader = refl; byte = eqb-true b 40 f; fault = first_call_lem m c n ms k z }
    by false f z = unfold pick in fresh_no_call ms b n k z

pub at_call : (r : Reader) (b : ℕ) (k : FileRefusal) (n : ℕ) → step r b ≡ refuse_before k n → AtCall r b k n
unfolding step_by
at_call (between skip a ms) b k n e = by (eqb b 47) skip e
  where
    by : (c d : Bool)
        → pick c (go (between (not d) (further a) ms)) (pick d (go (between true (further a) ms)) (outside a ms b)) ≡ refuse_before k n
        → AtCall (between d a ms) b k n
    by true d z = unfold pick in go_not_before z
    by false true z = unfold pick in go_not_before z
    by false false z = unfold pick in outside_call a ms b k n z
at_call (inside skip m st pr) b k n e = by (skips st && eqb b 47) skip e
  where
    by : {A : Type 0} (c d : Bool)
        → pick c (count m (inside (not d) (suc m) st pr)) (pick d (count m (inside true (suc m) st pr)) (taken m pr (part_byte st b))) ≡ refuse_before k n → A
    by true d z = unfold pick in count_no_call m n k _ z
    by false true z = unfold pick in count_no_call m n k _ z
    by false false z = unfold pick in taken_no_call m n k pr (part_byte st b) z
