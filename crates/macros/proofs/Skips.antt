-- The promise of specs/Skips.antt, proved: behind a skip the reader goes along with one that has not seen it, its macro some bytes longer.
use mathlib.Core.Path.{ap, refl, sym, ◌∙◌, ◌≡◌}
use mathlib.Core.Bool.{◌&&◌, Bool, and-false, false, false≢true, not, true}
use mathlib.Core.List.{◌++◌, List, [], append_assoc, reverse, ◌∷◌}
use mathlib.Core.Option.{none, some}
use Prim.Native.Nat.{◌+◌, ◌-◌, ◌<◌, suc, ℕ, ◌≤◌}
use native.Mathlib.Omega.{arith}
use lib.ListN.{length, length-append}
use lib.Dec.{eqb, ltb}
use borrow.Author.Tests.{le-ltb, lt-ltb, ltb-true, ne_eqb}
use Rattle.macros.specs.Bounds.{most_macro_bytes, most_macros}
use Rattle.macros.specs.Refusals.{FileRefusal, file_number}
use Rattle.macros.specs.Refusals.FileRefusal.{bad_class, incomplete, macro_too_long, too_many_macros}
use Rattle.macros.specs.Macro.{Action, Call, Macro, Mark, is_range, pick}
use Rattle.macros.specs.Macro.Mark.{counter, stack}
use Rattle.macros.specs.Macro.Member.{single}
use Rattle.macros.specs.Macro.PatternUnit.{literal}
use Rattle.macros.specs.Macro.Action.{text}
use Rattle.macros.specs.ReadFile.{Next, Pending, Prior, Read, Reader, at_end, count, first_call, further, macro_of, no_calls, outside, outside_fresh}
use Rattle.macros.specs.ReadFile.{read_from, read_onto, step, taken, read_from_by, step_by}
use Rattle.macros.specs.ReadFile.Pending.{at_mark, clear}
use Rattle.macros.specs.ReadFile.Reader.{between, inside}
use Rattle.macros.specs.ReadFile.Next.{go, refuse, refuse_before}
use Rattle.macros.specs.ReadFile.Read.{refused_at, table}
use Rattle.macros.specs.ReadParts.{part_byte, skips}
use Rattle.macros.specs.ReadSoFar.{Front, Part, Step}
use Rattle.macros.specs.ReadSoFar.Joinable.{marked, nothing, query, starred, unit}
use Rattle.macros.specs.ReadSoFar.Last.{dash, free, member}
use Rattle.macros.specs.ReadSoFar.CallSite.{calls_so_far}
use Rattle.macros.specs.ReadSoFar.Phase.{begun, comma, equals, increment, divisor, named, signed, tag_named, tag_signed, tagged, texted}
use Rattle.macros.specs.ReadSoFar.Part.{await_quote, await_symbol, call_text, call_text_escape, calling, calls, commands, members, members_escape}
use Rattle.macros.specs.ReadSoFar.Part.{opened, pattern, pattern_call, pattern_called, pattern_escape, replacement, replacement_escape, tag_number}
use Rattle.macros.specs.ReadSoFar.Step.{done, on, opens, stop}
use Rattle.macros.specs.Cases.{opens_reading}
use Rattle.macros.specs.FirstFault.{NoZero, Plain}
use Rattle.macros.specs.Skips.{NoSlash, ReadAlike, SkipIsNothing, moved, skip_over}
use Rattle.macros.specs.Skips.ReadAlike.{alike, too_long}
use Rattle.macros.proofs.Round.{read_go, read_refuse, read_refuse_before}
use Rattle.macros.proofs.Pending.{Pends, after, after_go, after_one, at_call, before_not_go, call_length, fresh_no_call, fresh_pends, more, not_go}
use Rattle.macros.proofs.Pending.{pends, pends_one, read_after, signed_length, skip_length, skip_over_lem}
use Rattle.macros.proofs.FirstFault.{in_reading, no_table, same_place}
use Rattle.macros.proofs.ReadOnto.{read_plain}

-- PLACES

-- what was read as x and y is x' and y'
alike_of : {n k : ℕ} {x x' y y' : Read} → x ≡ x' → y ≡ y' → ReadAlike n k x' y' → ReadAlike n k x y
alike_of {n} {k} e f (alike g) = alike (f ∙ (g ∙ ap (moved n k) (sym e)))
alike_of e f (too_long p g) = too_long p (f ∙ g)

-- a refusal behind the place n moves
on_moved : (n k : ℕ) (j : FileRefusal) (p q : ℕ) → n ≤ p → q ≡ p + k → refused_at j q ≡ moved n k (refused_at j p)
unfolding pick
on_moved n k j p q h e = rw (le-ltb p n h, e)

-- a refusal before it does not
not_moved : (n k : ℕ) (j : FileRefusal) (p q : ℕ) → p < n → q ≡ p → refused_at j q ≡ moved n k (refused_at j p)
unfolding pick
not_moved n k j p q h e = rw (lt-ltb p n h, e)

-- THE SAME READER, k BYTES FURTHER ON

-- it was reached by the bytes w from one that stood at the place n or behind it, so a pending sign stands there too
shifted : (v w : List ℕ) (n q k : ℕ) (s r : Reader) → n + length w ≤ q → after s w ≡ go r → Pends s w r
    → read_from (q + k) r v ≡ moved n k (read_from q r v)
unfolding read_from_by at_end
shifted [] w n q k s (between true a ms) h e g = unfold pick in on_moved n k incomplete q (q + k) (omega arith) refl
shifted [] w n q k s (between false a ms) h e g = unfold pick in refl
shifted [] w n q k s (inside skip c st pr) h e g = on_moved n k incomplete q (q + k) (omega arith) refl
shifted (b ∷ v) w n q k s r h e g =
    by (step r b) refl
    (λ x f. shifted v (w ++ (b ∷ [])) n (suc q) k s x (omega (arith, length-append w (b ∷ []))) (after_one w s r x b e f) (pends_one s w b r x e g f))
  where
    by : (x : Next) → step r b ≡ x → ((r' : Reader) → step r b ≡ go r' → read_from (suc q + k) r' v ≡ moved n k (read_from (suc q) r' v))
        → read_from (q + k) r (b ∷ v) ≡ moved n k (read_from q r (b ∷ v))
    by (go r') f ih =
        let z : suc (q + k) ≡ suc q + k = omega arith in
        read_go (q + k) r r' b v f ∙ (ap (λ (p : ℕ). read_from p r' v) z ∙ (ih r' f ∙ ap (moved n k) (sym (read_go q r r' b v f))))
    by (refuse j) f ih =
        read_refuse (q + k) j r b v f ∙ (on_moved n k j q (q + k) (omega arith) refl ∙ ap (moved n k) (sym (read_refuse q j r b v f)))
    by (refuse_before j i) f ih =
        let l = call_length s w r b j i g (at_call r b j i f) in
        read_refuse_before (q + k) j i r b v f
        ∙ (on_moved n k j (q - i) (q + k - i) (omega arith) (omega arith) ∙ ap (moved n k) (sym (read_refuse_before q j i r b v f)))

-- READING ON IN A MACRO WITH k BYTES MORE

-- what a byte does in a macro that has k bytes more
data Along (k : ℕ) (x y : Next) : Type 0 where
  stays : (skip : Bool) (n : ℕ) (st : Part) (pr : Prior) → x ≡ go (inside skip n st pr) → y ≡ go (inside skip (n + k) st pr) → Along k x y
  ends : (ms : List Macro) → x ≡ go (between false clear ms) → y ≡ go (between false clear ms) → Along k x y
  stops : (j : FileRefusal) → x ≡ refuse j → y ≡ refuse j → Along k x y
  long : y ≡ refuse macro_too_long → Along k x y

-- a byte that is counted: both readers go on, or the longer macro's is the 513th
data Counted (n k : ℕ) (x y : Reader) : Type 0 where
  both : count n x ≡ go x → count (n + k) y ≡ go y → Counted n k x y
  over : count (n + k) y ≡ refuse macro_too_long → Counted n k x y

counted : (n k : ℕ) (x y : Reader) → Counted n k x y
unfolding count
counted n k x y = by (ltb (n + k) most_macro_bytes) refl
  where
    by : (c : Bool) → ltb (n + k) most_macro_bytes ≡ c → Counted n k x y
    by true e =
        let l : n + k < 512 = ltb-true _ _ e in
        let s : n < 512 = omega arith in
        both (unfold pick in rw (lt-ltb n 512 s)) (unfold pick in rw e)
    by false e = over (unfold pick in rw e)

module _ (n k : ℕ) where
  count_along : (skip : Bool) (st : Part) (pr : Prior) → Along k (count n (inside skip (suc n) st pr)) (count (n + k) (inside skip (suc (n + k)) st pr))
  count_along skip st pr = by (counted n k (inside skip (suc n) st pr) (inside skip (suc (n + k)) st pr))
    where
      by : Counted n k (inside skip (suc n) st pr) (inside skip (suc (n + k)) st pr)
          → Along k (count n (inside skip (suc n) st pr)) (count (n + k) (inside skip (suc (n + k)) st pr))
      by (both e f) = let z : suc (n + k) ≡ suc n + k = omega arith in stays skip (suc n) st pr e (f ∙ ap (λ (j : ℕ). go (inside skip j st pr)) z)
      by (over f) = long f

  taken_along : (pr : Prior) (x : Step) → Along k (taken n pr x) (taken (n + k) pr x)
  unfolding taken
  taken_along pr (on st) = count_along false st pr
  taken_along pr (opens cs) = count_along false (pattern nothing []) (record { calls = cs; macros = pr.macros })
  taken_along pr (done f l cs) = by (macro_of pr.calls f l cs ∷ pr.macros) (counted n k _ _)
    where
      by : (ms : List Macro) → Counted n k (between false clear ms) (between false clear ms)
          → Along k (count n (between false clear ms)) (count (n + k) (between false clear ms))
      by ms (both e f) = ends ms e f
      by ms (over f) = long f
  taken_along pr (stop j) = stops j refl refl

  step_along : (skip : Bool) (st : Part) (pr : Prior) (b : ℕ) → Along k (step (inside skip n st pr) b) (step (inside skip (n + k) st pr) b)
  unfolding step_by
  step_along skip st pr b = by (skips st && eqb b 47) skip
    where
      by : (c d : Bool) → Along k
          (pick c (count n (inside (not d) (suc n) st pr)) (pick d (count n (inside true (suc n) st pr)) (taken n pr (part_byte st b))))
          (pick c (count (n + k) (inside (not d) (suc (n + k)) st pr)) (pick d (count (n + k) (inside true (suc (n + k)) st pr)) (taken (n + k) pr (part_byte st b))))
      by true d = unfold pick in count_along (not d) st pr
      by false true = unfold pick in count_along true st pr
      by false false = unfold pick in taken_along pr (part_byte st b)

along : (v : List ℕ) (p q k : ℕ) (skip : Bool) (n : ℕ) (st : Part) (pr : Prior) → p ≤ q
    → ReadAlike p k (read_from q (inside skip n st pr) v) (read_from (q + k) (inside skip (n + k) st pr) v)
along [] p q k skip n st pr h = unfold read_from_by at_end in alike (on_moved p k incomplete q (q + k) h refl)
along (b ∷ v) p q k skip n st pr h = by (step_along n k skip st pr b) (λ skip' n' st' pr'. along v p (suc q) k skip' n' st' pr' (omega arith))
  where
    r : Reader
    r = inside skip n st pr

    r₂ : Reader
    r₂ = inside skip (n + k) st pr

    z : suc (q + k) ≡ suc q + k
    z = omega arith

    by : Along k (step r b) (step r₂ b)
        → ((skip' : Bool) (n' : ℕ) (st' : Part) (pr' : Prior)
        → ReadAlike p k (read_from (suc q) (inside skip' n' st' pr') v) (read_from (suc q + k) (inside skip' (n' + k) st' pr') v))
        → ReadAlike p k (read_from q r (b ∷ v)) (read_from (q + k) r₂ (b ∷ v))
    by (stays skip' n' st' pr' e f) ih =
        alike_of (read_go q r (inside skip' n' st' pr') b v e)
        (read_go (q + k) r₂ (inside skip' (n' + k) st' pr') b v f ∙ ap (λ (i : ℕ). read_from i (inside skip' (n' + k) st' pr') v) z) (ih skip' n' st' pr')
    by (ends ms e f) ih =
        alike_of (read_go q r (between false clear ms) b v e)
        (read_go (q + k) r₂ (between false clear ms) b v f ∙ ap (λ (i : ℕ). read_from i (between false clear ms) v) z)
        (unfold after in alike (shifted v [] p (suc q) k (between false clear ms) (between false clear ms) (omega arith) refl tt))
    by (stops j e f) ih = alike_of (read_refuse q j r b v e) (read_refuse (q + k) j r₂ b v f) (alike (on_moved p k j q (q + k) h refl))
    by (long f) ih = too_long (q + k) (read_refuse (q + k) macro_too_long r₂ b v f)

-- READING ON BEHIND A SIGN WITH k BYTES MORE

-- what a byte does behind a pending sign that is c bytes, or c + k bytes, before it
data Waits (k c : ℕ) (skip : Bool) (m : Mark) (ms : List Macro) (b : ℕ) (x y : Next) : Type 0 where
  waits : (skip' : Bool) → x ≡ go (between skip' (at_mark m (suc c)) ms) → y ≡ go (between skip' (at_mark m (suc c + k)) ms) → Waits k c skip m ms b x y
  call : x ≡ first_call m c ms → y ≡ first_call m (c + k) ms → Waits k c skip m ms b x y
  fresh : skip ≡ false → x ≡ outside_fresh ms b → y ≡ outside_fresh ms b → Waits k c skip m ms b x y

step_waits : (k c : ℕ) (skip : Bool) (m : Mark) (ms : List Macro) (b : ℕ)
    → Waits k c skip m ms b (step (between skip (at_mark m c) ms) b) (step (between skip (at_mark m (c + k)) ms) b)
unfolding step_by further outside
step_waits k c skip m ms b = by (eqb b 47) skip (eqb b 40)
  where
    z : suc (c + k) ≡ suc c + k
    z = omega arith

    by : (d e f : Bool) → Waits k c e m ms b
        (pick d (go (between (not e) (at_mark m (suc c)) ms)) (pick e (go (between true (at_mark m (suc c)) ms)) (pick f (first_call m c ms) (outside_fresh ms b))))
        (pick d (go (between (not e) (at_mark m (suc (c + k))) ms)) (pick e (go (between true (at_mark m (suc (c + k))) ms)) (pick f (first_call m (c + k) ms) (outside_fresh ms b))))
    by true e f = unfold pick in waits (not e) refl (ap (λ (i : ℕ). go (between (not e) (at_mark m i) ms)) z)
    by false true f = unfold pick in waits true refl (ap (λ (i : ℕ). go (between true (at_mark m i) ms)) z)
    by false false true = unfold pick in call refl refl
    by false false false = unfold pick in fresh refl refl refl

-- what the `(` of a first call does, k bytes more standing behind its sign
data Calls (k c : ℕ) (m : Mark) (ms : List Macro) : Type 0 where
  full : first_call m c ms ≡ refuse_before too_many_macros c → first_call m (c + k) ms ≡ refuse_before too_many_macros (c + k) → Calls k c m ms
  long : first_call m (c + k) ms ≡ refuse_before macro_too_long (c + k - most_macro_bytes) → Calls k c m ms
  opens_call_lem : (st : Part) (pr : Prior) → first_call m c ms ≡ go (inside false (suc c) st pr) → first_call m (c + k) ms ≡ go (inside false (suc c + k) st pr) → Calls k c m ms

first_calls : (k c : ℕ) (m : Mark) (ms : List Macro) → Calls k c m ms
unfolding first_call
first_calls k c m ms = by (ltb (length ms) most_macros) (ltb (c + k) most_macro_bytes) refl refl
  where
    by : (d e : Bool) → ltb (length ms) most_macros ≡ d → ltb (c + k) most_macro_bytes ≡ e → Calls k c m ms
    by false e f g = full (unfold pick in rw f) (unfold pick in rw f)
    by true false f g = long (unfold pick in rw (f, g))
    by true true f g =
        unfold pick in
        let l : c + k < 512 = ltb-true _ _ g in
        let s : c < 512 = omega arith in
        let z : suc c + k ≡ suc (c + k) = omega arith in
        opens_call_lem (calling (calls_so_far []) (begun m)) (no_calls ms) (rw (f, lt-ltb c 512 s)) (rw (f, g, z))

-- the sign stands before the place n
waiting : (v : List ℕ) (n q k c : ℕ) (skip : Bool) (m : Mark) (ms : List Macro) → n ≤ q → q < n + c → c ≤ q
    → ReadAlike n k (read_from q (between skip (at_mark m c) ms) v) (read_from (q + k) (between skip (at_mark m (c + k)) ms) v)
waiting [] n q k c true m ms h l s = unfold read_from_by at_end pick in alike (on_moved n k incomplete q (q + k) h refl)
waiting [] n q k c false m ms h l s = unfold read_from_by at_end pick in alike refl
waiting (b ∷ v) n q k c skip m ms h l s =
    by (step_waits k c skip m ms b) (λ skip'. waiting v n (suc q) k (suc c) skip' m ms (omega arith) (omega arith) (omega arith))
  where
    r : Reader
    r = between skip (at_mark m c) ms

    r₂ : Reader
    r₂ = between skip (at_mark m (c + k)) ms

    z : suc (q + k) ≡ suc q + k
    z = omega arith

    by_call : step r b ≡ first_call m c ms → step r₂ b ≡ first_call m (c + k) ms → Calls k c m ms → ReadAlike n k (read_from q r (b ∷ v)) (read_from (q + k) r₂ (b ∷ v))
    by_call e f (full x y) =
        alike_of (read_refuse_before q too_many_macros c r b v (e ∙ x)) (read_refuse_before (q + k) too_many_macros (c + k) r₂ b v (f ∙ y))
        (alike (not_moved n k too_many_macros (q - c) (q + k - (c + k)) (omega arith) (omega arith)))
    by_call e f (long y) = too_long (q + k - (c + k - 512)) (read_refuse_before (q + k) macro_too_long (c + k - 512) r₂ b v (f ∙ y))
    by_call e f (opens_call_lem st pr x y) =
        alike_of (read_go q r (inside false (suc c) st pr) b v (e ∙ x))
        (read_go (q + k) r₂ (inside false (suc c + k) st pr) b v (f ∙ y) ∙ ap (λ (i : ℕ). read_from i (inside false (suc c + k) st pr) v) z)
        (along v n (suc q) k false (suc c) st pr (omega arith))

    by_fresh : (x : Next) → outside_fresh ms b ≡ x → skip ≡ false → step r b ≡ x → step r₂ b ≡ x → ReadAlike n k (read_from q r (b ∷ v)) (read_from (q + k) r₂ (b ∷ v))
    by_fresh (go x) i d e f =
        alike_of (read_go q r x b v e) (read_go (q + k) r₂ x b v f ∙ ap (λ (i : ℕ). read_from i x v) z)
        (alike (shifted v (b ∷ []) n (suc q) k r x (omega arith) (unfold after in after_go r x b [] e)
        (fresh_pends r [] b (at_mark m c) ms x (unfold after in ap (λ (y : Bool). go (between y (at_mark m c) ms)) d) i)))
    by_fresh (refuse j) i d e f = alike_of (read_refuse q j r b v e) (read_refuse (q + k) j r₂ b v f) (alike (on_moved n k j q (q + k) h refl))
    by_fresh (refuse_before j o) i d e f = fresh_no_call ms b o j i

    by : Waits k c skip m ms b (step r b) (step r₂ b)
        → ((skip' : Bool) → ReadAlike n k (read_from (suc q) (between skip' (at_mark m (suc c)) ms) v) (read_from (suc q + k) (between skip' (at_mark m (suc c + k)) ms) v))
        → ReadAlike n k (read_from q r (b ∷ v)) (read_from (q + k) r₂ (b ∷ v))
    by (waits skip' e f) ih =
        alike_of (read_go q r (between skip' (at_mark m (suc c)) ms) b v e)
        (read_go (q + k) r₂ (between skip' (at_mark m (suc c + k)) ms) b v f ∙ ap (λ (i : ℕ). read_from i (between skip' (at_mark m (suc c + k)) ms) v) z) (ih skip')
    by (call e f) ih = by_call e f (first_calls k c m ms)
    by (fresh d e f) ih = by_fresh (outside_fresh ms b) refl d e f

-- THROUGH THE SKIP

-- reading x comes to y, or 18 shows
data Passes (x y : Read) : Type 0 where
  passes : x ≡ y → Passes x y
  over : (p : ℕ) → x ≡ refused_at macro_too_long p → Passes x y

pass_on : {x y z : Read} → x ≡ y → Passes y z → Passes x z
pass_on e (passes f) = passes (e ∙ f)
pass_on e (over p f) = over p (e ∙ f)

pass_by : {x y z : Read} → Passes x y → y ≡ z → Passes x z
pass_by (passes f) e = passes (f ∙ e)
pass_by (over p f) e = over p f

pass_pass : {x y z : Read} → Passes x y → Passes y z → Passes x z
pass_pass (passes e) w = pass_on e w
pass_pass (over p e) w = over p e

pass_alike : {n k : ℕ} {x y w : Read} → Passes y w → ReadAlike n k x w → ReadAlike n k x y
pass_alike (passes e) a = alike_of refl e a
pass_alike (over p e) a = too_long p e

-- one byte of a macro that goes on in its part
one : (q n : ℕ) (r : Reader) (skip : Bool) (st : Part) (pr : Prior) (b : ℕ) (v : List ℕ) → step r b ≡ count n (inside skip (suc n) st pr)
    → Passes (read_from q r (b ∷ v)) (read_from (suc q) (inside skip (suc n) st pr) v)
one q n r skip st pr b v e = by (counted n 0 (inside skip (suc n) st pr) (inside skip (suc n) st pr))
  where
    z : n + 0 ≡ n
    z = omega arith

    by : Counted n 0 (inside skip (suc n) st pr) (inside skip (suc n) st pr) → Passes (read_from q r (b ∷ v)) (read_from (suc q) (inside skip (suc n) st pr) v)
    by (both f g) = passes (read_go q r (inside skip (suc n) st pr) b v (e ∙ f))
    by (over g) = over q (read_refuse q macro_too_long r b v (e ∙ (ap (λ (j : ℕ). count j (inside skip (suc n) st pr)) (sym z) ∙ g)))

-- no byte ends the skip
abbrev Silent : Part → List ℕ → Type 0
Silent st [] = Unit {0}
Silent st (b ∷ t) = ((skips st && eqb b 47) ≡ false) × Silent st t

-- bytes in a skip of a macro
skipped : (t v : List ℕ) (q n : ℕ) (st : Part) (pr : Prior) → Silent st t
    → Passes (read_from q (inside true n st pr) (t ++ v)) (read_from (q + length t) (inside true (n + length t) st pr) v)
skipped [] v q n st pr g = let x : q + 0 ≡ q = omega arith in let y : n + 0 ≡ n = omega arith in passes (rw (x, y))
skipped (b ∷ t) v q n st pr g =
    let x : suc q + length t ≡ q + suc (length t) = omega arith in
    let y : suc n + length t ≡ n + suc (length t) = omega arith in
    pass_pass (one q n (inside true n st pr) true st pr b (t ++ v) (unfold step_by pick in rw g.0))
    (pass_by (skipped t v (suc q) (suc n) st pr g.1) (rw (x, y)))

silent : (st : Part) (t : List ℕ) → NoSlash t → Silent st t
silent st [] g = tt
silent st (b ∷ t) g = (rw (ne_eqb b 47 g.0) (and-false (skips st)), silent st t g.1)

silent_all : (st : Part) (t : List ℕ) → skips st ≡ false → Silent st t
silent_all st [] e = tt
silent_all st (b ∷ t) e = (rw e, silent_all st t e)

-- a reader with k bytes more in its macro, or behind its pending sign
later : ℕ → Reader → Reader
later k (between skip a ms) = between skip (more k a) ms
later k (inside skip n st pr) = inside skip (n + k) st pr

-- where a `/` opens a skip; or is in one that no `/` ends
data Open : Reader → Type 0 where
  apart : (a : Pending) (ms : List Macro) → Open (between false a ms)
  part : (n : ℕ) (st : Part) (pr : Prior) → skips st ≡ true → Open (inside false n st pr)
  within : (n : ℕ) (st : Part) (pr : Prior) → skips st ≡ false → Open (inside true n st pr)

-- reading goes through the skip
through : (t v : List ℕ) (q : ℕ) (r : Reader) → NoSlash t → Open r
    → Passes (read_from q r (skip_over t ++ v)) (read_from (q + length (skip_over t)) (later (length (skip_over t)) r) v)
unfolding later
through t v q r g (apart a ms) =
    passes (read_after (skip_over t) v q (between false a ms) (between false (more (length (skip_over t)) a) ms) (skip_over_lem t a ms g))
through t v q r g (part n st pr e) =
    let x : suc (suc q + length t) ≡ q + length (skip_over t) = omega (arith, skip_length t) in
    let y : suc (suc n + length t) ≡ n + length (skip_over t) = omega (arith, skip_length t) in
    pass_pass (one q n (inside false n st pr) true st pr 47 ((t ++ (47 ∷ [])) ++ v) (unfold step_by pick in rw e))
    (pass_on (ap (read_from (suc q) (inside true (suc n) st pr)) (append_assoc t (47 ∷ []) v))
    (pass_pass (skipped t (47 ∷ v) (suc q) (suc n) st pr (silent st t g))
    (pass_by (one (suc q + length t) (suc n + length t) (inside true (suc n + length t) st pr) false st pr 47 v (unfold step_by pick in rw e)) (rw (x, y)))))
through t v q r g (within n st pr e) = skipped (skip_over t) v q n st pr (silent_all st (skip_over t) e)

-- behind the skip
behind_skip : (u v : List ℕ) (q k : ℕ) (s r : Reader) → length u ≡ q → Pends s u r → ReadAlike (length u) k (read_from q r v) (read_from (q + k) (later k r) v)
unfolding later more
behind_skip u v q k s (between skip clear ms) h g =
    unfold after in alike (shifted v [] (length u) q k (between skip clear ms) (between skip clear ms) (omega arith) refl tt)
behind_skip u v q k s (between skip (at_mark m c) ms) h g =
    let l = signed_length g in
    waiting v (length u) q k c skip m ms (omega arith) (omega (arith, g.since)) (omega arith)
behind_skip u v q k s (inside skip n st pr) h g = along v (length u) q k skip n st pr (omega arith)

-- WHERE SKIPS COUNT

-- what a `;` does in a part in which skips count
data AtSemicolon (x : Step) : Type 0 where
  breaks_off : x ≡ stop incomplete → AtSemicolon x
  ends_macro : (f : Front) (l : List Action) (cs : List Call) → x ≡ done f l cs → AtSemicolon x

semicolon : (st : Part) → skips st ≡ true → AtSemicolon (part_byte st 59)
unfolding opens_reading
semicolon (calls none cs) e = breaks_off refl
semicolon (calls (some m) cs) e = breaks_off refl
semicolon (pattern nothing ps) e = breaks_off refl
semicolon (pattern (unit u) ps) e = breaks_off refl
semicolon (pattern (starred u) ps) e = breaks_off refl
semicolon (pattern query ps) e = breaks_off refl
semicolon (pattern (marked m) ps) e = breaks_off refl
semicolon (pattern_escape ps) e = absurd (false≢true e)
semicolon (opened ps) e = absurd (false≢true e)
semicolon (members ps neg l ms) e = absurd (false≢true e)
semicolon (members_escape ps neg l ms) e = absurd (false≢true e)
semicolon (pattern_call m ps) e = breaks_off refl
semicolon (pattern_called m ps i) e = breaks_off refl
semicolon (await_symbol ps) e = breaks_off refl
semicolon (await_quote f) e = breaks_off refl
semicolon (replacement none f l) e = breaks_off refl
semicolon (replacement (some m) f l) e = breaks_off refl
semicolon (replacement_escape f l) e = absurd (false≢true e)
semicolon (tag_number n f l) e = breaks_off refl
semicolon (calling pl (begun stack)) e = breaks_off refl
semicolon (calling pl (begun counter)) e = breaks_off refl
semicolon (calling pl (signed m s)) e = breaks_off refl
semicolon (calling pl (named stack i v)) e = breaks_off refl
semicolon (calling pl (named counter i v)) e = breaks_off refl
semicolon (calling pl (equals m i o)) e = breaks_off refl
semicolon (calling pl (increment i o)) e = breaks_off refl
semicolon (calling pl (divisor i o)) e = breaks_off refl
semicolon (calling pl (tagged n)) e = breaks_off refl
semicolon (calling pl (comma n)) e = breaks_off refl
semicolon (calling pl (tag_signed n s)) e = breaks_off refl
semicolon (calling pl (tag_named n i v)) e = breaks_off refl
semicolon (calling pl (texted i v t)) e = breaks_off refl
semicolon (call_text pl i v t) e = breaks_off refl
semicolon (call_text_escape pl i v t) e = absurd (false≢true e)
semicolon (commands none f l cs) e = ends_macro f l cs refl
semicolon (commands (some m) f l cs) e = ends_macro f l cs refl

-- what a `/` does in a part in which skips do not count: a `;` behind it breaks the macro off, or it is no range's end
data AtSlash (st : Part) : Type 0 where
  opens_none : (st' : Part) → part_byte st 47 ≡ on st' → part_byte st' 59 ≡ stop incomplete → AtSlash st
  bad_range : part_byte st 47 ≡ stop bad_class → AtSlash st

-- `/` ends no range
no_range : (a : ℕ) → is_range a 47 ≡ false
unfolding opens_reading
no_range a = simp (and-false)

slash : (st : Part) → skips st ≡ false → AtSlash st
unfolding opens_reading
slash (calls a cs) e = absurd (false≢true (sym e))
slash (pattern h ps) e = absurd (false≢true (sym e))
slash (pattern_escape ps) e = opens_none (pattern (unit (literal 47)) ps) refl refl
slash (opened ps) e = opens_none (members ps false (member 47) []) refl refl
slash (members ps neg free ms) e = opens_none (members ps neg (member 47) ms) refl refl
slash (members ps neg (member a) ms) e = opens_none (members ps neg (member 47) (single a ∷ ms)) refl refl
slash (members ps neg (dash a) ms) e = bad_range (rw (no_range a))
slash (members_escape ps neg free ms) e = opens_none (members ps neg (member 47) ms) refl refl
slash (members_escape ps neg (member a) ms) e = opens_none (members ps neg (member 47) (single a ∷ ms)) refl refl
slash (members_escape ps neg (dash a) ms) e = bad_range (rw (no_range a))
slash (pattern_call m ps) e = absurd (false≢true (sym e))
slash (pattern_called m ps i) e = absurd (false≢true (sym e))
slash (await_symbol ps) e = absurd (false≢true (sym e))
slash (await_quote f) e = absurd (false≢true (sym e))
slash (replacement a f l) e = absurd (false≢true (sym e))
slash (replacement_escape f l) e = opens_none (replacement none f (text 47 ∷ l)) refl refl
slash (tag_number n f l) e = absurd (false≢true (sym e))
slash (calling pl ph) e = absurd (false≢true (sym e))
slash (call_text pl i v t) e = absurd (false≢true (sym e))
slash (call_text_escape pl i v t) e = opens_none (call_text pl i v (47 ∷ t)) refl refl
slash (commands a f l cs) e = absurd (false≢true (sym e))

-- other refusals than 12 at place q + 3
other_number : {A : Type 0} {k : FileRefusal} {p q : ℕ} → refused_at k p ≡ refused_at incomplete q → (file_number k ≡ 12 → ⊥) → A
unfolding file_number
other_number e f = absurd (f (ap file_number (same_place e).0))

other_place : {A : Type 0} {k l : FileRefusal} {p q : ℕ} → refused_at k p ≡ refused_at l q → p < q → A
other_place e f = let z = (same_place e).1 in absurd (omega arith)

long_not : {A : Type 0} {p q : ℕ} → refused_at macro_too_long p ≡ refused_at incomplete q → A
unfolding file_number
long_not e = other_number e (λ f. omega arith)

-- a part in which a `;` ends or breaks off its macro is no skip
not_skipped : {A : Type 0} (q n : ℕ) (st : Part) (pr : Prior) → AtSemicolon (part_byte st 59)
    → read_from (suc q) (inside false n st pr) (59 ∷ 32 ∷ []) ≡ refused_at incomplete (q + 3) → A
unfolding step_by taken
not_skipped q n st pr (breaks_off f) e =
    let x : step (inside false n st pr) 59 ≡ refuse incomplete = unfold pick in rw (and-false (skips st), f) in
    other_place (sym (read_refuse (suc q) incomplete (inside false n st pr) 59 (32 ∷ []) x) ∙ e) (omega arith)
not_skipped q n st pr (ends_macro f l cs g) e = by (counted n 0 (between false clear ms) (between false clear ms))
  where
    ms : List Macro
    ms = macro_of pr.calls f l cs ∷ pr.macros

    r : Reader
    r = inside false n st pr

    x : step r 59 ≡ count n (between false clear ms)
    x = unfold pick in rw (and-false (skips st), g)

    z : n + 0 ≡ n
    z = omega arith

    by : {A : Type 0} → Counted n 0 (between false clear ms) (between false clear ms) → A
    by (both i h) =
        let y : read_from (suc (suc q)) (between false clear ms) (32 ∷ []) ≡ table (reverse ms) = unfold read_from_by step_by outside outside_fresh at_end pick in refl in
        no_table (sym y ∙ (sym (read_go (suc q) r (between false clear ms) 59 (32 ∷ []) (x ∙ i)) ∙ e))
    by (over h) = long_not (sym (read_refuse (suc q) macro_too_long r 59 (32 ∷ []) (x ∙ (ap (λ (j : ℕ). count j (between false clear ms)) (sym z) ∙ h))) ∙ e)

-- a `/` and a `;` behind a skip between macros
skip_closed : (q : ℕ) (a : Pending) (ms : List Macro) → read_from q (between true a ms) (47 ∷ 59 ∷ 32 ∷ []) ≡ table (reverse ms)
unfolding read_from_by step_by outside outside_fresh further at_end pick
skip_closed q clear ms = refl
skip_closed q (at_mark m n) ms = refl

open_at : (q : ℕ) (r : Reader) → read_from q r (47 ∷ 59 ∷ 32 ∷ []) ≡ refused_at incomplete (q + 3) → Open r
unfolding step_by taken
open_at q (between false a ms) e = apart a ms
open_at q (between true a ms) e = no_table (sym (skip_closed q a ms) ∙ e)
open_at q (inside true n st pr) e = by (skips st) refl
  where
    r : Reader
    r = inside true n st pr

    on_by : skips st ≡ true → Passes (read_from q r (47 ∷ 59 ∷ 32 ∷ [])) (read_from (suc q) (inside false (suc n) st pr) (59 ∷ 32 ∷ [])) → Open r
    on_by f (passes g) = not_skipped q (suc n) st pr (semicolon st f) (sym g ∙ e)
    on_by f (over p g) = long_not (sym g ∙ e)

    by : (c : Bool) → skips st ≡ c → Open r
    by true f = on_by f (one q n r false st pr 47 (59 ∷ 32 ∷ []) (unfold pick in rw f))
    by false f = within n st pr f
open_at q (inside false n st pr) e = by (skips st) refl
  where
    r : Reader
    r = inside false n st pr

    on_by : (st' : Part) → part_byte st' 59 ≡ stop incomplete
        → Passes (read_from q r (47 ∷ 59 ∷ 32 ∷ [])) (read_from (suc q) (inside false (suc n) st' pr) (59 ∷ 32 ∷ [])) → Open r
    on_by st' h (passes g) = not_skipped q (suc n) st' pr (breaks_off h) (sym g ∙ e)
    on_by st' h (over p g) = long_not (sym g ∙ e)

    at : skips st ≡ false → AtSlash st → Open r
    at f (opens_none st' g h) = on_by st' h (one q n r false st' pr 47 (59 ∷ 32 ∷ []) (unfold pick in rw (f, g)))
    at f (bad_range g) = unfold file_number in other_number (sym (read_refuse q bad_class r 47 (59 ∷ 32 ∷ []) (unfold pick in rw (f, g))) ∙ e) (λ z. omega arith)

    by : (c : Bool) → skips st ≡ c → Open r
    by true f = part n st pr f
    by false f = at f (slash st f)

-- THE PROMISE

-- bytes that are refused, whatever follows
refused_in : (u x : List ℕ) (q : ℕ) (r : Reader) → ((r' : Reader) → after r u ≡ go r' → ⊥)
    → (k : FileRefusal) × (p : ℕ) × (read_from q r (u ++ x) ≡ refused_at k p) × (p < q + length u)
unfolding after
refused_in [] x q r e = absurd (e r refl)
refused_in (b ∷ u) x q r e = by (step r b) refl (λ r' f. refused_in u x (suc q) r' f)
  where
    by : (y : Next) → step r b ≡ y
        → ((r' : Reader) → ((r'' : Reader) → after r' u ≡ go r'' → ⊥) → (k : FileRefusal) × (p : ℕ) × (read_from (suc q) r' (u ++ x) ≡ refused_at k p) × (p < suc q + length u))
        → (k : FileRefusal) × (p : ℕ) × (read_from q r (b ∷ (u ++ x)) ≡ refused_at k p) × (p < q + suc (length u))
    by (go r') f ih =
        let i = ih r' (λ r'' g. e r'' (after_go r r' b u f ∙ g)) in
        (i.0, i.1, read_go q r r' b (u ++ x) f ∙ i.2, omega (arith, i.3))
    by (refuse j) f ih = (j, q, read_refuse q j r b (u ++ x) f, omega arith)
    by (refuse_before j n) f ih = (j, q - n, read_refuse_before q j n r b (u ++ x) f, omega arith)

no_zero_last : (u v : List ℕ) → NoZero (u ++ v) → NoZero v
no_zero_last [] v g = g
no_zero_last (b ∷ u) v g = no_zero_last u v g.1

no_zero_both : (u w v : List ℕ) → NoZero (u ++ (w ++ v)) → NoZero (u ++ v)
no_zero_both [] w v g = no_zero_last w v g
no_zero_both (b ∷ u) w v g = (g.0, no_zero_both u w v g.1)

-- a plain file is plain without some of its bytes
plain_without : (u w v : List ℕ) → Plain (u ++ (w ++ v)) → Plain (u ++ v)
plain_without u w v g = (
  omega (arith, g.0, length-append u (w ++ v), length-append w v, length-append u v),
  no_zero_both u w v g.1,
)

pub skip_is_nothing : SkipIsNothing
unfolding file_number
skip_is_nothing older u t v c g p = by (after start_at_lem u) refl
  where
    start_at_lem : Reader
    start_at_lem = between false clear (reverse older)

    n : ℕ
    n = length u

    k : ℕ
    k = length (skip_over t)

    e : read_from 0 start_at_lem (u ++ (47 ∷ 59 ∷ 32 ∷ [])) ≡ refused_at incomplete (n + 3)
    e = in_reading older (u ++ (47 ∷ 59 ∷ 32 ∷ [])) incomplete (n + 3) (omega arith) c

    none_go : ((r : Reader) → after start_at_lem u ≡ go r → ⊥) → ReadAlike n k (read_onto older (u ++ v)) (read_onto older (u ++ (skip_over t ++ v)))
    none_go f = let i = refused_in u (47 ∷ 59 ∷ 32 ∷ []) 0 start_at_lem f in other_place (sym i.2 ∙ e) (omega (arith, i.3))

    by : (x : Next) → after start_at_lem u ≡ x → ReadAlike n k (read_onto older (u ++ v)) (read_onto older (u ++ (skip_over t ++ v)))
    by (go r) f =
        let o : Open r = open_at (0 + n) r (sym (read_after u (47 ∷ 59 ∷ 32 ∷ []) 0 start_at_lem r f) ∙ (e ∙ ap (refused_at incomplete) (omega arith))) in
        alike_of (read_plain older (u ++ v) (plain_without u (skip_over t) v p) ∙ read_after u v 0 start_at_lem r f)
        (read_plain older (u ++ (skip_over t ++ v)) p ∙ read_after u (skip_over t ++ v) 0 start_at_lem r f)
        (pass_alike (through t v (0 + n) r g o) (behind_skip u v (0 + n) k start_at_lem r (omega arith) (pends u (reverse older) r f)))
    by (refuse j) f = none_go (λ r i. not_go (sym f ∙ i))
    by (refuse_before j m) f = none_go (λ r i. before_not_go (sym f ∙ i))
