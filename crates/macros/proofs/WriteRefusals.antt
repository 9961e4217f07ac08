-- The promise of specs/WriteRefusals.antt, proved.
use mathlib.Core.Path.{ap, refl, subst, sym, ◌∙◌, ◌≡◌}
use mathlib.Core.Bool.{◌&&◌, Bool, false, true}
use mathlib.Core.List.{◌++◌, List, [], append_assoc, append-nil, ◌∷◌}
use Prim.Native.Nat.{◌+◌, ◌<◌, suc, ℕ, ◌≤◌}
use native.Mathlib.Nat.{zero-add}
use native.Mathlib.Omega.{arith}
use lib.ListN.{length, length-append}
use lib.Dec.{leb, ltb}
use borrow.Author.Tests.{leb-false, leb-true, ltb-false, ltb-true}
use Rattle.macros.specs.Bounds.{most_file_bytes, most_macro_bytes}
use Rattle.macros.specs.Refusals.FileRefusal.{file_too_long, macro_too_long}
use Rattle.macros.specs.Macro.{Macro, Table, pick}
use Rattle.macros.specs.Write.{Written, write_from, write_out, written}
use Rattle.macros.specs.Write.Written.{file, refused}
use Rattle.macros.specs.WriteRefusals.{TooLongAt, WritesWell, WritesWhole, whole_text}
use Rattle.macros.specs.WriteRefusals.WritesWell.{full, long, whole}

-- a macro's line
abbrev line : Macro → List ℕ
line m = written m ++ (10 ∷ [])

-- the same, behind s bytes
data From (s : List ℕ) (ms : Table) : Written → Type 0 where
  wholly : length s + length (whole_text ms) ≤ most_file_bytes → ((q : ℕ) → TooLongAt ms q → ⊥) → From s ms (file (s ++ whole_text ms))
  long_at : {p : ℕ} → TooLongAt ms p → length s + p ≤ most_file_bytes → ((q : ℕ) → TooLongAt ms q → p ≤ q) → From s ms (refused macro_too_long (length s + p))
  fully : most_file_bytes < length s + length (whole_text ms) → ((q : ℕ) → TooLongAt ms q → most_file_bytes < length s + q) → From s ms (refused file_too_long most_file_bytes)

-- the first macro, or one behind it
data Where (m : Macro) (ms : Table) (q : ℕ) : Type 0 where
  here : most_macro_bytes < length (written m) → q ≡ most_macro_bytes → Where m ms q
  later : (r : ℕ) → TooLongAt ms r → q ≡ length (line m) + r → Where m ms q

line_length : (m : Macro) → length (line m) ≡ suc (length (written m))
line_length m = simp length-append (omega arith)

where_at : (m : Macro) (ms : Table) (q : ℕ) → TooLongAt (m ∷ ms) q → Where m ms q
unfolding whole_text
where_at m ms q t = by t.older t.stands t.place
  where
    by : (older : Table) → m ∷ ms ≡ older ++ (t.macro ∷ t.newer) → q ≡ length (whole_text older) + most_macro_bytes → Where m ms q
    by [] e f = let z : t.macro ≡ m = cc in here (rw z at t.long) (omega arith)
    by (k ∷ older) e f =
        let z : m ≡ k = cc in
        later (length (whole_text older) + most_macro_bytes)
        (record { older = older; macro = t.macro; newer = t.newer; stands = cc; long = t.long; place = refl })
        (rw z (f ∙ (let l = length-append (line k) (whole_text older) in omega arith)))

first_at : (m : Macro) (ms : Table) → most_macro_bytes < length (written m) → TooLongAt (m ∷ ms) most_macro_bytes
unfolding whole_text
first_at m ms l = record { older = []; macro = m; newer = ms; stands = refl; long = l; place = refl }

later_at : (m : Macro) (ms : Table) (r : ℕ) → TooLongAt ms r → TooLongAt (m ∷ ms) (length (line m) + r)
unfolding whole_text
later_at m ms r t =
    record {
      older = m ∷ t.older;
      macro = t.macro;
      newer = t.newer;
      stands = ap (λ (l : Table). m ∷ l) t.stands;
      long = t.long;
      place = let l = length-append (line m) (whole_text t.older) in omega (arith, t.place);
    }

more : (s : List ℕ) (m : Macro) (ms : Table) (w : Written) → length (written m) ≤ most_macro_bytes → From (s ++ line m) ms w → From s (m ∷ ms) w
unfolding whole_text
more s m ms w h (wholly g none) =
    let l = length-append s (line m) in
    let k = length-append (line m) (whole_text ms) in
    rw (append_assoc s (line m) (whole_text ms)) (wholly (omega arith) (λ q t. by (where_at m ms q t)))
  where
    by : {q : ℕ} → Where m ms q → ⊥
    by (here f e) = absurd (omega arith)
    by (later r t e) = none r t
more s m ms w h (long_at {p = p} t g least) =
    let l = length-append s (line m) in
    let k : length (s ++ line m) + p ≡ length s + (length (line m) + p) = omega arith in
    rw k (long_at (later_at m ms p t) (omega arith) (λ q u. by q (where_at m ms q u)))
  where
    by : (q : ℕ) → Where m ms q → length (line m) + p ≤ q
    by q (here f e) = absurd (omega arith)
    by q (later r u e) = let z = least r u in omega arith
more s m ms w h (fully g above) =
    let l = length-append s (line m) in
    let k = length-append (line m) (whole_text ms) in
    fully (omega arith) (λ q u. by q (where_at m ms q u))
  where
    by : (q : ℕ) → Where m ms q → most_file_bytes < length s + q
    by q (here f e) = absurd (omega arith)
    by q (later r u e) = let z = above r u in let l = length-append s (line m) in omega arith

from : (ms : Table) (s : List ℕ) → length s ≤ most_file_bytes → From s ms (write_from s ms)
unfolding write_from whole_text
from [] s h = subst (λ v. From s [] (file v)) (append-nil s) (wholly (omega arith) (λ q t. nowhere t))
  where
    nowhere : {q : ℕ} → TooLongAt [] q → ⊥
    nowhere t = by t.older t.stands
      where
        by : (older : Table) → [] ≡ older ++ (t.macro ∷ t.newer) → ⊥
        by [] e = let z : ◌≡◌ {A = ℕ} 0 1 = cc in absurd (omega arith)
        by (k ∷ older) e = let z : ◌≡◌ {A = ℕ} 0 1 = cc in absurd (omega arith)
from (m ∷ ms) s h = by (ltb most_macro_bytes (length (written m))) (leb (length s + most_macro_bytes) most_file_bytes) (ltb most_file_bytes (length s + suc (length (written m)))) refl refl refl
    (λ l. from ms (s ++ line m) l)
  where
    size : length (line m) ≡ suc (length (written m))
    size = line_length m

    after : most_macro_bytes < length (written m) → (q : ℕ) → Where m ms q → most_macro_bytes ≤ q
    after g q (here f e) = omega arith
    after g q (later r t e) = omega (arith, size)

    beyond : most_file_bytes < length s + suc (length (written m)) → (most_macro_bytes < length (written m) → most_file_bytes < length s + most_macro_bytes)
        → (q : ℕ) → Where m ms q → most_file_bytes < length s + q
    beyond g k q (here f e) = omega (arith, k f)
    beyond g k q (later r t e) = omega (arith, size)

    fills : most_file_bytes < length s + suc (length (written m)) → most_file_bytes < length s + length (whole_text (m ∷ ms))
    fills g = let l = length-append (line m) (whole_text ms) in omega (arith, size)

    by : (a b c : Bool) → ltb most_macro_bytes (length (written m)) ≡ a → leb (length s + most_macro_bytes) most_file_bytes ≡ b
        → ltb most_file_bytes (length s + suc (length (written m))) ≡ c
        → (length (s ++ line m) ≤ most_file_bytes → From (s ++ line m) ms (write_from (s ++ line m) ms))
        → From s (m ∷ ms) (pick (a && b) (refused macro_too_long (length s + most_macro_bytes)) (pick c (refused file_too_long most_file_bytes) (write_from (s ++ line m) ms)))
    by true true c x y z ih =
        unfold pick in
        let g : most_macro_bytes < length (written m) = ltb-true _ _ x in
        long_at (first_at m ms g) (leb-true _ _ y) (λ q t. after g q (where_at m ms q t))
    by true false true x y z ih =
        unfold pick in
        let g : most_file_bytes < length s + suc (length (written m)) = ltb-true _ _ z in
        fully (fills g) (λ q t. beyond g (λ i. leb-false _ _ y) q (where_at m ms q t))
    by true false false x y z ih =
        let g : most_macro_bytes < length (written m) = ltb-true _ _ x in
        let k : most_file_bytes < length s + most_macro_bytes = leb-false _ _ y in
        let l : length s + suc (length (written m)) ≤ most_file_bytes = ltb-false _ _ z in
        absurd (omega arith)
    by false b true x y z ih =
        unfold pick in
        let g : most_file_bytes < length s + suc (length (written m)) = ltb-true _ _ z in
        let k : length (written m) ≤ most_macro_bytes = ltb-false _ _ x in
        fully (fills g) (λ q t. beyond g (λ i. absurd (omega arith)) q (where_at m ms q t))
    by false b false x y z ih =
        unfold pick in
        let l : length s + suc (length (written m)) ≤ most_file_bytes = ltb-false _ _ z in
        let e = length-append s (line m) in
        more s m ms _ (ltb-false _ _ x) (ih (omega (arith, size)))

pub writes_whole : WritesWhole
unfolding write_out
writes_whole ms = at (write_from [] ms) (from ms [] (omega arith))
  where
    at : (v : Written) → From [] ms v → WritesWell ms v
    at v (wholly g none) = whole (omega arith) none
    at v (long_at {p = p} t g least) = rw (zero-add p) (long t (omega arith) least)
    at v (fully g above) = full (omega arith) (λ q t. let z = above q t in omega arith)
