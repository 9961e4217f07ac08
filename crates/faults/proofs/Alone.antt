-- Bytes read onto a table come to what they come to alone, its macros in front: these count for 19 only.
use mathlib.Core.Path.{ap, refl, subst, sym, ◌∙◌, ◌≡◌}
use mathlib.Core.Bool.{◌&&◌, Bool, false, not, true}
use mathlib.Core.List.{◌++◌, List, [], append_assoc, reverse, reverse-append, reverse-reverse, ◌∷◌}
use Prim.Native.Nat.{suc, ℕ, ◌<◌, ◌≤◌}
use native.Mathlib.Omega.{arith}
use lib.Dec.{eqb, ltb}
use lib.ListN.{drop, length, length-append, take, take-append-drop}
use borrow.Author.Tests.{lt-ltb, ltb-true}
use Rattle.macros.specs.Bounds.{most_macro_bytes, most_macros}
use Rattle.macros.specs.Refusals.{FileRefusal, file_number}
use Rattle.macros.specs.Refusals.FileRefusal.{too_many_macros}
use Rattle.macros.specs.Macro.{Macro, Mark, Table, pick}
use Rattle.macros.specs.Formed.{Between}
use Rattle.macros.specs.Read.{Next, Pending, Prior, Read, Reader, Step, at_end, count, first_call, macro_of, no_calls, outside, outside_fresh, part_byte, read_file, read_from, read_onto, skips, step, taken}
use Rattle.macros.specs.Read.{read_file_by, read_from_by, step_by}
use Rattle.macros.specs.ReadSoFar.Joinable.{nothing}
use Rattle.macros.specs.ReadSoFar.Part.{pattern}
use Rattle.macros.specs.ReadSoFar.Step.{done, on, opens, stop}
use Rattle.macros.specs.ReadFile.Pending.{at_mark, clear}
use Rattle.macros.specs.ReadFile.Reader.{between, inside}
use Rattle.macros.specs.ReadFile.Next.{go, refuse, refuse_before}
use Rattle.macros.specs.ReadFile.Read.{refused_at, table}
use Rattle.macros.specs.FirstFault.{Plain}
use Rattle.macros.proofs.FirstFault.{no_table, same_place}
use Rattle.macros.proofs.Round.{read_go, read_refuse, read_refuse_before}
use Rattle.macros.proofs.Pending.{after, after_append}
use Rattle.macros.proofs.ReadOnto.{read_plain}
use Rattle.faults.specs.Recover.{is_fault}
use Rattle.faults.specs.RecoverLaw.{Faulty}
use Rattle.faults.proofs.Ends.{plain_front, table_after_lem}
use Rattle.faults.proofs.Grown.{whole_grown}
use Rattle.faults.proofs.Stretches.{whole_between}
use Rattle.faults.proofs.Exactly.{Kind, drop_plain, kind}
use Rattle.faults.proofs.Exactly.Kind.{fault, nineteen, whole}

module _ (old : List Macro) where
  -- older macros behind those of a reader
  behind : Prior → Prior
  behind pr = record { calls = pr.calls; macros = pr.macros ++ old }

  shift : Reader → Reader
  shift (between skip a ms) = between skip a (ms ++ old)
  shift (inside skip n st pr) = inside skip n st (behind pr)

  shift_next : Next → Next
  shift_next (go r) = go (shift r)
  shift_next (refuse k) = refuse k
  shift_next (refuse_before k n) = refuse_before k n

  -- the byte does the same, or the table is full
  data Alike (y z : Next) : Type 0 where
    alike : y ≡ shift_next z → Alike y z
    full : y ≡ refuse too_many_macros → Alike y z
    full_before : (n : ℕ) → y ≡ refuse_before too_many_macros n → Alike y z

  either : (c : Bool) (y y' z z' : Next) → Alike y z → Alike y' z' → Alike (pick c y y') (pick c z z')
  either true y y' z z' f g = unfold pick in f
  either false y y' z z' f g = unfold pick in g

  count_alike : (n : ℕ) (r : Reader) → Alike (count n (shift r)) (count n r)
  unfolding count shift_next
  count_alike n r = either (ltb n most_macro_bytes) _ _ _ _ (alike refl) (alike refl)

  taken_alike : (n : ℕ) (pr : Prior) (x : Step) → Alike (taken n (behind pr) x) (taken n pr x)
  unfolding taken shift_next shift behind
  taken_alike n pr (on st) = count_alike n (inside false (suc n) st pr)
  taken_alike n pr (opens cs) = count_alike n (inside false (suc n) (pattern nothing []) (record { calls = cs; macros = pr.macros }))
  taken_alike n pr (done f l cs) = count_alike n (between false clear (macro_of pr.calls f l cs ∷ pr.macros))
  taken_alike n pr (stop k) = alike refl

  -- a macro begins, with room for it on the table
  roomy : (ms : List Macro) (u v w : Next) → Alike u v → Alike (pick (ltb (length (ms ++ old)) most_macros) u (refuse too_many_macros)) (pick (ltb (length ms) most_macros) v w)
  roomy ms u v w f = by (ltb (length (ms ++ old)) most_macros) refl
    where
      by : (c : Bool) → ltb (length (ms ++ old)) most_macros ≡ c → Alike (pick c u (refuse too_many_macros)) (pick (ltb (length ms) most_macros) v w)
      by true e =
          unfold pick in
          let l : length (ms ++ old) < 96 = ltb-true _ _ e in
          let m : length ms < 96 = omega (arith, length-append ms old) in
          rw (lt-ltb (length ms) 96 m) f
      by false e = unfold pick in full refl

  roomy_before : (ms : List Macro) (n : ℕ) (u v w : Next) → Alike u v
      → Alike (pick (ltb (length (ms ++ old)) most_macros) u (refuse_before too_many_macros n)) (pick (ltb (length ms) most_macros) v w)
  roomy_before ms n u v w f = by (ltb (length (ms ++ old)) most_macros) refl
    where
      by : (c : Bool) → ltb (length (ms ++ old)) most_macros ≡ c → Alike (pick c u (refuse_before too_many_macros n)) (pick (ltb (length ms) most_macros) v w)
      by true e =
          unfold pick in
          let l : length (ms ++ old) < 96 = ltb-true _ _ e in
          let m : length ms < 96 = omega (arith, length-append ms old) in
          rw (lt-ltb (length ms) 96 m) f
      by false e = unfold pick in full_before n refl

  fresh_alike : (ms : List Macro) (b : ℕ) → Alike (outside_fresh (ms ++ old) b) (outside_fresh ms b)
  unfolding outside_fresh shift shift_next behind
  fresh_alike ms b =
      either (eqb b 39) _ _ _ _ (roomy ms (go (inside false 1 (pattern nothing []) (no_calls (ms ++ old)))) (go (inside false 1 (pattern nothing []) (no_calls ms))) _ (alike refl))
      (either (eqb b 38) _ _ _ _ (alike refl) (either (eqb b 35) _ _ _ _ (alike refl) (alike refl)))

  first_alike : (m : Mark) (n : ℕ) (ms : List Macro) → Alike (first_call m n (ms ++ old)) (first_call m n ms)
  unfolding first_call shift shift_next behind
  first_alike m n ms = roomy_before ms n _ _ _ (either (ltb n most_macro_bytes) _ _ _ _ (alike refl) (alike refl))

  outside_alike : (a : Pending) (ms : List Macro) (b : ℕ) → Alike (outside a (ms ++ old) b) (outside a ms b)
  unfolding outside
  outside_alike clear ms b = fresh_alike ms b
  outside_alike (at_mark m n) ms b = either (eqb b 40) _ _ _ _ (first_alike m n ms) (fresh_alike ms b)

  step_alike : (r : Reader) (b : ℕ) → Alike (step (shift r) b) (step r b)
  unfolding step_by shift shift_next
  step_alike (between skip a ms) b = either (eqb b 47) _ _ _ _ (alike refl) (either skip _ _ _ _ (alike refl) (outside_alike a ms b))
  step_alike (inside skip n st pr) b =
      either (skips st && eqb b 47) _ _ _ _ (count_alike n (inside (not skip) (suc n) st pr))
      (either skip _ _ _ _ (count_alike n (inside true (suc n) st pr)) (taken_alike n pr (part_byte st b)))

  -- the same refusal, if it is not 19
  alone_from : (v : List ℕ) (q : ℕ) (r : Reader) (k : FileRefusal) (p : ℕ) → (too_many_macros ≡ k → ⊥) → read_from q (shift r) v ≡ refused_at k p → read_from q r v ≡ refused_at k p
  unfolding read_from_by at_end shift shift_next
  alone_from [] q (between true a ms) k p h e = unfold pick in e
  alone_from [] q (between false a ms) k p h e = unfold pick in no_table e
  alone_from [] q (inside skip n st pr) k p h e = e
  alone_from (b ∷ v) q r k p h e = by (step r b) refl (step_alike r b) (λ x f. alone_from v (suc q) x k p h f)
    where
      by : (y : Next) → step r b ≡ y → Alike (step (shift r) b) (step r b) → ((x : Reader) → read_from (suc q) (shift x) v ≡ refused_at k p → read_from (suc q) x v ≡ refused_at k p)
          → read_from q r (b ∷ v) ≡ refused_at k p
      by y f (full g) ih = absurd (h (same_place (sym (read_refuse q too_many_macros (shift r) b v g) ∙ e)).0)
      by y f (full_before n g) ih = absurd (h (same_place (sym (read_refuse_before q too_many_macros n (shift r) b v g) ∙ e)).0)
      by (go x) f (alike g) ih = read_go q r x b v f ∙ ih x (sym (read_go q (shift r) (shift x) b v (g ∙ rw f)) ∙ e)
      by (refuse j) f (alike g) ih = read_refuse q j r b v f ∙ (sym (read_refuse q j (shift r) b v (g ∙ rw f)) ∙ e)
      by (refuse_before j n) f (alike g) ih = read_refuse_before q j n r b v f ∙ (sym (read_refuse_before q j n (shift r) b v (g ∙ rw f)) ∙ e)

pub read_alone : (older : Table) (t : List ℕ) (k : FileRefusal) (p : ℕ) → Plain t → (too_many_macros ≡ k → ⊥) → read_onto older t ≡ refused_at k p → read_file t ≡ refused_at k p
unfolding read_file_by shift
read_alone older t k p g h e = read_plain [] t g ∙ alone_from (reverse older) t 0 (between false clear []) k p h (sym (read_plain older t g) ∙ e)

-- A TABLE

not_read : {A : Type 0} {k : FileRefusal} {p : ℕ} {ms : Table} → refused_at k p ≡ table ms → A
not_read e = no_table (sym e)

-- bytes that are read onto a table are read alone, and their macros stand behind the table's
module _ (old : List Macro) where
  table_from : (v : List ℕ) (q : ℕ) (r : Reader) (ks : Table) → read_from q (shift old r) v ≡ table ks → (new : Table) × (read_from q r v ≡ table new) × (ks ≡ reverse old ++ new)
  unfolding read_from_by at_end shift shift_next
  table_from [] q (between true a ms) ks e = unfold pick in not_read e
  table_from [] q (between false a ms) ks e = unfold pick in let z : reverse (ms ++ old) ≡ ks = cc in (reverse ms, refl, sym z ∙ reverse-append ms old)
  table_from [] q (inside skip n st pr) ks e = not_read e
  table_from (b ∷ v) q r ks e = by (step r b) refl (step_alike old r b) (λ x f. table_from v (suc q) x ks f)
    where
      by : (y : Next) → step r b ≡ y → Alike old (step (shift old r) b) (step r b)
          → ((x : Reader) → read_from (suc q) (shift old x) v ≡ table ks → (new : Table) × (read_from (suc q) x v ≡ table new) × (ks ≡ reverse old ++ new))
          → (new : Table) × (read_from q r (b ∷ v) ≡ table new) × (ks ≡ reverse old ++ new)
      by y f (full g) ih = not_read (sym (read_refuse q too_many_macros (shift old r) b v g) ∙ e)
      by y f (full_before n g) ih = not_read (sym (read_refuse_before q too_many_macros n (shift old r) b v g) ∙ e)
      by (go x) f (alike g) ih =
          let i = ih x (sym (read_go q (shift old r) (shift old x) b v (g ∙ rw f)) ∙ e) in
          (i.0, read_go q r x b v f ∙ i.1, i.2)
      by (refuse j) f (alike g) ih = not_read (sym (read_refuse q j (shift old r) b v (g ∙ rw f)) ∙ e)
      by (refuse_before j n) f (alike g) ih = not_read (sym (read_refuse_before q j n (shift old r) b v (g ∙ rw f)) ∙ e)

pub table_alone : (older : Table) (t : List ℕ) (ks : Table) → Plain t → read_onto older t ≡ table ks → (new : Table) × (read_file t ≡ table new) × (ks ≡ older ++ new)
unfolding read_file_by shift
table_alone older t ks g e =
    let x = table_from (reverse older) t 0 (between false clear []) ks (sym (read_plain older t g) ∙ e) in
    (x.0, read_plain [] t g ∙ x.1, x.2 ∙ ap (λ y. y ++ x.0) (reverse-reverse older))

-- 19 IN FRONT OF OTHER BYTES

end_not_19 : {A : Type 0} (q : ℕ) (r : Reader) (p : ℕ) → at_end q r ≡ refused_at too_many_macros p → A
unfolding at_end pick
end_not_19 q (between true a ms) p e = let z : ◌≡◌ {A = ℕ} 0 1 = cc in absurd (omega arith)
end_not_19 q (between false a ms) p e = no_table e
end_not_19 q (inside skip n st pr) p e = let z : ◌≡◌ {A = ℕ} 0 1 = cc in absurd (omega arith)

-- more bytes behind do not change it
more_19 : (u v : List ℕ) (q : ℕ) (r : Reader) (p : ℕ) → read_from q r u ≡ refused_at too_many_macros p → read_from q r (u ++ v) ≡ refused_at too_many_macros p
unfolding read_from_by
more_19 [] v q r p e = end_not_19 q r p e
more_19 (b ∷ u) v q r p e = by (step r b) refl (λ x f. more_19 u v (suc q) x p f)
  where
    by : (y : Next) → step r b ≡ y → ((x : Reader) → read_from (suc q) x u ≡ refused_at too_many_macros p → read_from (suc q) x (u ++ v) ≡ refused_at too_many_macros p)
        → read_from q r (b ∷ (u ++ v)) ≡ refused_at too_many_macros p
    by (go x) f ih = read_go q r x b (u ++ v) f ∙ ih x (sym (read_go q r x b u f) ∙ e)
    by (refuse j) f ih = read_refuse q j r b (u ++ v) f ∙ (sym (read_refuse q j r b u f) ∙ e)
    by (refuse_before j n) f ih = read_refuse_before q j n r b (u ++ v) f ∙ (sym (read_refuse_before q j n r b u f) ∙ e)

pub onto_more_19 : (older : Table) (u v : List ℕ) (p : ℕ) → Plain (u ++ v) → read_onto older u ≡ refused_at too_many_macros p → read_onto older (u ++ v) ≡ refused_at too_many_macros p
onto_more_19 older u v p g e =
    read_plain older (u ++ v) g ∙ more_19 u v 0 (between false clear (reverse older)) p (sym (read_plain older u (plain_front u v g)) ∙ e)

-- A FAULT

not_19 : (k : FileRefusal) → (file_number k ≡ 19 → ⊥) → too_many_macros ≡ k → ⊥
unfolding file_number
not_19 k h e = h (ap file_number (sym e))

no_fault_19 : {A : Type 0} → Between 12 18 (file_number too_many_macros) → A
unfolding file_number
no_fault_19 h = absurd (omega (arith, h))

-- what the bytes between a resuming place and its fault are read as, alone, stands behind the macros kept before
pub made_alone : (s : List ℕ) (p q : ℕ) (older made : Table) (r : FileRefusal) (f : Faulty s p older r q made) (n : ℕ) (new : Table) → Plain s → n ≤ f.n
    → read_file (take n (drop p s)) ≡ table new → (x : Table) × (made ≡ older ++ (new ++ x))
made_alone s p q older made r f n new g l e = by (read_onto older u) refl
  where
    u : List ℕ
    u = take n (drop p s)

    joined : u ++ drop n (drop p s) ≡ drop p s
    joined = take-append-drop n (drop p s)

    all_plain : Plain (u ++ drop n (drop p s))
    all_plain = subst Plain (sym joined) (drop_plain p s g)

    u_plain : Plain u
    u_plain = plain_front u (drop n (drop p s)) all_plain

    refused_alone : {A : Type 0} (k : FileRefusal) (j : ℕ) → read_onto older u ≡ refused_at k j → (file_number k ≡ 19 → ⊥) → A
    refused_alone k j h i = no_table (sym e ∙ read_alone older u k j u_plain (not_19 k i) h)

    late : {A : Type 0} (k : FileRefusal) (j : ℕ) → read_onto older u ≡ refused_at k j → (c : Bool) → Kind k c → A
    late k j h c (fault x) = refused_alone k j h (λ y. omega (arith, x, y))
    late k j h c (whole x) = refused_alone k j h (λ y. omega (arith, x, y))
    late k j h c (nineteen z) =
        let i : read_onto older (drop p s) ≡ refused_at too_many_macros j =
        ap (read_onto older) (sym joined) ∙ onto_more_19 older u (drop n (drop p s)) j all_plain (h ∙ ap (λ x. refused_at x j) z) in
        let y : r ≡ too_many_macros = (same_place (sym f.shows ∙ i)).0 in
        no_fault_19 (subst (λ x. Between 12 18 (file_number x)) y f.number)

    by : (w : Read) → read_onto older u ≡ w → (x : Table) × (made ≡ older ++ (new ++ x))
    by (table ks) h =
        let a = table_alone older u ks u_plain h in
        let i : table a.0 ≡ table new = sym a.1 ∙ e in
        let b : a.0 ≡ new = cc in
        let c = f.made.none_lost n ks l h in
        (c.0, c.1 ∙ (ap (λ y. y ++ c.0) (a.2 ∙ ap (λ y. older ++ y) b) ∙ append_assoc older new c.0))
    by (refused_at k j) h = late k j h (is_fault k) (kind k)

-- THE LAST PART

-- a beginning of bytes that are read as a table is read as a beginning of it
grows_on : (u v : List ℕ) (new all : Table) → Plain (u ++ v) → read_file u ≡ table new → read_file (u ++ v) ≡ table all → (x : Table) × (all ≡ new ++ x)
unfolding read_file_by
grows_on u v new all g e f =
    let a = table_after_lem u 0 (between false clear []) new (sym (read_plain [] u (plain_front u v g)) ∙ e) in
    let b = table_after_lem (u ++ v) 0 (between false clear []) all (sym (read_plain [] (u ++ v) g) ∙ f) in
    let c : after (between false a.0 (reverse new)) v ≡ go (between false b.0 (reverse all)) =
    sym (after_append u v (between false clear []) (between false a.0 (reverse new)) a.1) ∙ b.1 in
    let w = whole_grown v (between false a.0 (reverse new)) (between false b.0 (reverse all)) c in
    (w.0, sym (whole_between b.0 all) ∙ (w.1 ∙ ap (λ y. y ++ w.0) (whole_between a.0 new)))

-- what a beginning of the rest is read as, alone, stands behind the macros kept before
pub rest_alone : (older : Table) (t : List ℕ) (ms : Table) (n : ℕ) (new : Table) → Plain t → read_onto older t ≡ table ms → read_file (take n t) ≡ table new
    → (x : Table) × (ms ≡ older ++ (new ++ x))
rest_alone older t ms n new g e f =
    let a = table_alone older t ms g e in
    let j : take n t ++ drop n t ≡ t = take-append-drop n t in
    let b = grows_on (take n t) (drop n t) new a.0 (subst Plain (sym j) g) f (ap read_file j ∙ a.1) in
    (b.0, a.2 ∙ ap (λ y. older ++ y) b.1)
