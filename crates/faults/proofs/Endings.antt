-- The promises of specs/RecoverKeeps.antt that say exactly when macros are kept and when 19 and 61 come, proved.
use mathlib.Core.Path.{refl, subst, sym, ◌∙◌, ◌≡◌}
use mathlib.Core.Logic.{◌⊎◌, inl, inr}
use mathlib.Core.List.{◌++◌, List, [], append_assoc, append-nil, ◌∷◌}
use Prim.Native.Nat.{◌+◌, ◌-◌, suc, ℕ, ◌≤◌}
use native.Mathlib.Omega.{arith}
use lib.ListN.{drop, length, length-append}
use Rattle.macros.specs.Refusals.{FileRefusal, file_number}
use Rattle.macros.specs.Refusals.FileRefusal.{bad_brace, bad_call, bad_class, file_too_long, incomplete, macro_too_long, no_element, no_unit, too_many_macros, zero_byte}
use Rattle.macros.specs.Macro.{Table}
use Rattle.macros.specs.Formed.{Octets}
use Rattle.macros.specs.FirstFault.{Plain}
use Rattle.faults.specs.Refusal.{RecoverRefusal, most_faults}
use Rattle.faults.specs.Refusal.RecoverRefusal.{as_before, too_many_faults}
use Rattle.faults.specs.Recover.{Fault, Recovered, recover}
use Rattle.faults.specs.Recover.Fault.{fault_at}
use Rattle.faults.specs.Recover.Recovered.{kept, refused}
use Rattle.faults.specs.RecoverLaw.{Behind, Faulty, Past, Recovers}
use Rattle.faults.specs.RecoverLaw.Past.{ends, full, goes_on, refused_behind, rest_accepted, too_many}
use Rattle.faults.specs.RecoverLaw.Recovers.{past, refused_whole}
use Rattle.faults.specs.RecoverKeeps.{EndsWith, FullAt, FullExactly, KeptExactly, NoOtherRefusal, OneAnswer, OneFaultMore, ResumesAt, TooManyExactly}
use Rattle.faults.specs.RecoverKeeps.ResumesAt.{behind_fault, from_start}
use Rattle.faults.specs.RecoverKeeps.EndsWith.{accepts_rest, ends_at_fault}
use Rattle.faults.proofs.Exactly.{recovers_exactly}
use Rattle.faults.proofs.Keeps.{past_19, past_count, past_of, whole_file_first}

-- FROM WHERE READING GOES ON TO THE WHOLE FILE

module _ (s : List ℕ) where
  -- the faults before, and then what is kept
  front_kept : {fs gs : List Fault} {k p : ℕ} {older ms : Table} → ResumesAt s fs p older → Past s k p older (kept ms gs)
      → Past s (length fs + k) 0 [] (kept ms (fs ++ gs))
  front_kept {gs = gs} {k} {ms = ms} from_start x = let z : k ≡ 0 + k = omega arith in subst (λ (i : ℕ). Past s i 0 [] (kept ms gs)) z x
  front_kept {gs = gs} {k} {ms = ms} (behind_fault {fs} {q = q} {r = r} a f h) x =
      let y = front_kept a (goes_on f h x) in
      let l = length-append fs (fault_at r q ∷ []) in
      let z : length fs + suc k ≡ length (fs ++ (fault_at r q ∷ [])) + k = omega arith in
      subst (λ (i : ℕ). Past s i 0 [] (kept ms ((fs ++ (fault_at r q ∷ [])) ++ gs))) z
      (subst (λ u. Past s (length fs + suc k) 0 [] (kept ms u)) (sym (append_assoc fs (fault_at r q ∷ []) gs)) y)

  -- and then a refusal
  front_refused : {fs : List Fault} {k p : ℕ} {older : Table} {v : RecoverRefusal} → ResumesAt s fs p older → Past s k p older (refused v)
      → Past s (length fs + k) 0 [] (refused v)
  front_refused {k = k} {v = v} from_start x = let z : k ≡ 0 + k = omega arith in subst (λ (i : ℕ). Past s i 0 [] (refused v)) z x
  front_refused {k = k} {v = v} (behind_fault {fs} {q = q} {r = r} a f h) x =
      let y = front_refused a (refused_behind f h x) in
      let l = length-append fs (fault_at r q ∷ []) in
      let z : length fs + suc k ≡ length (fs ++ (fault_at r q ∷ [])) + k = omega arith in
      subst (λ (i : ℕ). Past s i 0 [] (refused v)) z y

  -- WHAT IS KEPT

  ends_with : {k p : ℕ} {older ms : Table} {gs : List Fault} (pre : List Fault) → ResumesAt s pre p older → Past s k p older (kept ms gs)
      → EndsWith s (pre ++ gs) ms
  ends_with {ms = ms} pre a (rest_accepted e) = subst (λ u. EndsWith s u ms) (sym (append-nil pre)) (accepts_rest a e)
  ends_with pre a (ends f h) = ends_at_fault a f h
  ends_with {ms = ms} pre a (goes_on {q = q} {r = r} {fs = fs} f h x) =
      subst (λ u. EndsWith s u ms) (append_assoc pre (fault_at r q ∷ []) fs) (ends_with (pre ++ (fault_at r q ∷ [])) (behind_fault a f h) x)

  kept_past : {fs : List Fault} {ms : Table} → length fs ≤ most_faults → EndsWith s fs ms → Past s most_faults 0 [] (kept ms fs)
  kept_past {fs} {ms} l (accepts_rest a e) =
      let z : length fs + (most_faults - length fs) ≡ most_faults = omega arith in
      subst (λ (i : ℕ). Past s i 0 [] (kept ms fs)) z
      (subst (λ u. Past s (length fs + (most_faults - length fs)) 0 [] (kept ms u)) (append-nil fs) (front_kept a (rest_accepted {k = most_faults - length fs} e)))
  kept_past {ms = ms} l (ends_at_fault {fs} {q = q} {r = r} a f h) =
      let j = length-append fs (fault_at r q ∷ []) in
      let z : length fs + suc (most_faults - suc (length fs)) ≡ most_faults = omega arith in
      subst (λ (i : ℕ). Past s i 0 [] (kept ms (fs ++ (fault_at r q ∷ [])))) z (front_kept a (ends {k = most_faults - suc (length fs)} f h))

  -- 19 AND 61

  full_at : {k p q : ℕ} {older : Table} {r : FileRefusal} (pre : List Fault) → length pre + k ≤ most_faults → ResumesAt s pre p older
      → Past s k p older (refused (as_before r q)) → FullAt s q
  full_at {p = p} {older = older} pre l a (full {n = n} e) =
      record { fs = pre; count = omega arith; from = p; older = older; resumes = a; n = n; shows = e; place = refl }
  full_at pre l a (refused_behind {k = k} {q = q} {r = r} f h x) =
      let j = length-append pre (fault_at r q ∷ []) in
      full_at (pre ++ (fault_at r q ∷ [])) (omega arith) (behind_fault a f h) x

  full_past : {q : ℕ} → FullAt s q → Past s most_faults 0 [] (refused (as_before too_many_macros q))
  full_past {q} g =
      let j = g.count in
      let z : length g.fs + (most_faults - length g.fs) ≡ most_faults = omega arith in
      subst (λ (i : ℕ). Past s most_faults 0 [] (refused (as_before too_many_macros i))) (sym g.place)
      (subst (λ (i : ℕ). Past s i 0 [] (refused (as_before too_many_macros (g.from + g.n)))) z
      (front_refused g.resumes (full {k = most_faults - length g.fs} g.shows)))

  one_more : {k p : ℕ} {older : Table} (pre : List Fault) → length pre + k ≡ most_faults → ResumesAt s pre p older
      → Past s k p older (refused too_many_faults) → OneFaultMore s
  one_more {p = p} {older} pre l a (too_many {q = q} {ms = made} {r = r} f) =
      record { fs = pre; count = omega arith; from = p; older = older; resumes = a; r = r; q = q; made = made; faulty = f }
  one_more pre l a (refused_behind {k = k} {q = q} {r = r} f h x) =
      let j = length-append pre (fault_at r q ∷ []) in
      one_more (pre ++ (fault_at r q ∷ [])) (omega arith) (behind_fault a f h) x

  one_more_past : OneFaultMore s → Past s most_faults 0 [] (refused too_many_faults)
  one_more_past g =
      let j = g.count in
      let z : length g.fs + 0 ≡ most_faults = omega arith in
      subst (λ (i : ℕ). Past s i 0 [] (refused too_many_faults)) z (front_refused g.resumes (too_many g.faulty))

-- THE PROMISES

pub kept_exactly : KeptExactly recover
kept_exactly s ms fs bytes = (
  λ e.
      let x = past_of ((recovers_exactly s (kept ms fs) bytes).0 e) in
      (x.0, past_count s x.0 x.1, ends_with s [] from_start x.1),
  λ g. (recovers_exactly s (kept ms fs) bytes).1 (past g.0 (kept_past s g.1 g.2)),
)

pub full_exactly : FullExactly recover
unfolding file_number
full_exactly s q bytes = (
  λ e. to ((recovers_exactly s (refused (as_before too_many_macros q)) bytes).0 e),
  λ g. (recovers_exactly s (refused (as_before too_many_macros q)) bytes).1 (past g.0 (full_past s g.1)),
)
  where
    to : Recovers s (refused (as_before too_many_macros q)) → Plain s × FullAt s q
    to (refused_whole l e) = absurd (omega arith)
    to (past g x) = (g, full_at s [] (omega arith) from_start x)

pub too_many_exactly : TooManyExactly recover
too_many_exactly s bytes = (
  λ e. to ((recovers_exactly s (refused too_many_faults) bytes).0 e),
  λ g. (recovers_exactly s (refused too_many_faults) bytes).1 (past g.0 (one_more_past s g.1)),
)
  where
    to : Recovers s (refused too_many_faults) → Plain s × OneFaultMore s
    to (past g x) = (g, one_more s [] refl from_start x)

pub no_other_refusal : NoOtherRefusal
no_other_refusal s r p bytes e = by ((recovers_exactly s (refused (as_before r p)) bytes).0 e)
  where
    by : Recovers s (refused (as_before r p)) → (file_number r ≤ 11) ⊎ (file_number r ≡ 19)
    by (refused_whole l f) = inl l
    by (past g x) = inr (past_19 x)

nineteen : (r : FileRefusal) → file_number r ≡ 19 → r ≡ too_many_macros
unfolding file_number
nineteen file_too_long e = absurd (omega arith)
nineteen zero_byte e = absurd (omega arith)
nineteen incomplete e = absurd (omega arith)
nineteen bad_class e = absurd (omega arith)
nineteen no_unit e = absurd (omega arith)
nineteen bad_brace e = absurd (omega arith)
nineteen bad_call e = absurd (omega arith)
nineteen no_element e = absurd (omega arith)
nineteen macro_too_long e = absurd (omega arith)
nineteen too_many_macros e = refl

pub one_answer : OneAnswer
one_answer engine keeps whole full-at-19 many s bytes = by (recover s) refl
  where
    full_by : (r : FileRefusal) (p : ℕ) → r ≡ too_many_macros → recover s ≡ refused (as_before r p) → engine s ≡ refused (as_before r p)
    full_by r p z e = rw z ((full-at-19 s p bytes).1 ((full_exactly s p bytes).0 (rw z at e)))

    refused_by : (r : FileRefusal) (p : ℕ) → (file_number r ≤ 11) ⊎ (file_number r ≡ 19) → recover s ≡ refused (as_before r p) → engine s ≡ refused (as_before r p)
    refused_by r p (inl l) e = (whole s r p bytes l).1 ((whole_file_first s r p bytes l).0 e)
    refused_by r p (inr z) e = full_by r p (nineteen r z) e

    by : (v : Recovered) → recover s ≡ v → engine s ≡ v
    by (kept ms fs) e = (keeps s ms fs bytes).1 ((kept_exactly s ms fs bytes).0 e)
    by (refused (as_before r p)) e = refused_by r p (no_other_refusal s r p bytes e) e
    by (refused too_many_faults) e = (many s bytes).1 ((too_many_exactly s bytes).0 e)
