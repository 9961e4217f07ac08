-- The laws of specs/Recover.antt, proved.
use Prim.Native.Nat.{ℕ, zero, suc, ◌+◌, ◌-◌, ◌*◌, ◌≤◌, ◌<◌}
use mathlib.Core.Path.{◌≡◌, refl, sym, ap, subst, ◌∙◌}
use mathlib.Core.Bool.{Bool, true, false}
use mathlib.Core.List.{List, [], ◌∷◌, ◌++◌, append_assoc, append-nil}
use native.Mathlib.Omega.{arith}
use borrow.Author.Tests.{eqb-true}
use lib.Dec.{eqb}
use lib.ListN.{length, length-append, take, drop, replicate}
use lib.Seq.{drop_at, take_at}
use Rattle.macros.specs.Bounds.{most_file_bytes, most_macros}
use Rattle.macros.specs.Refusals.{FileRefusal, file_number, number, place, host_number}
use Rattle.macros.specs.Refusals.FileRefusal.{too_many_macros}
use Rattle.macros.specs.Macro.{Macro, Table, pick}
use Rattle.macros.specs.Formed.{Between, Octets}
use Rattle.macros.specs.Read.{Read, read_file, read_file_by}
use Rattle.macros.specs.ReadFile.Read.{refused_at, table}
use Rattle.macros.specs.FirstFault.{Plain}
use Rattle.macros.specs.Accepted.{Each, Spellable}
use Rattle.macros.proofs.Laws.{each_spellable, read_keeps}
use Rattle.form_table.specs.Form.{slot_bytes, table_bytes, slot, slots, form}
use Rattle.form_table.proofs.Basics.{and_left}
use Rattle.form_table.proofs.Tables.{slots_size}
use Rattle.faults.specs.Refusal.{RecoverRefusal, most_faults, recover_number, recover_place}
use Rattle.faults.specs.Refusal.RecoverRefusal.{as_before, too_many_faults}
use Rattle.faults.specs.Recover.{Fault, Recovered, recover}
use Rattle.faults.specs.Recover.Fault.{fault_at}
use Rattle.faults.specs.Recover.Recovered.{kept, refused}
use Rattle.faults.specs.RecoverLaw.{Recovers}
use Rattle.faults.specs.RecoverLaw.Recovers.{past}
use Rattle.faults.specs.RecoverKeeps.{AllAfter, FaultsOf, EndsWith, OneFault, ResumesAt, InFileOrder}
use Rattle.faults.specs.RecoverKeeps.EndsWith.{accepts_rest, ends_at_fault}
use Rattle.faults.specs.RecoverKeeps.ResumesAt.{behind_fault as resumes_behind, from_start as resumes_first}
use Rattle.faults.proofs.Alone.{made_alone, read_alone, rest_alone, table_alone}
use Rattle.faults.proofs.Exactly.{drop_plain, recovers_exactly}
use Rattle.faults.proofs.Keeps.{each_fault, faults_listed, kept_could_be_read, no_faults, whole_file_first}
use Rattle.faults.proofs.Endings.{kept_exactly}
use Rattle.form_faults.specs.Form.{faults_bytes, faults_form}
use Rattle.form_faults.specs.Cases.{forms}
use Rattle.form_faults.specs.FormLaw.{FaultList, PlacesFit, fault_count, fault_number, fault_place}
use Rattle.form_faults.proofs.Laws.{forms_count, forms_read_back}
use Rattle.line_answer.specs.Replies.{reply}
use Rattle.m7.specs.Contract.{Result, of_reading, reads, refuses, takes}
use Rattle.m7.specs.Recovering.{Mended, Recovering, of_recovering, recovers, sized_to_recover}
use Rattle.m7.proofs.Results.{reads_sized}
use Rattle.m7_demands.specs.Recover.{AcceptedAlike, FaultHolds, FaultsAsRead, KeptIsRead, LastHolds, OwnTable, RecoversAll, RefusalKeeps, Resumes, StandsIn, WholeFileFirst, slots_in}
use Rattle.m7_demands.specs.Recover.LastHolds.{over, rest}
use Rattle.m7_demands.specs.Recover.Resumes.{behind, first}
use Rattle.m7.proofs.Results.{not_zero}

-- A CALL

of_size : (s : List ℕ) (m : Mended) → sized_to_recover m ≡ true → recovers s m ≡ of_recovering m (recover s)
unfolding recovers pick
of_size s m e = rw e refl

table_size : (m : Mended) → sized_to_recover m ≡ true → length m.table ≡ table_bytes
unfolding sized_to_recover
table_size m e = eqb-true (length m.table) table_bytes (and_left (eqb (length m.table) table_bytes) (eqb (length m.faults) faults_bytes) e)

not_zero_past : (v : RecoverRefusal) → recover_number v ≡ 0 → ⊥
unfolding recover_number
not_zero_past (as_before r p) e = not_zero r e
not_zero_past too_many_faults e = omega arith

-- a call that is taken
module _ (s : List ℕ) (m : Mended) (z : (recovers s m).answer.number ≡ 0) where
  of_answer : (v : Recovered) → recover s ≡ v → sized_to_recover m ≡ true → (of_recovering m v).answer.number ≡ 0
      → (ms : Table) × (fs : List Fault) × (recover s ≡ kept ms fs) × (recovers s m ≡ of_recovering m (kept ms fs))
  unfolding of_recovering reply
  of_answer (kept ms fs) e y n = (ms, fs, e, of_size s m y ∙ ap (of_recovering m) e)
  of_answer (refused r) e y n = absurd (not_zero_past r n)

  of_sizes : (c : Bool) → sized_to_recover m ≡ c → (ms : Table) × (fs : List Fault) × (recover s ≡ kept ms fs) × (recovers s m ≡ of_recovering m (kept ms fs))
  of_sizes true y = of_answer (recover s) refl y (ap (λ (w : Recovering). w.answer.number) (sym (of_size s m y)) ∙ z)
  of_sizes false y = absurd (other y)
    where
      other : sized_to_recover m ≡ false → ⊥
      other f = unfold recovers pick reply number host_number in let n : ◌≡◌ {A = ℕ} 3 0 = rw f at z in omega arith

  pub taken_is : (ms : Table) × (fs : List Fault) × (recover s ≡ kept ms fs) × (recovers s m ≡ of_recovering m (kept ms fs))
  taken_is = of_sizes (sized_to_recover m) refl

-- A FILE THAT READING ACCEPTS

own_table : (s : List ℕ) (m : Mended) (r : Read) → read_file s ≡ r → recovers s m ≡ of_recovering m (recover s) → (of_reading m.table r).answer.number ≡ 0
    → OwnTable (of_reading m.table r) (recovers s m)
unfolding of_reading takes refuses reply number
own_table s m (refused_at f p) e y n = absurd (not_zero f n)
own_table s m (table ms) e y n =
    let w : recovers s m ≡ of_recovering m (kept ms []) = y ∙ ap (of_recovering m) ((no_faults s ms).1 e) in
    rw w (unfold of_recovering in record { answer = refl; table = refl; faults = forms.0 })

pub accepted_alike : AcceptedAlike
accepted_alike s m y n =
    let e = reads_sized s m.table (table_size m y) in
    rw e (own_table s m (read_file s) refl (of_size s m y) (ap (λ (w : Result). w.answer.number) (sym e) ∙ n))

-- THE KEPT TABLE

pub kept_is_read : KeptIsRead
unfolding of_reading takes reply of_recovering
kept_is_read s m o z =
    let x = taken_is s m z in
    let k = kept_could_be_read s x.0 x.1 o x.2 in
    record {
      file = k.0;
      octets = k.1;
      taken = λ old l. ap (λ (w : Result). w.answer.number) (reads_sized k.0 old l ∙ ap (of_reading old) k.2);
      same = λ old l. ap (λ (w : Result). w.memory) (reads_sized k.0 old l ∙ ap (of_reading old) k.2) ∙ sym (ap (λ (w : Recovering). w.memories.table) x.3);
    }

-- REFUSALS

module _ (s : List ℕ) (m : Mended) (o : Octets s) (w : recovers s m ≡ of_recovering m (recover s)) where
  same_answer : (r : Read) → read_file s ≡ r → Between 10 11 (of_reading m.table r).answer.number → (recovers s m).answer ≡ (of_reading m.table r).answer
  unfolding of_reading takes refuses reply number place of_recovering recover_number recover_place
  same_answer (table ms) e n = absurd (omega (arith, n))
  same_answer (refused_at r p) e n = ap (λ (v : Recovering). v.answer) (w ∙ ap (of_recovering m) ((whole_file_first s r p o n.1).1 e))

  only_there : (old : List ℕ) (v : Recovered) → recover s ≡ v → Between 10 11 (of_recovering m v).answer.number → Between 10 11 (of_reading old (read_file s)).answer.number
  unfolding of_recovering reply recover_number of_reading refuses number
  only_there old (kept ms fs) e n = absurd (omega (arith, n))
  only_there old (refused (as_before r p)) e n = rw ((whole_file_first s r p o n.1).0 e) n
  only_there old (refused too_many_faults) e n = absurd (omega (arith, n))

pub whole_first : WholeFileFirst
whole_first s m o y =
    let e = reads_sized s m.table (table_size m y) in
    let w = of_size s m y in
    rw e
    (record {
      same = λ n. same_answer s m o w (read_file s) refl n;
      only = λ n. only_there s m o w m.table (recover s) refl (rw w at n);
    })

-- THE FAULTS

-- a file whose faults are listed is plain
plain_of : {s : List ℕ} {ms : Table} {fs : List Fault} → Recovers s (kept ms fs) → Plain s
plain_of (past g x) = g

placed : (s : List ℕ) (fs : List Fault) → length s ≤ most_file_bytes → FaultsOf s fs → PlacesFit fs
placed s [] l g = tt
placed s (fault_at r q ∷ fs) l g = (omega (arith, g.1), placed s fs l g.2)

-- SLOTS

slots_append : (xs ys : Table) → slots (xs ++ ys) ≡ slots xs ++ slots ys
unfolding slots
slots_append [] ys = refl
slots_append (x ∷ xs) ys = rw (slots_append xs ys) (sym (append_assoc (slot x) (slots xs) (slots ys)))

each_front : (P : Macro → Type 0) (xs ys : Table) → Each P (xs ++ ys) → Each P xs
each_front P [] ys e = tt
each_front P (x ∷ xs) ys e = (e.0, each_front P xs ys e.1)

each_back : (P : Macro → Type 0) (xs ys : Table) → Each P (xs ++ ys) → Each P ys
each_back P [] ys e = e
each_back P (x ∷ xs) ys e = each_back P xs ys e.1

-- macros that stand behind others in a table
module _ (older new more : Table) (e : Each Spellable (older ++ (new ++ more))) where
  older_size : length (slots older) ≡ slot_bytes * length older
  older_size = slots_size older (each_front Spellable older (new ++ more) e)

  new_size : length (slots new) ≡ slot_bytes * length new
  new_size = slots_size new (each_front Spellable new more (each_back Spellable older (new ++ more) e))

  their_slots : slots_in (length new) (form new) ≡ slots new
  unfolding form
  their_slots = take_at (slots new) _ (slot_bytes * length new) new_size

  behind_older : slots_in (length new) (drop (slot_bytes * length older) (form (older ++ (new ++ more)))) ≡ slots new
  unfolding form
  behind_older =
      let z : List ℕ = replicate (slot_bytes * (most_macros - length (older ++ (new ++ more)))) 0 in
      let a : slots (older ++ (new ++ more)) ++ z ≡ slots older ++ (slots new ++ (slots more ++ z)) =
      ap (λ (x : List ℕ). x ++ z) (slots_append older (new ++ more) ∙ ap (λ (x : List ℕ). slots older ++ x) (slots_append new more))
      ∙ (append_assoc (slots older) (slots new ++ slots more) z ∙ ap (λ (x : List ℕ). slots older ++ x) (append_assoc (slots new) (slots more) z)) in
      ap (λ (x : List ℕ). slots_in (length new) (drop (slot_bytes * length older) x)) a
      ∙ (ap (slots_in (length new)) (drop_at (slots older) (slots new ++ (slots more ++ z)) (slot_bytes * length older) older_size)
      ∙ take_at (slots new) (slots more ++ z) (slot_bytes * length new) new_size)

-- the fault behind i others
split : (i : ℕ) (fs : List Fault) → i < length fs → (pre : List Fault) × (f : Fault) × (gs : List Fault) × (fs ≡ pre ++ (f ∷ gs)) × (length pre ≡ i)
split i [] l = absurd (omega arith)
split zero (f ∷ fs) l = ([], f, fs, refl, refl)
split (suc i) (f ∷ fs) l = let x = split i fs (omega arith) in (f ∷ x.0, x.1, x.2, ap (λ y. f ∷ y) x.3, ap suc x.4)

above_next : (q : ℕ) (r : FileRefusal) (p : ℕ) (pre gs : List Fault) → InFileOrder (pre ++ (fault_at r q ∷ gs)) → AllAfter q gs
above_next q r p [] gs g = g.0
above_next q r p (fault_at k j ∷ pre) gs g = above_next q r p pre gs g.1

module _ (s : List ℕ) (ms : Table) (fs : List Fault) (o : Octets s) (e : recover s ≡ kept ms fs) (tb b : List ℕ) (y : tb ≡ form ms) (t : b ≡ faults_form fs) where
  plain_file : Plain s
  plain_file = plain_of ((recovers_exactly s (kept ms fs) o).0 e)

  list : FaultList fs
  list = let g = faults_listed s ms fs o e in (g.count, placed s fs plain_file.0 g.each)

  counted : fault_count b ≡ length fs
  counted = ap fault_count t ∙ forms_count fs list

  read_there : (pre : List Fault) (r : FileRefusal) (q : ℕ) (gs : List Fault) → fs ≡ pre ++ (fault_at r q ∷ gs) → (fault_number b (length pre) ≡ file_number r) × (fault_place b (length pre) ≡ q)
  read_there pre r q gs z =
      let w : b ≡ faults_form (pre ++ (fault_at r q ∷ gs)) = t ∙ ap faults_form z in
      let g = forms_read_back pre gs r q (subst FaultList z list) in
      (ap (λ (x : List ℕ). fault_number x (length pre)) w ∙ g.number, ap (λ (x : List ℕ). fault_place x (length pre)) w ∙ g.place)

  resumes_there : (pre gs : List Fault) (p : ℕ) {older : Table} → ResumesAt s pre p older → fs ≡ pre ++ gs → Resumes s b (length pre) p
  resumes_there pre gs p resumes_first z = first
  resumes_there pre gs p (resumes_behind {fs = us} {q = q} {r = r} a f h) z =
      let w = read_there us r q gs (z ∙ append_assoc us (fault_at r q ∷ []) gs) in
      let l : length (us ++ (fault_at r q ∷ [])) ≡ suc (length us) = length-append us (fault_at r q ∷ []) ∙ omega arith in
      rw l (behind {i = length us} {p = p} (rw w.1 h))

  in_order : (pre : List Fault) (r : FileRefusal) (q : ℕ) (gs : List Fault) → fs ≡ pre ++ (fault_at r q ∷ gs) → suc (length pre) < length fs
      → fault_place b (length pre) < fault_place b (suc (length pre))
  in_order pre r q [] z l = let i : length fs ≡ length pre + 1 = ap length z ∙ length-append pre (fault_at r q ∷ []) in absurd (omega arith)
  in_order pre r q (fault_at k p ∷ gs) z l =
      let a = above_next q r p pre (fault_at k p ∷ gs) (subst InFileOrder z (faults_listed s ms fs o e).order) in
      let w = read_there pre r q (fault_at k p ∷ gs) z in
      let v = read_there (pre ++ (fault_at r q ∷ [])) k p gs (z ∙ sym (append_assoc pre (fault_at r q ∷ []) (fault_at k p ∷ gs))) in
      let i : length (pre ++ (fault_at r q ∷ [])) ≡ suc (length pre) = length-append pre (fault_at r q ∷ []) ∙ omega arith in
      let j : fault_place b (suc (length pre)) ≡ p = rw i at v.1 in
      rw (w.1, j) a.0

  spelled : Each Spellable ms
  unfolding read_file_by
  spelled =
      let x = kept_could_be_read s ms fs o e in
      each_spellable (read_keeps [] x.0 ms (record { count = omega arith; macros = tt }) x.1 x.2).accepted

  -- what some bytes are read as stands in the table, where its macros are kept
  module _ (from q : ℕ) (older : Table)
      (k : (n : ℕ) (new : Table) → from + n ≤ q → read_file (take n (drop from s)) ≡ table new → (more : Table) × (ms ≡ older ++ (new ++ more))) where
    stand_there : (n : ℕ) (old : List ℕ) → from + n ≤ q → (w : Read) → read_file (take n (drop from s)) ≡ w → (of_reading old w).answer.number ≡ 0
        → slots_in (of_reading old w).answer.length (drop (slot_bytes * length older) tb) ≡ slots_in (of_reading old w).answer.length (of_reading old w).memory
    unfolding of_reading takes refuses reply number
    stand_there n old l (refused_at j p) h i = absurd (not_zero j i)
    stand_there n old l (table new) h i =
        let x = k n new l h in
        let g : Each Spellable (older ++ (new ++ x.0)) = subst (Each Spellable) x.1 spelled in
        ap (λ (u : List ℕ). slots_in (length new) (drop (slot_bytes * length older) u)) (y ∙ ap form x.1)
        ∙ (behind_older older new x.0 g ∙ sym (their_slots older new x.0 g))

    stand_by : (n : ℕ) (old : List ℕ) → from + n ≤ q → length old ≡ table_bytes → (w : Result) → reads (take n (drop from s)) old ≡ w → w.answer.number ≡ 0
        → slots_in w.answer.length (drop (slot_bytes * length older) tb) ≡ slots_in w.answer.length w.memory
    stand_by n old l j w z i =
        let v : w ≡ of_reading old (read_file (take n (drop from s))) = sym z ∙ reads_sized (take n (drop from s)) old j in
        rw v (stand_there n old l (read_file (take n (drop from s))) refl (rw v at i))

    stand_in : StandsIn s tb from q
    stand_in = record { before = length older; there = λ n old l j w z i. stand_by n old l j w z i }

  module _ (pre : List Fault) (r : FileRefusal) (q : ℕ) (gs : List Fault) (z : fs ≡ pre ++ (fault_at r q ∷ gs)) where
    this : OneFault s pre r q ms
    this = each_fault s ms pre gs r q o (e ∙ ap (kept ms) z)

    rest_read : read_file (drop this.from s) ≡ refused_at r this.faulty.n
    rest_read = read_alone this.older (drop this.from s) r this.faulty.n (drop_plain this.from s plain_file) no_19 this.faulty.shows
      where
        no_19 : too_many_macros ≡ r → ⊥
        no_19 y = let n : Between 12 18 (file_number too_many_macros) = subst (λ x. Between 12 18 (file_number x)) (sym y) this.faulty.number in unfold file_number in omega (arith, n)

    stands : StandsIn s tb this.from q
    stands =
        stand_in this.from q this.older
        (λ n new l h. let x = made_alone s this.from q this.older this.made r this.faulty n new plain_file (omega (arith, this.faulty.place)) h in (
          x.0 ++ this.stays.0,
          this.stays.1
              ∙ (ap (λ (u : Table). u ++ this.stays.0) x.1
              ∙ (append_assoc this.older (new ++ x.0) this.stays.0 ∙ ap (λ (u : Table). this.older ++ u) (append_assoc new x.0 this.stays.0))),
        ))

    holds : FaultHolds s tb b (length pre)
    unfolding of_reading refuses reply number place
    holds =
        let w = read_there pre r q gs z in
        record {
          number = rw w.0 this.faulty.number;
          from = this.from;
          resumes = resumes_there pre (fault_at r q ∷ gs) this.from this.resumes z;
          same_number = λ old l. ap (λ (x : Result). x.answer.number) (reads_sized (drop this.from s) old l ∙ ap (of_reading old) rest_read) ∙ sym w.0;
          same_place = λ old l.
              ap (λ (x : Result). this.from + x.answer.place) (reads_sized (drop this.from s) old l ∙ ap (of_reading old) rest_read)
              ∙ (sym this.faulty.place ∙ sym w.1);
          kept = subst (λ (j : ℕ). StandsIn s tb this.from j) (sym w.1) stands;
          order = λ l. in_order pre r q gs z (omega (arith, counted));
        }

  each_holds : (i : ℕ) → i < fault_count b → FaultHolds s tb b i
  each_holds i l = let x = split i fs (omega (arith, counted)) in by x.0 x.1 x.2 x.3 x.4
    where
      by : (pre : List Fault) (f : Fault) (gs : List Fault) → fs ≡ pre ++ (f ∷ gs) → length pre ≡ i → FaultHolds s tb b i
      by pre (fault_at r q) gs z j = subst (FaultHolds s tb b) j (holds pre r q gs z)

  few : fault_count b ≤ most_faults
  few = omega (arith, counted, (faults_listed s ms fs o e).count)

  -- behind the last fault
  last_holds : (gs : List Fault) → EndsWith s gs ms → fs ≡ gs → LastHolds s tb b
  unfolding of_reading takes reply
  last_holds gs (ends_at_fault {fs = us} {q = q} {r = r} a f h) z =
      let w = read_there us r q [] z in
      let l : length fs ≡ suc (length us) = ap length z ∙ (length-append us (fault_at r q ∷ []) ∙ omega arith) in
      over (length us) (counted ∙ l) (rw w.1 h)
  last_holds gs (accepts_rest {from = p} {older = older} a h) z =
      let g = drop_plain p s plain_file in
      let x = table_alone older (drop p s) ms g h in
      rest p (subst (λ (i : ℕ). Resumes s b i p) (ap length (sym z) ∙ sym counted) (resumes_there gs [] p a (z ∙ sym (append-nil gs))))
      (λ old l. ap (λ (v : Result). v.answer.number) (reads_sized (drop p s) old l ∙ ap (of_reading old) x.1))
      (stand_in p (length s) older (λ n new l f. rest_alone older (drop p s) ms n new g h f))

pub faults_as_read : FaultsAsRead
unfolding of_recovering
faults_as_read s m o z =
    let x = taken_is s m z in
    let t : (recovers s m).memories.faults ≡ faults_form x.1 = ap (λ (w : Recovering). w.memories.faults) x.3 in
    let y : (recovers s m).memories.table ≡ form x.0 = ap (λ (w : Recovering). w.memories.table) x.3 in
    record {
      count = few s x.0 x.1 o x.2 (recovers s m).memories.table (recovers s m).memories.faults y t;
      each = each_holds s x.0 x.1 o x.2 (recovers s m).memories.table (recovers s m).memories.faults y t;
      last = last_holds s x.0 x.1 o x.2 (recovers s m).memories.table (recovers s m).memories.faults y t x.1 ((kept_exactly s x.0 x.1 o).0 x.2).2 refl;
    }

-- EVERY REFUSAL

refused_keeps : (m : Mended) (v : Recovered) → ((of_recovering m v).answer.number ≡ 0 → ⊥) → (of_recovering m v).memories ≡ m
unfolding of_recovering reply
refused_keeps m (kept ms fs) n = absurd (n refl)
refused_keeps m (refused r) n = refl

pub refusal_keeps : RefusalKeeps
refusal_keeps s m n = by_size (sized_to_recover m) refl
  where
    by_size : (c : Bool) → sized_to_recover m ≡ c → (recovers s m).memories ≡ m
    by_size true y =
        ap (λ (w : Recovering). w.memories) (of_size s m y)
        ∙ refused_keeps m (recover s) (λ z. n (ap (λ (w : Recovering). w.answer.number) (of_size s m y) ∙ z))
    by_size false y = other y
      where
        other : sized_to_recover m ≡ false → (recovers s m).memories ≡ m
        other f = unfold recovers pick in rw f refl

-- ALL OF IT

pub recovers_all : RecoversAll
recovers_all s m v o y h = of_size s m y ∙ ap (of_recovering m) ((recovers_exactly s v o).1 h)
