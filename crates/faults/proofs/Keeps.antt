-- The promises of specs/RecoverKeeps.antt, proved.
use mathlib.Core.Path.{ap, refl, subst, sym, ◌∙◌, ◌≡◌}
use mathlib.Core.Bool.{Bool, false, true}
use mathlib.Core.List.{◌++◌, List, [], append_assoc, append-nil, reverse, reverse-reverse, ◌∷◌}
use Prim.Native.Nat.{◌+◌, ◌<◌, suc, ℕ, ◌≤◌}
use native.Mathlib.Omega.{arith}
use lib.ListN.{drop, length, length-append, length-drop, length-take, take, take-append-drop}
use Rattle.macros.specs.Bounds.{most_macros}
use Rattle.macros.specs.Refusals.{FileRefusal, file_number}
use Rattle.macros.specs.Macro.{Macro, Table, pick}
use Rattle.macros.specs.Formed.{Octets}
use Rattle.macros.specs.Read.{Pending, outside, outside_fresh, read_file, read_onto, step, read_file_by, step_by}
use Rattle.macros.specs.ReadFile.Pending.{at_mark, clear}
use Rattle.macros.specs.ReadFile.Reader.{between}
use Rattle.macros.specs.ReadFile.Next.{go}
use Rattle.macros.specs.ReadFile.Read.{refused_at, table}
use Rattle.macros.specs.FirstFault.{NoZero, Plain}
use Rattle.macros.proofs.FirstFault.{no_table, same_place}
use Rattle.macros.proofs.Pending.{after, after_append, after_one}
use Rattle.macros.proofs.Laws.{read_keeps}
use Rattle.macros.proofs.ReadOnto.{read_plain}
use Rattle.faults.proofs.Ends.{end_of, plain_front, table_after_lem}
use Rattle.faults.specs.Refusal.{RecoverRefusal, most_faults, recover_place}
use Rattle.faults.specs.Refusal.RecoverRefusal.{as_before}
use Rattle.faults.specs.Recover.{Fault, Recovered, Stretch, recover, after_stretch, with_fault, is_fault}
use Rattle.faults.specs.Recover.Fault.{fault_at}
use Rattle.faults.specs.Recover.Recovered.{kept, refused}
use Rattle.faults.specs.Recover.Stretch.{to_refusal}
use Rattle.faults.specs.RecoverLaw.{Behind, Faulty, Past, Recovers}
use Rattle.faults.specs.RecoverLaw.Past.{ends, full, goes_on, refused_behind, rest_accepted, too_many}
use Rattle.faults.specs.RecoverLaw.Recovers.{past, refused_whole}
use Rattle.faults.specs.RecoverKeeps.{AllAfter, CouldMake, EachFault, FaultsListed, FaultsOf, FirstAsPlain, FirstIs, KeptCouldBeRead, NoFaults, OneFault, ResumesAt, InFileOrder, WholeFileFirst}
use Rattle.faults.specs.RecoverKeeps.ResumesAt.{behind_fault, from_start}
use Rattle.faults.proofs.Grown.{whole_grown}
use Rattle.faults.proofs.Stretches.{Seen, whole_between}
use Rattle.faults.proofs.Stretches.Seen.{ended, stopped}
use Rattle.faults.proofs.Exactly.{Judged, at_end_lem, at_refusal, drop_octets, drop_plain, judge, left_seen, listed, not_unread, recover_stretched, recovers_exactly, stretched_fault}
use Rattle.faults.proofs.Exactly.Judged.{plain, unreadable}

-- two answers that are not one
not_kept : {A : Type 0} {r : _} {ms : Table} {fs : List Fault} → refused r ≡ kept ms fs → A
not_kept e = let z : ◌≡◌ {A = ℕ} 0 1 = cc in absurd (omega arith)

some_fault : {A : Type 0} (f : Fault) {ms : Table} (v : Recovered) → with_fault f v ≡ kept ms [] → A
unfolding with_fault
some_fault f (kept ks fs) e = let z : ◌≡◌ {A = ℕ} 0 1 = cc in absurd (omega arith)
some_fault f (refused r) e = not_kept e

-- A FILE WITHOUT FAULTS

module _ (s : List ℕ) (g : Plain s) where
  no_faults_seen : (ms : Table) (w : Stretch) → Seen [] s 0 w → after_stretch (listed s most_faults) w ≡ kept ms [] → read_onto [] s ≡ table ms
  unfolding after_stretch listed
  no_faults_seen ms w (ended {ms = ks} f) e = let z : ks ≡ ms = cc in rw (← z) f
  no_faults_seen ms w (stopped {r = r} {n = n} {ms = ks} f l m) e = by (is_fault r) e
    where
      by : {A : Type 0} (c : Bool) → elim c [ true ↦ listed s most_faults r (0 + n) ks | false ↦ refused (as_before r (0 + n)) ] ≡ kept ms [] → A
      by true h = some_fault (fault_at r (0 + n)) _ h
      by false h = not_kept h

pub no_faults : NoFaults
no_faults s ms = (λ e. to (judge s) e, λ e. back (judge s) e)
  where
    to : Judged s → recover s ≡ kept ms [] → read_file s ≡ table ms
    to (plain g f) e = unfold read_file_by in no_faults_seen s g ms _ (left_seen s g 0 []) (sym (recover_stretched s most_faults 0 []) ∙ (sym f ∙ e))
    to (unreadable r p l f h) e = not_kept (sym h ∙ e)

    back : Judged s → read_file s ≡ table ms → recover s ≡ kept ms []
    back (plain g f) e =
        f ∙ (recover_stretched s most_faults 0 [] ∙ (unfold after_stretch in ap (after_stretch (listed s most_faults)) (at_end_lem s g 0 [] ms (unfold read_file_by in e) _ (left_seen s g 0 []))))
    back (unreadable r p l f h) e = no_table (sym e ∙ f)

-- THE FIRST FAULT

first_fault : (f : Fault) (v : Recovered) → FirstIs f (with_fault f v)
unfolding with_fault
first_fault f (kept ms fs) = refl
first_fault f (refused r) = tt

pub first_as_plain : FirstAsPlain
first_as_plain s r p k e = by (judge s)
  where
    by : Judged s → FirstIs (fault_at r p) (recover s)
    by (plain g f) =
        let z = at_refusal s g 0 p [] r (unfold read_file_by in e) _ (left_seen s g 0 []) in
        let y : 0 + p ≡ p = omega arith in
        subst (FirstIs (fault_at r p))
        (sym (f ∙ (recover_stretched s most_faults 0 [] ∙ (ap (after_stretch (listed s most_faults)) (z.1 ∙ ap (λ (i : ℕ). to_refusal r i z.0) y) ∙ stretched_fault s g (listed s most_faults) r p z.0 k))))
        (unfold listed in first_fault (fault_at r p) _)
    by (unreadable j q l f h) = let z : j ≡ r = (same_place (sym f ∙ e)).0 in let y : file_number r ≤ 11 = rw (← z) l in absurd (omega (arith, k))

-- 10 AND 11

pub past_19 : {s : List ℕ} {k p q : ℕ} {older : Table} {r : FileRefusal} → Past s k p older (refused (as_before r q)) → file_number r ≡ 19
unfolding file_number
past_19 (full e) = refl
past_19 (refused_behind g h i) = past_19 i

pub whole_file_first : WholeFileFirst recover
whole_file_first s r p bytes l = (λ e. to ((recovers_exactly s (refused (as_before r p)) bytes).0 e), λ e. back (judge s) e)
  where
    to : Recovers s (refused (as_before r p)) → read_file s ≡ refused_at r p
    to (refused_whole i e) = e
    to (past g x) = let z = past_19 x in absurd (omega arith)

    back : Judged s → read_file s ≡ refused_at r p → recover s ≡ refused (as_before r p)
    back (plain g f) e = not_unread s r p bytes g l e
    back (unreadable k q i f h) e = let z = same_place (sym f ∙ e) in rw (← z.0, ← z.1) h

-- MACROS ARE KEPT

-- reading onto a table leaves its macros in front
onto_grows : (older : Table) (t : List ℕ) (ms : Table) → Plain t → read_onto older t ≡ table ms → (new : Table) × (ms ≡ older ++ new)
onto_grows older t ms g e =
    let x = table_after_lem t 0 (between false clear (reverse older)) ms (sym (read_plain older t g) ∙ e) in
    let w = whole_grown t (between false clear (reverse older)) (between false x.0 (reverse ms)) x.1 in
    (w.0, sym (whole_between x.0 ms) ∙ (w.1 ∙ ap (λ y. y ++ w.0) (whole_between clear older)))

take_plain : (n : ℕ) (t : List ℕ) → Plain t → Plain (take n t)
take_plain n t g = plain_front (take n t) (drop n t) (rw (take-append-drop n t) g)

faulty_grows : {s : List ℕ} {p q : ℕ} {older ms : Table} {r : FileRefusal} → Plain s → Faulty s p older r q ms → (new : Table) × (ms ≡ older ++ new)
faulty_grows {s} {p} {older = older} {ms} g f =
    let m = f.made.is_read in
    onto_grows older (take m.0 (drop p s)) ms (take_plain m.0 (drop p s) (drop_plain p s g)) m.2

-- macros behind others behind others
both : (a b c : Table) → (new : Table) × (b ≡ a ++ new) → (new : Table) × (c ≡ b ++ new) → (new : Table) × (c ≡ a ++ new)
both a b c x y = (x.0 ++ y.0, y.1 ∙ (ap (λ z. z ++ y.0) x.1 ∙ append_assoc a x.0 y.0))

past_grows : {s : List ℕ} {k p : ℕ} {older ms : Table} {fs : List Fault} → Plain s → Past s k p older (kept ms fs) → (new : Table) × (ms ≡ older ++ new)
past_grows {s} {p = p} {older} {ms} g (rest_accepted e) = onto_grows older (drop p s) ms (drop_plain p s g) e
past_grows g (ends f h) = faulty_grows g f
past_grows {older = older} {ms} g (goes_on {ms = made} f h i) = both older made ms (faulty_grows g f) (past_grows g i)

-- EACH FAULT

cons_nil : {A : Type 0} (y : Fault) (fs gs : List Fault) → [] ≡ fs ++ (y ∷ gs) → A
cons_nil y [] gs e = let z : ◌≡◌ {A = ℕ} 0 1 = cc in absurd (omega arith)
cons_nil y (f ∷ fs) gs e = let z : ◌≡◌ {A = ℕ} 0 1 = cc in absurd (omega arith)

module _ (s : List ℕ) (whole_plain : Plain s) where
  -- the fault at which a stretch ends
  this_fault : (pre : List Fault) (p q j : ℕ) (older ms made : Table) (r k : FileRefusal) (gs hs : List Fault) → ResumesAt s pre p older → Faulty s p older r q made
      → (more : Table) × (ms ≡ made ++ more) → fault_at r q ∷ gs ≡ fault_at k j ∷ hs → OneFault s (pre ++ []) k j ms
  this_fault pre p q j older ms made r k gs hs a f h e =
      let z : fault_at r q ≡ fault_at k j = cc in
      let x : r ≡ k = cc in
      let y : q ≡ j = cc in
      rw (append-nil pre, ← x, ← y) (record { from = p; older = older; resumes = a; made = made; faulty = f; stays = h })

  -- the fault behind those of `pre`, by which reading came to place p, and behind those of fs
  each : (fs pre : List Fault) {k p : ℕ} {older ms : Table} {xs : List Fault} (gs : List Fault) (r : FileRefusal) (q : ℕ) → ResumesAt s pre p older
      → Past s k p older (kept ms xs) → xs ≡ fs ++ (fault_at r q ∷ gs) → OneFault s (pre ++ fs) r q ms
  each [] pre gs r q a (rest_accepted e) z = cons_nil (fault_at r q) [] gs z
  each [] pre {p = p} {older} {ms} gs r q a (ends {q = j} {r = k} f h) z = this_fault pre p j q older ms ms k r [] gs a f ([], sym (append-nil ms)) z
  each [] pre {p = p} {older} {ms} gs r q a (goes_on {q = j} {ms = made} {r = k} {fs = hs} f h i) z =
      this_fault pre p j q older ms made k r hs gs a f (past_grows whole_plain i) z
  each (x ∷ fs) pre gs r q a (rest_accepted e) z = cons_nil (fault_at r q) (x ∷ fs) gs z
  each (x ∷ fs) pre gs r q a (ends {q = j} {r = k} f h) z = let y : [] ≡ fs ++ (fault_at r q ∷ gs) = cc in cons_nil (fault_at r q) fs gs y
  each (x ∷ fs) pre {ms = ms} gs r q a (goes_on {q = j} {r = k} {fs = hs} f h i) z =
      let w : fault_at k j ≡ x = cc in
      let y : hs ≡ fs ++ (fault_at r q ∷ gs) = cc in
      let v = each fs (pre ++ (fault_at k j ∷ [])) gs r q (behind_fault a f h) i y in
      subst (λ u. OneFault s u r q ms) (append_assoc pre (fault_at k j ∷ []) fs ∙ ap (λ u. pre ++ (u ∷ fs)) w) v

-- a file whose faults are listed is plain
pub past_of : {s : List ℕ} {ms : Table} {fs : List Fault} → Recovers s (kept ms fs) → Plain s × Past s most_faults 0 [] (kept ms fs)
past_of (past g x) = (g, x)

pub each_fault : EachFault
each_fault s ms fs gs r q bytes e =
    let x = past_of ((recovers_exactly s (kept ms (fs ++ (fault_at r q ∷ gs))) bytes).0 e) in
    each s x.0 fs [] gs r q from_start x.1 refl

-- THE LIST

-- a resuming place stands behind the fault, in the file
behind_place : {s : List ℕ} {q n : ℕ} → Behind s q n → (q < n) × (n ≤ length s)
behind_place {s} {q} {n} h =
    let a : length (drop q s) ≡ length h.up_to + suc (length h.rest) = ap length h.stands ∙ length-append h.up_to (59 ∷ h.rest) in
    let b = length-drop q s in
    (omega (arith, h.place), omega (arith, h.place))

module _ (s : List ℕ) (whole_plain : Plain s) where
  -- a fault stands at or behind the place where its stretch began, and not behind the file's end
  fault_place_lem : {p q : ℕ} {older ms : Table} {r : FileRefusal} → p ≤ length s → Faulty s p older r q ms → (p ≤ q) × (q ≤ length s)
  fault_place_lem {p} {q} {older} {r = r} l f = by _ (left_seen s whole_plain p older)
    where
      by : (w : Stretch) → Seen older (drop p s) p w → (p ≤ q) × (q ≤ length s)
      by w (ended e) = no_table (sym e ∙ f.shows)
      by w (stopped {n = j} e i m) =
          let z : j ≡ f.n = (same_place (sym e ∙ f.shows)).1 in
          let y = length-drop p s in
          (omega (arith, f.place), omega (arith, f.place))

  -- a refusal of the rest does not stand behind the file's end
  pub past_place : {k p : ℕ} {older : Table} {v : RecoverRefusal} → p ≤ length s → Past s k p older (refused v) → recover_place v ≤ length s
  unfolding recover_place
  past_place {p = p} {older} l (full {n = n} e) = by _ (left_seen s whole_plain p older)
    where
      by : (w : Stretch) → Seen older (drop p s) p w → p + n ≤ length s
      by w (ended f) = no_table (sym f ∙ e)
      by w (stopped {n = j} f i m) =
          let z : j ≡ n = (same_place (sym f ∙ e)).1 in
          let y = length-drop p s in
          omega arith
  past_place l (too_many g) = omega arith
  past_place l (refused_behind g h i) = past_place (behind_place h).1 i

  past_each : {k p : ℕ} {older ms : Table} {fs : List Fault} → p ≤ length s → Past s k p older (kept ms fs) → FaultsOf s fs
  past_each l (rest_accepted e) = tt
  past_each l (ends f h) = (f.number, (fault_place_lem l f).1, tt)
  past_each l (goes_on f h i) = (f.number, (fault_place_lem l f).1, past_each (behind_place h).1 i)

  past_above : {k p : ℕ} {older ms : Table} {fs : List Fault} (x : ℕ) → x < p → p ≤ length s → Past s k p older (kept ms fs) → AllAfter x fs
  past_above x y l (rest_accepted e) = tt
  past_above x y l (ends f h) = let z = fault_place_lem l f in (omega (arith, z.0), tt)
  past_above x y l (goes_on f h i) = let z = fault_place_lem l f in let w = behind_place h in (omega (arith, z.0), past_above x (omega (arith, z.0, w.0)) w.1 i)

  past_rising : {k p : ℕ} {older ms : Table} {fs : List Fault} → p ≤ length s → Past s k p older (kept ms fs) → InFileOrder fs
  past_rising l (rest_accepted e) = tt
  past_rising l (ends f h) = (tt, tt)
  past_rising l (goes_on {q = q} f h i) = let w = behind_place h in (past_above q w.0 w.1 i, past_rising w.1 i)

  pub past_count : {k p : ℕ} {older ms : Table} {fs : List Fault} → Past s k p older (kept ms fs) → length fs ≤ k
  past_count (rest_accepted e) = omega arith
  past_count (ends f h) = omega arith
  past_count (goes_on f h i) = let z = past_count i in omega arith

pub faults_listed : FaultsListed
faults_listed s ms fs bytes e =
    let x = past_of ((recovers_exactly s (kept ms fs) bytes).0 e) in
    record {
      each = past_each s x.0 (omega arith) x.1;
      order = past_rising s x.0 (omega arith) x.1;
      count = past_count s x.0 x.1;
    }

-- A FILE OF THE KEPT MACROS

-- `;` between macros: no sign is pending behind it
step_clear : (a : Pending) (ms : List Macro) → step (between false a ms) 59 ≡ go (between false clear ms)
unfolding step_by outside outside_fresh pick
step_clear clear ms = refl
step_clear (at_mark m n) ms = refl

octets_append : (u v : List ℕ) → Octets u → Octets v → Octets (u ++ v)
octets_append [] v g h = h
octets_append (b ∷ u) v g h = (g.0, octets_append u v g.1 h)

nonzero_append : (u v : List ℕ) → NoZero u → NoZero v → NoZero (u ++ v)
nonzero_append [] v g h = h
nonzero_append (b ∷ u) v g h = (g.0, nonzero_append u v g.1 h)

octets_take : (n : ℕ) (t : List ℕ) → Octets t → Octets (take n t)
octets_take n t g = front (take n t) (drop n t) (rw (take-append-drop n t) g)
  where
    front : (u v : List ℕ) → Octets (u ++ v) → Octets u
    front [] v h = tt
    front (b ∷ u) v h = (h.0, front u v h.1)

-- bytes, not more than n, behind which the reader has these macros and no sign
record Making (n : ℕ) (ms : Table) : Type 0 where
  bytes : List ℕ
  octets : Octets bytes
  nonzero : NoZero bytes
  size : length bytes ≤ n
  read : after (between false clear []) bytes ≡ go (between false clear (reverse ms))

-- reading on behind them
making_on : (n : ℕ) (older ms : Table) (w : List ℕ) (m : Making n older) → Plain w → read_onto older w ≡ table ms
    → (a : Pending) × (after (between false clear []) (m.bytes ++ w) ≡ go (between false a (reverse ms)))
making_on n older ms w m g e =
    let x = table_after_lem w 0 (between false clear (reverse older)) ms (sym (read_plain older w g) ∙ e) in
    (x.0, after_append m.bytes w (between false clear []) (between false clear (reverse older)) m.read ∙ x.1)

-- and to their end
could_make : (u : List ℕ) (a : Pending) (ms : Table) → Octets u → Plain u → after (between false clear []) u ≡ go (between false a (reverse ms)) → CouldMake ms
unfolding read_file_by
could_make u a ms o g e = (u, o, read_plain [] u g ∙ (end_of u (between false clear []) a (reverse ms) e ∙ ap table (reverse-reverse ms)))

take_short : (n : ℕ) (l : List ℕ) → length (take n l) ≤ n
take_short n l = let e = length-take n l in omega arith

module _ (s : List ℕ) (whole_plain : Plain s) (octets-all : Octets s) where
  -- the macros so far, and those of some bytes from place p on
  made_there : (p : ℕ) (older ms : Table) (w : List ℕ) → Making p older → Plain w → Octets w → p + length w ≤ length s → read_onto older w ≡ table ms → CouldMake ms
  made_there p older ms w m g o l e =
      let x = making_on p older ms w m g e in
      let j = length-append m.bytes w in
      could_make (m.bytes ++ w) x.0 ms (octets_append m.bytes w m.octets o)
      (omega (arith, m.size, whole_plain.0), nonzero_append m.bytes w m.nonzero g.1) x.1

  -- behind a fault
  making_behind : {p q n : ℕ} {older ms : Table} {r : FileRefusal} → Making p older → Faulty s p older r q ms → Behind s q n → Making n ms
  making_behind {p} {q} {n} {older} {ms} m f h =
      let k = f.made.is_read.0 in
      let w = take k (drop p s) in
      let g : Plain w = take_plain k (drop p s) (drop_plain p s whole_plain) in
      let x = making_on p older ms w m g f.made.is_read.2 in
      let i = take_short k (drop p s) in
      let j = length-append m.bytes w in
      let y = length-append (m.bytes ++ w) (59 ∷ []) in
      record {
        bytes = (m.bytes ++ w) ++ (59 ∷ []);
        octets = octets_append (m.bytes ++ w) (59 ∷ []) (octets_append m.bytes w m.octets (octets_take k (drop p s) (drop_octets p s octets-all))) (omega arith, tt);
        nonzero = nonzero_append (m.bytes ++ w) (59 ∷ []) (nonzero_append m.bytes w m.nonzero g.1) (omega arith, tt);
        size = omega (arith, m.size, f.place, f.made.is_read.1, (behind_place h).0);
        read = after_one (m.bytes ++ w) (between false clear []) (between false x.0 (reverse ms)) (between false clear (reverse ms)) 59 x.1 (step_clear x.0 (reverse ms));
      }

  past_could : {k p : ℕ} {older ms : Table} {fs : List Fault} → p ≤ length s → Making p older → Past s k p older (kept ms fs) → CouldMake ms
  past_could {p = p} {older} {ms} l m (rest_accepted e) =
      let i = length-drop p s in
      made_there p older ms (drop p s) m (drop_plain p s whole_plain) (drop_octets p s octets-all) (omega arith) e
  past_could {p = p} {older} {ms} l m (ends f h) =
      let k = f.made.is_read.0 in
      let i = length-drop p s in
      let j = length-take k (drop p s) in
      made_there p older ms (take k (drop p s)) m (take_plain k (drop p s) (drop_plain p s whole_plain)) (octets_take k (drop p s) (drop_octets p s octets-all))
      (omega arith) f.made.is_read.2
  past_could l m (goes_on f h i) = past_could (behind_place h).1 (making_behind m f h) i

pub kept_could_be_read : KeptCouldBeRead
unfolding after
kept_could_be_read s ms fs bytes e =
    let x = past_of ((recovers_exactly s (kept ms fs) bytes).0 e) in
    past_could s x.0 bytes (omega arith) (record { bytes = []; octets = tt; nonzero = tt; size = omega arith; read = refl }) x.1

-- at most 96 macros are kept
pub kept_few : (s : List ℕ) (ms : Table) (fs : List Fault) → Octets s → recover s ≡ kept ms fs → length ms ≤ most_macros
unfolding read_file_by
kept_few s ms fs bytes e =
    let x = kept_could_be_read s ms fs bytes e in
    (read_keeps [] x.0 ms (record { count = omega arith; macros = tt }) x.1 x.2).accepted.count
