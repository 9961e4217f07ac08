-- The promise of specs/RecoverLaw.antt, proved.
use mathlib.Core.Path.{ap, refl, subst, sym, ◌∙◌, ◌≡◌}
use mathlib.Core.Bool.{Bool, false, true}
use mathlib.Core.List.{◌++◌, List, [], append-nil, reverse, ◌∷◌}
use mathlib.Core.Option.{Option, none, some}
use Prim.Native.Nat.{◌+◌, zero, suc, ℕ, ◌≤◌}
use native.Mathlib.Omega.{arith}
use lib.ListN.{drop, length, length-append, length-drop}
use lib.Dec.{eqb, ltb}
use borrow.Author.Tests.{eqb-false, eqb-true, ltb-false, ne_eqb}
use Rattle.macros.specs.Bounds.{most_file_bytes}
use Rattle.macros.specs.Refusals.{FileRefusal, file_number}
use Rattle.macros.specs.Refusals.FileRefusal.{bad_brace, bad_call, bad_class, file_too_long, incomplete, macro_too_long, no_element, no_unit, too_many_macros, zero_byte}
use Rattle.macros.specs.Macro.{Table, pick, within}
use Rattle.macros.specs.Formed.{Between, Bytes, Octets}
use Rattle.macros.specs.Read.{first_zero, read_file, read_onto, read_file_by, read_onto_by}
use Rattle.macros.specs.ReadFile.Pending.{clear}
use Rattle.macros.specs.ReadFile.Reader.{between}
use Rattle.macros.specs.ReadFile.Read.{refused_at, table}
use Rattle.macros.specs.FirstFault.{NoZero, Plain}
use Rattle.macros.proofs.Costs.{Shows}
use Rattle.macros.proofs.Paid.{refusal_shows}
use Rattle.macros.proofs.FirstFault.{no_table, same_place}
use Rattle.faults.proofs.Ends.{nonzero}
use Rattle.faults.specs.Refusal.{most_faults}
use Rattle.faults.specs.Refusal.RecoverRefusal.{as_before, too_many_faults}
use Rattle.faults.specs.Recover.{Recovered, Stretch, behind_first, is_fault, recover, recover_from, resumed, stretch, after_stretch, with_fault}
use Rattle.faults.specs.Recover.Fault.{fault_at}
use Rattle.faults.specs.Recover.Recovered.{kept, refused as not_read}
use Rattle.faults.specs.Recover.Stretch.{to_end, to_refusal}
use Rattle.faults.specs.RecoverLaw.{Behind, Faulty, MadeBy, NoSemicolon, Past, Recovers, RecoversExactly}
use Rattle.faults.specs.RecoverLaw.Past.{ends, full, goes_on, refused_behind, rest_accepted, too_many}
use Rattle.faults.specs.RecoverLaw.Recovers.{past, refused_whole}
use Rattle.faults.proofs.Stretches.{Seen, seen}
use Rattle.faults.proofs.Stretches.Seen.{ended, stopped}

-- NUMBERS

-- whether a refusal is a fault, by its number
pub data Kind (r : FileRefusal) : Bool → Type 0 where
  fault : Between 12 18 (file_number r) → Kind r true
  nineteen : r ≡ too_many_macros → Kind r false
  whole : file_number r ≤ 11 → Kind r false

pub kind : (r : FileRefusal) → Kind r (is_fault r)
unfolding is_fault within file_number
kind file_too_long = whole (omega arith)
kind zero_byte = whole (omega arith)
kind incomplete = fault (omega arith)
kind bad_class = fault (omega arith)
kind no_unit = fault (omega arith)
kind bad_brace = fault (omega arith)
kind bad_call = fault (omega arith)
kind no_element = fault (omega arith)
kind macro_too_long = fault (omega arith)
kind too_many_macros = nineteen refl

pub is_fault_lem : (r : FileRefusal) → Between 12 18 (file_number r) → is_fault r ≡ true
unfolding file_number is_fault within
is_fault_lem file_too_long h = absurd (omega (arith, h))
is_fault_lem zero_byte h = absurd (omega (arith, h))
is_fault_lem incomplete h = refl
is_fault_lem bad_class h = refl
is_fault_lem no_unit h = refl
is_fault_lem bad_brace h = refl
is_fault_lem bad_call h = refl
is_fault_lem no_element h = refl
is_fault_lem macro_too_long h = refl
is_fault_lem too_many_macros h = absurd (omega (arith, h))

not_whole : {A : Type 0} (r : FileRefusal) → Shows r → file_number r ≤ 11 → A
unfolding file_number
not_whole file_too_long h l = absurd h
not_whole zero_byte h l = absurd h
not_whole incomplete h l = absurd (omega arith)
not_whole bad_class h l = absurd (omega arith)
not_whole no_unit h l = absurd (omega arith)
not_whole bad_brace h l = absurd (omega arith)
not_whole bad_call h l = absurd (omega arith)
not_whole no_element h l = absurd (omega arith)
not_whole macro_too_long h l = absurd (omega arith)
not_whole too_many_macros h l = absurd (omega arith)

-- THE FIRST `;`

pub data Found (q : ℕ) (l : List ℕ) : Option ℕ → Type 0 where
  nowhere : NoSemicolon l → Found q l none
  there : (u v : List ℕ) → l ≡ u ++ (59 ∷ v) → NoSemicolon u → Found q l (some (suc (q + length u)))

pub look_for : (q : ℕ) (l : List ℕ) → Found q l (behind_first q l)
unfolding behind_first
look_for q [] = nowhere tt
look_for q (b ∷ l) = by (eqb b 59) refl (look_for (suc q) l)
  where
    further : (o : Option ℕ) → (b ≡ 59 → ⊥) → Found (suc q) l o → Found q (b ∷ l) o
    further o f (nowhere g) = nowhere (f, g)
    further o f (there u v g h) =
        let z : suc (q + suc (length u)) ≡ suc (suc q + length u) = omega arith in
        subst (λ (n : ℕ). Found q (b ∷ l) (some n)) z (there (b ∷ u) v (ap (λ y. b ∷ y) g) (f, h))

    by : (c : Bool) → eqb b 59 ≡ c → Found (suc q) l (behind_first (suc q) l) → Found q (b ∷ l) (elim c [ true ↦ some (suc q) | false ↦ behind_first (suc q) l ])
    by true e i =
        let z : suc (q + 0) ≡ suc q = omega arith in
        let y : b ≡ 59 = eqb-true b 59 e in
        subst (λ (n : ℕ). Found q (b ∷ l) (some n)) z (there [] l (rw y) tt)
    by false e i = further (behind_first (suc q) l) (eqb-false b 59 e) i

pub none_found : (q : ℕ) (l : List ℕ) → NoSemicolon l → behind_first q l ≡ none
unfolding behind_first
none_found q [] g = refl
none_found q (b ∷ l) g = rw (ne_eqb b 59 g.0, behind_first) (none_found (suc q) l g.1)

pub one_found : (q : ℕ) (u v : List ℕ) → NoSemicolon u → behind_first q (u ++ (59 ∷ v)) ≡ some (suc (q + length u))
unfolding behind_first
one_found q [] v g = let z : suc q ≡ suc (q + 0) = omega arith in ap some z
one_found q (b ∷ u) v g =
    let z : suc (suc q + length u) ≡ suc (q + suc (length u)) = omega arith in
    rw (ne_eqb b 59 g.0, behind_first) (one_found (suc q) u v g.1 ∙ ap some z)

-- the resuming place is one place
pub behind_found : (s : List ℕ) (q n : ℕ) → Behind s q n → behind_first q (drop q s) ≡ some n
behind_found s q n g = ap (behind_first q) g.stands ∙ (one_found q g.up_to g.rest g.no_earlier ∙ ap some (sym g.place))

-- WHAT IS LEFT OF A FILE

drop_nonzero : (p : ℕ) (s : List ℕ) → NoZero s → NoZero (drop p s)
drop_nonzero zero s g = g
drop_nonzero (suc p) [] g = tt
drop_nonzero (suc p) (b ∷ s) g = drop_nonzero p s g.1

pub drop_plain : (p : ℕ) (s : List ℕ) → Plain s → Plain (drop p s)
drop_plain p s g = let l = length-drop p s in (omega (arith, g.0), drop_nonzero p s g.1)

pub drop_octets : (p : ℕ) (s : List ℕ) → Octets s → Octets (drop p s)
drop_octets zero s g = g
drop_octets (suc p) [] g = tt
drop_octets (suc p) (b ∷ s) g = drop_octets p s g.1

bytes_of : (s : List ℕ) → Octets s → NoZero s → Bytes s
bytes_of [] g h = tt
bytes_of (b ∷ s) g h = ((h.0, g.0), bytes_of s g.1 h.1)

-- what plain reading has made by a place is one table
pub made_one : (older : Table) (t : List ℕ) (n : ℕ) (ms ks : Table) → MadeBy older t n ms → MadeBy older t n ks → ms ≡ ks
made_one older t n ms ks a b =
    let x = b.none_lost a.is_read.0 ms a.is_read.1 a.is_read.2 in
    let y = a.none_lost b.is_read.0 ks b.is_read.1 b.is_read.2 in
    sym (x.1 ∙ (ap (λ z. ms ++ z) (empty x.0 y.0 x.1 y.1) ∙ append-nil ms))
  where
    empty : (u v : Table) → ks ≡ ms ++ u → ms ≡ ks ++ v → u ≡ []
    empty [] v e f = refl
    empty (m ∷ u) v e f =
        let i : length ks ≡ length ms + suc (length u) = ap length e ∙ length-append ms (m ∷ u) in
        let j : length ms ≡ length ks + length v = ap length f ∙ length-append ks v in
        absurd (omega arith)

-- ONE STRETCH, AND THE REST

module _ (s : List ℕ) where
  -- what comes of a fault, where k may still be listed
  unfoldable pub listed : ℕ → FileRefusal → ℕ → Table → Recovered
  listed zero r q ks = not_read too_many_faults
  listed (suc k) r q ks = with_fault (fault_at r q) (resumed (recover_from k s) ks (behind_first q (drop q s)))

  pub recover_stretched : (k p : ℕ) (older : Table) → recover_from k s p older ≡ after_stretch (listed k) (stretch p (between false clear (reverse older)) (drop p s))
  unfolding recover_from listed
  recover_stretched zero p older = refl
  recover_stretched (suc k) p older = refl

-- what is left of a plain file
module _ (s : List ℕ) (whole_plain : Plain s) where
  pub left_seen : (p : ℕ) (older : Table) → Seen older (drop p s) p (stretch p (between false clear (reverse older)) (drop p s))
  left_seen p older = seen older (drop p s) (drop_plain p s whole_plain) p

  -- A FILE COMES TO NOTHING ELSE

  pub at_end_lem : (p : ℕ) (older ms : Table) → read_onto older (drop p s) ≡ table ms → (w : Stretch) → Seen older (drop p s) p w → w ≡ to_end ms
  at_end_lem p older ms e w (ended f) = let z : _ = sym f ∙ e in cc
  at_end_lem p older ms e w (stopped f l m) = no_table (sym e ∙ f)

  pub at_refusal : (p n : ℕ) (older : Table) (r : FileRefusal) → read_onto older (drop p s) ≡ refused_at r n → (w : Stretch) → Seen older (drop p s) p w → (ms : Table) × (w ≡ to_refusal r (p + n) ms)
  at_refusal p n older r e w (ended f) = no_table (sym f ∙ e)
  at_refusal p n older r e w (stopped {r = k} {n = j} {ms = ms} f l m) = let z = same_place (sym f ∙ e) in (ms, rw (z.0, z.1))

  at_fault : (p q : ℕ) (older ms : Table) (r : FileRefusal) → Faulty s p older r q ms → (w : Stretch) → Seen older (drop p s) p w → w ≡ to_refusal r q ms
  at_fault p q older ms r g w (ended f) = no_table (sym f ∙ g.shows)
  at_fault p q older ms r g w (stopped {r = k} {n = j} {ms = ks} f l m) =
      let z = same_place (sym f ∙ g.shows) in
      let y : ks ≡ ms = made_one older (drop p s) g.n ks ms (rw z.1 at m) g.made in
      rw (z.0, z.1, y, g.place)

  pub stretched_fault : (f : FileRefusal → ℕ → Table → Recovered) (r : FileRefusal) (q : ℕ) (ms : Table) → Between 12 18 (file_number r) → after_stretch f (to_refusal r q ms) ≡ f r q ms
  unfolding after_stretch
  stretched_fault f r q ms g = rw (is_fault_lem r g, after_stretch)

  fault_listed : (k p q : ℕ) (older ms : Table) (r : FileRefusal) → Faulty s p older r q ms → recover_from k s p older ≡ listed s k r q ms
  fault_listed k p q older ms r g =
      recover_stretched s k p older ∙ (ap (after_stretch (listed s k)) (at_fault p q older ms r g _ (left_seen p older)) ∙ stretched_fault (listed s k) r q ms g.number)

  exact : {k p : ℕ} {older : Table} {v : Recovered} → Past s k p older v → recover_from k s p older ≡ v
  unfolding after_stretch listed with_fault resumed is_fault within file_number
  exact {k} {p} {older} (rest_accepted {ms = ms} e) = recover_stretched s k p older ∙ ap (after_stretch (listed s k)) (at_end_lem p older ms e _ (left_seen p older))
  exact {k} {p} {older} (full {n = n} e) =
      let z = at_refusal p n older too_many_macros e _ (left_seen p older) in
      recover_stretched s k p older ∙ ap (after_stretch (listed s k)) z.1
  exact {p = p} {older} (too_many {q = q} {ms = ms} {r = r} g) = fault_listed zero p q older ms r g
  exact {p = p} {older} (ends {k} {q = q} {ms = ms} {r = r} g h) =
      fault_listed (suc k) p q older ms r g ∙ ap (λ o. with_fault (fault_at r q) (resumed (recover_from k s) ms o)) (none_found q (drop q s) h)
  exact {p = p} {older} (goes_on {k} {q = q} {n = n} {ms = ms} {r = r} g h i) =
      fault_listed (suc k) p q older ms r g
      ∙ (ap (λ o. with_fault (fault_at r q) (resumed (recover_from k s) ms o)) (behind_found s q n h) ∙ ap (with_fault (fault_at r q)) (exact i))
  exact {p = p} {older} (refused_behind {k} {q = q} {n = n} {ms = ms} {r = r} g h i) =
      fault_listed (suc k) p q older ms r g
      ∙ (ap (λ o. with_fault (fault_at r q) (resumed (recover_from k s) ms o)) (behind_found s q n h) ∙ ap (with_fault (fault_at r q)) (exact i))

-- and of bytes
module _ (s : List ℕ) (whole_plain : Plain s) (bytes : Octets s) where
  -- a refusal of what is left is one of 12 to 19
  left_shows : (p : ℕ) (older : Table) (r : FileRefusal) (n : ℕ) → read_onto older (drop p s) ≡ refused_at r n → Shows r
  left_shows p older r n e =
      let g = drop_plain p s whole_plain in
      refusal_shows older (drop p s) r n (bytes_of (drop p s) (drop_octets p s bytes) g.1) g.0 e

  -- EACH FILE COMES TO SOMETHING

  abbrev OnFault : ℕ → ℕ → Table → (FileRefusal → ℕ → Table → Recovered) → Type 0
  OnFault k p older f = (r : FileRefusal) (q : ℕ) (ks : Table) → Faulty s p older r q ks → Past s k p older (f r q ks)

  past_stretch : (k p : ℕ) (older : Table) (f : FileRefusal → ℕ → Table → Recovered) → OnFault k p older f → (w : Stretch) → Seen older (drop p s) p w
      → Past s k p older (after_stretch f w)
  unfolding after_stretch
  past_stretch k p older f h w (ended e) = rest_accepted e
  past_stretch k p older f h w (stopped {r} {n} {ms} e l m) = by (is_fault r) (kind r)
    where
      by : (c : Bool) → Kind r c → Past s k p older (elim c [ true ↦ f r (p + n) ms | false ↦ not_read (as_before r (p + n)) ])
      by c (fault g) = h r (p + n) ms (record { number = g; n = n; place = refl; shows = e; made = m })
      by c (nineteen z) = rw z (full (rw z at e))
      by c (whole g) = not_whole r (left_shows p older r n e) g

  joined : (k p q n : ℕ) (older ms : Table) (r : FileRefusal) → Faulty s p older r q ms → Behind s q n → (v : Recovered) → Past s k n ms v
      → Past s (suc k) p older (with_fault (fault_at r q) v)
  unfolding with_fault
  joined k p q n older ms r g h (kept ks fs) i = goes_on g h i
  joined k p q n older ms r g h (not_read v) i = refused_behind g h i

  -- behind a fault, by what is so of the rest
  past_behind : (k p : ℕ) (older : Table) → ((n : ℕ) (ks : Table) → Past s k n ks (recover_from k s n ks)) → OnFault (suc k) p older (listed s (suc k))
  unfolding listed
  past_behind k p older rest r q ks g = by (behind_first q (drop q s)) (look_for q (drop q s))
    where
      by : (o : Option ℕ) → Found q (drop q s) o → Past s (suc k) p older (with_fault (fault_at r q) (resumed (recover_from k s) ks o))
      by o (nowhere h) = unfold with_fault resumed in ends g h
      by o (there u v h i) =
          unfold resumed in
          joined k p q (suc (q + length u)) older ks r g (record { up_to = u; rest = v; stands = h; no_earlier = i; place = refl }) (recover_from k s (suc (q + length u)) ks)
          (rest (suc (q + length u)) ks)

  past_from : (k p : ℕ) (older : Table) → Past s k p older (recover_from k s p older)
  past_from zero p older =
      subst (Past s zero p older) (sym (recover_stretched s zero p older)) (past_stretch zero p older (listed s zero) (λ r q ks g. unfold listed in too_many g) _ (left_seen s whole_plain p older))
  past_from (suc k) p older =
      subst (Past s (suc k) p older) (sym (recover_stretched s (suc k) p older))
      (past_stretch (suc k) p older (listed s (suc k)) (past_behind k p older (λ n ks. past_from k n ks)) _ (left_seen s whole_plain p older))

-- THE PROMISE

-- 10 and 11 over the whole file: it is plain, or refused so by both
pub data Judged (s : List ℕ) : Type 0 where
  plain : Plain s → recover s ≡ recover_from most_faults s 0 [] → Judged s
  unreadable : (r : FileRefusal) (p : ℕ) → file_number r ≤ 11 → read_file s ≡ refused_at r p → recover s ≡ not_read (as_before r p) → Judged s

pub judge : (s : List ℕ) → Judged s
unfolding read_file_by read_onto_by recover file_number
judge s = by (ltb most_file_bytes (length s)) (first_zero 0 s) refl refl
  where
    by : (x : Bool) (o : Option ℕ) → ltb most_file_bytes (length s) ≡ x → first_zero 0 s ≡ o → Judged s
    by true o e f = unreadable file_too_long most_file_bytes (omega arith) (unfold pick in rw e) (unfold pick in rw e)
    by false (some p) e f = unreadable zero_byte p (omega arith) (unfold pick in rw (e, f)) (unfold pick in rw (e, f))
    by false none e f = plain (ltb-false _ _ e, nonzero 0 s f) (unfold pick in rw (e, f))

-- a plain file is refused by neither
pub not_unread : {A : Type 0} (s : List ℕ) (r : FileRefusal) (p : ℕ) → Octets s → Plain s → file_number r ≤ 11 → read_file s ≡ refused_at r p → A
unfolding read_file_by
not_unread s r p bytes g l e = not_whole r (refusal_shows [] s r p (bytes_of s bytes g.1) g.0 e) l

module _ (s : List ℕ) (bytes : Octets s) where
  answers : (v : Recovered) → Judged s → recover s ≡ v → Recovers s v
  answers v (plain g f) e = past g (subst (Past s most_faults 0 []) (sym f ∙ e) (past_from s g bytes most_faults 0 []))
  answers v (unreadable r p l f h) e = subst (Recovers s) (sym h ∙ e) (refused_whole l f)

  answered : (v : Recovered) → Judged s → Recovers s v → recover s ≡ v
  answered v (plain g f) (refused_whole {r = r} {p = p} l e) = not_unread s r p bytes g l e
  answered v (plain g f) (past h x) = f ∙ exact s g x
  answered v (unreadable r p l f h) (refused_whole {r = k} {p = q} i e) = let z = same_place (sym f ∙ e) in rw (← z.0, ← z.1) h
  answered v (unreadable r p l f h) (past g x) = not_unread s r p bytes g l f

pub recovers_exactly : RecoversExactly
recovers_exactly s v bytes = (λ e. answers s bytes v (judge s) e, λ x. answered s bytes v (judge s) x)
