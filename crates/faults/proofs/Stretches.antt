-- A stretch is plain reading of what is left of the file: to the same end, or to the same refusal, with the macros made by then.
use mathlib.Core.Path.{ap, refl, subst, sym, ◌∙◌, ◌≡◌}
use mathlib.Core.Bool.{false, true}
use mathlib.Core.Logic.{◌⊎◌, inl, inr}
use mathlib.Core.List.{◌++◌, List, [], append_assoc, append-nil, reverse, reverse-reverse, ◌∷◌}
use Prim.Native.Nat.{◌+◌, ◌-◌, suc, ℕ, ◌≤◌}
use native.Mathlib.Omega.{arith}
use lib.ListN.{drop, length, length-append, take, take-append-drop}
use lib.Seq.{take-append-le, take-append_seam}
use Rattle.macros.specs.Bounds.{most_macro_bytes}
use Rattle.macros.specs.Refusals.{FileRefusal}
use Rattle.macros.specs.Refusals.FileRefusal.{macro_too_long, too_many_macros}
use Rattle.macros.specs.Macro.{Table, mark_byte, pick}
use Rattle.macros.specs.Read.{Next, Pending, Reader, at_end, read_from, read_onto, step, read_from_by}
use Rattle.macros.specs.ReadFile.Pending.{at_mark, clear}
use Rattle.macros.specs.ReadFile.Reader.{between, inside}
use Rattle.macros.specs.ReadFile.Next.{go, refuse, refuse_before}
use Rattle.macros.specs.ReadFile.Read.{refused_at, table}
use Rattle.macros.specs.FirstFault.{Plain}
use Rattle.macros.proofs.Round.{read_refuse, read_refuse_before}
use Rattle.macros.proofs.Pending.{AtCall, Pends, Signed, after, after_append, after_one, at_call, call_length, pends_one, read_after, signed_length}
use Rattle.macros.proofs.ReadOnto.{read_plain}
use Rattle.faults.proofs.Ends.{end_of, plain_front, table_after_lem}
use Rattle.faults.specs.Recover.{Stretch, stretch, at_file_end, whole_macros}
use Rattle.faults.specs.Recover.Stretch.{to_end, to_refusal}
use Rattle.faults.specs.RecoverLaw.{MadeBy}
use Rattle.faults.proofs.Grown.{Grown, newest, step_grown, whole_grown, whole_newest}
use Rattle.faults.proofs.Grown.Grown.{more, same}

-- ONE BYTE OF A STRETCH

pub stretch_go : (p : ℕ) (r r' : Reader) (b : ℕ) (bs : List ℕ) → step r b ≡ go r' → stretch p r (b ∷ bs) ≡ stretch (suc p) r' bs
unfolding stretch
stretch_go p r r' b bs e = rw (e, stretch)

pub stretch_refuse : (p : ℕ) (r : Reader) (k : FileRefusal) (b : ℕ) (bs : List ℕ) → step r b ≡ refuse k → stretch p r (b ∷ bs) ≡ to_refusal k p (whole_macros r)
unfolding stretch
stretch_refuse p r k b bs e = rw (e, stretch)

pub stretch_before : (p : ℕ) (r : Reader) (k : FileRefusal) (n b : ℕ) (bs : List ℕ) → step r b ≡ refuse_before k n
    → stretch p r (b ∷ bs) ≡ to_refusal k (p - n) (whole_macros r)
unfolding stretch
stretch_before p r k n b bs e = rw (e, stretch)

-- WHERE THE MACROS HAD BEEN MADE

-- the bytes u, read from `start` on up to r, begin with some behind which the reader is between macros, with those that are whole in r
pub record Began (start : Reader) (u : List ℕ) (r : Reader) : Type 0 where
  pub front : List ℕ
  pub back : List ℕ
  pub pending : Pending
  pub stands : u ≡ front ++ back
  pub read : after start front ≡ go (between false pending (newest r))

began_one : (start : Reader) (u : List ℕ) (b : ℕ) (r r' : Reader) → after start u ≡ go r → Began start u r → step r b ≡ go r' → Began start (u ++ (b ∷ [])) r'
began_one start u b r r' e g f = by (step_grown r r' b f)
  where
    by : Grown r r' → Began start (u ++ (b ∷ [])) r'
    by (same h) = record {
      front = g.front;
      back = g.back ++ (b ∷ []);
      pending = g.pending;
      stands = ap (λ y. y ++ (b ∷ [])) g.stands ∙ append_assoc g.front g.back (b ∷ []);
      read = g.read ∙ ap (λ y. go (between false g.pending y)) (sym h);
    }
    by (more m h) =
        subst (λ y. Began start (u ++ (b ∷ [])) y) (sym h)
        (record {
          front = u ++ (b ∷ []);
          back = [];
          pending = clear;
          stands = sym (append-nil (u ++ (b ∷ [])));
          read = unfold newest in after_one u start r (between false clear (m ∷ newest r)) b e (f ∙ ap go h);
        })

pub whole_between : (a : Pending) (ks : Table) → whole_macros (between false a (reverse ks)) ≡ ks
unfolding whole_macros
whole_between a ks = reverse-reverse ks

-- WHAT A STRETCH IS

-- of the bytes t, which stand at place p of a file, read onto a table
pub data Seen (older : Table) (t : List ℕ) (p : ℕ) : Stretch → Type 0 where
  ended : {ms : Table} → read_onto older t ≡ table ms → Seen older t p (to_end ms)
  stopped : {r : FileRefusal} {n : ℕ} {ms : Table} → read_onto older t ≡ refused_at r n → n ≤ length t → MadeBy older t n ms
      → Seen older t p (to_refusal r (p + n) ms)

front_length : {s r : Reader} {u : List ℕ} (g : Began s u r) → length g.front ≤ length u
front_length {u = u} g = let l : length u ≡ length g.front + length g.back = ap length g.stands ∙ length-append g.front g.back in omega arith

module _ (older : Table) (t : List ℕ) (plain : Plain t) (p : ℕ) where
  abbrev start : Reader
  start = between false clear (reverse older)

  -- the macros of a reader were made by any place behind where the last was
  made : (u v : List ℕ) (r : Reader) (n : ℕ) → t ≡ u ++ v → after start u ≡ go r → (g : Began start u r) → length g.front ≤ n → n ≤ length u
      → MadeBy older t n (whole_macros r)
  made u v r n z e g l m = record { is_read = (length g.front, l, first); none_lost = λ k ks i f. start_of k ks i f }
    where
      front_plain : Plain g.front
      front_plain = plain_front g.front (g.back ++ v) (rw (z, g.stands, append_assoc g.front g.back v) at plain)

      first : read_onto older (take (length g.front) t) ≡ table (whole_macros r)
      first =
          ap (λ (y : List ℕ). read_onto older (take (length g.front) y)) (z ∙ (ap (λ y. y ++ v) g.stands ∙ append_assoc g.front g.back v))
          ∙ (ap (read_onto older) (take-append_seam g.front (g.back ++ v))
          ∙ (read_plain older g.front front_plain ∙ (end_of g.front start g.pending (newest r) g.read ∙ ap table (sym (whole_newest r)))))

      start_of : (k : ℕ) (ks : Table) → k ≤ n → read_onto older (take k t) ≡ table ks → (new : Table) × (whole_macros r ≡ ks ++ new)
      start_of k ks i f =
          let s : take k t ≡ take k u = ap (take k) z ∙ take-append-le k u v (omega arith) in
          let j : u ≡ take k u ++ drop k u = sym (take-append-drop k u) in
          let q : Plain (take k u) = plain_front (take k u) (drop k u ++ v) (rw (z, j, append_assoc (take k u) (drop k u) v) at plain) in
          let x = table_after_lem (take k u) 0 start ks (sym (read_plain older (take k u) q) ∙ (ap (read_onto older) (sym s) ∙ f)) in
          let y : after (between false x.0 (reverse ks)) (drop k u) ≡ go r =
          sym (after_append (take k u) (drop k u) start (between false x.0 (reverse ks)) x.1) ∙ (ap (after start) (sym j) ∙ e) in
          let w = whole_grown (drop k u) (between false x.0 (reverse ks)) r y in
          (w.0, w.1 ∙ ap (λ a. a ++ w.0) (whole_between x.0 ks))

  -- plain reading from r on
  from_there : (u v : List ℕ) (r : Reader) → t ≡ u ++ v → after start u ≡ go r → read_onto older t ≡ read_from (length u) r v
  from_there u v r z e =
      let y : 0 + length u ≡ length u = omega arith in
      read_plain older t plain ∙ (ap (read_from 0 start) z ∙ (read_after u v 0 start r e ∙ ap (λ (k : ℕ). read_from k r v) y))

  part_length : (u v : List ℕ) → t ≡ u ++ v → length u ≤ length t
  part_length u v z = let l : length t ≡ length u + length v = ap length z ∙ length-append u v in omega arith

  -- at the file's end
  seen_end : (u : List ℕ) (r : Reader) → t ≡ u ++ [] → after start u ≡ go r → Began start u r → Seen older t p (at_file_end (whole_macros r) (at_end (p + length u) r))
  unfolding at_end at_file_end pick read_from_by
  seen_end u (between false a ms) z e g = ended (from_there u [] (between false a ms) z e)
  seen_end u (between true a ms) z e g = stopped (from_there u [] (between true a ms) z e) (part_length u [] z) (made u [] (between true a ms) (length u) z e g (front_length g) (omega arith))
  seen_end u (inside skip n st pr) z e g =
      stopped (from_there u [] (inside skip n st pr) z e) (part_length u [] z) (made u [] (inside skip n st pr) (length u) z e g (front_length g) (omega arith))

  -- at the `(` of a call, the macros were made by the place of its sign
  sign_began : (u : List ℕ) (r : Reader) (b : ℕ) (k : FileRefusal) (n : ℕ) → Pends start u r → AtCall r b k n → (g : Began start u r) × (length g.front ≤ length u - n)
  sign_began u r b k n w c = subst (λ y. (g : Began start u y) × (length g.front ≤ length u - n)) (sym c.reader) (there, before_place)
    where
      x : Signed start u false c.mark c.since c.macros
      x = subst (λ y. Pends start u y) c.reader w

      there : Began start u (between false (at_mark c.mark c.since) c.macros)
      there = record { front = x.before; back = mark_byte c.mark ∷ x.behind; pending = x.pending; stands = x.stands; read = unfold newest in x.read }

      far : ((k ≡ too_many_macros) × (n ≡ c.since)) ⊎ ((k ≡ macro_too_long) × (n + most_macro_bytes ≡ c.since)) → n ≤ c.since
      far (inl f) = omega (arith, f.1)
      far (inr f) = omega (arith, f.1)

      before_place : length x.before ≤ length u - n
      before_place = let l = signed_length x in let m = far c.fault in omega arith

  seen_from : (v u : List ℕ) (r : Reader) → t ≡ u ++ v → after start u ≡ go r → Pends start u r → Began start u r → Seen older t p (stretch (p + length u) r v)
  unfolding stretch
  seen_from [] u r z e w g = seen_end u r z e g
  seen_from (b ∷ v) u r z e w g =
      by (step r b) refl
      (λ x f. seen_from v (u ++ (b ∷ [])) x (z ∙ sym (append_assoc u (b ∷ []) v)) (after_one u start r x b e f) (pends_one start u b r x e w f) (began_one start u b r x e g f))
    where
      by : (y : Next) → step r b ≡ y → ((x : Reader) → step r b ≡ go x → Seen older t p (stretch (p + length (u ++ (b ∷ []))) x v))
          → Seen older t p (stretch (p + length u) r (b ∷ v))
      by (go x) f ih =
          let l : p + length (u ++ (b ∷ [])) ≡ suc (p + length u) = let k = length-append u (b ∷ []) in omega arith in
          subst (Seen older t p) (sym (stretch_go (p + length u) r x b v f)) (subst (λ (k : ℕ). Seen older t p (stretch k x v)) l (ih x f))
      by (refuse k) f ih =
          subst (Seen older t p) (sym (stretch_refuse (p + length u) r k b v f))
          (stopped (from_there u (b ∷ v) r z e ∙ read_refuse (length u) k r b v f) (part_length u (b ∷ v) z) (made u (b ∷ v) r (length u) z e g (front_length g) (omega arith)))
      by (refuse_before k n) f ih =
          let c = at_call r b k n f in
          let m : n ≤ length u = call_length start u r b k n w c in
          let l : p + length u - n ≡ p + (length u - n) = omega arith in
          let h = sign_began u r b k n w c in
          let j = part_length u (b ∷ v) z in
          subst (Seen older t p) (sym (stretch_before (p + length u) r k n b v f ∙ ap (λ (i : ℕ). to_refusal k i (whole_macros r)) l))
          (stopped (from_there u (b ∷ v) r z e ∙ read_refuse_before (length u) k n r b v f) (omega arith) (made u (b ∷ v) r (length u - n) z e h.0 h.1 (omega arith)))

  pub seen : Seen older t p (stretch p start t)
  unfolding after
  seen =
      let l : p + 0 ≡ p = omega arith in
      subst (λ (k : ℕ). Seen older t p (stretch k start t)) l
      (seen_from t [] start refl refl tt (record { front = []; back = []; pending = clear; stands = refl; read = unfold newest in refl }))
