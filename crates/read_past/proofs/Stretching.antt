-- The law of specs/StretchLaw, proved; and what reading past faults comes to, by what comes next.
-- Assumes nothing.
use mathlib.Core.Path.{◌≡◌, refl, ap, sym, ◌∙◌}
use mathlib.Core.Bool.{true, false}
use mathlib.Core.List.{List, [], ◌∷◌, ◌++◌, reverse, reverse-append, reverse-reverse}
use Prim.Native.Nat.{ℕ, suc, ◌-◌}
use lib.ListN.{drop}
use Rattle.macros.specs.Refusals.{FileRefusal}
use Rattle.macros.specs.Macro.{Macro, Table, pick}
use Rattle.macros.specs.Read.{Reader, Next, step, at_end}
use Rattle.macros.specs.ReadFile.Pending.{clear}
use Rattle.macros.specs.ReadFile.Reader.{between, inside}
use Rattle.macros.specs.ReadFile.Next.{go, refuse, refuse_before}
use Rattle.faults.specs.Refusal.RecoverRefusal.{as_before}
use Rattle.faults.specs.Recover.{stretch, at_file_end, after_stretch, whole_macros, is_fault, recover_from}
use Rattle.faults.specs.Recover.Recovered.{kept, refused}
use Rattle.faults.specs.Recover.Stretch.{to_refusal}
use Rattle.faults.proofs.Grown.{newest, whole_newest, between_same, InMacro, in_macro}
use Rattle.faults.proofs.Grown.InMacro.{stays, ends}
use Rattle.faults.proofs.Stretches.{stretch_go, stretch_refuse, stretch_before}
use Rattle.faults.proofs.Exactly.{listed, recover_stretched}
use Rattle.read_start.specs.Next.{Coming, ends_at, next_by, next_from}
use Rattle.read_start.specs.Next.Coming.{macro_to, refused_at, no_more}
use Rattle.read_start.proofs.Coming.{next_by_lem, behind_drop}
use Rattle.read_past.specs.StretchLaw.{stretch_on, StretchNext}

module _ (s : List ℕ) where
  -- at the file's end
  end_by : (p : ℕ) (r : Reader) → at_file_end (whole_macros r) (at_end p r) ≡ stretch_on s (newest r) (ends_at p r)
  unfolding at_file_end whole_macros at_end stretch_on newest ends_at pick
  end_by p (between true a ms) = refl
  end_by p (between false a ms) = refl
  end_by p (inside k n st pr) = refl

  -- the bytes of the file from place p on
  stretch_by : (bs : List ℕ) (p : ℕ) (r : Reader) → bs ≡ drop p s → stretch p r bs ≡ stretch_on s (newest r) (next_by p r bs)
  unfolding stretch next_by
  stretch_by [] p r e = end_by p r
  stretch_by (b ∷ bs) p (between k a ms) e = by (step (between k a ms) b) refl (λ x. stretch_by bs (suc p) x (behind_drop s p b bs e))
    where
      by : (y : Next) → step (between k a ms) b ≡ y → ((x : Reader) → stretch (suc p) x bs ≡ stretch_on s (newest x) (next_by (suc p) x bs))
          → stretch p (between k a ms) (b ∷ bs) ≡ stretch_on s (newest (between k a ms)) (next_by p (between k a ms) (b ∷ bs))
      by (go x) f ih =
          stretch_go p (between k a ms) x b bs f
          ∙ (ih x ∙ (ap (λ y. stretch_on s y (next_by (suc p) x bs)) (between_same k a ms x b f) ∙ (unfold newest in ap (stretch_on s ms) (sym (next_by_lem p b bs (between k a ms) (go x) f)))))
      by (refuse c) f ih =
          stretch_refuse p (between k a ms) c b bs f
          ∙ (ap (to_refusal c p) (whole_newest (between k a ms)) ∙ (unfold stretch_on in ap (stretch_on s (newest (between k a ms))) (sym (next_by_lem p b bs (between k a ms) (refuse c) f))))
      by (refuse_before c n) f ih =
          stretch_before p (between k a ms) c n b bs f
          ∙ (ap (to_refusal c (p - n)) (whole_newest (between k a ms)) ∙ (unfold stretch_on in ap (stretch_on s (newest (between k a ms))) (sym (next_by_lem p b bs (between k a ms) (refuse_before c n) f))))
  stretch_by (b ∷ bs) p (inside k n st pr) e = by (step (inside k n st pr) b) refl (λ x. stretch_by bs (suc p) x (behind_drop s p b bs e))
    where
      r : Reader
      r = inside k n st pr

      inner : (x : Reader) → InMacro pr x → step r b ≡ go x → stretch (suc p) x bs ≡ stretch_on s (newest x) (next_by (suc p) x bs)
          → stretch (suc p) x bs ≡ stretch_on s pr.macros (next_by p r (b ∷ bs))
      inner x (stays {skip = k'} {n = n'} {st = st'} {pr' = pr'} g) f i =
          i ∙ (unfold newest in ap (λ y. stretch_on s y (next_by (suc p) (inside k' n' st' pr') bs)) g ∙ ap (stretch_on s pr.macros) (sym (next_by_lem p b bs r (go (inside k' n' st' pr')) f)))
      inner x (ends m) f i =
          ap (stretch (suc p) (between false clear (m ∷ pr.macros))) (behind_drop s p b bs e)
          ∙ (unfold stretch_on in ap (stretch_on s pr.macros) (sym (next_by_lem p b bs r (go (between false clear (m ∷ pr.macros))) f)))

      by : (y : Next) → step r b ≡ y → ((x : Reader) → stretch (suc p) x bs ≡ stretch_on s (newest x) (next_by (suc p) x bs))
          → stretch p r (b ∷ bs) ≡ stretch_on s (newest r) (next_by p r (b ∷ bs))
      by (go x) f ih = stretch_go p r x b bs f ∙ (unfold newest in inner x (in_macro k n st pr x b f) f (ih x))
      by (refuse c) f ih =
          stretch_refuse p r c b bs f ∙ (ap (to_refusal c p) (whole_newest r) ∙ (unfold stretch_on in ap (stretch_on s (newest r)) (sym (next_by_lem p b bs r (refuse c) f))))
      by (refuse_before c j) f ih =
          stretch_before p r c j b bs f
          ∙ (ap (to_refusal c (p - j)) (whole_newest r) ∙ (unfold stretch_on in ap (stretch_on s (newest r)) (sym (next_by_lem p b bs r (refuse_before c j) f))))

pub stretch_next : StretchNext
unfolding next_from newest
stretch_next s p ms = stretch_by s (drop p s) p (between false clear ms) refl

-- WHAT A FILE COMES TO FROM A PLACE ON, BY WHAT COMES NEXT

module _ (s : List ℕ) (k p : ℕ) (ms : Table) where
  by_next : (o : Coming) → next_from s p (reverse ms) ≡ o → recover_from k s p ms ≡ after_stretch (listed s k) (stretch_on s (reverse ms) o)
  by_next o e = recover_stretched s k p ms ∙ ap (after_stretch (listed s k)) (stretch_next s p (reverse ms) ∙ ap (stretch_on s (reverse ms)) e)

  pub recover_macro : (z : ℕ) (m : Macro) → next_from s p (reverse ms) ≡ macro_to z m → recover_from k s p ms ≡ recover_from k s z (ms ++ (m ∷ []))
  unfolding stretch_on
  recover_macro z m e =
      by_next (macro_to z m) e
      ∙ (ap (λ y. after_stretch (listed s k) (stretch z (between false clear y) (drop z s))) (sym (reverse-append ms (m ∷ []))) ∙ sym (recover_stretched s k z (ms ++ (m ∷ []))))

  pub recover_end : next_from s p (reverse ms) ≡ no_more → recover_from k s p ms ≡ kept ms []
  unfolding stretch_on after_stretch
  recover_end e = by_next no_more e ∙ ap (λ y. kept y []) (reverse-reverse ms)

  pub recover_refused : (c : FileRefusal) (q : ℕ) → is_fault c ≡ false → next_from s p (reverse ms) ≡ refused_at c q → recover_from k s p ms ≡ refused (as_before c q)
  unfolding stretch_on after_stretch
  recover_refused c q f e = by_next (refused_at c q) e ∙ rw (f, after_stretch)

  pub recover_fault : (c : FileRefusal) (q : ℕ) → is_fault c ≡ true → next_from s p (reverse ms) ≡ refused_at c q → recover_from k s p ms ≡ listed s k c q ms
  unfolding stretch_on after_stretch listed
  recover_fault c q f e = by_next (refused_at c q) e ∙ (rw (f, after_stretch) (ap (listed s k c q) (reverse-reverse ms)))
