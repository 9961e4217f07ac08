-- A pass does what demand 3 says of it.
use mathlib.Core.Path.{◌≡◌, refl, sym, ap, ◌∙◌, subst}
use mathlib.Core.Logic.{◌⊎◌, inl, inr, ◌↔◌}
use mathlib.Core.List.{List, [], ◌∷◌}
use mathlib.Core.Option.{Option, none, some}
use Prim.Native.Nat.{ℕ, zero, suc, ◌+◌, ◌-◌, ◌≤◌, ◌<◌}
use native.Mathlib.Nat.{eq-or-lt_of_le}
use native.Mathlib.Omega.{arith}
use borrow.Author.Tests.{eq-eqb, ne_eqb}
use lib.Dec.{eqb}
use lib.ListN.{length, drop, length-drop}
use lib.Seq.{slice}
use Rattle.macros.specs.Refusals.{WorkRefusal}
use Rattle.macros.specs.Macro.{Macro, pick}
use Rattle.lines.specs.State.{State}
use Rattle.lines.specs.Matching.{Division, Divides, end_of}
use Rattle.lines.specs.Replacing.{Work, Done, put, occur}
use Rattle.lines.specs.Replacing.Done.{bad, good}
use Rattle.lines.specs.Pass.{Walk, ended, occurs, match, go_on, matched, at_end, onward, at_byte, walk, pass, outcome}
use Rattle.lines.specs.Steps.{Copied, steps_of, ComesTo}
use Rattle.lines.specs.Demand.{onward_from, NoneAhead, Stands, Full, behind, Walks, EndsIn, FailsIn}
use Rattle.lines.proofs.CopyLaws.{ends_on, ends_inside}
use Rattle.lines.proofs.MatchLaws.{Matches, match_matches}
use Rattle.lines.proofs.TagLaws.{tags_run}
use Rattle.lines.proofs.OccurLaws.{occur_steps}
use Rattle.lines.proofs.CopiedLaws.{copied_none, copied_append, put_full, put_copied, byte_inside, byte_rest, slice_next}

-- the end of a pass, joined to the demand's own notion
pub ends_in : (k : Walk) (v : Work) → (outcome k ≡ good v) ↔ EndsIn k v
unfolding outcome
ends_in (ended d) v = (λ e. e, λ e. e)
ends_in (occurs o k) v = ends_in k v

pub fails_in : (k : Walk) (r : WorkRefusal) (v : Work) → outcome k ≡ bad r v → FailsIn k r v
unfolding outcome
fails_in (ended d) r v e = e
fails_in (occurs o k) r v e = fails_in k r v e

-- what is shown of the walk from place p on, of which go is a part: at is the place that it tries next
abbrev Goes : Macro → List ℕ → ℕ → (ℕ → Option ℕ → Work → Walk) → Type 0
Goes m t p go =
    (skip : ℕ) (last : Option ℕ) (v w : Work) (from at : ℕ) → at ≡ p + skip → at ≤ length t → behind last ≤ at → from ≤ at
    → Copied (slice (behind last) at t) w v → NoneAhead (onward_from from last) at v.state m t → Walks m t (onward_from from last) w (go skip last v)

module _ (m : Macro) (t : List ℕ) (p : ℕ) (last : Option ℕ) (v w : Work) (from : ℕ) (inside : p ≤ length t) (ahead : from ≤ p)
    (now : Copied (slice (behind last) p t) w v) (before : NoneAhead (onward_from from last) p v.state m t) where
  -- none before p and none at p is none before the next place
  none_next : Matches (Divides v.state t m.pattern p) last p none → NoneAhead (onward_from from last) (suc p) v.state m t
  none_next h q l u d c f = go (eq-or-lt_of_le (let z : q ≤ p = omega arith in z))
    where
      go : (q ≡ p) ⊎ (q < p) → ⊥
      go (inl e) = h d (subst (λ (j : ℕ). Divides v.state t m.pattern j d) e c) (λ x y. f (x ∙ ap some (sym e)) (ap (λ (j : ℕ). end_of j d) e ∙ y ∙ sym e))
      go (inr g) = before q l g d c f

  -- a match, and what comes after it
  match_holds : (d : Division) (k : Work → Walk) → Matches (Divides v.state t m.pattern p) last p (some d)
      → ((x : Work) → Walks m t (onward_from (pick (eqb (end_of p d) p) (suc (end_of p d)) (end_of p d)) (some (end_of p d))) x (k x)) → Walks m t (onward_from from last) w (matched m t p d v k)
  unfolding matched go_on
  match_holds d k h ih = go (occur m t d v) refl
    where
      stands : Stands m t (onward_from from last) p d v.state
      stands = record { ahead = ahead; inside = inside; divides = h.0; counts = h.1; leftmost = before; most = h.2; tags = tags_run v.state t m.pattern p d h.0 }

      go : (a : Done) → occur m t d v ≡ a → Walks m t (onward_from from last) w (go_on a (λ x. occurs (record { place = p; division = d; before = v; after = x }) (k x)))
      go (bad r x) e = inl (record { place = p; division = d; before = v; copied = now; stands = stands; breaks = subst (ComesTo (steps_of m t d) v) e (occur_steps m t d v) })
      go (good x) e = (now, record { stands = stands; acts = subst (ComesTo (steps_of m t d) v) e (occur_steps m t d v) }, ih x)

  end_holds : p ≡ length t → (a : Option Division) → Matches (Divides v.state t m.pattern p) last p a → Walks m t (onward_from from last) w (at_end m t p v a)
  unfolding at_end pick
  end_holds z none h = (subst (λ (j : ℕ). Copied (slice (behind last) j t) w v) z now, λ q l u. none_next h q l (omega arith))
  end_holds z (some d) h =
      match_holds d (λ x. ended (good x)) h
      (λ x. rw (eq-eqb (end_of p d) p at) (copied_none t (length t) (end_of p d) x (at ∙ z), λ q l u d₁ c. absurd (omega (arith, at))))
    where
      at : end_of p d ≡ p
      at =
          let a : p ≤ end_of p d = ends_on v.state t m.pattern p d h.0 in
          let b : end_of p d ≤ length t = ends_inside v.state t m.pattern p d inside h.0 in
          omega arith

-- the byte b is copied, and the walk goes on after it
module _ (m : Macro) (t : List ℕ) (p b : ℕ) (bs : List ℕ) (e : b ∷ bs ≡ drop p t) where
  byte_holds : (go : ℕ → Option ℕ → Work → Walk) → Goes m t (suc p) go → (last : Option ℕ) (v w : Work) (from : ℕ) → behind last ≤ p → from ≤ suc p
      → Copied (slice (behind last) p t) w v → NoneAhead (onward_from from last) (suc p) v.state m t → Walks m t (onward_from from last) w (go_on (put b v) (λ x. go zero last x))
  unfolding go_on
  byte_holds go goes last v w from reached ahead now none-up = each (put b v) refl
    where
      each : (a : Done) → put b v ≡ a → Walks m t (onward_from from last) w (go_on a (λ x. go zero last x))
      each (bad r x) h =
          let f = put_full b v r x h in
          inr (subst (λ (y : Work). Full m t (onward_from from last) w r y) (sym f.0)
          (record { place = p; reached = reached; inside = byte_inside t p b bs e; copied = now; no_match = none-up; full = f.1; number = f.2 }))
      each (good x) h =
          let c : Copied (b ∷ []) v x = put_copied b v x h in
          let i : p < length t = byte_inside t p b bs e in
          goes zero last x w from (suc p) (omega arith) i (omega arith) ahead
          (subst (λ (s : List ℕ). Copied s w x) (sym (slice_next t p b bs e (behind last) reached)) (copied_append (slice (behind last) p t) (b ∷ []) w v x now c))
          (subst (λ (s : State). NoneAhead (onward_from from last) (suc p) s m t) (sym c.state) none-up)

  -- after a match that is, or is not, empty
  onward_holds : (go : ℕ → Option ℕ → Work → Walk) → Goes m t (suc p) go → (q : ℕ) → p ≤ q → q ≤ length t → (k : ℕ) → q - p ≡ k → (x : Work)
      → Walks m t (onward_from (pick (eqb q p) (suc q) q) (some q)) x (onward q b k go x)
  unfolding onward pick
  onward_holds go goes q l i zero z x =
      let a : q ≡ p = omega arith in
      rw (eq-eqb q p a) (byte_holds go goes (some q) x x (suc q) (omega arith) (omega arith) (copied_none t p q x a) (λ r u y d c f. absurd (omega arith)))
  onward_holds go goes q l i (suc k) z x =
      rw (ne_eqb q p (λ a. omega arith))
      (goes k (some q) x x q q (omega arith) i (omega arith) (omega arith) (copied_none t q q x refl) (λ r u y d c f. absurd (omega arith)))

  at_byte_lem : (go : ℕ → Option ℕ → Work → Walk) → Goes m t (suc p) go → (last : Option ℕ) (v w : Work) (from : ℕ) → behind last ≤ p → from ≤ p
      → Copied (slice (behind last) p t) w v → NoneAhead (onward_from from last) p v.state m t → (a : Option Division) → Matches (Divides v.state t m.pattern p) last p a
      → Walks m t (onward_from from last) w (at_byte m t p b last v go a)
  unfolding at_byte
  at_byte_lem go goes last v w from reached ahead now before none h =
      let i : p < length t = byte_inside t p b bs e in
      byte_holds go goes last v w from reached (omega arith) now (none_next m t p last v w from (omega arith) ahead now before h)
  at_byte_lem go goes last v w from reached ahead now before (some d) h =
      let i : p < length t = byte_inside t p b bs e in
      match_holds m t p last v w from (omega arith) ahead now before d (onward (end_of p d) b (end_of p d - p) go) h
      (onward_holds go goes (end_of p d) (ends_on v.state t m.pattern p d h.0) (ends_inside v.state t m.pattern p d (omega arith) h.0) (end_of p d - p) refl)

-- the match, where the line has the bytes s from place p on
match_here : (st : State) (m : Macro) (t s : List ℕ) (last : Option ℕ) (p : ℕ) → s ≡ drop p t → Matches (Divides st t m.pattern p) last p (match st m.pattern last p s)
match_here st m t s last p e = subst (λ (l : List ℕ). Matches (Divides st t m.pattern p) last p (match st m.pattern last p l)) (sym e) (match_matches st m.pattern t last p)

walk_holds : (m : Macro) (t s : List ℕ) (p : ℕ) → p ≤ length t → s ≡ drop p t → Goes m t p (λ skip last v. walk m t skip last p v s)
unfolding walk
walk_holds m t [] p inside e skip last v w from at z l reached ahead now before =
    let a : 0 ≡ length t - p = ap length e ∙ length-drop p t in
    let b : at ≡ p = omega arith in
    end_holds m t p last v w from inside (omega arith) (subst (λ (j : ℕ). Copied (slice (behind last) j t) w v) b now)
    (λ q c f. before q c (omega arith)) (omega arith) (match v.state m.pattern last p []) (match_here v.state m t [] last p e)
walk_holds m t (b ∷ bs) p inside e (suc skip) last v w from at z l reached ahead now before =
    walk_holds m t bs (suc p) (byte_inside t p b bs e) (byte_rest t p b bs e) skip last v w from at (omega arith) l reached ahead now before
walk_holds m t (b ∷ bs) p inside e zero last v w from at z l reached ahead now before =
    let c : at ≡ p = omega arith in
    at_byte_lem m t p b bs e (λ skip k x. walk m t skip k (suc p) x bs) (walk_holds m t bs (suc p) (byte_inside t p b bs e) (byte_rest t p b bs e))
    last v w from (omega arith) (omega arith) (subst (λ (j : ℕ). Copied (slice (behind last) j t) w v) c now) (λ q f h. before q f (omega arith))
    (match v.state m.pattern last p (b ∷ bs)) (match_here v.state m t (b ∷ bs) last p e)

-- THE LAW
pub pass_walks : (m : Macro) (t : List ℕ) (st : State) → Walks m t (onward_from 0 none) (record { out = []; size = 0; state = st }) (pass m t st)
unfolding pass
pass_walks m t st =
    walk_holds m t t 0 (omega arith) refl 0 none (record { out = []; size = 0; state = st }) (record { out = []; size = 0; state = st }) 0 0 refl (omega arith) (omega arith) (omega arith)
    (copied_none t 0 0 (record { out = []; size = 0; state = st }) refl) (λ q l u. absurd (omega arith))
