-- The laws of specs/ReadBounds.antt: byte for byte the smaller bound does the same, or stops with 16 behind a text of its length.
use mathlib.Core.Path.{◌≡◌, refl, ap, subst}
use mathlib.Core.Bool.{Bool, true, false, not, ◌&&◌}
use mathlib.Core.Logic.{◌⊎◌, inl, inr}
use mathlib.Core.List.{List, [], ◌∷◌, reverse}
use mathlib.Core.Option.{Option, none, some}
use Prim.Native.Nat.{ℕ, suc, ◌-◌, ◌≤◌}
use native.Mathlib.Omega.{arith}
use lib.Dec.{ltb}
use lib.ListN.{length}
use borrow.Author.Tests.{lt-ltb, ltb-true, ltb-false}
use Rattle.macros.specs.Quoted.{◌is◌}
use Rattle.macros.specs.Bounds.{most_file_bytes}
use Rattle.macros.specs.Refusals.FileRefusal.{file_too_long, zero_byte, incomplete, bad_call}
use Rattle.macros.specs.Macro.{Move, Table, pick}
use Rattle.macros.specs.Read.{CallSite, Part, Step, Prior, Reader, Next, Read, breaks, skips, count, taken, first_zero}
use Rattle.macros.specs.Read.{text_byte_by, part_byte_by, step_by, read_from_by, read_onto_by}
use Rattle.macros.specs.ReadSoFar.Phase.{texted}
use Rattle.macros.specs.ReadSoFar.Part.{pattern, pattern_escape, opened, members, members_escape, pattern_call, pattern_called}
use Rattle.macros.specs.ReadSoFar.Part.{calls, await_symbol, await_quote}
use Rattle.macros.specs.ReadSoFar.Part.{replacement, replacement_escape, tag_number, calling, call_text, call_text_escape, commands}
use Rattle.macros.specs.ReadSoFar.Step.{on, stop}
use Rattle.macros.specs.ReadFile.Pending.{clear}
use Rattle.macros.specs.ReadFile.Reader.{between, inside}
use Rattle.macros.specs.ReadFile.Next.{go, refuse, refuse_before}
use Rattle.macros.specs.ReadFile.Read.{refused_at}
use Rattle.macros.specs.ReadBounds.{AtBound, StepsAlike, SmallerBound}

-- what reading comes to behind a byte
abbrev behind_byte : (longest p : ℕ) → List ℕ → Next → Read
behind_byte longest p s v =
    elim v [ go r ↦ read_from_by longest (suc p) r s | refuse k ↦ refused_at k p | refuse_before k j ↦ refused_at k (p - j) ]

-- two readings are the same, or the first is refused with 16
abbrev Alike : Read → Read → Type 0
Alike x y = (x ≡ y) ⊎ ((p : ℕ) × (x ≡ refused_at bad_call p))

-- a part is a call's text that has n bytes or more
abbrev FullText : ℕ → Part → Type 0
FullText n st = (pl : CallSite) × (i : ℕ) × (v : Move) × (t : List ℕ) × (st ≡ call_text pl i v t) × (n ≤ length t)

module _ (n m : ℕ) (l : n ≤ m) where
  text_alike : (pl : CallSite) (i : ℕ) (v : Move) (t : List ℕ) (b : ℕ)
      → (text_byte_by n pl i v t b ≡ text_byte_by m pl i v t b) ⊎ ((n ≤ length t) × (text_byte_by n pl i v t b ≡ stop bad_call))
  unfolding text_byte_by pick
  text_alike pl i v t b = by (b is ":") (breaks b) (ltb (length t) n) refl
    where
      room : Step
      room = pick (b is "\\") (on (call_text_escape pl i v t)) (on (call_text pl i v (b ∷ t)))

      by : (c d e : Bool) → ltb (length t) n ≡ e
          → (pick c (on (calling pl (texted i v t))) (pick d (stop incomplete) (pick e room (stop bad_call)))
          ≡ pick c (on (calling pl (texted i v t))) (pick d (stop incomplete) (pick (ltb (length t) m) room (stop bad_call))))
          ⊎ ((n ≤ length t) × (pick c (on (calling pl (texted i v t))) (pick d (stop incomplete) (pick e room (stop bad_call))) ≡ stop bad_call))
      by true d e f = inl refl
      by false true e f = inl refl
      by false false true f = inl (rw (lt-ltb (length t) m (omega (arith, ltb-true (length t) n f))) refl)
      by false false false f = inr (ltb-false (length t) n f, refl)

  part_alike : (st : Part) (b : ℕ) → (part_byte_by n st b ≡ part_byte_by m st b) ⊎ (FullText n st × (part_byte_by n st b ≡ stop bad_call))
  unfolding part_byte_by
  part_alike (calls a cs) b = inl refl
  part_alike (pattern h ps) b = inl refl
  part_alike (pattern_escape ps) b = inl refl
  part_alike (opened ps) b = inl refl
  part_alike (members ps neg k ms) b = inl refl
  part_alike (members_escape ps neg k ms) b = inl refl
  part_alike (pattern_call k ps) b = inl refl
  part_alike (pattern_called k ps i) b = inl refl
  part_alike (await_symbol ps) b = inl refl
  part_alike (await_quote f) b = inl refl
  part_alike (replacement a f as₁) b = inl refl
  part_alike (replacement_escape f as₁) b = inl refl
  part_alike (tag_number k f as₁) b = inl refl
  part_alike (calling pl ph) b = inl refl
  part_alike (call_text pl i v t) b = by (text_alike pl i v t b)
    where
      by : (text_byte_by n pl i v t b ≡ text_byte_by m pl i v t b) ⊎ ((n ≤ length t) × (text_byte_by n pl i v t b ≡ stop bad_call))
          → (text_byte_by n pl i v t b ≡ text_byte_by m pl i v t b) ⊎ (FullText n (call_text pl i v t) × (text_byte_by n pl i v t b ≡ stop bad_call))
      by (inl e) = inl e
      by (inr e) = inr ((pl, i, v, t, refl, e.0), e.1)
  part_alike (call_text_escape pl i v t) b = inl refl
  part_alike (commands a f as₁ cs) b = inl refl

  step_alike : (r : Reader) (b : ℕ) → (step_by n r b ≡ step_by m r b) ⊎ (AtBound n r × (step_by n r b ≡ refuse bad_call))
  unfolding step_by pick taken
  step_alike (between skip a ms) b = inl refl
  step_alike (inside skip k st pr) b = by (skips st && b is "/") skip (part_alike st b)
    where
      by : (c d : Bool) → (part_byte_by n st b ≡ part_byte_by m st b) ⊎ (FullText n st × (part_byte_by n st b ≡ stop bad_call))
          → (pick c (count k (inside (not skip) (suc k) st pr)) (pick d (count k (inside true (suc k) st pr)) (taken k pr (part_byte_by n st b)))
          ≡ pick c (count k (inside (not skip) (suc k) st pr)) (pick d (count k (inside true (suc k) st pr)) (taken k pr (part_byte_by m st b))))
          ⊎ (AtBound n (inside skip k st pr)
          × (pick c (count k (inside (not skip) (suc k) st pr)) (pick d (count k (inside true (suc k) st pr)) (taken k pr (part_byte_by n st b)))
          ≡ refuse bad_call))
      by true d h = inl refl
      by false true h = inl refl
      by false false (inl e) = inl (ap (taken k pr) e)
      by false false (inr e) =
          inr (
            record {
              skip = skip;
              counted = k;
              site = e.0.0;
              letter = e.0.1;
              move = e.0.2;
              text = e.0.3;
              prior = pr;
              reading = ap (λ (x : Part). inside skip k x pr) e.0.4;
              full = e.0.5;
            },
            ap (taken k pr) e.1,
          )

  from_alike : (s : List ℕ) (p : ℕ) (r : Reader) → Alike (read_from_by n p r s) (read_from_by m p r s)
  unfolding read_from_by
  from_alike [] p r = inl refl
  from_alike (b ∷ s) p r = by (step_alike r b) (λ q. from_alike s (suc p) q)
    where
      same : ((q : Reader) → Alike (read_from_by n (suc p) q s) (read_from_by m (suc p) q s)) → (v : Next)
          → Alike (behind_byte n p s v) (behind_byte m p s v)
      same ih (go q) = ih q
      same ih (refuse k) = inl refl
      same ih (refuse_before k j) = inl refl

      by : (step_by n r b ≡ step_by m r b) ⊎ (AtBound n r × (step_by n r b ≡ refuse bad_call))
          → ((q : Reader) → Alike (read_from_by n (suc p) q s) (read_from_by m (suc p) q s))
          → Alike (behind_byte n p s (step_by n r b)) (behind_byte m p s (step_by m r b))
      by (inl e) ih = subst (λ (v : Next). Alike (behind_byte n p s (step_by n r b)) (behind_byte m p s v)) e (same ih (step_by n r b))
      by (inr e) ih = inr (p, ap (behind_byte n p s) e.1)

-- THE LAW, of one byte
pub steps_alike : StepsAlike
steps_alike n m l r b = step_alike n m l r b

-- THE LAW
pub smaller_bound : SmallerBound
unfolding read_onto_by pick
smaller_bound n m l older s = by (ltb most_file_bytes (length s)) (first_zero 0 s)
  where
    whole : (longest : ℕ) (x : Bool) (o : Option ℕ) → Read
    whole longest x o =
        pick x (refused_at file_too_long most_file_bytes)
        (elim o [ none ↦ read_from_by longest 0 (between false clear (reverse older)) s | some p ↦ refused_at zero_byte p ])

    by : (x : Bool) (o : Option ℕ) → Alike (whole n x o) (whole m x o)
    by true o = inl refl
    by false (some p) = inl refl
    by false none = from_alike n m l s 0 (between false clear (reverse older))
