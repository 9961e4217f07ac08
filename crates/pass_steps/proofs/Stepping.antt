-- Steps from one moment to the next, and how they compose.
use Prim.Native.Nat.{ℕ, ◌+◌, ◌-◌, ◌≤◌}
use mathlib.Core.Path.{◌≡◌, refl, sym, ap, ◌∙◌, subst}
use mathlib.Core.List.{List, []}
use native.Mathlib.Omega.{arith}
use lib.ListN.{take, drop}
use lib.Seq.{drop-drop}
use Rattle.macros.specs.Bounds.{most_line_bytes}
use Rattle.lines.specs.Replacing.{Work, Done, ◌>>=◌, onto}
use Rattle.lines.specs.Replacing.Done.{bad, good}
use Rattle.lines.specs.Line.{text_of}
use Rattle.form_state.specs.Access.{Holds, IsState, OfWork}
use Rattle.refusals.specs.Faults.{refusal_of}
use Rattle.pass_steps.specs.Moments.{size_of, Does, Kept, Changes}
use Rattle.std.specs.Prelude.{Result, Ok, Err}
use Rattle.refusals.specs.declared.WorkFault.{WorkFault}
use Rattle.refusals.specs.declared.WorkError.{WorkError}

-- ONE AFTER THE OTHER

past_on : (a b : List ℕ) {j k : ℕ} → j ≤ k → drop j a ≡ drop j b → drop k a ≡ drop k b
past_on a b {j} {k} h e =
    let n : j + (k - j) ≡ k = omega arith in
    subst (λ (i : ℕ). drop i a ≡ drop i b) n (sym (drop-drop (k - j) j a) ∙ ap (drop (k - j)) e ∙ drop-drop (k - j) j b)

pub does_then : {f g : Work → Done} {k j : ℕ} {out b out₁ b₁ out₂ b₂ : List ℕ} {s : Result ℕ WorkError} → Does f out b k out₁ b₁ (Ok j) → Does g out₁ b₁ j out₂ b₂ s → Does (λ w. f w >>= g) out b k out₂ b₂ s
does_then {g = g} {j = j} {out} {out₁ = out₁} {s = s} p q =
    let z : j ≤ size_of s = q.grows in
    record {
      comes = λ w m. let x = p.comes w m in let y = q.comes x.0 x.2 in (y.0, ap (λ (a : Done). a >>= g) x.1 ∙ y.1, y.2);
      state = q.state;
      grows = let y = p.grows in omega arith;
      fits = q.fits;
      past = q.past ∙ past_on out₁ out z p.past;
    }

pub does_stop : (g : Work → Done) {f : Work → Done} {k : ℕ} {out b out₁ b₁ : List ℕ} {e : WorkError} → Does f out b k out₁ b₁ (Err e) → Does (λ w. f w >>= g) out b k out₁ b₁ (Err e)
does_stop g p =
    record {
      comes = λ w m. let x = p.comes w m in (x.0, ap (λ (a : Done). a >>= g) x.1, x.2);
      state = p.state;
      grows = p.grows;
      fits = p.fits;
      past = p.past;
    }

-- the same step by another name
pub does_by : {f g : Work → Done} {k : ℕ} {out b out₁ b₁ : List ℕ} {r : Result ℕ WorkError} → ((w : Work) → g w ≡ f w) → Does f out b k out₁ b₁ r → Does g out b k out₁ b₁ r
does_by h p = record { comes = λ w m. let x = p.comes w m in (x.0, h w ∙ x.1, x.2); state = p.state; grows = p.grows; fits = p.fits; past = p.past }

-- nothing is done
pub does_none : {k : ℕ} {out b : List ℕ} → IsState b → k ≤ most_line_bytes → Does good out b k out b (Ok k)
does_none s h = record { comes = λ w m. (w, refl, m); state = s; grows = omega arith; fits = h; past = refl }

-- CHANGES OF THE STATE

pub changes_by : {f g : Work → Done} {b b₁ : List ℕ} {k : ℕ} {r : Result ℕ WorkError} → ((w : Work) → g w ≡ f w) → Changes f b k b₁ r → Changes g b k b₁ r
changes_by h p = record { comes = λ w g. let x = p.comes w g in (x.0, h w ∙ x.1, x.2, x.3); state = p.state; size = p.size }

pub changes_does : {f : Work → Done} {b b₁ : List ℕ} {k : ℕ} {r : Result ℕ WorkError} (out : List ℕ) → Changes f b k b₁ r → k ≤ most_line_bytes → Does f out b k out b₁ r
unfolding text_of
changes_does {k = k} {r = r} out p h =
    let z : size_of r ≡ k = p.size in
    record {
      comes = λ w m.
          let x = p.comes w m.state in (
            x.0,
            x.1,
            record {
              line = ap (λ (o : List ℕ). onto o []) x.2.out ∙ m.line ∙ ap (λ (j : ℕ). take j out) (sym z);
              size = x.2.size ∙ m.size ∙ sym z;
              state = x.3;
            },
          );
      state = p.state;
      grows = omega arith;
      fits = omega arith;
      past = refl;
    }

pub changes_none : {b : List ℕ} {k : ℕ} → IsState b → Changes good b k b (Ok k)
changes_none s = record { comes = λ w h. (w, refl, record { out = refl; size = refl }, h); state = s; size = refl }

-- a refusal leaves the moment that it finds
pub changes_refused : {f : Work → Done} {b : List ℕ} {k : ℕ} (fault : WorkFault) → IsState b → ((w : Work) → Holds b w.state → f w ≡ bad (refusal_of fault) w) → Changes f b k b (Err (record { fault = fault; size = k }))
changes_refused fault s e = record { comes = λ w h. (w, e w h, record { out = refl; size = refl }, h); state = s; size = refl }

-- a store makes the moment g
pub changes_made : {f : Work → Done} {b b₁ : List ℕ} {k : ℕ} (g : Work → Work) → IsState b → ((w : Work) → Holds b w.state → f w ≡ good (g w)) → ((w : Work) → Kept w (g w))
    → OfWork b (λ w. Holds b₁ (g w).state) → Changes f b k b₁ (Ok k)
changes_made g s e kept held =
    record {
      comes = λ w h. (g w, e w h, kept w, held w h);
      state = ((g (record { out = []; size = 0; state = s.0 })).state, held (record { out = []; size = 0; state = s.0 }) s.1);
      size = refl;
    }
