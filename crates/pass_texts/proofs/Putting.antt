-- A text joins the new line.
use Prim.Native.Nat.{ℕ, ◌+◌, ◌-◌, ◌≤◌, ◌<◌}
use mathlib.Core.Path.{◌≡◌, refl, sym, ap, ◌∙◌, subst}
use mathlib.Core.List.{List, [], ◌∷◌, ◌++◌, append_assoc, append-nil}
use native.Mathlib.Omega.{arith}
use borrow.Author.Tests.{le-leb, lt-leb}
use lib.ListN.{length, take, drop}
use lib.Seq.{paste, take-paste, drop-paste, take-length}
use Rattle.macros.specs.Bounds.{most_line_bytes}
use Rattle.lines.specs.Replacing.{unless, onto, puts}
use Rattle.lines.specs.Line.{text_of}
use Rattle.pass_steps.specs.Moments.{Room, Inserts}
use Rattle.refusals.specs.declared.WorkFault.TheVariants.{NewLineTooLong}
use Rattle.refusals.specs.declared.WorkError.{WorkError}
use Rattle.std.specs.Prelude.{Result, Ok, Err}

ontos : (l o r : List ℕ) → onto (onto l o) r ≡ onto o (l ++ r)
unfolding onto
ontos [] o r = refl
ontos (b ∷ l) o r = ontos l (b ∷ o) r

onto_end : (o r : List ℕ) → onto o r ≡ onto o [] ++ r
unfolding onto
onto_end [] r = refl
onto_end (b ∷ o) r = onto_end o (b ∷ r) ∙ sym (append_assoc (onto o []) (b ∷ []) r) ∙ ap (λ (x : List ℕ). x ++ r) (sym (onto_end o (b ∷ [])))

joined : (l o : List ℕ) → onto (onto l o) [] ≡ onto o [] ++ l
joined l o = ontos l o [] ∙ ap (onto o) (append-nil l) ∙ onto_end o l

pub inserts_by : {bytes bytes₁ out out₁ : List ℕ} {k : ℕ} {r : Result ℕ WorkError} → bytes ≡ bytes₁ → Inserts bytes out k out₁ r → Inserts bytes₁ out k out₁ r
inserts_by {out = out} {out₁ = out₁} {k = k} {r = r} e p = subst (λ (x : List ℕ). Inserts x out k out₁ r) e p

pub put_refused : {bytes out : List ℕ} {k : ℕ} → Room out k → 1054 - k < length bytes → Inserts bytes out k out (Err (record { fault = NewLineTooLong; size = k }))
unfolding puts unless
put_refused {bytes} {out} {k} r h =
    record {
      does = λ b s.
          record {
            comes = λ w m. (w, rw (lt-leb (w.size + length bytes) most_line_bytes (let z = m.size in let y = r.fits in omega arith)), m);
            state = s;
            grows = omega arith;
            fits = r.fits;
            past = refl;
          };
    }

pub put_made : {bytes out out₁ : List ℕ} {k : ℕ} → Room out k → length bytes ≤ 1054 - k → out₁ ≡ paste out k bytes (length bytes) → Inserts bytes out k out₁ (Ok (k + length bytes))
unfolding puts unless text_of
put_made {bytes} {out} {out₁} {k} r h e =
    let f = r.fits in
    let g = r.room in
    let taken : take (k + length bytes) out₁ ≡ take k out ++ bytes =
    ap (take (k + length bytes)) e ∙ take-paste out k bytes (length bytes) (omega arith) (omega arith) ∙ ap (λ (x : List ℕ). take k out ++ x) (take-length bytes) in
    record {
      does = λ b s.
          record {
            comes = λ w m.
                let z = m.size in (
                  record { out = onto bytes w.out; size = w.size + length bytes; state = w.state },
                  rw (le-leb (w.size + length bytes) most_line_bytes (omega arith)),
                  record {
                    line = joined bytes w.out ∙ ap (λ (x : List ℕ). x ++ bytes) m.line ∙ sym taken;
                    size = omega arith;
                    state = m.state;
                  },
                );
            state = s;
            grows = omega arith;
            fits = omega arith;
            past = ap (drop (k + length bytes)) e ∙ drop-paste out k bytes (length bytes) (omega arith) (omega arith);
          };
    }
