-- What an action inserts, by its code.
use Prim.Native.Nat.{ℕ, ◌-◌, ◌≤◌}
use mathlib.Core.Path.{◌≡◌, refl, sym, ap, ◌∙◌}
use mathlib.Core.List.{List}
use native.Mathlib.Omega.{arith}
use borrow.Author.Tests.{eq-eqb, ne_eqb}
use lib.ListN.{length, get_or, take, drop}
use lib.Seq.{drop-cons}
use Rattle.macros.specs.Macro.{pick}
use Rattle.macros.specs.Write.{digits}
use Rattle.lines.specs.State.{State, counter_of, current_entry, contents}
use Rattle.lines.specs.Replacing.{Work, Done, puts}
use Rattle.form_state.specs.Access.{Holds, IsState}
use Rattle.pass_texts.specs.Inserting.{contents_in, inserts_in}
use Rattle.pass_steps.specs.Moments.{Does, Inserts}
use Rattle.refusals.specs.declared.WorkError.{WorkError}
use Rattle.std.specs.Prelude.{Result}
use Rattle.pass_steps.proofs.Codes.{mark_counter, mark_stack}

-- the bytes are those that a step inserts in any state that the memory holds
pub puts_does : {f : Work → Done} {c : State → List ℕ} {bytes out out₁ b : List ℕ} {k : ℕ} {r : Result ℕ WorkError} → Inserts bytes out k out₁ r → IsState b → ((st : State) → Holds b st → bytes ≡ c st)
    → ((w : Work) → f w ≡ puts (c w.state) w) → Does f out b k out₁ b r
puts_does {b = b} p s e h =
    let q = p.does b s in
    record {
      comes = λ w m. let x = q.comes w m in (x.0, h w ∙ ap (λ (y : List ℕ). puts y w) (sym (e w.state m.state)) ∙ x.1, x.2);
      state = q.state;
      grows = q.grows;
      fits = q.fits;
      past = q.past;
    }

pub inserts_does : (tag t : List ℕ) {bytes out out₁ b : List ℕ} {k : ℕ} {r : Result ℕ WorkError} → Inserts bytes out k out₁ r → IsState b → ((st : State) → Holds b st → bytes ≡ contents_in tag t st)
    → Does (inserts_in tag t) out b k out₁ b r
unfolding inserts_in
inserts_does tag t p s e = puts_does {c = contents_in tag t} p s e (λ w. refl)

module _ (tag t : List ℕ) where
  pub byte_is : 2 ≤ length t → get_or t 0 0 ≡ 40 → (st : State) → take (2 - 1) (drop 1 t) ≡ contents_in tag t st
  unfolding contents_in pick
  byte_is h e st = rw (eq-eqb (get_or t 0 0) 40 e) (ap (take 1) (drop-cons t 1 0 (omega arith)))

  pub tag_is : get_or t 0 0 ≡ 41 → (st : State) → tag ≡ contents_in tag t st
  unfolding contents_in pick
  tag_is e st = rw (ne_eqb (get_or t 0 0) 40 (λ f. omega arith), eq-eqb (get_or t 0 0) 41 e)

  pub entry_is : (get_or t 0 0 ≡ 40 → ⊥) → (get_or t 0 0 ≡ 41 → ⊥) → (56 ≤ get_or t 0 0 → get_or t 0 0 ≤ 63 → ⊥) → (st : State) → current_entry st (get_or t 1 0) ≡ contents_in tag t st
  unfolding contents_in pick contents
  entry_is f g h st = rw (ne_eqb (get_or t 0 0) 40 f, ne_eqb (get_or t 0 0) 41 g, ← mark_stack (get_or t 0 0) h)

  pub value_is : {v : ℕ} → 56 ≤ get_or t 0 0 → get_or t 0 0 ≤ 63 → (st : State) → v ≡ (counter_of st (get_or t 1 0)).value → digits v ≡ contents_in tag t st
  unfolding contents_in pick contents
  value_is h l st q = rw (ne_eqb (get_or t 0 0) 40 (λ e. omega arith), ne_eqb (get_or t 0 0) 41 (λ e. omega arith), ← mark_counter (get_or t 0 0) h l) (ap digits q)
