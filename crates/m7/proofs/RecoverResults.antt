-- What reading past faults says, taken to the contract of m7_recover.
use Prim.Native.Nat.{ℕ, ◌≤◌}
use mathlib.Core.Path.{◌≡◌, refl, sym, ap, ◌∙◌}
use mathlib.Core.Bool.{false}
use mathlib.Core.List.{List}
use native.Mathlib.Omega.{arith}
use borrow.Author.Tests.{eq-eqb, ne_eqb}
use lib.ListN.{length}
use Rattle.macros.specs.Bounds.{most_file_bytes, most_entry_bytes}
use Rattle.macros.specs.Refusals.{number, place, host_number}
use Rattle.macros.specs.Macro.{pick}
use Rattle.macros.specs.Formed.{Octets}
use Rattle.macros.specs.Read.{read_file_by}
use Rattle.form_table.specs.Form.{table_bytes, form}
use Rattle.faults.specs.Refusal.{RecoverRefusal, recover_number, recover_place}
use Rattle.faults.specs.Recover.{recover}
use Rattle.faults.specs.Recover.Recovered.{refused}
use Rattle.faults.specs.RecoverLaw.{Recovers}
use Rattle.faults.specs.RecoverLaw.Recovers.{past, refused_whole}
use Rattle.faults.proofs.Exactly.{recovers_exactly}
use Rattle.faults.proofs.Keeps.{kept_few, past_place}
use Rattle.form_faults.specs.Form.{faults_bytes, faults_form}
use Rattle.read_past.specs.Past.{ReadsPast}
use Rattle.read_fault.specs.declared.PastError.{PastError}
use Rattle.std.specs.Prelude.{Ok, Err}
use Rattle.line_answer.specs.declared.Answer.{Answer}
use Rattle.line_answer.specs.Replies.{reply}
use Rattle.m7.specs.Recovering.{Mended, Recovering, Returned, of_recovering, recovers, sized_to_recover}
use Rattle.m7.proofs.Places.{onto_place}

returned : {w v : Recovering} {a : Answer} {m : Mended} → w ≡ v → a ≡ v.answer → m ≡ v.memories → Returned w a m
returned e f g = record { answers = f ∙ sym (ap (λ (x : Recovering). x.answer) e); holds = g ∙ sym (ap (λ (x : Recovering). x.memories) e) }

-- 3
module _ (s : List ℕ) (old : Mended) {a : Answer} (f : a ≡ reply 3 0 0) where
  other : sized_to_recover old ≡ false → Returned (recovers s old) a old
  unfolding recovers pick number place host_number
  other e = returned (rw e) f refl

  pub other_table : (length old.table ≡ table_bytes → ⊥) → Returned (recovers s old) a old
  unfolding sized_to_recover
  other_table h = other (rw (ne_eqb (length old.table) table_bytes h) refl)

  pub other_faults : length old.table ≡ table_bytes → (length old.faults ≡ faults_bytes → ⊥) → Returned (recovers s old) a old
  unfolding sized_to_recover
  other_faults g h = other (rw (eq-eqb (length old.table) table_bytes g, ne_eqb (length old.faults) faults_bytes h) refl)

sized_recovers : (s : List ℕ) (old : Mended) → length old.table ≡ table_bytes → length old.faults ≡ faults_bytes → recovers s old ≡ of_recovering old (recover s)
unfolding recovers sized_to_recover pick
sized_recovers s old g h = rw (eq-eqb (length old.table) table_bytes g, eq-eqb (length old.faults) faults_bytes h) refl

-- the place of a refusal
refusal_place : (s : List ℕ) (v : RecoverRefusal) → Octets s → recover s ≡ refused v → recover_place v ≤ most_file_bytes
refusal_place s v bytes e = by v ((recovers_exactly s (refused v) bytes).0 e)
  where
    by : (u : RecoverRefusal) → Recovers s (refused u) → recover_place u ≤ most_file_bytes
    by u (refused_whole l f) = unfold recover_place read_file_by in onto_place most_entry_bytes _ s f
    by u (past g x) = omega (arith, past_place s g (omega arith) x, g.0)

-- a file s read past its faults
module _ (s made list : List ℕ) (bytes : Octets s) where
  module _ {n : ℕ} (there : ReadsPast s made list (Ok n)) where
    pub recover_few : n ≤ most_file_bytes
    recover_few = omega (arith, kept_few s there.0 there.1 bytes there.2, there.3)

    pub recover_taken : (old : Mended) {a : Answer} {m : Mended} → length old.table ≡ table_bytes → length old.faults ≡ faults_bytes → m.table ≡ made → m.faults ≡ list
        → a ≡ reply 0 0 n → Returned (recovers s old) a m
    unfolding of_recovering
    recover_taken old {a} {m} g h i j f =
        let x : m.table ≡ form there.0 = i ∙ sym there.4 in
        let y : m.faults ≡ faults_form there.1 = j ∙ sym there.5 in
        let z : m ≡ record { table = form there.0; faults = faults_form there.1 } = rw (← x, ← y) refl in
        returned (sized_recovers s old g h ∙ ap (of_recovering old) there.2) (f ∙ ap (reply 0 0) there.3) z

  module _ (e : PastError) (there : ReadsPast s made list (Err e)) where
    pub recover_place_lem : e.place ≤ most_file_bytes
    recover_place_lem = omega (arith, refusal_place s there.0 bytes there.1, there.3)

    pub recover_refused : (old : Mended) {a : Answer} {c : ℕ} → length old.table ≡ table_bytes → length old.faults ≡ faults_bytes → c ≡ e.number → a ≡ reply c e.place 0
        → Returned (recovers s old) a old
    unfolding of_recovering
    recover_refused old g h i f =
        returned (sized_recovers s old g h ∙ ap (of_recovering old) there.1)
        (f ∙ (ap (λ (k : ℕ). reply k e.place 0) (i ∙ there.2) ∙ ap (λ (k : ℕ). reply (recover_number there.0) k 0) there.3)) refl
