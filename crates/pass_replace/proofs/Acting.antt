-- What an action does, by its code, and one action after the other.
use Prim.Native.Nat.{ℕ, zero, suc, ◌-◌, ◌≤◌, ◌<◌}
use mathlib.Core.Path.{◌≡◌, refl, sym, ap, ◌∙◌}
use mathlib.Core.Bool.{true, false}
use mathlib.Core.List.{List, [], ◌∷◌}
use native.Mathlib.Omega.{arith}
use borrow.Author.Tests.{lt-ltb, le-ltb, ne_eqb, eqb-true, eqb-false}
use lib.Dec.{eqb}
use lib.ListN.{length, get_or, drop}
use Rattle.macros.specs.Bounds.{most_line_bytes}
use Rattle.macros.specs.Macro.{pick}
use Rattle.macros.specs.Formed.{Letter}
use Rattle.lines.specs.State.{counter_of}
use Rattle.lines.specs.Dividing.{divided_text}
use Rattle.lines.specs.Replacing.{Work, Done, ◌>>=◌, stores}
use Rattle.lines.specs.Replacing.Done.{bad, good}
use Rattle.form_state.specs.Access.{IsState, OfState}
use Rattle.form_table.specs.Actions.{number_in, text_in, action_size}
use Rattle.pass_texts.proofs.Inserting.{puts_does}
use Rattle.form_table.proofs.Actions.{some_size}
use Rattle.pass_steps.specs.Moments.{Does, Inserts, Changes}
use Rattle.pass_replace.specs.Tags.{tag_in}
use Rattle.pass_replace.specs.Acting.{tagged_in, act_in, stored_in, divides_in, access_in, action_in, acts_in, Fits}
use Rattle.pass_call.specs.Moving.{moves_in, sets_in}
use Rattle.pass_texts.specs.Inserting.{inserts_in, Fit}
use Rattle.pass_replace.specs.Acting.Fits.{none, next}
use Rattle.refusals.specs.declared.WorkError.{WorkError}
use Rattle.pass_steps.proofs.Codes.{within_in, within_out}
use Rattle.pass_steps.proofs.Stepping.{does_then, does_stop, does_by, does_none, changes_by, changes_does}
use Rattle.std.specs.Prelude.{Result, Ok, Err}

-- WHAT IS STORED

pub stored_tag : (tag t : List ℕ) → get_or t 0 0 < 72 → tag ≡ stored_in tag t
unfolding stored_in pick
stored_tag tag t h = rw (lt-ltb (get_or t 0 0) 72 h)

pub stored_text : (tag t : List ℕ) → 72 ≤ get_or t 0 0 → text_in t ≡ stored_in tag t
unfolding stored_in pick
stored_text tag t h = rw (le-ltb (get_or t 0 0) 72 h)

pub changes_room : {f : Work → Done} {b b₁ : List ℕ} {k m : ℕ} → k ≤ most_line_bytes → Changes f b k b₁ (Ok m) → m ≤ most_line_bytes
changes_room h p = let z = p.size in omega arith

-- a call has a letter
pub letter_of_lem : (t : List ℕ) → Fit t → 48 ≤ get_or t 0 0 → Letter (get_or t 1 0)
letter_of_lem t f h = f.letter (λ e. omega arith) (λ e. omega arith)

-- AN ACTION, by its code

module _ (tag t : List ℕ) {b b₁ : List ℕ} {k : ℕ} {r : Result ℕ WorkError} where
  pub access_insert : {out out₁ : List ℕ} → get_or t 0 0 < 64 → Does (inserts_in tag t) out b k out₁ b₁ r → Does (access_in tag t) out b k out₁ b₁ r
  unfolding access_in pick
  access_insert h p = does_by (λ w. rw (lt-ltb (get_or t 0 0) 64 h)) p

  pub access_store : (x : List ℕ) → 64 ≤ get_or t 0 0 → get_or t 0 0 < 80 → x ≡ stored_in tag t → Changes (stores (get_or t 1 0) x) b k b₁ r → Changes (access_in tag t) b k b₁ r
  unfolding access_in pick
  access_store x g h e p = changes_by (λ w. rw (le-ltb (get_or t 0 0) 64 g, lt-ltb (get_or t 0 0) 80 h, ← e)) p

  pub access_set : {x : ℕ} → 80 ≤ get_or t 0 0 → get_or t 0 0 < 104 → x ≡ number_in t → Changes (sets_in (get_or t 0 0) (get_or t 1 0) x) b k b₁ r → Changes (access_in tag t) b k b₁ r
  unfolding access_in pick
  access_set h g e p = changes_by (λ w. rw (le-ltb (get_or t 0 0) 64 (omega arith), le-ltb (get_or t 0 0) 80 h, lt-ltb (get_or t 0 0) 104 g, ← e)) p

module _ (tag t : List ℕ) {out b : List ℕ} {k : ℕ} {r : Result ℕ WorkError} where
  pub access_divide : (v x : ℕ) {out₁ : List ℕ} → 104 ≤ get_or t 0 0 → IsState b → OfState b (λ st. v ≡ (counter_of st (get_or t 1 0)).value) → x ≡ number_in t → Inserts (divided_text v x) out k out₁ r
      → Does (access_in tag t) out b k out₁ b r
  unfolding access_in divides_in pick
  access_divide v x h s q e p =
      puts_does {c = λ st. divided_text (counter_of st (get_or t 1 0)).value (number_in t)} p s (λ st m. rw (q st m, e))
      (λ w. rw (le-ltb (get_or t 0 0) 64 (omega arith), le-ltb (get_or t 0 0) 80 (omega arith), le-ltb (get_or t 0 0) 104 h))

-- the access between its two moves
module _ (tag t : List ℕ) {out b b₁ : List ℕ} {k : ℕ} (l : k ≤ most_line_bytes) where
  pub action_before : {e : WorkError} → Changes (moves_in 1 (get_or t 0 0) (get_or t 1 0)) b k b₁ (Err e) → Does (action_in tag t) out b k out b₁ (Err e)
  unfolding action_in
  action_before p = does_stop (moves_in 3 (get_or t 0 0) (get_or t 1 0)) (does_stop (access_in tag t) (changes_does out p l))

  module _ {m : ℕ} {out₂ b₂ : List ℕ} (p : Changes (moves_in 1 (get_or t 0 0) (get_or t 1 0)) b k b₁ (Ok m)) where
    pub action_between : {e : WorkError} → Does (access_in tag t) out b₁ m out₂ b₂ (Err e) → Does (action_in tag t) out b k out₂ b₂ (Err e)
    unfolding action_in
    action_between q = does_stop (moves_in 3 (get_or t 0 0) (get_or t 1 0)) (does_then (changes_does out p l) q)

    pub action_after : {j : ℕ} {b₃ : List ℕ} {r : Result ℕ WorkError} → Does (access_in tag t) out b₁ m out₂ b₂ (Ok j) → Changes (moves_in 3 (get_or t 0 0) (get_or t 1 0)) b₂ j b₃ r → Does (action_in tag t) out b k out₂ b₃ r
    unfolding action_in
    action_after q x = does_then (does_then (changes_does out p l) q) (changes_does out₂ x q.fits)

-- the text of the tag
module _ (line pat ends t : List ℕ) where
  pub tagged_inserted : get_or t 0 0 ≡ 41 → tag_in line (get_or t 1 0 - 1) pat ends ≡ tagged_in line pat ends t
  unfolding tagged_in pick
  tagged_inserted e = rw e

  pub tagged_stored : 64 ≤ get_or t 0 0 → get_or t 0 0 ≤ 71 → tag_in line (get_or t 3 0 - 1) pat ends ≡ tagged_in line pat ends t
  unfolding tagged_in pick
  tagged_stored h l = rw (ne_eqb (get_or t 0 0) 41 (λ e. omega arith), within_in 64 71 (get_or t 0 0) h l)

  pub tagged_none : (get_or t 0 0 ≡ 41 → ⊥) → (64 ≤ get_or t 0 0 → get_or t 0 0 ≤ 71 → ⊥) → [] ≡ tagged_in line pat ends t
  unfolding tagged_in pick
  tagged_none f g = rw (ne_eqb (get_or t 0 0) 41 f, within_out 64 71 (get_or t 0 0) g)

pub acts_tagged : (line pat ends t : List ℕ) {tag out b out₁ b₁ : List ℕ} {k : ℕ} {r : Result ℕ WorkError} → tag ≡ tagged_in line pat ends t → Does (action_in tag t) out b k out₁ b₁ r → Does (acts_in line pat ends t) out b k out₁ b₁ r
unfolding acts_in
acts_tagged line pat ends t e p = does_by (λ w. ap (λ (x : List ℕ). action_in x t w) (sym e)) p

-- ONE ACTION AFTER THE OTHER

module _ (f : List ℕ → Work → Done) where
  skipped : (k : ℕ) (l : List ℕ) (w : Work) → act_in f k l w ≡ act_in f 0 (drop k l) w
  unfolding act_in
  skipped zero [] w = refl
  skipped zero (x ∷ l) w = refl
  skipped (suc k) [] w = refl
  skipped (suc k) (x ∷ l) w = skipped k l w

  onward : (k j : ℕ) (l : List ℕ) (a : Done) → k ≡ suc j → (a >>= act_in f j l) ≡ (a >>= act_in f 0 (drop j l))
  onward k j l (bad r w) e = refl
  onward k j l (good w) e = skipped j l w

  pub acts_cons : (t : List ℕ) (w : Work) → 0 < length t → act_in f 0 t w ≡ (f t w >>= act_in f 0 (drop (action_size t) t))
  unfolding act_in
  acts_cons [] w h = absurd (omega arith)
  acts_cons (x ∷ l) w h =
      let s : action_size (x ∷ l) ≡ suc (action_size (x ∷ l) - 1) = let z = some_size (x ∷ l) in omega arith in
      onward (action_size (x ∷ l)) (action_size (x ∷ l) - 1) l (f (x ∷ l) w) s
      ∙ ap (λ (k : ℕ). f (x ∷ l) w >>= act_in f 0 (drop k (x ∷ l))) (sym s)

  acts_none : (t : List ℕ) (w : Work) → length t ≡ 0 → act_in f 0 t w ≡ good w
  unfolding act_in
  acts_none [] w h = refl
  acts_none (x ∷ l) w h = absurd (omega arith)

-- from the moment of out₁, b₁ and k on the items rest are still to be done
pub record Rest (f : List ℕ → Work → Done) (items out b : List ℕ) (size : ℕ) (rest out₁ b₁ : List ℕ) (k : ℕ) : Type 0 where
  pub on : (out₂ b₂ : List ℕ) (r : Result ℕ WorkError) → Does (act_in f 0 rest) out₁ b₁ k out₂ b₂ r → Does (act_in f 0 items) out b size out₂ b₂ r

pub rest_all : {f : List ℕ → Work → Done} {items out b : List ℕ} {size : ℕ} → Rest f items out b size items out b size
rest_all = record { on = λ out₂ b₂ r p. p }

module _ (f : List ℕ → Work → Done) {size k : ℕ} {items rest out b out₁ b₁ : List ℕ} (to_do : Rest f items out b size rest out₁ b₁ k) where
  pub rest_end : length rest ≡ 0 → IsState b₁ → k ≤ most_line_bytes → Does (act_in f 0 items) out b size out₁ b₁ (Ok k)
  rest_end h s l = to_do.on out₁ b₁ (Ok k) (does_by (λ w. acts_none f rest w h) (does_none s l))

  module _ (h : 0 < length rest) {out₂ b₂ : List ℕ} where
    pub rest_stop : {e : WorkError} → Does (f rest) out₁ b₁ k out₂ b₂ (Err e) → Does (act_in f 0 items) out b size out₂ b₂ (Err e)
    rest_stop {e} p = to_do.on out₂ b₂ (Err e) (does_by (λ w. acts_cons f rest w h) (does_stop (act_in f 0 (drop (action_size rest) rest)) p))

    pub rest_next : {j n : ℕ} → Does (f rest) out₁ b₁ k out₂ b₂ (Ok j) → n ≡ action_size rest → Rest f items out b size (drop n rest) out₂ b₂ j
    rest_next {j} {n} p q =
        record {
          on = λ out₃ b₃ u x. to_do.on out₃ b₃ u (does_by (λ w. acts_cons f rest w h ∙ ap (λ (y : ℕ). f rest w >>= act_in f 0 (drop y rest)) (sym q)) (does_then p x));
        }

-- whether items are left
pub some_left : {n : ℕ} → false ≡ eqb n 0 → 0 < n
some_left e = let f = eqb-false _ _ (sym e) in omega arith

pub none_left : {n : ℕ} → true ≡ eqb n 0 → n ≡ 0
none_left e = eqb-true _ _ (sym e)

-- an action that fits stands where nothing but such actions do
pub fit_first : {t : List ℕ} → Fits t → 0 < length t → Fit t
fit_first none h = absurd (omega arith)
fit_first (next p q w) h = q

pub fit_rest : {t : List ℕ} → Fits t → 0 < length t → Fits (drop (action_size t) t)
fit_rest none h = absurd (omega arith)
fit_rest (next p q w) h = w
