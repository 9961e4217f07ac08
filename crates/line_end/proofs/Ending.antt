-- The end of a line: its answer, its control line, its memories.
-- Assumes nothing.
use Prim.Native.Nat.{ℕ, zero, suc, ◌≤◌}
use mathlib.Core.Path.{◌≡◌, refl, ap, sym, ◌∙◌, subst}
use mathlib.Core.Bool.{Bool, true, false, ◌&&◌}
use mathlib.Core.List.{List, []}
use native.Mathlib.Omega.{arith}
use borrow.Author.Tests.{lt-ltb}
use lib.Dec.{ltb}
use lib.ListN.{length, take}
use lib.Seq.{length-take-le}
use Rattle.std.specs.Prelude.{Result, Ok, Err, is_ok, is_err}
use Rattle.macros.specs.Formed.{Bytes}
use Rattle.lines.specs.Trace.{is_on}
use Rattle.lines.specs.Feeding.{Order as Ordered}
use Rattle.form_state.specs.Access.{Holds, IsState, OfState}
use Rattle.line_memory.specs.Memory.{Counted, laid_if}
use Rattle.line_memory.proofs.Copying.{padded_whole}
use Rattle.line_control.specs.Contract.{Obeys, Orders}
use Rattle.line_control.specs.declared.ControlError.{ControlError}
use Rattle.line_passes.specs.Contract.{Lies, LineLeft}
use Rattle.line_stand.specs.declared.Ended.{Ended}
use Rattle.line_stand.specs.declared.Ended.TheVariants.{Done, Control as AtControl}
use Rattle.line_stand.specs.declared.PassesError.{PassesError}
use Rattle.line_answer.specs.Fed.{size_of}
use Rattle.line_answer.specs.declared.Fed.{Fed}
use Rattle.line_answer.specs.declared.LineError.{LineError}
use Rattle.line_end.specs.Answers.{withheld_by, done_fed, ruled_fed, fed_of, is_taken, leaves_trace}
use Rattle.line_end.specs.Contract.{Obeying, Obeyed, size_at, Replying, Replied}

-- THE FLAGS

pub held_occurred : (n : ℕ) (o : Bool) → o ≡ true → false ≡ withheld_by n o
unfolding withheld_by
held_occurred n true e = refl
held_occurred n false e = cc

pub held_flag : (n : ℕ) (o : Bool) → o ≡ false → ltb 0 n ≡ withheld_by n o
unfolding withheld_by
held_flag n true e = cc
held_flag zero false e = refl
held_flag (suc n) false e = lt-ltb 0 (suc n) (omega arith)

pub is_on_lem : (n : ℕ) → ltb 0 n ≡ is_on n
unfolding is_on
is_on_lem zero = refl
is_on_lem (suc n) = lt-ltb 0 (suc n) (omega arith)

-- A CONTROL LINE

module _ {table : List ℕ} {count : ℕ} {b before text : List ℕ} {n p : ℕ} (y : Obeying table count b before text (Ok (AtControl n p))) where
  -- what it leaves, put back or not
  put_back : (table' b₁ b' : List ℕ) → length b₁ ≡ length b → (r : Result (Unit {0}) ControlError) → b' ≡ laid_if (is_err r) before b₁ → (o : Ordered) → Obeys o table table' b b₁ r → Obeys o table table' before b' r
  put_back table' b₁ b' l (Ok u) f o x = (x.0, x.1, x.2, x.3, subst (λ (j : List ℕ). Holds j x.1) (sym f) x.4)
  put_back table' b₁ b' l (Err w) f o x = (x.0, x.1, padded_whole before (length b₁) (y.same ∙ sym l) f)

  obeys : {table' b₁ b' : List ℕ} {r : Result (Unit {0}) ControlError} → Orders table table' b b₁ count (take n text) r → length b₁ ≡ length b → {w : Bool} → w ≡ is_err r → b' ≡ laid_if w before b₁
      → Obeyed table table' count b b' before text (Ok (AtControl n p)) r
  obeys {table'} {b₁} {b'} {r} x l g f =
      record { obeys = λ ms h c st s. put_back table' b₁ b' l r (f ∙ ap (λ (j : Bool). laid_if j before b₁) g) _ (x.obeys ms h c st s) }

pub obeyed : {table : List ℕ} {count : ℕ} {b before text : List ℕ} {e : Result Ended PassesError} → Obeying table count b before text e → (x : Ended) → e ≡ Ok x → {n p : ℕ} → x ≡ AtControl n p
    → {table' b₁ b' : List ℕ} {r : Result (Unit {0}) ControlError} → Orders table table' b b₁ count (take n text) r → length b₁ ≡ length b → {w : Bool} → w ≡ is_err r → b' ≡ laid_if w before b₁
    → Obeyed table table' count b b' before text e r
obeyed {e = e} y z c {n} {p} d x l g f = let q : e ≡ Ok (AtControl n p) = c ∙ ap Ok d in rw q (obeys (rw q at y) x l g f)

-- THE MEMORIES

leaves_ok : (b : Bool) (r : Result Fed LineError) → (is_ok r && b) ≡ leaves_trace b r
leaves_ok b (Ok f) = refl
leaves_ok b (Err e) = refl

taken_ok : (r : Result Fed LineError) → is_ok r ≡ is_taken r
taken_ok (Ok f) = refl
taken_ok (Err e) = refl

pub leaves_taken : (b : Bool) (r : Result Fed LineError) → is_taken r ≡ true → leaves_trace b r ≡ b
leaves_taken b (Ok f) t = refl
leaves_taken b (Err e) t = cc

pub leaves_none : (b : Bool) (r : Result Fed LineError) → is_taken r ≡ false → leaves_trace b r ≡ false
leaves_none b (Ok f) t = cc
leaves_none b (Err e) t = refl

size_done : (h : Bool) (n p : ℕ) → size_of (Ok (done_fed h n p)) ≤ n
size_done true n p = omega arith
size_done false n p = omega arith

size_ruled : (order : Result (Unit {0}) ControlError) (p : ℕ) → size_of (ruled_fed order p) ≤ 0
size_ruled (Ok u) p = omega arith
size_ruled (Err w) p = omega arith

size_fed : (flag : ℕ) (e : Result Ended PassesError) (order : Result (Unit {0}) ControlError) → size_of (fed_of flag e order) ≤ size_at e
size_fed flag (Ok (Done n o p)) order = size_done (withheld_by flag o) n p
size_fed flag (Ok (AtControl n p)) order = size_ruled order p
size_fed flag (Err e) order = omega arith

module _ {before after text lines out trace : List ℕ} {e : Result Ended PassesError} (y : Replying before after text lines out trace e) (flag : ℕ) (order : Result (Unit {0}) ControlError) {n : ℕ} {a : Result Fed LineError} (f : a ≡ fed_of flag e order) (g : n ≡ size_of a) where
  pub size_fits : n ≤ length text
  size_fits = omega (arith, size_fed flag e order, g ∙ ap size_of f, y.size)

  pub text_fits : length (take n text) ≤ length out
  text_fits = omega (arith, length-take-le n text size_fits, size_fits, y.room)

  pub replied : OfState after (λ st. flag ≡ st.nflag) → {h : Bool} → OfState before (λ st. h ≡ is_on st.trace) → {u : Bool} → u ≡ is_ok a → {l : Bool} → l ≡ (u && h)
      → {out' : List ℕ} → out' ≡ laid_if u (take n text) out → {trace' : List ℕ} → trace' ≡ laid_if l lines trace → Replied before after text lines out out' trace trace' e order a
  replied fl {h} tr {u} q {l} k i j =
      record {
        fed = λ st s. f ∙ ap (λ (x : ℕ). fed_of x e order) (fl st s);
        output = i ∙ (ap (λ (x : Bool). laid_if x (take n text) out) (q ∙ taken_ok a) ∙ ap (λ (x : ℕ). laid_if (is_taken a) (take x text) out) g);
        traces = λ st s. j ∙ ap (λ (x : Bool). laid_if x lines trace) (k ∙ ap (λ (x : Bool). x && h) q ∙ leaves_ok h a ∙ ap (λ (x : Bool). leaves_trace x a) (tr st s));
      }
