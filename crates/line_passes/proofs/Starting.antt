-- A line from its start: the memories of its passes, and what is left at its end.
-- Assumes nothing.
use Prim.Native.Nat.{ℕ, ◌-◌, ◌≤◌}
use mathlib.Core.Path.{◌≡◌, refl, ap, sym, ◌∙◌, subst}
use mathlib.Core.Bool.{Bool, true, false}
use mathlib.Core.List.{List, []}
use native.Mathlib.Omega.{arith}
use lib.ListN.{length, take, replicate, length-replicate}
use Rattle.std.specs.Prelude.{Result, Ok, Err, is_err, ◌&&◌}
use Rattle.kinds.specs.Kind.{kind_table}
use Rattle.pass_lack.specs.Lacking.{flags_of}
use Rattle.macros.specs.Bounds.{most_line_bytes, most_trace_bytes}
use Rattle.macros.specs.Macro.{Table}
use Rattle.macros.specs.Formed.{Bytes}
use Rattle.lines.specs.State.{State}
use Rattle.lines.specs.Line.{had_occurrence, passes_then, line_of}
use Rattle.lines.specs.Trace.{trace_of, is_on, history_of}
use Rattle.form_state.specs.Form.{state_bytes}
use Rattle.form_state.specs.Access.{Holds, IsState, OfState}
use Rattle.form_state.proofs.Parts.{state_size_lem}
use Rattle.line_memory.specs.Memory.{padded, laid_if}
use Rattle.line_memory.proofs.Copying.{padded_whole, padded_front, padded_size}
use Rattle.line_passes.specs.Contract.{Run, Left, Started, Comes, RunsTo, Runs}
use Rattle.line_stand.specs.Standing.{Open}
use Rattle.line_passes.specs.Passing.{Given, Memories, Stands, Ready, left_of, Ends, FromStart, run_of}
use Rattle.line_stand.specs.declared.Ended.{Ended}
use Rattle.line_stand.specs.declared.Ended.TheVariants.{Done, Control}
use Rattle.line_stand.specs.declared.PassesError.{PassesError}
use Rattle.line_passes.proofs.Closing.{due_all, none_closed, none_begun}

-- an empty trace
open_start : {trace : List ℕ} → trace ≡ replicate most_trace_bytes 0 → Open trace 0
open_start e = record { size = ap length e ∙ length-replicate {A = ℕ} most_trace_bytes 0; inside = omega arith; zeros = e }

pub ready_start : {tb kn : List ℕ} {count n : ℕ} {old : Left} {traced : Bool} → FromStart tb count old n traced → kn ≡ kind_table → {pr : List ℕ} → pr ≡ flags_of (take n old.text) → (budget : ℕ)
    → Ready (record { table = tb; count = count; kinds = kn; budget = budget; traced = traced })
    (record { state = old.state; text = old.text; new = replicate 1054 0; present = pr; flags = replicate 96 0; trace = old.trace })
    (record { size = n; occurred = false; due = count; begun = 0; written = 0 })
ready_start y e f budget =
    record {
      table = y.table;
      kinds = e;
      state = y.state;
      bytes = y.bytes;
      text = y.text;
      laid = y.laid;
      new = length-replicate {A = ℕ} 1054 0;
      present = f;
      flags = length-replicate {A = ℕ} 96 0;
      begins = ([], none_begun);
      size = y.size;
      due = omega arith;
      begun = omega arith;
      trace = λ asked. open_start (y.trace asked);
    }

-- no pass so far
stands_start : (ms : Table) (st : State) (g : Given) (m : Memories) (n : ℕ) → Holds m.state st → length ms ≡ g.count → m.flags ≡ replicate 96 0 → g.traced ≡ is_on st.trace
    → Stands (history_of ms st (record { line = take n m.text; budget = g.budget })) ms g m (record { size = n; occurred = false; due = g.count; begun = 0; written = 0 })
unfolding history_of line_of passes_then had_occurrence trace_of
stands_start ms st g m n h l f t =
    let e : g.budget - 0 ≡ g.budget = omega arith in
    record { so_far = []; state = st; closed = []; begun = []; rest = rw (e, due_all [] ms g.count l, t) refl; count = refl; occurs = refl; lines = λ asked. refl; holds = h; closes = rw f none_closed; begins = rw f none_begun }

pub runs_start : {g : Given} {m : Memories} {left : Left} {n : ℕ} {r : Result Ended PassesError} → m.flags ≡ replicate 96 0 → OfState m.state (λ st. g.traced ≡ is_on st.trace)
    → Ends g m left (record { size = n; occurred = false; due = g.count; begun = 0; written = 0 }) r → RunsTo (run_of g.table g.count (left_of m) n g.budget g.traced) (left_of m) left r
runs_start {g} {m} {left} {n} f t x =
    record { comes = λ ms h l st hb. x.comes _ ms h l (stands_start ms st g m n hb l f (t st hb)); lies = x.lies; untraced = x.untraced }

-- AT ITS END

pub state_length : {b : List ℕ} → IsState b → length b ≡ state_bytes
state_length s = ap length (sym s.1.form) ∙ (state_size_lem s.0 s.1.in_range).0

-- a trace that is put back is as it came
as_it_came : (b : Bool) {came ran left : List ℕ} → (b ≡ false → ran ≡ came) → (b ≡ true → came ≡ replicate most_trace_bytes 0) → length ran ≡ length came
    → left ≡ laid_if ((b && true)) [] ran → left ≡ came
as_it_came true {came} {ran} f g l e =
    let n : length ran - 0 ≡ most_trace_bytes = omega (arith, l, ap length (g refl) ∙ length-replicate {A = ℕ} most_trace_bytes 0) in
    e ∙ ap (λ (k : ℕ). replicate {A = ℕ} k 0) n ∙ sym (g refl)
as_it_came false f g l e = e ∙ f refl

kept_trace : (b : Bool) {ran left : List ℕ} → left ≡ laid_if ((b && false)) [] ran → left ≡ ran
kept_trace true e = e
kept_trace false e = e

module _ {run : Run} {old : Left} (y : Started run old) where
  abbrev t : List ℕ
  t = run.sent.line

  pub back_fits : {n : ℕ} → n ≡ length old.state → length run.state ≤ n
  back_fits e = omega (arith, ap length y.same, e)

  pub line_fits : {n : ℕ} → n ≡ length old.text → length t ≤ n
  line_fits e = omega (arith, y.short, y.text, e)

  whole_line : {tx₁ : List ℕ} → tx₁ ≡ padded t (length old.text) → tx₁ ≡ padded t most_line_bytes
  whole_line e = e ∙ ap (padded t) y.text

  module _ {tx₁ : List ℕ} (f : tx₁ ≡ padded t (length old.text)) where
    front : take (length t) tx₁ ≡ t
    front = padded_front t most_line_bytes (length t) refl (whole_line f)

    -- the memories before the passes
    abbrev first : Left
    first = record { state = old.state; text = tx₁; trace = old.trace }

    pub begun : FromStart run.table run.count first (length t) run.traced
    begun =
        record {
          table = y.table;
          state = subst IsState (sym y.same) y.state;
          text = padded_size t most_line_bytes y.short (whole_line f);
          laid = whole_line f ∙ ap (λ (s : List ℕ). padded s most_line_bytes) (sym front);
          size = y.short;
          bytes = subst Bytes (sym front) y.bytes;
          flag = λ st hs. y.flag st (subst (λ (j : List ℕ). Holds j st) y.same hs);
          trace = y.trace;
        }

    abbrev ran_to : Left → Result Ended PassesError → Type 0
    ran_to left r = RunsTo (run_of run.table run.count first (length t) run.sent.budget run.traced) first left r

    ran : {left : Left} (r : Result Ended PassesError) → ran_to left r → RunsTo run old left r
    ran {left} r x =
        record {
          comes = λ ms h l st hb.
              subst (λ (j : List ℕ). Comes run.traced (history_of ms st (record { line = j; budget = run.sent.budget })) left r) front
              (x.comes ms h l st (subst (λ (j : List ℕ). Holds j st) (sym y.same) hb));
          lies = x.lies;
          untraced = x.untraced;
        }

    module _ {z tx tr z₂ tx₂ tr₂ : List ℕ} where
      -- as the passes left them
      kept : (r : Result Ended PassesError) → ran_to (record { state = z; text = tx; trace = tr }) r → z₂ ≡ z → tx₂ ≡ tx → tr₂ ≡ tr → RunsTo run old (record { state = z₂; text = tx₂; trace = tr₂ }) r
      kept r x a b c = rw (a, b, c) (ran r x)

      pub runs_end : (r : Result Ended PassesError) → ran_to (record { state = z; text = tx; trace = tr }) r → {q : Bool} → q ≡ is_err r → {d : Bool} → d ≡ (run.traced && q)
          → length z ≡ length old.state → length tx ≡ length old.text → length tr ≡ length old.trace
          → z₂ ≡ laid_if q run.state z → tx₂ ≡ laid_if q t tx → tr₂ ≡ laid_if d [] tr → Runs run old (record { state = z₂; text = tx₂; trace = tr₂ }) r
      runs_end (Ok (Done n o p)) x e f i k v a b c =
          record { runs = kept (Ok (Done n o p)) x (rw e at a) (rw e at b) (kept_trace run.traced (rw (f, e) at c)); back = tt }
      runs_end (Ok (Control n p)) x e f i k v a b c =
          record { runs = kept (Ok (Control n p)) x (rw e at a) (rw e at b) (kept_trace run.traced (rw (f, e) at c)); back = tt }
      runs_end (Err w) x e f i k v a b c =
          let a₂ : z₂ ≡ padded run.state (length z) = rw e at a in
          let b₂ : tx₂ ≡ padded t (length tx) = rw e at b in
          let c₂ : tr₂ ≡ laid_if ((run.traced && true)) [] tr = rw (f, e) at c in
          let same = as_it_came run.traced x.untraced y.trace v c₂ in
          record {
            runs = record { comes = (ran (Err w) x).comes; lies = tt; untraced = λ n. same };
            back = record { state = padded_whole run.state (length z) (ap length (sym y.same) ∙ sym i) a₂; line = whole_line (b₂ ∙ ap (padded t) k); trace = same };
          }
