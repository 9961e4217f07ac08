-- One step of a line that is traced: its end, a pass whose lines fit, and one whose lines do not.
use Prim.Native.Nat.{ℕ, ◌-◌, ◌≤◌, ◌<◌}
use mathlib.Core.Path.{◌≡◌, refl, sym, ap, ◌∙◌}
use mathlib.Core.Bool.{Bool, true, false}
use mathlib.Core.List.{List, [], ◌∷◌, ◌++◌, append_assoc, append-nil}
use mathlib.Core.Option.{Option, none}
use borrow.Author.Tests.{le-leb, lt-leb}
use lib.ListN.{length}
use Rattle.macros.specs.Refusals.{WorkRefusal, Refusal}
use Rattle.macros.specs.Refusals.WorkRefusal.{trace_too_long}
use Rattle.macros.specs.Macro.{Table}
use Prim.Native.Nat.{suc, zero}
use Rattle.lines.specs.State.{State}
use Rattle.lines.specs.Replacing.{Work}
use Rattle.lines.specs.Replacing.Done.{bad, good}
use Rattle.lines.specs.Pass.{occurred, outcome}
use Rattle.lines.specs.Line.{Pass, Ending, Line, text_of, passes_of, had_occurrence, ending}
use Rattle.lines.specs.Line.Line.{ended, passed}
use Rattle.lines.specs.Line.Ending.{refused, done, control}
use Rattle.lines.specs.Trace.{three_lines, lines_if, lines_of, trace_of, cut_at, cut_if}
use Rattle.lines.specs.Feeding.{Order, Kind, Answer, order_of, kind_of_done, refusal, tracing, of_order, answered, answer}
use Rattle.lines.specs.Feeding.Order.{wrong, orders}
use Rattle.lines.specs.Feeding.Kind.{refused_with, out, withheld, controlled}

-- THE LINES OF A PASS

module _ (x : Pass) where
  pub lines_none : occurred x.events ≡ false → lines_of x ≡ []
  unfolding lines_of lines_if
  lines_none e = rw e refl

  pub lines_bad : (r : WorkRefusal) (v : Work) → outcome x.events ≡ bad r v → lines_of x ≡ []
  unfolding lines_of lines_if
  lines_bad r v e = ap (lines_if (occurred x.events) x) e ∙ go (occurred x.events)
    where
      go : (b : Bool) → lines_if b x (bad r v) ≡ []
      go true = refl
      go false = refl

  pub lines_some : (v : Work) → outcome x.events ≡ good v → occurred x.events ≡ true → lines_of x ≡ three_lines x.text (suc x.which.number) (text_of v)
  unfolding lines_of lines_if
  lines_some v e f = rw (e, f) refl

-- the trace so far, and the lines of the pass behind it
pub trace_one : (xs : List Pass) (x : Pass) → trace_of (xs ++ (x ∷ [])) ≡ trace_of xs ++ lines_of x
unfolding trace_of
trace_one [] x = append-nil (lines_of x)
trace_one (y ∷ xs) x = ap (λ (s : List ℕ). lines_of y ++ s) (trace_one xs x) ∙ sym (append_assoc (lines_of y) (trace_of xs) (lines_of x))

-- A STEP OF THE CUT

pub cut_ended : (b : Bool) (n : ℕ) (e : Ending) → cut_if b n (ended e) ≡ ended e
unfolding cut_if cut_at
cut_ended true n e = refl
cut_ended false n e = refl

-- the lines fit, or no trace is asked for
pub cut_on : (b : Bool) (n : ℕ) (x : Pass) (l : Line) → (b ≡ true → length (lines_of x) ≤ n) → cut_if b n (passed x l) ≡ passed x (cut_if b (n - length (lines_of x)) l)
unfolding cut_if cut_at
cut_on true n x l h = rw (le-leb (length (lines_of x)) n (h refl)) refl
cut_on false n x l h = refl

-- they do not
pub cut_over : (n : ℕ) (x : Pass) (l : Line) → n < length (lines_of x) → cut_if true n (passed x l) ≡ passed x (ended (refused trace_too_long))
unfolding cut_if cut_at
cut_over n x l h = rw (lt-leb (length (lines_of x)) n h) refl

-- without a trace the room does not matter
pub cut_free : (n k : ℕ) (l : Line) → cut_if false n l ≡ cut_if false k l
unfolding cut_if
cut_free n k l = refl

-- WHAT IS WRITTEN

-- by a line that is taken
abbrev Taken : Kind → Type 0
Taken (refused_with r) = ⊥
Taken (out t) = Unit {0}
Taken withheld = Unit {0}
Taken controlled = Unit {0}

abbrev pub WritesIf : Kind → Answer → Option (List ℕ) → Type 0
WritesIf (refused_with r) a w = a.trace_text ≡ none
WritesIf (out t) a w = a.trace_text ≡ w
WritesIf withheld a w = a.trace_text ≡ w
WritesIf controlled a w = a.trace_text ≡ w

module _ (ms : Table) (old : State) where
  of_order_lem : (xs : List Pass) (o : Order) → WritesIf (of_order ms old xs o).kind (of_order ms old xs o) (tracing old xs)
  unfolding of_order refusal
  of_order_lem xs (wrong r) = refl
  of_order_lem xs (orders ks st) = refl

  of_done : (k : Kind) (a : Answer) (w : Option (List ℕ)) → Taken k → a.trace_text ≡ w → WritesIf k a w
  of_done (refused_with r) a w t e = absurd t
  of_done (out s) a w t e = e
  of_done withheld a w t e = e
  of_done controlled a w t e = e

  done_taken : (f : ℕ) (o : Bool) (t : List ℕ) → Taken (kind_of_done f o t)
  unfolding kind_of_done
  done_taken zero o t = tt
  done_taken (suc f) true t = tt
  done_taken (suc f) false t = tt

  of_ending : (xs : List Pass) (e : Ending) → WritesIf (answered ms old xs e).kind (answered ms old xs e) (tracing old xs)
  unfolding answered refusal
  of_ending xs (refused r) = refl
  of_ending xs (done t st) = of_done (kind_of_done st.nflag (had_occurrence xs) t) _ (tracing old xs) (done_taken st.nflag (had_occurrence xs) t) refl
  of_ending xs (control t st) = of_order_lem xs (order_of ms st t)

  -- THE LAW: an answer writes the trace of its passes, and a refusal none
  pub answer_writes : (l : Line) → WritesIf (answer ms old l).kind (answer ms old l) (tracing old (passes_of l))
  unfolding answer
  answer_writes l = of_ending (passes_of l) (ending l)
