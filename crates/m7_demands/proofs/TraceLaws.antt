-- N1 of the calls of m7_feed: the contract joined to the laws of crates/m_traces.
use mathlib.Core.Path.{◌≡◌, refl, sym, ap, subst, ◌∙◌}
use mathlib.Core.Logic.{◌↔◌}
use mathlib.Core.List.{List}
use Prim.Native.Nat.{ℕ}
use lib.ListN.{length}
use Rattle.macros.specs.Refusals.{number, work_number}
use Rattle.macros.specs.Refusals.Refusal.{of_work}
use Rattle.macros.specs.Refusals.WorkRefusal.{trace_too_long}
use Rattle.macros.specs.Macro.{Table}
use Rattle.lines.specs.State.{State}
use Rattle.lines.specs.Line.{Sent}
use Rattle.lines.specs.Feeding.{Kind, with_trace, number_of, place_of, kind_number, output_of, feed}
use Rattle.lines.specs.Feeding.Kind.{refused_with}
use Rattle.lines.specs.Feeding.{Answer as Answered}
use Rattle.form_table.specs.Form.{form}
use Rattle.line_memory.specs.Memory.{Memories, IsTable}
use Rattle.line_feed.specs.Contract.{laid_out}
use Rattle.line_answer.specs.declared.Answer.{Answer}
use Rattle.m_traces.specs.Traced.{Alike as LinesAlike}
use Rattle.m_traces.proofs.CutLaws.{too_long_exact}
use Rattle.m_traces.proofs.FlagLaws.{flag_alike_law}
use Rattle.m7.specs.Feeding.{Returns, answer_of}
use Rattle.m7_demands.specs.OneFeed.{Returned, called_with}
use Rattle.m7_demands.specs.Trace.{TooLongExact, BothFlags, Alike, FlagAlike}
use Rattle.m7_demands.proofs.LargerLaws.{number_is}

-- THE LAW
pub too_long : TooLongExact
too_long sent m w ms st z f h k =
    let e = number_is sent m w (feed ms st sent) (k.fed z ms f st h) in
    let x = too_long_exact ms st sent in
    (λ n. x.0 (sym e ∙ n), λ d. e ∙ x.1 d)

number_36 : (k : Kind) → k ≡ refused_with (of_work trace_too_long) → number_of k ≡ 36
unfolding number_of number work_number
number_36 k e = ap number_of e

answers_alike : (a b : Answered) → a.kind ≡ b.kind → a.passes ≡ b.passes → answer_of a ≡ answer_of b
unfolding answer_of
answers_alike a b k p =
    λ i. record { number = number_of (k i); place = place_of (k i); passes = p i; kind = kind_number (k i); length = length (output_of (k i)) }

-- THE LAW
pub alike : FlagAlike
alike sent ms st m n w v b unless =
    let x : Returns (called_with sent m w) (feed ms (with_trace 1 st) sent) = b.first.fed b.sized ms b.is_table (with_trace 1 st) b.on in
    let y : Returns (called_with sent n v) (feed ms (with_trace 0 st) sent) =
    b.second.fed b.sized_off ms (subst (λ (t : List ℕ). IsTable t ms) (sym b.table) b.is_table) (with_trace 0 st) b.off in
    let l : LinesAlike (feed ms (with_trace 1 st) sent) (feed ms (with_trace 0 st) sent) =
    flag_alike_law ms st sent (λ e. unless (number_is sent m w (feed ms (with_trace 1 st) sent) x ∙ number_36 (feed ms (with_trace 1 st) sent).kind e)) in
    record {
      answers = x.answers ∙ answers_alike _ _ l.kind l.passes ∙ sym y.answers;
      table = sym x.table_holds.form ∙ ap form l.table ∙ y.table_holds.form;
      output =
          x.output_holds ∙ ap (λ (k : Kind). laid_out k m.output) l.kind ∙ ap (laid_out (feed ms (with_trace 0 st) sent).kind) (sym b.output)
          ∙ sym y.output_holds;
      one = (feed ms (with_trace 1 st) sent).state;
      other = (feed ms (with_trace 0 st) sent).state;
      holds_one = x.state_holds;
      holds_other = y.state_holds;
      state = l.state;
    }
