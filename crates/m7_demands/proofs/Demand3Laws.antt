-- DEMAND 3, FOR THE ENGINE: the contract of m7_feed joined to the law of crates/lines.
use Prim.Native.Nat.{ℕ}
use mathlib.Core.Path.{◌≡◌, refl, sym, ap, subst, ◌∙◌}
use mathlib.Core.Bool.{Bool, true, false}
use mathlib.Core.List.{List, [], ◌∷◌}
use mathlib.Core.Option.{Option}
use Rattle.macros.specs.Macro.{Table}
use Rattle.macros.specs.Refusals.{place}
use Rattle.macros.specs.Refusals.Refusal.{of_host}
use Rattle.macros.specs.Refusals.HostRefusal.{bad_memory}
use Rattle.lines.specs.State.{State, fresh}
use Rattle.form_table.specs.Form.{form}
use Rattle.lines.specs.Trace.{history_of}
use Rattle.lines.specs.Feeding.{Kind, feed, refusal, number_of, place_of, kind_number, output_of}
use Rattle.lines.specs.Feeding.Kind.{refused_with, out, withheld, controlled}
use Rattle.lines.specs.Feeding.{Answer as Answered}
use Rattle.lines.specs.Demand.{ByKind}
use Rattle.lines.proofs.Demand3.{fed_holds, fed_line}
use Rattle.form_state.specs.Form.{state_form}
use Rattle.form_state.specs.Access.{Holds}
use Rattle.lines.proofs.KeepState.{fresh_in_range}
use Rattle.line_memory.specs.Memory.{Memories, IsTable}
use Rattle.line_feed.specs.Contract.{laid_out, traced_out}
use Rattle.m7.specs.Feeding.{Call, Feeds, Returns, Refuses, sized_to_feed, answer_of}
use Rattle.m7_demands.specs.Demand3.{InTurn, CallHolds, Keeps, Holds3, Resumed, Demand3}
use Rattle.m7_demands.proofs.OneFeed.{memories_same}
use Rattle.line_answer.specs.declared.Answer.{Answer}

-- one call: its answer, what it returns, and what demand 3 says of it
pub record One (ms : Table) (st : State) (c : Call) : Type 0 where
  pub answer : Answered
  pub returned : Returns c answer
  pub line : CallHolds (sized_to_feed c.feeding.lent) ms st c answer
  pub keeps : Keeps c

-- a line that was fed and refused
module _ (ms : Table) (st : State) (c : Call) (f : IsTable c.feeding.lent.table ms) (h : Holds c.feeding.lent.state st) where
  abbrev fed : Answered
  fed = feed ms st c.feeding.sent

  module _ (r : Returns c fed) where
    number_is : (k : Kind) → fed.kind ≡ k → c.answer.number ≡ number_of k
    unfolding answer_of
    number_is k e = ap (λ (a : Answer). a.number) r.answers ∙ ap number_of e

    by_kind : (k : Kind) → fed.kind ≡ k → Keeps c
    unfolding number_of laid_out traced_out
    by_kind (refused_with x) e n =
        let z = subst (λ (k : Kind). ByKind ms st c.feeding.sent (history_of ms st c.feeding.sent) fed k) e (fed_holds ms st c.feeding.sent) in
        memories_same c.feeding.left c.feeding.lent (sym r.table_holds.form ∙ (ap form z.0 ∙ f.form)) (sym r.state_holds.form ∙ (ap state_form z.1 ∙ h.form))
        (r.output_holds ∙ ap (λ (k : Kind). laid_out k c.feeding.lent.output) e)
        (r.trace_holds ∙ ap (λ (t : Option (List ℕ)). traced_out t c.feeding.lent.trace) z.3)
    by_kind (out t) e n = absurd (n (number_is (out t) e))
    by_kind withheld e n = absurd (n (number_is withheld e))
    by_kind controlled e n = absurd (n (number_is controlled e))

one : (ms : Table) (st : State) (c : Call) → IsTable c.feeding.lent.table ms → Holds c.feeding.lent.state st → Feeds c → One ms st c
unfolding refusal answer_of laid_out traced_out number_of place_of kind_number output_of place
one ms st c f h k = go (sized_to_feed c.feeding.lent) refl
  where
    go : (b : Bool) → sized_to_feed c.feeding.lent ≡ b → One ms st c
    go true e = record { answer = feed ms st c.feeding.sent; returned = k.fed e ms f st h; line = rw e (fed_line ms st c.feeding.sent); keeps = by_kind ms st c f h (k.fed e ms f st h) (fed ms st c f h).kind refl }
    go false e =
        let r : Refuses c bad_memory = k.other_size e in
        record {
          answer = refusal ms st 0 (of_host bad_memory);
          returned = record { answers = r.answer; table_holds = rw r.memories f; state_holds = rw r.memories h; output_holds = ap (λ (m : Memories). m.output) r.memories; trace_holds = ap (λ (m : Memories). m.trace) r.memories };
          line = rw e refl;
          keeps = λ n. r.memories;
        }

calls : (ms : Table) (st : State) (t b : List ℕ) (cs : List Call) → IsTable t ms → Holds b st → InTurn t b cs → Holds3 ms st cs
calls ms st t b [] f h k = record { answers = []; returned = tt; demand = tt; kept = tt }
calls ms st t b (c ∷ cs) f h k =
    let o : One ms st c = one ms st c (rw k.0 f) (rw k.1 h) k.2 in
    let w = calls o.answer.table o.answer.state c.feeding.left.table c.feeding.left.state cs o.returned.table_holds o.returned.state_holds k.3 in
    record { answers = o.answer ∷ w.answers; returned = (o.returned, w.returned); demand = (o.line, w.demand); kept = (o.keeps, w.kept) }

-- THE LAW
pub resumed : Resumed
resumed t b ms st cs f h k = calls ms st t b cs f h k

-- and the fresh state is one
pub demand3 : Demand3
demand3 t ms cs f k = resumed t _ ms fresh cs f (record { in_range = fresh_in_range; form = refl }) k
