-- m7_feed has one result.
use mathlib.Core.Path.{◌≡◌, refl, sym, ◌∙◌}
use mathlib.Core.Bool.{Bool, true, false}
use Rattle.macros.specs.Macro.{Table}
use Rattle.macros.specs.Refusals.{HostRefusal}
use Rattle.macros.specs.Refusals.HostRefusal.{bad_memory, bad_table, bad_state}
use Rattle.macros.specs.Formed.{Octets}
use Rattle.form_table.specs.Check.{checks}
use Rattle.form_table.proofs.Basics.{clash}
use Rattle.form_table.proofs.Tables.{check_exact}
use Rattle.lines.specs.State.{State}
use Rattle.lines.specs.Line.{Sent}
use Rattle.lines.specs.Feeding.{feed}
use Rattle.lines.specs.Feeding.{Answer as Answered}
use Rattle.form_state.specs.Check.{state_checks}
use Rattle.form_state.specs.Access.{Holds}
use Rattle.form_state.proofs.Decode.{state_check_exact}
use Rattle.line_memory.specs.Memory.{Memories, IsTable}
use Rattle.m7.specs.Feeding.{Feeds, Returns, Refuses, sized_to_feed}
use Rattle.m7_demands.specs.OneFeed.{Returned, called_with, Same, OneFeed}

-- the memories are equal by their parts
pub memories_same : (x y : Memories) → x.table ≡ y.table → x.state ≡ y.state → x.output ≡ y.output → x.trace ≡ y.trace → x ≡ y
memories_same x y t s o r = λ i. record { table = t i; state = s i; output = o i; trace = r i }

-- two calls that are lent the same memories, with a line each
module _ (x y : Sent) (m : Memories) (w v : Returned) where
  -- both are refused with the same
  pub both_refuse : (r : HostRefusal) → Refuses (called_with x m w) r → Refuses (called_with y m v) r → Same w v
  both_refuse r f g = record { answers = f.answer ∙ sym g.answer; memories = f.memories ∙ sym g.memories }

  -- both return the same
  pub both_return : (a : Answered) → Returns (called_with x m w) a → Returns (called_with y m v) a → Same w v
  both_return a f g =
      record {
        answers = f.answers ∙ sym g.answers;
        memories =
            memories_same w.memories v.memories (sym f.table_holds.form ∙ g.table_holds.form) (sym f.state_holds.form ∙ g.state_holds.form)
            (f.output_holds ∙ sym g.output_holds) (f.trace_holds ∙ sym g.trace_holds);
      }

-- what the memories alone tell of every call that is lent them
pub data Called (m : Memories) : Type 0 where
  refuses : (r : HostRefusal) → ((sent : Sent) (w : Returned) → Feeds (called_with sent m w) → Refuses (called_with sent m w) r) → Called m
  returns : (ms : Table) (st : State) → ((sent : Sent) (w : Returned) → Feeds (called_with sent m w) → Returns (called_with sent m w) (feed ms st sent)) → Called m

module _ (m : Memories) (ot : Octets m.table) (ob : Octets m.state) where
  of_state : (ms : Table) → IsTable m.table ms → (d : Bool) → state_checks m.state ≡ d → sized_to_feed m ≡ true → Called m
  of_state ms f false e p =
      let no : (st : State) → Holds m.state st → ⊥ = λ st h. clash ((state_check_exact m.state ob).1 (st, h.in_range, h.form)) e in
      refuses bad_state (λ sent w k. k.no_state p ms f no)
  of_state ms f true e p =
      let k = (state_check_exact m.state ob).0 e in
      let h : Holds m.state k.0 = record { in_range = k.1; form = k.2 } in
      returns ms k.0 (λ sent w c. c.fed p ms f k.0 h)

  of_table : (d : Bool) → checks m.table ≡ d → sized_to_feed m ≡ true → Called m
  of_table false e p =
      let no : (ms : Table) → IsTable m.table ms → ⊥ = λ ms f. clash ((check_exact m.table ot).1 (ms, f.accepted, f.form)) e in
      refuses bad_table (λ sent w k. k.no_table p no)
  of_table true e p =
      let k = (check_exact m.table ot).0 e in of_state k.0 (record { accepted = k.1; form = k.2 }) (state_checks m.state) refl p

  of_sizes : (d : Bool) → sized_to_feed m ≡ d → Called m
  of_sizes false p = refuses bad_memory (λ sent w k. k.other_size p)
  of_sizes true p = of_table (checks m.table) refl p

  pub called : Called m
  called = of_sizes (sized_to_feed m) refl

pub one_feed : OneFeed
one_feed sent m ot ob w v x y = go (called m ot ob)
  where
    go : Called m → Same w v
    go (refuses r f) = both_refuse sent sent m w v r (f sent w x) (f sent v y)
    go (returns ms st f) = both_return sent sent m w v (feed ms st sent) (f sent w x) (f sent v y)
