-- A control line on an accepted table and a state in range gives such again, or a refusal of its own.
use Prim.Native.Nat.{ℕ, suc, ◌-◌, ◌≤◌}
use mathlib.Core.Path.{◌≡◌, ap, sym}
use mathlib.Core.List.{List}
use native.Mathlib.Omega.{arith}
use lib.Dec.{eqb}
use lib.ListN.{length, drop, length-drop}
use Rattle.macros.specs.Bounds.{most_file_bytes, most_line_bytes}
use Rattle.macros.specs.Refusals.LineRefusal.{bad_control}
use Rattle.macros.specs.Macro.{Table}
use Rattle.macros.specs.Formed.{Bytes}
use Rattle.macros.specs.Read.{Read, read_onto, read_onto_by}
use Rattle.macros.specs.ReadFile.Read.{refused_at, table}
use Rattle.macros.specs.Accepted.{Accepted}
use Rattle.macros.proofs.Paid.{refusal_shows}
use Rattle.macros.proofs.Laws.{read_keeps}
use Rattle.lines.specs.State.{State, InRange}
use Rattle.lines.specs.Matching.{begins}
use Rattle.lines.specs.Feeding.{Order, bytes, with_trace, with_nflag, flag_order, macro_order, order_of}
use Rattle.lines.specs.Feeding.Order.{wrong, orders}
use Rattle.lines.proofs.KeepBytes.{bytes_octets, bytes_drop}
use Rattle.lines.proofs.KeepTests.{by_pick, by_elim}
use Rattle.lines.proofs.KeepAnswers.{OfLine, line_number_lem, file_number_lem}
use Rattle.lines.proofs.KeepLine.{Good}

-- CONTROL LINES

abbrev pub GoodOrder : Order → Type 0
GoodOrder (wrong r) = OfLine r
GoodOrder (orders ks s) = Accepted ks × InRange s

trace_in_range : (n : ℕ) (st : State) → n ≤ 1 → InRange st → InRange (with_trace n st)
unfolding with_trace
trace_in_range n st e h = record { stack_count = h.stack_count; stacks = h.stacks; counter_count = h.counter_count; counters = h.counters; trace = e; nflag = h.nflag; entry_bytes = h.entry_bytes }

nflag_in_range : (n : ℕ) (st : State) → n ≤ 1 → InRange st → InRange (with_nflag n st)
unfolding with_nflag
nflag_in_range n st e h = record { stack_count = h.stack_count; stacks = h.stacks; counter_count = h.counter_count; counters = h.counters; trace = h.trace; nflag = e; entry_bytes = h.entry_bytes }

flag_good : (ms : Table) (st : State) (t : List ℕ) → Accepted ms → InRange st → GoodOrder (flag_order ms st t)
unfolding flag_order
flag_good ms st t a h =
    by_pick GoodOrder _ _ _ (λ e. (a, trace_in_range 0 st (omega arith) h))
    (λ e. by_pick GoodOrder _ _ _ (λ e. (a, trace_in_range 1 st (omega arith) h))
    (λ e. by_pick GoodOrder _ _ _ (λ e. (a, nflag_in_range 0 st (omega arith) h))
    (λ e. by_pick GoodOrder _ _ _ (λ e. (a, nflag_in_range 1 st (omega arith) h)) (λ e. line_number_lem bad_control))))

macro_good : (ms : Table) (st : State) (s : List ℕ) (r : Read) → Accepted ms → InRange st → Bytes s → length s ≤ most_file_bytes → read_onto ms s ≡ r → GoodOrder (macro_order ms st r)
unfolding macro_order
macro_good ms st s (refused_at r p) a h b l e = file_number_lem r p (refusal_shows ms s r p b l e)
macro_good ms st s (table ks) a h b l e =
    by_pick GoodOrder (eqb (length ks) (suc (length ms))) _ _ (λ c. ((read_keeps ms s ks a (bytes_octets s b) e).accepted, h)) (λ c. line_number_lem bad_control)

pub order_good : (ms : Table) (st : State) (t : List ℕ) → Accepted ms → Good t st → GoodOrder (order_of ms st t)
unfolding order_of
order_good ms st t a h =
    by_elim GoodOrder (begins (bytes "$MACRO") t) _ _
    (λ e.
    let l : length (drop 6 t) ≡ length t - 6 = length-drop 6 t in
    let k : length t ≤ most_line_bytes = h.fits in
    macro_good ms st (drop 6 t) (read_onto_by st.entry_bytes ms (drop 6 t)) a h.state (bytes_drop 6 t h.bytes) (omega arith) (ap (λ (k : ℕ). read_onto_by k ms (drop 6 t)) (sym h.state.entry_bytes)))
    (λ e. flag_good ms st t a h.state)
