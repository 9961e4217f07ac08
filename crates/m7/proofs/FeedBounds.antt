-- What feeding a line answers is within the bounds of the answer's numbers.
use Prim.Native.Nat.{ℕ, zero, suc, ◌≤◌}
use mathlib.Core.Path.{◌≡◌, refl, ap}
use mathlib.Core.Bool.{Bool, true, false}
use mathlib.Core.List.{List}
use native.Mathlib.Omega.{arith}
use borrow.Author.Tests.{leb-true}
use lib.Dec.{leb, eqb}
use lib.ListN.{length, drop}
use Rattle.macros.specs.Bounds.{most_file_bytes, most_line_bytes, most_budget}
use Rattle.macros.specs.Refusals.{place}
use Rattle.macros.specs.Refusals.Refusal.{of_host}
use Rattle.macros.specs.Refusals.HostRefusal.{budget_too_large}
use Rattle.macros.specs.Macro.{Table}
use Rattle.macros.specs.Formed.{Octets}
use Rattle.macros.specs.Read.{Read, read_onto_by}
use Rattle.macros.specs.ReadFile.Read.{refused_at, table}
use Rattle.macros.specs.Accepted.{Accepted}
use Rattle.lines.specs.State.{State, InRange}
use Rattle.lines.specs.Matching.{begins}
use Rattle.lines.specs.Line.{Sent, Pass, Ending, passes_of, had_occurrence, ending}
use Rattle.lines.specs.Trace.{history_of}
use Rattle.lines.specs.Line.Ending.{refused, done, control}
use Rattle.lines.specs.Feeding.{Order, Answer, bytes, flag_order, macro_order, order_of, place_of, kind_of_done, refusal, of_order, answered, answer, has_bad_byte, feed}
use Rattle.lines.specs.Feeding.Order.{wrong, orders}
use Rattle.lines.proofs.KeepTests.{by_pick, by_elim}
use Rattle.lines.proofs.FeedKeeps.{feed_keeps}
use Rattle.m7.proofs.Places.{onto_place}

-- THE PLACE

unfoldable order_place : Order → ℕ
order_place (wrong r) = place r
order_place (orders ks st) = 0

abbrev Near : Order → Type 0
Near o = order_place o ≤ most_file_bytes

flag_near : (ms : Table) (st : State) (t : List ℕ) → Near (flag_order ms st t)
unfolding flag_order order_place place
flag_near ms st t =
    by_pick Near _ _ _ (λ e. omega arith)
    (λ e. by_pick Near _ _ _ (λ e. omega arith)
    (λ e. by_pick Near _ _ _ (λ e. omega arith) (λ e. by_pick Near _ _ _ (λ e. omega arith) (λ e. omega arith))))

macro_near : (ms : Table) (st : State) (s : List ℕ) (r : Read) → read_onto_by st.entry_bytes ms s ≡ r → Near (macro_order ms st r)
unfolding macro_order order_place place
macro_near ms st s (refused_at f q) e = onto_place st.entry_bytes ms s e
macro_near ms st s (table ks) e = by_pick Near (eqb (length ks) (suc (length ms))) _ _ (λ c. omega arith) (λ c. omega arith)

order_near : (ms : Table) (st : State) (t : List ℕ) → Near (order_of ms st t)
unfolding order_of
order_near ms st t = by_elim Near (begins (bytes "$MACRO") t) _ _ (λ e. macro_near ms st (drop 6 t) (read_onto_by st.entry_bytes ms (drop 6 t)) refl) (λ e. flag_near ms st t)

abbrev InFile : Answer → Type 0
InFile a = place_of a.kind ≤ most_file_bytes

module _ (ms : Table) (st : State) where
  ruled_place : (xs : List Pass) (o : Order) → Near o → InFile (of_order ms st xs o)
  unfolding of_order order_place refusal place_of
  ruled_place xs (wrong r) h = h
  ruled_place xs (orders ks s) h = omega arith

  done_place : (f : ℕ) (o : Bool) (t : List ℕ) → place_of (kind_of_done f o t) ≤ most_file_bytes
  unfolding kind_of_done place_of
  done_place zero o t = omega arith
  done_place (suc f) true t = omega arith
  done_place (suc f) false t = omega arith

  answered_place : (xs : List Pass) (e : Ending) → InFile (answered ms st xs e)
  unfolding answered refusal place_of place
  answered_place xs (refused r) = omega arith
  answered_place xs (done t s) = done_place s.nflag (had_occurrence xs) t
  answered_place xs (control t s) = ruled_place xs (order_of ms s t) (order_near ms s t)

  pub feed_place : (sent : Sent) → place_of (feed ms st sent).kind ≤ most_file_bytes
  unfolding feed answer refusal place_of place
  feed_place sent =
      by_elim InFile (leb sent.budget most_budget) _ _
      (λ e. by_elim InFile (leb (length sent.line) most_line_bytes) _ _
      (λ f. by_elim InFile (has_bad_byte sent.line) _ _ (λ g. omega arith)
      (λ g. answered_place (passes_of (history_of ms st sent)) (ending (history_of ms st sent))))
      (λ f. omega arith))
      (λ e. omega arith)

-- THE PASSES

module _ (ms : Table) (st : State) (sent : Sent) (a : Accepted ms) (i : InRange st) (o : Octets sent.line) where
  by_budget : (c : Bool) → leb sent.budget most_budget ≡ c → (feed ms st sent).passes ≤ most_budget
  unfolding feed refusal
  by_budget true e = let h = leb-true sent.budget most_budget e in let k = (feed_keeps ms st sent a i o).passes in omega arith
  by_budget false e = let q : feed ms st sent ≡ refusal ms st 0 (of_host budget_too_large) = rw (feed, e) refl in let z : (feed ms st sent).passes ≡ 0 = ap (λ (x : Answer). x.passes) q in omega arith

  pub feed_passes : (feed ms st sent).passes ≤ most_budget
  feed_passes = by_budget (leb sent.budget most_budget) refl
