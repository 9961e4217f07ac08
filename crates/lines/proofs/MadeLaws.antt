-- A table that reading or lines have made is accepted, and its written file is read as the same table.
use mathlib.Core.List.{List, [], ◌∷◌}
use native.Mathlib.Omega.{arith}
use Rattle.macros.specs.Macro.{Table}
use Rattle.macros.specs.Read.{read_file_by}
use Rattle.macros.specs.Accepted.{Accepted}
use Rattle.macros.proofs.Laws.{round_trip, read_keeps}
use Rattle.lines.specs.State.{State}
use Rattle.lines.specs.Line.{Sent}
use Rattle.lines.specs.Feeding.{Answer, feeds}
use Rattle.lines.specs.FeedKeeps.{EachKept}
use Rattle.lines.specs.Made.{table_after, MadeReadsBack, MadeAccepted}
use Rattle.lines.specs.Made.Made.{by_reading, by_lines}
use Rattle.lines.proofs.FeedKeeps.{feeds_from}

-- each answer leaves an accepted table, so the last one does
after_accepted : (ms : Table) (st : State) (xs : List Sent) (as₁ : List Answer) → Accepted ms → EachKept ms st xs as₁ → Accepted (table_after ms as₁)
unfolding table_after
after_accepted ms st [] [] a k = a
after_accepted ms st [] (y ∷ ys) a k = absurd k
after_accepted ms st (x ∷ xs) [] a k = absurd k
after_accepted ms st (x ∷ xs) (y ∷ ys) a k = after_accepted y.table y.state xs ys k.0.table k.1

pub made_accepted : MadeAccepted
unfolding read_file_by
made_accepted ms (by_reading s o e) = (read_keeps [] s ms (record { count = omega arith; macros = tt }) o e).accepted
made_accepted ms (by_lines first st xs a i o e) = rw (← e) (after_accepted first st xs (feeds first st xs) a (feeds_from first st xs a i o))

-- THE LAW

pub made_reads_back : MadeReadsBack
made_reads_back ms s m e =
    let a = made_accepted ms m in
    let w = round_trip ms s a e in
    record { back = w.back; fits = w.fits; bytes = w.bytes; count = a.count; short = w.short }
