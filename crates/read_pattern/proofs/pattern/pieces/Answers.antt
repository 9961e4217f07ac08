use Rattle.std.proofs.lemmas.Bool.{not-false, not-true}
use Rattle.read_scan.proofs.Laws.{handed_on}
use Rattle.read_pattern.proofs.Insides.{whole_fault, whole_unmatched, whole_empty, whole_late, whole_pattern}
use Rattle.read_pattern.proofs.pattern.pieces.Goals as goal

pub returns-in_err-q : goal.returns-in_err-q
returns-in_err-q c = rw (handed_on c.from_residual.ensures) (whole_fault c.in_err-q.ensures)

pub returns-in-Closed : goal.returns-in-Closed
returns-in-Closed c = rw c.at.ensures (whole_unmatched (rw c.in-Closed.is at c.in_ok-q.ensures))

pub returns-then-not-far : goal.returns-then-not-far
returns-then-not-far c = rw c.at-then-not-far.ensures (whole_empty (rw c.in-Quote.is at c.in_ok-q.ensures) (not-true _ c.if-not-far.true))

pub returns-then-q-a-ge-MOST_MACRO_BYTES : goal.returns-then-q-a-ge-MOST_MACRO_BYTES
returns-then-q-a-ge-MOST_MACRO_BYTES c = rw c.at-then-q-a-ge-MOST_MACRO_BYTES.ensures (whole_late (rw c.in-Quote.is at c.in_ok-q.ensures) (not-false _ c.if-not-far.false) c.if-q-a-ge-MOST_MACRO_BYTES.true)

pub returns-else-q-a-ge-MOST_MACRO_BYTES : goal.returns-else-q-a-ge-MOST_MACRO_BYTES
returns-else-q-a-ge-MOST_MACRO_BYTES c = whole_pattern (rw c.in-Quote.is at c.in_ok-q.ensures) (not-false _ c.if-not-far.false) c.if-q-a-ge-MOST_MACRO_BYTES.false
