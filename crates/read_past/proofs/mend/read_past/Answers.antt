use native.Mathlib.Omega.{arith}
use Rattle.std.proofs.Common.{ap, sym, ◌∙◌, length, ℕ}
use lib.ListN.{length-replicate}
use Rattle.form_items.proofs.Writing.{wrote_all}
use Rattle.read_scan.proofs.Laws.{handed_on}
use Rattle.read_file.proofs.Restoring.{plain_file}
use Rattle.read_past.proofs.Closing.{past_kept, past_refused, past_unread}
use Rattle.read_past.proofs.mend.read_past.Goals as goal

pub returns-in_err-whole_file : goal.returns-in_err-whole_file
returns-in_err-whole_file c =
    rw (handed_on c.from_residual.ensures) (past_unread _ _ _ _ c.in_err-whole_file.ensures c.requires.0 c.requires.1)

pub from_start-past-requires : goal.from_start-past-requires
from_start-past-requires c = ((plain_file _ c.in_ok-whole_file.ensures).0, c.requires.0, c.requires.1)

pub clear-requires : goal.clear-requires
clear-requires c = omega (arith, c.from_start-past.auto.table, ap length c.requires.0, length-replicate {A = ℕ} 98304 0)

pub clear-requires-then-is_err : goal.clear-requires-then-is_err
clear-requires-then-is_err c = omega (arith, c.from_start-past.auto.faults, ap length c.requires.1, length-replicate {A = ℕ} 2052 0)

pub returns-then-is_err : goal.returns-then-is_err
returns-then-is_err c =
    let p = plain_file _ c.in_ok-whole_file.ensures in
    past_refused _ p.0 p.1 _ _ _ _ c.from_start-past.result c.if-is_err.ensures.negation c.from_start-past.ensures
    (wrote_all c.clear.ensures (length-replicate {A = ℕ} 98304 0 ∙ sym (c.clear.auto.out ∙ (c.from_start-past.auto.table ∙ (ap length c.requires.0 ∙ length-replicate {A = ℕ} 98304 0)))))
    (wrote_all c.clear-then-is_err.ensures (length-replicate {A = ℕ} 2052 0 ∙ sym (c.clear-then-is_err.auto.out ∙ (c.from_start-past.auto.faults ∙ (ap length c.requires.1 ∙ length-replicate {A = ℕ} 2052 0)))))

pub returns-else-is_err : goal.returns-else-is_err
returns-else-is_err c =
    let p = plain_file _ c.in_ok-whole_file.ensures in
    past_kept _ p.0 p.1 _ _ c.from_start-past.result c.if-is_err.ensures.negation c.from_start-past.ensures
