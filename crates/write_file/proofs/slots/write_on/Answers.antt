use native.Mathlib.Omega.{arith}
use lib.ListN.{length}
use mathlib.Core.Path.{subst}
use Rattle.write_file.specs.Contract.{WritesOn}
use Rattle.write_file.specs.Slots.{slot_text}
use Rattle.std.proofs.lemmas.Result.{err_from_is_err_and}
use Rattle.write_file.proofs.Onward.{macro_parts, capped_small, so_far_within, writes_on, writes_no_more}
use Rattle.write_file.proofs.slots.write_on.Goals as goal

pub returns-in_err-start : goal.returns-in_err-start
returns-in_err-start c = let p = err_from_is_err_and c.from_residual.result c.from_residual.ensures.1 in rw (p.1, p.2) (subst (WritesOn c.args.so c.args.slot.now) c.in_err-start.was (writes_no_more c.in_err-start.was))

pub written_size-size-requires : goal.written_size-size-requires
written_size-size-requires c = macro_parts c.requires.1

pub limit_of-requires : goal.limit_of-requires
limit_of-requires c = omega (arith, so_far_within c.requires.0 c.in_ok-start.was)

pub overflow_add-start : goal.overflow_add-start
overflow_add-start c = omega (arith, so_far_within c.requires.0 c.in_ok-start.was, capped_small (length (slot_text c.args.slot.now)), c.written_size-size.ensures)

pub overflow_add-start-2 : goal.overflow_add-start-2
overflow_add-start-2 c = omega (arith, so_far_within c.requires.0 c.in_ok-start.was, capped_small (length (slot_text c.args.slot.now)), c.written_size-size.ensures)

pub overflow_add-start-3 : goal.overflow_add-start-3
overflow_add-start-3 c = omega (arith, so_far_within c.requires.0 c.in_ok-start.was, capped_small (length (slot_text c.args.slot.now)), c.written_size-size.ensures)

pub returns : goal.returns
returns c = writes_on c.in_ok-start.was c.written_size-size.ensures (rw c.limit_of.ensures at c.answer_of.ensures)
