use native.Mathlib.Omega.{arith}
use mathlib.Core.Path.{◌∙◌}
use Rattle.read_fault.proofs.Listing.{lists_more}
use Rattle.read_fault.proofs.put_fault.Goals as goal

pub overflow_mul-at : goal.overflow_mul-at
overflow_mul-at c = omega (arith, c.requires)

pub returns : goal.returns
returns c =
    let third = c.put_number-3 in
    let second = c.put_number-2 in
    let first = c.put_number in
    let args = c.args in
    let pre = c.requires in
    lists_more args.faults.now first.new.out second.new.out third.new.out args.k args.number args.q _ pre.0 (first.auto.out ∙ pre.0) pre.1 (omega arith) first.ensures second.ensures third.ensures
