use Rattle.std.proofs.Common.{◌≡◌, ◌+◌, ◌≤◌, length}
use Rattle.std.specs.Slice.Iter.{chunks_exact_rest, chunks_exact_size}
use Rattle.read_plan.specs.Elements.{element_items}
use Rattle.read_plan.proofs.count_elements.Given as goal

abbrev pub invariant-loop-item : goal.invariant-loop-item
invariant-loop-item l =
    (goal.iterator-loop-item).can_next l.item-iterator × (goal.iterator-loop-item).is_finite l.item-iterator
    × (chunks_exact_size l.item-iterator ≡ 2) × (l.n + length (chunks_exact_rest l.item-iterator) ≤ length l.items)
    × (element_items l.items ≡ l.n + element_items (chunks_exact_rest l.item-iterator))
