use Rattle.std.proofs.Common.{◌≡◌, length}
use Rattle.std.specs.Slice.Iter.{chunks_exact_rest, chunks_exact_size}
use Rattle.write_put.specs.Puts.{Rest}
use Rattle.write_pattern.specs.Items.{pattern_text}
use Rattle.write_pattern.proofs.put_pattern.Given as goal

abbrev pub invariant-loop-item : goal.invariant-loop-item
invariant-loop-item l =
    (goal.iterator-loop-item).can_next l.item-iterator × (goal.iterator-loop-item).is_finite l.item-iterator
    × (chunks_exact_size l.item-iterator ≡ 2) × (length l.file ≡ length l.initial.file)
    × Rest l.initial.n (pattern_text 0 l.items) l.initial.file l.n (pattern_text l.held (chunks_exact_rest l.item-iterator)) l.file
