use mathlib.Core.Path.{refl, ap, ◌∙◌}
use native.Mathlib.Omega.{arith}
use Rattle.write_pattern.specs.Items.{pattern_text}
use Rattle.write_actions.specs.Items.{actions_text}
use Rattle.write_put.proofs.Putting.{count_as, count_also}
use Rattle.write_file.proofs.Slotted.{ordered, part_here, replacement_here, commands_here, pattern_fits}
use Rattle.write_file.proofs.Onward.{size_least}
use Rattle.write_file.proofs.slots.written_size.Goals as goal

pub before_end-b-requires : goal.before_end-b-requires
before_end-b-requires c = c.requires

pub pattern_end-p-requires : goal.pattern_end-p-requires
pattern_end-p-requires c = c.requires

pub two_at-requires : goal.two_at-requires
two_at-requires c = omega (arith, c.requires.size)

pub overflow_add-r : goal.overflow_add-r
overflow_add-r c = omega (arith, ordered c.args.slot.now c.requires, c.pattern_end-p.ensures, c.before_end-b.ensures, c.two_at.ensures.0)

pub two_at-requires-2 : goal.two_at-requires-2
two_at-requires-2 c = omega (arith, c.requires.size)

pub overflow_add-e : goal.overflow_add-e
overflow_add-e c = omega (arith, ordered c.args.slot.now c.requires, c.pattern_end-p.ensures, c.before_end-b.ensures, c.two_at.ensures.0, c.two_at-2.ensures.0)

pub slice_bounds-count_actions-count : goal.slice_bounds-count_actions-count
slice_bounds-count_actions-count c = omega (arith, ordered c.args.slot.now c.requires, c.pattern_end-p.ensures, c.before_end-b.ensures)

pub slice_bounds-count_actions-start : goal.slice_bounds-count_actions-start
slice_bounds-count_actions-start c = omega (arith, ordered c.args.slot.now c.requires, c.pattern_end-p.ensures, c.before_end-b.ensures)

pub slice_bounds-count_actions-end : goal.slice_bounds-count_actions-end
slice_bounds-count_actions-end c = omega (arith, ordered c.args.slot.now c.requires, c.pattern_end-p.ensures, c.before_end-b.ensures, c.two_at.ensures.0, c.two_at-2.ensures.0)

pub count_actions-called-requires : goal.count_actions-called-requires
count_actions-called-requires c = rw (part_here c.args.slot.now refl c.before_end-b.ensures) c.requires.before

pub slice_bounds-count_pattern-count : goal.slice_bounds-count_pattern-count
slice_bounds-count_pattern-count c = omega (arith, ordered c.args.slot.now c.requires, c.pattern_end-p.ensures, c.before_end-b.ensures)

pub slice_bounds-count_pattern-start : goal.slice_bounds-count_pattern-start
slice_bounds-count_pattern-start c = omega (arith, ordered c.args.slot.now c.requires, c.pattern_end-p.ensures, c.before_end-b.ensures)

pub slice_bounds-count_pattern-end : goal.slice_bounds-count_pattern-end
slice_bounds-count_pattern-end c = omega (arith, ordered c.args.slot.now c.requires, c.pattern_end-p.ensures, c.before_end-b.ensures, c.two_at.ensures.0, c.two_at-2.ensures.0)

pub count_pattern-matched-requires : goal.count_pattern-matched-requires
count_pattern-matched-requires c = (pattern_fits c.args.slot.now c.before_end-b.ensures c.pattern_end-p.ensures c.requires).0

pub slice_bounds-count_actions-end-2 : goal.slice_bounds-count_actions-end-2
slice_bounds-count_actions-end-2 c = omega (arith, ordered c.args.slot.now c.requires, c.pattern_end-p.ensures, c.before_end-b.ensures, c.two_at.ensures.0, c.two_at-2.ensures.0)

pub count_actions-replaced-requires : goal.count_actions-replaced-requires
count_actions-replaced-requires c = rw (replacement_here c.args.slot.now c.pattern_end-p.ensures c.two_at.ensures.0) c.requires.replacement

pub slice_bounds-count_actions-end-3 : goal.slice_bounds-count_actions-end-3
slice_bounds-count_actions-end-3 c = omega (arith, ordered c.args.slot.now c.requires, c.pattern_end-p.ensures, c.before_end-b.ensures, c.two_at.ensures.0, c.two_at-2.ensures.0)

pub count_actions-n-requires : goal.count_actions-n-requires
count_actions-n-requires c = rw (commands_here c.args.slot.now c.pattern_end-p.ensures c.two_at.ensures.0 c.two_at-2.ensures.0) c.requires.commands

pub returns : goal.returns
returns c =
    let slot = c.args.slot.now in
    let one = count_as (ap (actions_text 0) (part_here slot refl c.before_end-b.ensures)) c.count_actions-called.ensures in
    let two = count_as (ap (pattern_text 0) (part_here slot c.before_end-b.ensures c.pattern_end-p.ensures)) c.count_pattern-matched.ensures in
    let three = count_as (ap (actions_text 0) (replacement_here slot c.pattern_end-p.ensures c.two_at.ensures.0)) c.count_actions-replaced.ensures in
    let four = count_as (ap (actions_text 0) (commands_here slot c.pattern_end-p.ensures c.two_at.ensures.0 c.two_at-2.ensures.0)) c.count_actions-n.ensures in
    c.min.ensures ∙ size_least slot (count_also one (count_also two (count_also three four)))
