use Prim.Native.Nat.{ℕ}
use mathlib.Core.List.{List, ◌∷◌}
use mathlib.Core.Path.{ap}
use Rattle.write_file.proofs.Slotted.{ordered, replacement_here, commands_here}
use Rattle.write_put.proofs.Putting.{also, by_bytes}
use Rattle.write_file.specs.Slots.{right_text}
use Rattle.write_actions.specs.Items.{actions_text}
use Rattle.write_put.specs.Puts.{short_text}
use native.Mathlib.Omega.{arith}
use Rattle.write_file.proofs.slots.put_right.Goals as goal

pub pattern_end-p-requires : goal.pattern_end-p-requires
pattern_end-p-requires c = c.requires.1

pub two_at-requires : goal.two_at-requires
two_at-requires c = omega (arith, c.requires.1.size)

pub overflow_add-r : goal.overflow_add-r
overflow_add-r c = omega (arith, ordered c.args.slot.now c.requires.1, c.pattern_end-p.ensures, c.two_at.ensures.0)

pub two_at-requires-2 : goal.two_at-requires-2
two_at-requires-2 c = omega (arith, c.requires.1.size)

pub overflow_add-e : goal.overflow_add-e
overflow_add-e c = omega (arith, ordered c.args.slot.now c.requires.1, c.pattern_end-p.ensures, c.two_at.ensures.0, c.two_at-2.ensures.0)

pub slice_bounds-put_quoted-end : goal.slice_bounds-put_quoted-end
slice_bounds-put_quoted-end c = omega (arith, ordered c.args.slot.now c.requires.1, c.pattern_end-p.ensures, c.two_at.ensures.0)

pub put_quoted-a-requires : goal.put_quoted-a-requires
put_quoted-a-requires c = (c.requires.0, rw (replacement_here c.args.slot.now c.pattern_end-p.ensures c.two_at.ensures.0) c.requires.1.replacement)

pub slice_bounds-put_quoted-end-2 : goal.slice_bounds-put_quoted-end-2
slice_bounds-put_quoted-end-2 c = omega (arith, ordered c.args.slot.now c.requires.1, c.pattern_end-p.ensures, c.two_at.ensures.0, c.two_at-2.ensures.0)

pub put_quoted-b-requires : goal.put_quoted-b-requires
put_quoted-b-requires c = (omega (arith, c.requires.0, c.put_quoted-a.auto.file), rw (commands_here c.args.slot.now c.pattern_end-p.ensures c.two_at.ensures.0 c.two_at-2.ensures.0) c.requires.1.commands)

pub put-requires : goal.put-requires
put-requires c = omega (arith, c.requires.0, c.put_quoted-a.auto.file, c.put_quoted-b.auto.file)

pub shape_of-file : goal.shape_of-file
shape_of-file c = omega (arith, c.put_quoted-a.auto.file, c.put_quoted-b.auto.file, c.put.auto.file)

pub returns : goal.returns
unfolding right_text short_text
returns c =
    let slot = c.args.slot.now in
    let one = by_bytes (ap (λ (l : List ℕ). 39 ∷ actions_text 0 l) (replacement_here slot c.pattern_end-p.ensures c.two_at.ensures.0)) c.put_quoted-a.ensures in
    let two = by_bytes (ap (λ (l : List ℕ). 39 ∷ actions_text 0 l) (commands_here slot c.pattern_end-p.ensures c.two_at.ensures.0 c.two_at-2.ensures.0)) c.put_quoted-b.ensures in
    also one (also two c.put.ensures)
