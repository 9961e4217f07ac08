use Prim.Native.Nat.{ℕ}
use mathlib.Core.List.{List, [], ◌∷◌}
use mathlib.Core.Path.{ap}
use Rattle.write_file.proofs.Slotted.{ordered, part_here, pattern_fits}
use Rattle.write_put.proofs.Putting.{also, by_bytes}
use Rattle.write_file.specs.Slots.{left_text}
use Rattle.write_pattern.specs.Items.{pattern_text}
use Rattle.write_put.specs.Puts.{short_text}
use native.Mathlib.Omega.{arith}
use Rattle.write_file.proofs.slots.put_left.Goals as goal

pub before_end-a-requires : goal.before_end-a-requires
before_end-a-requires c = c.requires.1

pub pattern_end-e-requires : goal.pattern_end-e-requires
pattern_end-e-requires c = c.requires.1

pub slice_bounds-put_pattern-count : goal.slice_bounds-put_pattern-count
slice_bounds-put_pattern-count c = omega (arith, ordered c.args.slot.now c.requires.1, c.before_end-a.ensures, c.pattern_end-e.ensures)

pub slice_bounds-put_pattern-start : goal.slice_bounds-put_pattern-start
slice_bounds-put_pattern-start c = omega (arith, ordered c.args.slot.now c.requires.1, c.before_end-a.ensures, c.pattern_end-e.ensures)

pub slice_bounds-put_pattern-end : goal.slice_bounds-put_pattern-end
slice_bounds-put_pattern-end c = omega (arith, ordered c.args.slot.now c.requires.1, c.pattern_end-e.ensures)

pub put_pattern-m-requires : goal.put_pattern-m-requires
put_pattern-m-requires c =
    let fits = pattern_fits c.args.slot.now c.before_end-a.ensures c.pattern_end-e.ensures c.requires.1 in
    (c.requires.0, fits.0, fits.1)

pub put-requires : goal.put-requires
put-requires c = omega (arith, c.requires.0, c.put_pattern-m.auto.file)

pub shape_of-file : goal.shape_of-file
shape_of-file c = omega (arith, c.put_pattern-m.auto.file, c.put.auto.file)

pub returns : goal.returns
unfolding left_text short_text
returns c =
    let one = by_bytes (ap (λ (l : List ℕ). 39 ∷ pattern_text 0 l) (part_here c.args.slot.now c.before_end-a.ensures c.pattern_end-e.ensures)) c.put_pattern-m.ensures in
    also one (by_bytes (ap (λ (x : ℕ). 39 ∷ x ∷ []) c.symbol-sign.ensures) c.put.ensures)
