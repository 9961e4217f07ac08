use mathlib.Core.Path.{refl}
use Rattle.word_find.proofs.Walking.{run_inside, run_short, so_start, so_next, so_done, hit_small}
use native.Mathlib.Omega.{arith}
use Rattle.word_find.proofs.walk.find.Goals as goal

pub loop-i-init : goal.loop-i-init
loop-i-init c = (refl, so_start _ _)

pub word_end-e-requires : goal.word_end-e-requires
word_end-e-requires c = (c.requires.0, omega arith)

pub slice_bounds-hits-start : goal.slice_bounds-hits-start
slice_bounds-hits-start c = omega (arith, c.word_end-e.ensures)

pub slice_bounds-hits-end : goal.slice_bounds-hits-end
slice_bounds-hits-end c = omega (arith, run_inside c.args.line.now c.loop-i.i c.word_end-e.result (omega arith) c.word_end-e.ensures)

pub hits-h-requires : goal.hits-h-requires
hits-h-requires c = (c.count_letters-count.ensures, omega (arith, c.loop-i.invariant.0, c.requires.1, c.requires.2, run_short c.args.line.now c.loop-i.i c.word_end-e.result))

pub overflow_add-n : goal.overflow_add-n
overflow_add-n c = omega (arith, hit_small c.args.pattern.now c.args.line.now c.loop-i.n c.loop-i.first c.loop-i.i c.loop-i.invariant.1 c.loop-i-test.true c.word_end-e.ensures c.hits-h.ensures, c.loop-i.invariant.1.few, c.loop-i.invariant.1.reach, c.requires.1)

pub overflow_add-i : goal.overflow_add-i
overflow_add-i c = omega (arith, run_inside c.args.line.now c.loop-i.i c.word_end-e.result (omega arith) c.word_end-e.ensures)

pub loop-i-smaller : goal.loop-i-smaller
loop-i-smaller c = omega (arith, c.word_end-e.ensures, run_inside c.args.line.now c.loop-i.i c.word_end-e.result (omega arith) c.word_end-e.ensures)

pub loop-i-preserved : goal.loop-i-preserved
loop-i-preserved c = (omega (arith, c.hits-h.auto.marks, c.loop-i.invariant.0), so_next c.args.pattern.now c.args.line.now c.loop-i.n c.loop-i.first c.loop-i.i c.loop-i.invariant.1 c.loop-i-test.true c.word_end-e.ensures c.hits-h.ensures c.first_of-first.ensures)

pub overflow_cast-result : goal.overflow_cast-result
overflow_cast-result c = omega (arith, c.loop-i.invariant.1.few, c.loop-i.invariant.1.low, c.loop-i.invariant.1.reach, c.requires.1)

pub overflow_cast-result-2 : goal.overflow_cast-result-2
overflow_cast-result-2 c = omega (arith, c.loop-i.invariant.1.few, c.loop-i.invariant.1.low, c.loop-i.invariant.1.reach, c.requires.1)

pub shape_of-marks : goal.shape_of-marks
shape_of-marks c = c.loop-i.invariant.0

pub returns : goal.returns
returns c = so_done c.args.pattern.now c.args.line.now c.loop-i.n c.loop-i.first c.loop-i.i (omega arith) c.loop-i.invariant.1
