use mathlib.Core.Path.{◌≡◌, refl, ◌∙◌}
use mathlib.Core.List.{map}
use lib.Dec.{eqb}
use borrow.Author.Rules.{rules}
use Rattle.std.proofs.lemmas.Fn.{fold_over, fronts}
use Rattle.std.proofs.lemmas.Iterator.{zips, YieldsList-from_slice, YieldsList-from_zip}
use Rattle.std.proofs.lemmas.Iterator.Consumers.{YieldsList-at}
use Rattle.form_bytes.specs.Zeros.{all_zero}
use Rattle.form_bytes.proofs.Zeros.{union_more, four_all, union}
use Rattle.form_bytes.proofs.four_zero.Goals as goal

pub returns : goal.returns
unfolding all_zero
returns c =
    let first = YieldsList-from_zip (YieldsList-at c.zip.ensures.first (YieldsList-from_slice c.args.a.now c.iter.ensures.rest)) (YieldsList-from_slice {s = c.zip.result.b} c.args.b.now c.zip.ensures.second.0) in
    let second = YieldsList-from_zip (YieldsList-at c.zip-2.ensures.first (YieldsList-from_slice c.args.c.now c.iter-2.ensures.rest)) (YieldsList-from_slice {s = c.zip-2.result.b} c.args.d.now c.zip-2.ensures.second.0) in
    let road = YieldsList-from_zip (YieldsList-at c.zip-pairs.ensures.first first) (YieldsList-at c.zip-pairs.ensures.second second) in
    fold_over (zips (zips fronts fronts) (zips fronts fronts)) (λ p. ((p.0.0.now, p.0.1.now), (p.1.0.now, p.1.1.now))) _ (λ ys n. eqb n 0 ≡ all_zero (map union ys)) _
    (λ ys a x b f' j k. let more = union_more ys ((x.0.0.now, x.0.1.now), (x.1.0.now, x.1.1.now)) a j in search rules)
    _ _ _ _ road.runs refl c.fold.ensures.ran
    ∙ four_all _ _ _ _ c.requires.0 c.requires.1 c.requires.2
