use lib.Seq.{length-take-le}
use mathlib.Core.Path.{sym}
use Rattle.write_file.proofs.Files.{limit_room, adds}
use Rattle.write_put.specs.Puts.{short_text}
use native.Mathlib.Omega.{arith}
use Rattle.write_file.proofs.slots.write_macro.Goals as goal

pub slice_bounds-put_macro-end : goal.slice_bounds-put_macro-end
slice_bounds-put_macro-end c = omega (arith, limit_room c.args.start c.requires.0, c.limit_of-limit.ensures)

pub slice_bounds-put_macro-end-2 : goal.slice_bounds-put_macro-end-2
slice_bounds-put_macro-end-2 c = let e = limit_room c.args.start c.requires.0 in sym (length-take-le c.limit_of-limit.result c.args.file.now (omega arith))

pub put_macro-n-requires : goal.put_macro-n-requires
put_macro-n-requires c =
    let e = limit_room c.args.start c.requires.0 in
    let l = length-take-le c.limit_of-limit.result c.args.file.now (omega arith) in
    (omega arith, c.requires.2)

pub returns : goal.returns
unfolding short_text
returns c = adds _ c.requires.0 c.requires.1 c.limit_of-limit.ensures c.put_macro-n.ensures c.put-end.ensures c.answer_of.ensures
