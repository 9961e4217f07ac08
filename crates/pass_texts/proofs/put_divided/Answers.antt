use native.Mathlib.Omega.{arith}
use Rattle.pass_texts.proofs.Putting.{inserts_by}
use Rattle.pass_texts.proofs.Digits.{divided_put}
use Rattle.pass_texts.proofs.put_divided.Goals as goal

pub returns : goal.returns
returns c =
    let q = c.put_figures-space in
    let r = c.put_figures-end in
    inserts_by (divided_put c.args.v c.args.n q.ensures (omega (arith, q.ensures.few, q.auto.text)) r.ensures) c.put.ensures
