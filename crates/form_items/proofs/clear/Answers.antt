use native.Mathlib.Omega.{arith}
use Rattle.form_items.proofs.Writing.{wrote_fill}
use Rattle.form_items.proofs.clear.Goals as goal

pub returns : goal.returns
returns c = wrote_fill _ _ c.args.n c.args.k _ 0 (omega arith) c.requires (c.fill.ensures.after (λ y e. e))
