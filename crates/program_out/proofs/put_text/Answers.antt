use native.Mathlib.Omega.{arith}
use Rattle.program_out.proofs.Laws.{put_behind, put_front, put_none}
use Rattle.program_out.proofs.put_text.Goals as goal

pub returns-then-text-out-clause-gives : goal.returns-then-text-out-clause-gives
returns-then-text-out-clause-gives g c =
    let h = put_behind c.args.out.now c.args.text.now c.args.used (omega arith) c.append.ensures.gives in
    h.0

pub returns-then-text-out-2-clause-gives : goal.returns-then-text-out-2-clause-gives
returns-then-text-out-2-clause-gives g c =
    let h = put_front c.args.out.now c.args.text.now c.args.used (omega arith) (omega arith) c.append-then-text-out-2.ensures.gives in
    h.0

pub returns-clause-gives : goal.returns-clause-gives
returns-clause-gives g c =
    let h = put_none c.args.out.now c.args.text.now c.args.used (omega arith) (omega arith) in
    h.0
