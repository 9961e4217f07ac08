use native.Mathlib.Omega.{arith}
use Rattle.read_scan.proofs.Laws.{handed_on, reached_behind}
use Rattle.read_action.proofs.Waiting.{quote_none, quote_39, quote_59, quote_on}
use Rattle.read_action.proofs.actions.find_quote.Goals as goal

pub returns-in_err-b : goal.returns-in_err-b
returns-in_err-b c = let loop = c.loop-b in rw (handed_on c.from_residual.ensures) (quote_none _ _ _ _ loop.invariant.2 loop.invariant.0 c.in_err-b.ensures)

pub returns-in-39 : goal.returns-in-39
returns-in-39 c = let loop = c.loop-b in quote_39 _ _ _ _ loop.invariant.2 loop.invariant.0 c.in_ok-b.ensures c.in-39.is

pub returns-in-59 : goal.returns-in-59
returns-in-59 c = let loop = c.loop-b in rw c.at.ensures (quote_59 _ _ _ _ loop.invariant.2 loop.invariant.0 c.in_ok-b.ensures c.in-59.is)

pub loop-b-preserved : goal.loop-b-preserved
loop-b-preserved c =
    let loop = c.loop-b in
    let y = c.in_ok-b.ensures in
    (omega (arith, y.found.0, loop.invariant.0), reached_behind y.found.1.stands, quote_on _ _ _ _ loop.invariant.2 loop.invariant.0 y (λ e. omega (arith, e)) (λ e. omega (arith, e)))
