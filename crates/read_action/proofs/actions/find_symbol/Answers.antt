use mathlib.Core.Logic.{⊎_elim}
use native.Mathlib.Omega.{arith}
use Rattle.read_scan.proofs.Laws.{handed_on, reached_behind}
use Rattle.read_action.proofs.Waiting.{symbol_none, symbol_sign, symbol_39, symbol_59, symbol_on}
use Rattle.read_action.proofs.actions.find_symbol.Goals as goal
use Rattle.read_action.proofs.actions.find_symbol.Goals.{in_default-via-then-b-lt59, in_default-via-else-b-lt59+else-b-lt62}

pub returns-in_err-b : goal.returns-in_err-b
returns-in_err-b c = let loop = c.loop-b in rw (handed_on c.from_residual.ensures) (symbol_none _ _ _ _ loop.invariant.2 loop.invariant.0 c.in_err-b.ensures)

pub returns-in-39 : goal.returns-in-39
returns-in-39 c =
    let loop = c.loop-b in
    rw c.at.ensures (⊎_elim (λ h. symbol_39 _ _ _ _ loop.invariant.2 loop.invariant.0 c.in_ok-b.ensures h) (λ h. symbol_59 _ _ _ _ loop.invariant.2 loop.invariant.0 c.in_ok-b.ensures h) c.in-39.is)

pub returns-in-61 : goal.returns-in-61
returns-in-61 c = let loop = c.loop-b in symbol_sign _ _ _ _ loop.invariant.2 loop.invariant.0 c.in_ok-b.ensures (grind arith) (omega arith)

pub loop-b-preserved : goal.loop-b-preserved
loop-b-preserved c =
    let loop = c.loop-b in
    let y = c.in_ok-b.ensures in (
      omega (arith, y.found.0, loop.invariant.0),
      reached_behind y.found.1.stands,
      elim c.in_default.branch [
        | in_default-via-then-b-lt59 w ↦ symbol_on _ _ _ _ loop.invariant.2 loop.invariant.0 y (λ e. grind (arith, e)) (λ e. grind (arith, e)) (λ e. grind (arith, e)) (λ e. grind (arith, e))
        | in_default-via-else-b-lt59+else-b-lt62 w ↦ symbol_on _ _ _ _ loop.invariant.2 loop.invariant.0 y (λ e. grind (arith, e)) (λ e. grind (arith, e)) (λ e. grind (arith, e)) (λ e. grind (arith, e))
      ],
    )
