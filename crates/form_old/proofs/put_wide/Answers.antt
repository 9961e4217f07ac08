use native.Mathlib.Omega.{arith}
use Rattle.form_state.proofs.Replaced.{replaced_mid}
use Rattle.form_old.proofs.Turns.{wide_laid}
use Rattle.form_old.proofs.put_wide.Goals as goal

pub returns : goal.returns
returns c =
    let a = c.args in
    wide_laid a.state.now _ _ a.entry.now a.at c.requires.0 c.requires.1 (replaced_mid a.state.now _ a.entry.now a.at _ c.copy_from_slice.ensures.after (omega (arith, c.requires))) c.clear.ensures
