use Prim.Native.Nat.{ℕ}
use mathlib.Core.Path.{refl, sym, ◌∙◌}
use native.Mathlib.Omega.{arith}
use lib.ListN.{length, replicate, length-replicate}
use Rattle.form_state.proofs.Replaced.{replaced_whole, replaced_fill}
use Rattle.form_fresh.proofs.Fresh.{fresh_stored}
use Rattle.form_fresh.proofs.put_fresh.Goals as goal

pub returns : goal.returns
returns c =
    let b = c.args.state.now in
    let zeros = c.fill.ensures.after (λ y e. e) ∙ sym (replaced_whole b (replicate (length b) 0) (sym (length-replicate {A = ℕ} (length b) 0))) in
    fresh_stored b c.fill.new.self _ c.put_ones.new.state c.requires zeros
    (replaced_fill c.fill.new.self c.fill-2.new.self 2 26 26 1 refl (omega (arith, c.requires, c.fill.ensures.len)) (c.fill-2.ensures.after (λ y e. e)))
    c.put_ones.ensures
