use Rattle.program.proofs.Lines.{fresh_state, fresh_lines}
use Rattle.program.proofs.Held.{fresh_sound}
use lib.ListN.{replicate, length-replicate}
use Prim.Native.Nat.{ℕ}
use Rattle.program.proofs.answer_lines.Goals as goal

pub each_line-requires : goal.each_line-requires
each_line-requires g c = fresh_sound c.requires (fresh_state (replicate {A = ℕ} 52236 0) (length-replicate {A = ℕ} 52236 0) c.m7_fresh.ensures)

pub returns : goal.returns
returns g c = fresh_lines (fresh_state (replicate {A = ℕ} 52236 0) (length-replicate {A = ℕ} 52236 0) c.m7_fresh.ensures) c.each_line.ensures
