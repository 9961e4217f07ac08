use Rattle.std.proofs.Common.{refl}
use Rattle.read_past.proofs.Standing.{standing_start}
use Rattle.read_past.proofs.mend.from_start.Goals as goal

pub loop-next-init : goal.loop-next-init
loop-next-init c = (refl, refl, standing_start _ _ _ c.requires.1 c.requires.2)
