use mathlib.Core.Path.{refl}
use Rattle.line_passes.proofs.Starting.{ready_start, runs_start}
use Rattle.line_passes.proofs.from_start.Goals as goal

pub all_passes-requires : goal.all_passes-requires
all_passes-requires c = ready_start c.requires c.kind_table-kinds.ensures c.note.ensures c.args.budget

pub returns : goal.returns
returns c = runs_start refl c.requires.flag c.all_passes.ensures
