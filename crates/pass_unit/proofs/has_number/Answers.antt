use mathlib.Core.Path.{ap, ◌∙◌}
use Rattle.std.specs.Option.{is_some}
use Rattle.pass_unit.proofs.TextLaws.{lead_is}
use Rattle.pass_unit.proofs.has_number.Goals as goal

pub returns : goal.returns
returns c = c.is_some.ensures ∙ ap is_some c.number_at.ensures ∙ lead_is _ _
