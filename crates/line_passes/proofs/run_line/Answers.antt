use mathlib.Core.Path.{sym, ap, ◌∙◌}
use mathlib.Core.Bool.{Bool, ◌&&◌}
use Rattle.line_passes.proofs.Starting.{runs_end}
use Rattle.line_passes.proofs.run_line.Goals.{then-traced, else-traced}
use Rattle.line_passes.proofs.run_line.Goals as goal

pub returns : goal.returns
returns c =
    runs_end c.requires c.lay_out.ensures c.from_start-ended.result c.from_start-ended.ensures c.is_err-refused.ensures.value
    (elim c.if-traced.branch [
      | then-traced w ↦ w.lay_out_if-is ∙ sym (ap (λ (x : Bool). x && c.is_err-refused.result) w.if-traced.true)
      | else-traced w ↦ w.lay_out_if-is ∙ (w.if-traced.false ∙ sym (ap (λ (x : Bool). x && c.is_err-refused.result) w.if-traced.false))
    ])
    c.from_start-ended.auto.state (c.from_start-ended.auto.text ∙ c.lay_out.auto.to) c.from_start-ended.auto.trace c.lay_out_if.ensures c.lay_out_if-2.ensures c.lay_out_if-3.ensures
