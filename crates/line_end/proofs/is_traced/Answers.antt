use mathlib.Core.Path.{◌∙◌, ap}
use lib.Dec.{ltb}
use Rattle.form_state.proofs.Held.{read_trace}
use Rattle.line_end.proofs.Ending.{is_on_lem}
use Rattle.line_end.proofs.is_traced.Goals as goal

pub returns : goal.returns
returns c = λ st h. ap (ltb 0) (read_trace c.args.state.now st h) ∙ is_on_lem st.trace
