use Rattle.form_state.proofs.Held.{read_nflag}
use Rattle.line_end.proofs.nflag.Goals as goal

pub returns : goal.returns
returns c = λ st h. read_nflag c.args.state.now st h
