use native.Mathlib.Omega.{arith}
use Rattle.m7.proofs.WordResults.{fault_numbers, words_refused, words_found}
use Rattle.m7.proofs.looking.m7_words.Goals as goal

pub returns-in-Ok : goal.returns-in-Ok
returns-in-Ok c = words_found c.args.line.now c.args.pattern.now c.in-Ok.found c.in-Ok.ensures c.words_reply.ensures

pub returns-in-Err : goal.returns-in-Err
returns-in-Err c = words_refused c.args.line.now c.args.pattern.now c.in-Err.fault c.in-Err.ensures (omega (arith, fault_numbers c.in-Err.fault)) c.words_reply-in-Err.ensures
