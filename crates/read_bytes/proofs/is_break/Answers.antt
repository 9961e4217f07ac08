use mathlib.Core.Path.{sym}
use Rattle.read_bytes.proofs.Laws.{breaks_quote, breaks_semicolon, breaks_feed}
use Rattle.read_bytes.proofs.is_break.Goals as goal

pub returns-then-b-eq39 : goal.returns-then-b-eq39
returns-then-b-eq39 c = sym (breaks_quote c.if-b-eq39.true)

pub returns-then-b-eq59 : goal.returns-then-b-eq59
returns-then-b-eq59 c = sym (breaks_semicolon c.if-b-eq59.true)

pub returns : goal.returns
returns c = sym (breaks_feed c.if-b-eq39.false c.if-b-eq59.false)
