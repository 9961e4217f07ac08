use Rattle.line_trace.proofs.Laws.{puts_then, puts_lines}
use Rattle.line_trace.proofs.put_lines.Goals as goal

pub returns : goal.returns
returns c =
    let a = c.args in
    puts_lines a.before.now a.number a.after.now
    (puts_then c.put-a.ensures c.put-a.auto.trace
    (puts_then c.put-b.ensures c.put-b.auto.trace
    (puts_then c.put-c.ensures c.put-c.auto.trace
    (puts_then c.put_number-d.ensures c.put_number-d.auto.trace
    (puts_then c.put-e.ensures c.put-e.auto.trace
    (puts_then c.put-f.ensures c.put-f.auto.trace
    c.put.ensures))))))
