use Rattle.std.proofs.Common.{sym, refl, rules, ◌≡◌, ◌+◌}
use Rattle.read_fault.specs.Noting.{resumes_at}
use Rattle.read_fault.specs.Noting.Notes.{listed, one_too_many, unlisted}
use Rattle.read_fault.proofs.note.Goals as goal

pub returns-then-not-is_fault : goal.returns-then-not-is_fault
returns-then-not-is_fault c = unlisted (sym c.if-not-is_fault.ensures) refl

pub returns-then-so_far-ge-MOST_FAULTS : goal.returns-then-so_far-ge-MOST_FAULTS
returns-then-so_far-ge-MOST_FAULTS c = one_too_many (sym c.if-not-is_fault.ensures) c.if-so_far-ge-MOST_FAULTS.true refl

pub returns : goal.returns
returns c =
    let e : c.map.result ≡ resumes_at c.behind-next.result c.args.so_far.macros (c.args.so_far.faults + 1) = search rules in
    rw (e, c.behind-next.ensures) (listed (sym c.if-not-is_fault.ensures) c.if-so_far-ge-MOST_FAULTS.false c.put_fault.ensures)
