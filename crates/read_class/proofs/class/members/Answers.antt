use Rattle.read_class.proofs.Classes.{class_left}
use Rattle.read_class.proofs.class.members.Goals as goal

pub returns : goal.returns
returns c =
    let zeros = c.or_zeros in
    let items = c.member_items-read in
    rw zeros.ensures.0 (class_left items.new.out items.result items.ensures zeros.ensures.1 items.auto.out)
