use Rattle.read_text.proofs.Texts.{store_left}
use Rattle.read_text.proofs.text_call.Goals as goal

pub returns : goal.returns
returns c =
    let zeros = c.or_zeros in
    let items = c.text_items-read in
    rw zeros.ensures.0 (store_left items.new.out items.result items.ensures zeros.ensures.1 items.auto.out)
