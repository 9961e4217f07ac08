use Rattle.read_element.proofs.Elements.{piece_left}
use Rattle.read_element.proofs.element.piece.Goals as goal

pub returns : goal.returns
returns c =
    let zeros = c.or_zeros in
    let items = c.one_piece-read in
    rw zeros.ensures.0 (piece_left items.new.out items.result items.ensures zeros.ensures.1 items.auto.out)
