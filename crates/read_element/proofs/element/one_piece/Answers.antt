use native.Mathlib.Omega.{arith}
use Rattle.form_element.proofs.Items.{start_item, end_item}
use Rattle.read_element.proofs.Elements.{piece_start, piece_end, piece_element}
use Rattle.read_element.proofs.element.one_piece.Goals as goal

pub returns-in-94 : goal.returns-in-94
returns-in-94 c = piece_start c.requires.0 c.args.n c.in-94.is (rw (c.once.ensures, start_item) at c.put_element.ensures)

pub returns-in-36 : goal.returns-in-36
returns-in-36 c = piece_end c.requires.0 c.args.n c.in-36.is (rw (c.once-in-36.ensures, end_item) at c.put_element-in-36.ensures)

pub returns-in_ok-item-in_default : goal.returns-in_ok-item-in_default
returns-in_ok-item-in_default c =
    let pre = c.requires in
    piece_element pre.0 c.args.n c.in_ok-item-in_default.ensures (omega (arith, pre.2, pre.0.stands.counted)) (omega (arith, c.element.auto, pre.2, pre.0.stands.counted)) c.put_element-in_default.ensures
