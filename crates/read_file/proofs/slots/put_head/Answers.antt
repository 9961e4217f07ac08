use Rattle.read_file.proofs.Storing.{headed}
use Rattle.read_file.proofs.slots.put_head.Goals as goal

pub returns : goal.returns
returns c =
    let args = c.args in
    let put_item = c.put_item in
    let put_two = c.put_two in
    let put-two2 = c.put_two-2 in
    let put-two3 = c.put_two-3 in
    let put-two4 = c.put_two-4 in
    headed args.head put_item.ensures put_two.ensures put-two2.ensures put-two3.ensures put-two4.ensures
