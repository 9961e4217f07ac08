use mathlib.Core.Path.{refl, sym, ◌∙◌}
use Rattle.read_scan.proofs.Laws.{handed_on}
use Rattle.read_call.specs.Call.{site_is}
use Rattle.read_call.proofs.Marks.{stack_none, number_at_lem, stack_tag, stack_begun}
use Rattle.read_call.proofs.calls.stack_call.Goals as goal

pub returns-then-not-may_store_tag : goal.returns-then-not-may_store_tag
returns-then-not-may_store_tag c = c.letter_call.ensures c.args.tags

pub returns-in_err-number : goal.returns-in_err-number
returns-in_err-number c =
    let args = c.args in
    rw (handed_on c.from_residual.ensures)
    (stack_none args.s.now args.a args.at args.out.now args.out.now args.n (site_is args.site) args.tags (sym c.may_store_tag.ensures ∙ c.if-not-may_store_tag.false) c.in_err-number.ensures refl)

pub returns-in-Some : goal.returns-in-Some
returns-in-Some c =
    let args = c.args in
    let y = number_at_lem args.s.now args.a args.at c.digits.ensures c.in_ok-number.was in
    stack_tag args.s.now args.a args.at args.out.now c.tag_call.new.out args.n (site_is args.site) args.tags (sym c.may_store_tag.ensures ∙ c.if-not-may_store_tag.false) y c.in-Some.is c.tag_call.result c.tag_call.ensures

pub returns-in-None : goal.returns-in-None
returns-in-None c =
    let args = c.args in
    let y = number_at_lem args.s.now args.a args.at c.digits.ensures c.in_ok-number.was in
    stack_begun args.s.now args.a args.at args.out.now c.named_call.new.out args.n (site_is args.site) args.tags (sym c.may_store_tag.ensures ∙ c.if-not-may_store_tag.false) y c.in-None.is c.named_call.result c.named_call.ensures
