use mathlib.Core.Path.{ap, ◌∙◌}
use Rattle.std.specs.Prelude.{Some}
use Rattle.read_scan.proofs.Laws.{handed_on, reached_behind}
use Rattle.read_call.specs.Call.{site_is, mark_of, signs_in}
use Rattle.read_call.proofs.Naming.{code_most}
use Rattle.read_call.proofs.Marks.{signed_at, letter_at, names_of, mark_noname, mark_wrong, mark_set, mark_text, mark_insert}
use native.Mathlib.Omega.{arith}
use Rattle.read_call.proofs.calls.named_call.Goals as goal

pub returns-in_err-named : goal.returns-in_err-named
returns-in_err-named c =
    let args = c.args in
    let z = signed_at args.s.now args.a args.at args.b c.signs_in.ensures c.name.result c.name.ensures in
    rw (handed_on c.from_residual.ensures)
    (mark_noname args.s.now args.a args.at args.out.now args.out.now args.n (site_is args.site) (mark_of args.counter) (signs_in args.counter (site_is args.site)) (names_of args.counter (site_is args.site) args.b c.requires.2) z c.in_err-named.was)

pub tail-requires : goal.tail-requires
tail-requires c =
    let args = c.args in
    let t = letter_at args.s.now args.a args.at args.b c.signs_in.ensures c.in_ok-named.ensures in
    omega (arith, t.code, code_most t.move)

pub text_call-requires : goal.text_call-requires
text_call-requires c =
    let args = c.args in
    let t = letter_at args.s.now args.a args.at args.b c.signs_in.ensures c.in_ok-named.ensures in
    let x = t.here.stands in
    (reached_behind x, omega (arith, t.further, x.counted, c.requires.3), omega (arith, t.code, code_most t.move))

pub returns-in-Some-Text : goal.returns-in-Some-Text
returns-in-Some-Text c =
    let args = c.args in
    let t = letter_at args.s.now args.a args.at args.b c.signs_in.ensures c.in_ok-named.ensures in
    mark_text args.s.now args.a args.at args.out.now c.text_call.new.out args.n (site_is args.site) (mark_of args.counter) (signs_in args.counter (site_is args.site)) (names_of args.counter (site_is args.site) args.b c.requires.2) t c.tail.ensures (c.in-Some-Text.is ∙ ap Some c.in-Some-Text.field-0-is) c.text_call.result c.text_call.ensures.from

pub returns-in-Some-Set : goal.returns-in-Some-Set
returns-in-Some-Set c =
    let args = c.args in
    let t = letter_at args.s.now args.a args.at args.b c.signs_in.ensures c.in_ok-named.ensures in
    mark_set args.s.now args.a args.at args.out.now c.set_call.new.out args.n (site_is args.site) (mark_of args.counter) (signs_in args.counter (site_is args.site)) (names_of args.counter (site_is args.site) args.b c.requires.2) t c.tail.ensures (c.in-Some-Set.is ∙ ap Some c.in-Some-Set.field-0-is) c.set_call.result c.set_call.ensures

pub returns-in-Some-Insert : goal.returns-in-Some-Insert
returns-in-Some-Insert c =
    let args = c.args in
    let t = letter_at args.s.now args.a args.at args.b c.signs_in.ensures c.in_ok-named.ensures in
    mark_insert args.s.now args.a args.at args.out.now c.put_item.new.out args.n (site_is args.site) (mark_of args.counter) (signs_in args.counter (site_is args.site)) (names_of args.counter (site_is args.site) args.b c.requires.2) t c.tail.ensures (c.in-Some-Insert.is ∙ ap Some c.in-Some-Insert.field-0-is) c.put_item.ensures

pub returns-in-None : goal.returns-in-None
returns-in-None c =
    let args = c.args in
    let t = letter_at args.s.now args.a args.at args.b c.signs_in.ensures c.in_ok-named.ensures in
    rw c.at.ensures (mark_wrong args.s.now args.a args.at args.out.now args.out.now args.n (site_is args.site) (mark_of args.counter) (signs_in args.counter (site_is args.site)) (names_of args.counter (site_is args.site) args.b c.requires.2) t c.tail.ensures c.in-None.is c.wrong_byte.result c.wrong_byte.ensures)
