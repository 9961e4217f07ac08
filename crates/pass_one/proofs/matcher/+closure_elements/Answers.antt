use mathlib.Core.Path.{sym, ◌∙◌}
use native.Mathlib.Omega.{arith}
use borrow.Author.Tests.{eqb-true}
use Rattle.pass_unit.proofs.ItemLaws.{piece_here}
use Rattle.pass_one.proofs.TryLaws.{again_wide, read_here, behind_inside, stands, element_here, tried_done, tried_nothing, tried_more, tried_first, tried_fails, next_trying, next_inside, copied_marked, at_small, in_row, in_ends, place_small}
use Rattle.pass_one.proofs.RowLaws.{some_is, none_is, start_place, copied_first, copied_none, upper_repeating, copied_upper, lower_repeating, count_inside}
use Prim.Native.Nat.{◌-◌, ◌/◌}
use Rattle.pass_one.proofs.matcher.+closure_elements.Goals as goal

pub closure-elements-requires : goal.closure-elements-requires
closure-elements-requires t c = let i = next_inside _ _ _ c.requires.stands c.requires.behind in (omega arith, next_trying _ _ _ _ _ _ _ _ _ c.requires.given c.requires.noted c.requires.stands c.requires.behind (start_place _ _ _ _ _ _ _ _ _ _ _ c.requires))

pub closure-offset_bounds-ends-at : goal.closure-offset_bounds-ends-at
closure-offset_bounds-ends-at t c = let z = at_small _ _ _ _ _ c.requires.given c.requires.stands in omega arith

pub closure-bounds-ends-at : goal.closure-bounds-ends-at
closure-bounds-ends-at t c = in_ends _ _ _ _ _ c.requires.given c.requires.stands _ c.elements.ensures.kept.noted.count

pub closure-returns-in-Some : goal.closure-returns-in-Some
closure-returns-in-Some t c = copied_first _ _ _ _ _ _ _ _ _ _ _ c.requires c.if-most-eq0.true _ _ _ (in_ends _ _ _ _ _ c.requires.given c.requires.stands _ c.elements.ensures.kept.noted.count) (rw c.in-Some.is at c.elements.ensures)

pub closure-set_mark-requires : goal.closure-set_mark-requires
closure-set_mark-requires t c = in_row _ _ _ _ _ c.requires.given c.requires.stands _ _ c.elements.ensures.kept.noted.size (start_place _ _ _ _ _ _ _ _ _ _ _ c.requires)

pub closure-returns-then-most-eq0 : goal.closure-returns-then-most-eq0
closure-returns-then-most-eq0 t c = copied_none _ _ _ _ _ _ _ _ _ _ _ c.requires c.if-most-eq0.true _ _ (rw c.in_default.is at c.elements.ensures) _ c.set_mark.ensures

pub closure-closure-found-requires : goal.closure-closure-found-requires
closure-closure-found-requires t c = let n = c.if-most-eq0.false in (omega arith, upper_repeating _ _ _ _ _ _ _ _ _ _ _ c.requires (c.args.most - c.args.most / 2) (c.args.most / 2) (omega arith))

pub closure-returns-then-is_some : goal.closure-returns-then-is_some
closure-returns-then-is_some t c = copied_upper _ _ _ _ _ _ _ _ _ _ _ c.requires (c.args.most - c.args.most / 2) (c.args.most / 2) (omega arith) _ _ _ _ (some_is _ (sym c.is_some.ensures ∙ c.if-is_some.true)).1 c.closure-found.ensures

pub closure-closure-requires : goal.closure-closure-requires
closure-closure-requires t c = let n = c.if-most-eq0.false in (omega arith, lower_repeating _ _ _ _ _ _ _ _ _ _ _ c.requires (c.args.most - c.args.most / 2) (c.args.most / 2) (omega arith) (let n = c.if-most-eq0.false in omega arith) _ _ (rw (none_is _ (sym c.is_some.ensures ∙ c.if-is_some.false)) at c.closure-found.ensures))

pub elements-returns-then-at-items : goal.elements-returns-then-at-items
elements-returns-then-at-items t c = tried_done _ _ _ _ _ _ _ _ c.requires c.if-at-items.true

pub elements-element_at-e-requires : goal.elements-element_at-e-requires
elements-element_at-e-requires t c = piece_here _ _ (stands _ _ _ _ _ _ _ _ c.requires c.if-at-items.false)

pub elements-width_of-w-requires : goal.elements-width_of-w-requires
elements-width_of-w-requires t c = (c.requires.given.state, (element_here _ _ _ _ _ _ _ _ c.requires c.if-at-items.false _ c.element_at-e.ensures).unit.letter)

pub elements-lead_at-requires : goal.elements-lead_at-requires
elements-lead_at-requires t c = record { copying = record { unit = (element_here _ _ _ _ _ _ _ _ c.requires c.if-at-items.false _ c.element_at-e.ensures).unit; table = c.requires.given.table; state = c.requires.given.state; place = c.requires.place }; wide = c.width_of-w.ensures }

pub elements-behind-next-requires : goal.elements-behind-next-requires
elements-behind-next-requires t c = (element_here _ _ _ _ _ _ _ _ c.requires c.if-at-items.false _ c.element_at-e.ensures).unit

pub elements-is_marked-requires : goal.elements-is_marked-requires
elements-is_marked-requires t c = in_row _ _ _ _ _ c.requires.given (element_here _ _ _ _ _ _ _ _ c.requires c.if-at-items.false _ c.element_at-e.ensures).unit.stands _ _ c.requires.noted.size (behind_inside _ _ _ _ _ _ _ _ c.requires c.if-at-items.false _ c.element_at-e.ensures _ c.width_of-w.ensures _ c.lead_at.ensures _ c.in_ok-q.was)

pub elements-returns-then-is_marked : goal.elements-returns-then-is_marked
elements-returns-then-is_marked t c = tried_more _ _ _ _ _ c.if-at-items.false _ _ _ (read_here _ _ _ _ _ _ _ _ c.requires c.if-at-items.false _ c.element_at-e.ensures _ c.width_of-w.ensures _ c.lead_at.ensures) _ c.in_ok-q.was (sym c.may_repeat.ensures ∙ c.if-may_repeat.true) _ _ _ _ (copied_marked _ _ _ _ _ _ _ c.requires.noted (place_small _ _ _ _ _ c.requires.given (behind_inside _ _ _ _ _ _ _ _ c.requires c.if-at-items.false _ c.element_at-e.ensures _ c.width_of-w.ensures _ c.lead_at.ensures _ c.in_ok-q.was)) (eqb-true _ _ (sym c.is_marked.ensures ∙ c.if-is_marked.true)))

pub elements-most_copies-most-requires : goal.elements-most_copies-most-requires
elements-most_copies-most-requires t c = record { given = c.requires.given; size = c.requires.noted.size; sound = c.requires.noted.sound; unit = (element_here _ _ _ _ _ _ _ _ c.requires c.if-at-items.false _ c.element_at-e.ensures).unit; wide = c.width_of-w.ensures; some = again_wide c.element_at-e.result.closure c.width_of-w.result (sym c.may_repeat.ensures ∙ c.if-may_repeat.true); place = (behind_inside _ _ _ _ _ _ _ _ c.requires c.if-at-items.false _ c.element_at-e.ensures _ c.width_of-w.ensures _ c.lead_at.ensures _ c.in_ok-q.was) }

pub elements-closure-requires : goal.elements-closure-requires
elements-closure-requires t c = let k = c.most_copies-most.ensures.row.inside in let w = again_wide c.element_at-e.result.closure c.width_of-w.result (sym c.may_repeat.ensures ∙ c.if-may_repeat.true) in let l = count_inside _ _ _ _ w k in let s = c.requires.given.short in (omega arith, record { given = c.requires.given; noted = c.requires.noted; stands = (element_here _ _ _ _ _ _ _ _ c.requires c.if-at-items.false _ c.element_at-e.ensures).unit.stands; behind = c.behind-next.ensures; some = w; most = c.most_copies-most.ensures })

pub elements-returns-then-may_repeat : goal.elements-returns-then-may_repeat
elements-returns-then-may_repeat t c = tried_more _ _ _ _ _ c.if-at-items.false _ _ _ (read_here _ _ _ _ _ _ _ _ c.requires c.if-at-items.false _ c.element_at-e.ensures _ c.width_of-w.ensures _ c.lead_at.ensures) _ c.in_ok-q.was (sym c.may_repeat.ensures ∙ c.if-may_repeat.true) _ _ _ _ c.closure.ensures

pub elements-elements-requires : goal.elements-elements-requires
elements-elements-requires t c = let i = next_inside _ _ _ (element_here _ _ _ _ _ _ _ _ c.requires c.if-at-items.false _ c.element_at-e.ensures).unit.stands c.behind-next.ensures in (omega arith, next_trying _ _ _ _ _ _ _ _ _ c.requires.given c.requires.noted (element_here _ _ _ _ _ _ _ _ c.requires c.if-at-items.false _ c.element_at-e.ensures).unit.stands c.behind-next.ensures (behind_inside _ _ _ _ _ _ _ _ c.requires c.if-at-items.false _ c.element_at-e.ensures _ c.width_of-w.ensures _ c.lead_at.ensures _ c.in_ok-q.was))

pub elements-returns-in_err-q : goal.elements-returns-in_err-q
elements-returns-in_err-q t c = rw c.from_residual.ensures (tried_nothing _ _ _ _ _ c.if-at-items.false _ _ _ (read_here _ _ _ _ _ _ _ _ c.requires c.if-at-items.false _ c.element_at-e.ensures _ c.width_of-w.ensures _ c.lead_at.ensures) c.args.marks.now c.args.ends.now c.requires.noted c.in_err-q.was)

pub elements-overflow_cast-ends : goal.elements-overflow_cast-ends
elements-overflow_cast-ends t c = let l = behind_inside _ _ _ _ _ _ _ _ c.requires c.if-at-items.false _ c.element_at-e.ensures _ c.width_of-w.ensures _ c.lead_at.ensures _ c.in_ok-q.was in let h = c.requires.given.short in omega arith

pub elements-offset_bounds-ends-at : goal.elements-offset_bounds-ends-at
elements-offset_bounds-ends-at t c = let z = at_small _ _ _ _ _ c.requires.given (element_here _ _ _ _ _ _ _ _ c.requires c.if-at-items.false _ c.element_at-e.ensures).unit.stands in omega arith

pub elements-bounds-ends-at : goal.elements-bounds-ends-at
elements-bounds-ends-at t c = in_ends _ _ _ _ _ c.requires.given (element_here _ _ _ _ _ _ _ _ c.requires c.if-at-items.false _ c.element_at-e.ensures).unit.stands _ c.elements.ensures.kept.noted.count

pub elements-returns-in_err-end : goal.elements-returns-in_err-end
elements-returns-in_err-end t c = rw c.from_residual-in_err-end.ensures (tried_fails _ _ _ _ _ c.if-at-items.false _ _ _ (read_here _ _ _ _ _ _ _ _ c.requires c.if-at-items.false _ c.element_at-e.ensures _ c.width_of-w.ensures _ c.lead_at.ensures) _ c.in_ok-q.was (sym c.may_repeat.ensures ∙ c.if-may_repeat.false) _ c.behind-next.ensures _ _ _ c.in_err-end.ensures)

pub elements-returns : goal.elements-returns
elements-returns t c = tried_first _ _ _ _ _ c.if-at-items.false _ _ _ (read_here _ _ _ _ _ _ _ _ c.requires c.if-at-items.false _ c.element_at-e.ensures _ c.width_of-w.ensures _ c.lead_at.ensures) _ c.in_ok-q.was (sym c.may_repeat.ensures ∙ c.if-may_repeat.false) _ c.behind-next.ensures _ _ _ _ (in_ends _ _ _ _ _ c.requires.given (element_here _ _ _ _ _ _ _ _ c.requires c.if-at-items.false _ c.element_at-e.ensures).unit.stands _ c.elements.ensures.kept.noted.count) (behind_inside _ _ _ _ _ _ _ _ c.requires c.if-at-items.false _ c.element_at-e.ensures _ c.width_of-w.ensures _ c.lead_at.ensures _ c.in_ok-q.was) c.in_ok-end.ensures
