use mathlib.Core.Path.{sym, ◌∙◌}
use mathlib.Core.Logic.{⊎_elim}
use native.Mathlib.Omega.{arith}
use Rattle.read_scan.proofs.Laws.{reached_behind}
use Rattle.read_element.proofs.Elements.{mark_known, counter_known, element_star, element_break, element_escape, element_class, element_query, element_stack, element_counter, element_literal}
use Rattle.read_element.proofs.element.element.Goals as goal

pub marked-requires : goal.marked-requires
marked-requires c = (reached_behind c.requires.0.stands, ⊎_elim counter_known mark_known c.in-38.is)

pub returns-in-42 : goal.returns-in-42
returns-in-42 c = rw c.at.ensures (element_star c.requires.0 c.args.n _ _ c.in-42.is)

pub returns-in-92 : goal.returns-in-92
returns-in-92 c = element_escape c.requires.0 c.args.n _ _ c.in-92.is (c.escape.ensures _)

pub returns-in-91 : goal.returns-in-91
returns-in-91 c = element_class c.requires.0 c.args.n _ _ c.in-91.is c.class.ensures

pub returns-in-63 : goal.returns-in-63
returns-in-63 c = element_query c.requires.0 c.args.n _ _ c.in-63.is (c.query.ensures _)

pub returns-in-38 : goal.returns-in-38
returns-in-38 c =
    let x = c.requires.0 in
    let n = c.args.n in
    ⊎_elim (λ e. element_counter x n _ _ e (c.marked.ensures _)) (λ e. element_stack x n _ _ e (c.marked.ensures _)) c.in-38.is

pub returns-in_default : goal.returns-in_default
returns-in_default c = rw c.at-in_default.ensures (element_break c.requires.0 c.args.n _ _ (sym c.is_break.ensures ∙ c.if-is_break.true) c.requires.1.0)

pub returns-in_default-2 : goal.returns-in_default-2
returns-in_default-2 c =
    let pre = c.requires in
    element_literal pre.0 c.args.n _ pre.1 pre.2 pre.3 (λ e. omega (arith, e, c)) (sym c.is_break.ensures ∙ c.if-is_break.false) (λ e. omega (arith, e, c)) (λ e. omega (arith, e, c)) (λ e. omega (arith, e, c)) (λ e. grind (arith, e, c)) (λ e. grind (arith, e, c)) c.with_closure.ensures
