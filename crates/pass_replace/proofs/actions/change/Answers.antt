use mathlib.Core.Path.{sym, ◌∙◌, subst}
use native.Mathlib.Omega.{arith}
use Rattle.macros.specs.Formed.{Bytes}
use Rattle.form_table.specs.Actions.{number_in}
use Rattle.form_table.proofs.Actions.{size_set}
use Rattle.pass_steps.proofs.Handing.{cut_is, cut_bytes}
use Rattle.pass_replace.proofs.Acting.{letter_of_lem, stored_tag, stored_text, access_store, access_set}
use Rattle.pass_replace.proofs.actions.change.Goals as goal

pub store-requires : goal.store-requires
store-requires c =
    let p = c.requires in
    (p.2, letter_of_lem c.args.t.now p.1 (omega (arith, p.3)), subst Bytes (cut_is p.0 ∙ sym c.part.ensures) (cut_bytes p.0))

pub returns-in-0-to-71 : goal.returns-in-0-to-71
returns-in-0-to-71 c =
    let t = c.args.t.now in
    access_store _ t _ c.requires.3 (omega arith) (c.part.ensures ∙ stored_tag _ t (omega arith)) c.store.ensures

pub returns-in-72-to-79 : goal.returns-in-72-to-79
returns-in-72-to-79 c =
    let t = c.args.t.now in
    access_store _ t _ c.requires.3 (omega arith) (c.text_in.ensures ∙ stored_text _ t (omega arith)) c.store-in-72-to-79.ensures

pub number_at-requires : goal.number_at-requires
number_at-requires c = omega (arith, size_set c.args.t.now (omega arith), c.requires.1.held)

pub set-requires : goal.set-requires
unfolding number_in
set-requires c =
    let p = c.requires in
    let n = c.number_at.ensures in
    (p.2, letter_of_lem c.args.t.now p.1 (omega (arith, p.3)), λ h. rw n (p.1.pointer (omega arith) h), λ h. rw n (p.1.number h))

pub returns-in_default : goal.returns-in_default
unfolding number_in
returns-in_default c = access_set _ c.args.t.now (omega arith) c.requires.4 c.number_at.ensures c.set.ensures
