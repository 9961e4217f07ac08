use mathlib.Core.Path.{refl, sym, ◌∙◌}
use native.Mathlib.Omega.{arith}
use Rattle.read_scan.proofs.Laws.{handed_on}
use Rattle.read_text.proofs.Texts.{text_break, text_long, text_plain, text_none, text_escaped}
use Rattle.read_text.proofs.text_byte.Goals as goal

pub returns-then-is_break : goal.returns-then-is_break
returns-then-is_break c = let pre = c.requires in rw c.at.ensures (text_break pre.0 pre.1 c.args.k (sym c.is_break.ensures ∙ c.if-is_break.true))

pub returns-then-k-ge-MOST_ENTRY_BYTES : goal.returns-then-k-ge-MOST_ENTRY_BYTES
returns-then-k-ge-MOST_ENTRY_BYTES c =
    let pre = c.requires in
    rw c.at-then-k-ge-MOST_ENTRY_BYTES.ensures (text_long pre.0 pre.1 c.args.k (sym c.is_break.ensures ∙ c.if-is_break.false) c.if-k-ge-MOST_ENTRY_BYTES.true)

pub returns-then-b-ne92 : goal.returns-then-b-ne92
returns-then-b-ne92 c = let pre = c.requires in text_plain pre.0 pre.1 c.args.k (sym c.is_break.ensures ∙ c.if-is_break.false) (omega arith) c.if-b-ne92.true

pub returns-in_err-e : goal.returns-in_err-e
returns-in_err-e c =
    let pre = c.requires in
    rw (handed_on c.from_residual.ensures) (text_none pre.0 pre.1 c.args.k (sym c.is_break.ensures ∙ c.if-is_break.false) (omega arith) c.if-b-ne92.false c.in_err-e.ensures refl)

pub returns : goal.returns
returns c =
    let pre = c.requires in
    text_escaped pre.0 pre.1 c.args.k (sym c.is_break.ensures ∙ c.if-is_break.false) (omega arith) c.if-b-ne92.false c.any_byte.ensures c.in_ok-e.was c.escaped_byte.ensures
