use mathlib.Core.Bool.{true≢false}
use mathlib.Core.Path.{refl, sym, ◌∙◌}
use native.Mathlib.Omega.{arith}
use Rattle.std.specs.Prelude.{◌≡◌}
use Rattle.std.specs.Option.{unwrap_or}
use Rattle.read_scan.proofs.Laws.{reached_behind}
use Rattle.read_number.proofs.Numbers.{digits_none, counts_fault, counts_end, byte_found, digits_space, digits_next}
use Rattle.read_number.proofs.digits.Goals as goal
use Rattle.read_number.proofs.digits.Goals.{then-b-ne32-via-then-b-ne32, then-b-ne32-via-else-b-ne32+then-not-spaces, then-is_digit, else-is_digit+else-b-ne32+else-not-spaces}

pub loop-found-init : goal.loop-found-init
loop-found-init c = (omega arith, (omega arith, omega arith, omega arith), tt, digits_none _ _ _ _)

pub returns-in-Err : goal.returns-in-Err
returns-in-Err c =
    let loop = c.loop-found in
    counts_fault loop.invariant.3 loop.invariant.0 c.in-Err.ensures refl

pub returns-then-b-ne32 : goal.returns-then-b-ne32
returns-then-b-ne32 c =
    let loop = c.loop-found in
    counts_end loop.invariant.3 loop.invariant.0 c.next_byte.ensures c.in-Ok.is loop.invariant.2 (
      (sym c.is_digit.ensures ∙ c.if-is_digit.false),
      λ e f.
          elim c.then-b-ne32.branch [
            | then-b-ne32-via-then-b-ne32 w ↦ w.if-b-ne32.true f
            | then-b-ne32-via-else-b-ne32+then-not-spaces w ↦ true≢false (sym e ∙ w.if-not-spaces.true)
          ],
    )

pub loop-found-preserved : goal.loop-found-preserved
loop-found-preserved c =
    let loop = c.loop-found in
    let h = (byte_found loop.invariant.3 loop.invariant.0 c.next_byte.ensures c.in-Ok.is).found in
    let x = h.1.stands in
    elim c.if-is_digit.branch [
      | then-is_digit w ↦
          let e : unwrap_or loop.value 0 ≡ w.unwrap_or.result = sym w.unwrap_or.ensures in
          rw w.value-is (
            omega (arith, h.0, loop.invariant.0),
            reached_behind x,
            w.with_digit.ensures.1,
            digits_next loop.invariant.3 loop.invariant.0 c.next_byte.ensures c.in-Ok.is _ (sym c.is_digit.ensures ∙ w.if-is_digit.true) (rw e w.with_digit.ensures.0),
          )
      | else-is_digit+else-b-ne32+else-not-spaces w ↦
          rw w.value-is (
            omega (arith, h.0, loop.invariant.0),
            reached_behind x,
            loop.invariant.2,
            digits_space loop.invariant.3 loop.invariant.0 c.next_byte.ensures c.in-Ok.is w.if-b-ne32.false w.if-not-spaces.false,
          )
    ]
