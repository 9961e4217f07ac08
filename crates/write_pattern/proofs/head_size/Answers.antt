use mathlib.Core.Path.{refl}
use native.Mathlib.Omega.{arith}
use borrow.Author.Tests.{lt-ltb, le-ltb}
use Rattle.macros.specs.Macro.{pick}
use Rattle.write_pattern.specs.Items.{head_text}
use Rattle.write_pattern.proofs.head_size.Goals as goal

pub returns-in-0-to-7 : goal.returns-in-0-to-7
unfolding head_text pick
returns-in-0-to-7 c = (simp (lt-ltb c.args.code 8 (omega arith)) refl, omega arith)

pub returns-in-8-to-23 : goal.returns-in-8-to-23
unfolding head_text pick
returns-in-8-to-23 c = (simp (le-ltb c.args.code 8 (omega arith), lt-ltb c.args.code 24 (omega arith)) c.unit_size.ensures.0, c.unit_size.ensures.1)

pub returns-in-24-to-27 : goal.returns-in-24-to-27
unfolding head_text pick
returns-in-24-to-27 c = (simp (le-ltb c.args.code 8 (omega arith), le-ltb c.args.code 24 (omega arith), lt-ltb c.args.code 28 (omega arith)) refl, omega arith)

pub returns-in-28-to-31 : goal.returns-in-28-to-31
unfolding head_text pick
returns-in-28-to-31 c = (simp (le-ltb c.args.code 8 (omega arith), le-ltb c.args.code 24 (omega arith), le-ltb c.args.code 28 (omega arith), lt-ltb c.args.code 32 (omega arith)) refl, omega arith)

pub returns-in_default : goal.returns-in_default
unfolding head_text pick
returns-in_default c = (simp (le-ltb c.args.code 8 (omega arith), le-ltb c.args.code 24 (omega arith), le-ltb c.args.code 28 (omega arith), le-ltb c.args.code 32 (omega arith)) c.member_size.ensures.0, c.member_size.ensures.1)
