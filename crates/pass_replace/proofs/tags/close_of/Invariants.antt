use Prim.Native.Nat.{◌+◌, ◌≤◌}
use mathlib.Core.Path.{◌≡◌}
use lib.ListN.{length}
use Rattle.form_table.specs.Form.{body_bytes}
use Rattle.pass_replace.specs.Tags.{close_in}
use Rattle.pass_replace.proofs.tags.close_of.Given as goal

abbrev pub invariant-loop-rest : goal.invariant-loop-rest
invariant-loop-rest l =
    record {
      long : length l.rest ≤ length l.stops;
      few : l.n + length l.rest ≤ body_bytes;
      same : close_in 0 l.pat l.ends ≡ close_in l.n l.rest l.stops;
    }

abbrev pub decreases-loop-rest : goal.decreases-loop-rest
decreases-loop-rest l = length l.rest
