use Prim.Native.Nat.{ℕ, ◌-◌, ◌≤◌}
use mathlib.Core.Path.{◌≡◌}
use mathlib.Core.List.{List}
use lib.ListN.{length}
use Rattle.form_table.specs.Form.{body_bytes}
use Rattle.pass_replace.specs.Tags.{tag_in}
use Rattle.pass_replace.proofs.Braces.{Among}
use Rattle.pass_replace.proofs.tags.tag_of.Given as goal

abbrev pub invariant-loop-rest : goal.invariant-loop-rest
invariant-loop-rest l =
    record {
      long : length l.rest ≤ length l.stops;
      few : length l.rest ≤ body_bytes;
      among : Among l.stops l.ends;
      same : (t : List ℕ) → tag_in t (l.n - 1) l.pat l.ends ≡ tag_in t (l.left - 1) l.rest l.stops;
    }

abbrev pub decreases-loop-rest : goal.decreases-loop-rest
decreases-loop-rest l = length l.rest
