use lib.ListN.{length}
use Prim.Native.Nat.{◌+◌, ◌-◌, ◌*◌}
use Rattle.pass_one.proofs.matcher.+closure_elements.Given as goal

-- "remaining elements falling first and untried repeats second": the bytes of items that are left, 2,048 each, and in `closure` the repeats still untried; `elements` counts as more than any
abbrev pub decreases-closure : goal.decreases-closure
decreases-closure l = (length l.items.now - l.at) * 2048 + l.most

abbrev pub decreases-elements : goal.decreases-elements
decreases-elements l = (length l.items.now - l.at) * 2048 + 2047
