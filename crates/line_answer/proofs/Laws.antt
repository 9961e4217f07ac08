-- The bounds of an answer's numbers.
-- Assumes nothing.
use Prim.Native.Nat.{◌≤◌}
use native.Mathlib.Omega.{arith}
use Rattle.macros.specs.Bounds.{most_file_bytes, most_line_bytes}

-- an answer without a place, or without a length
pub no_place : 0 ≤ most_file_bytes
no_place = omega arith

pub no_size : 0 ≤ most_line_bytes
no_size = omega arith
