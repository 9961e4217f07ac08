-- 02, N8: what a macro file will take, in the eight numbers that the host gets. The contract of m7_measure is that it answers `plan_of`.
use Rattle.std.specs.Prelude.{ℕ, List}
use Rattle.macros.specs.Refusals.{file_number}
use Rattle.plans.specs.Measure.{Size, Measured, measure}
use Rattle.plans.specs.Measure.Size.{bytes, unwritten}
use Rattle.plans.specs.Measure.Measured.{takes, unread}
use Rattle.plans.specs.declared.Plan.{Plan}

-- the numbers by their names
abbrev pub plan : (number place macros elements tags size writeNumber writePlace : ℕ) → Plan
plan n p m e t b k q =
    record { number = n; place = p; macros = m; elements = e; tags = t; bytes = b; write_number = k; write_place = q }

-- a refusal of reading: nothing else is given
abbrev pub unread_plan : (number place : ℕ) → Plan
unread_plan n p = plan n p 0 0 0 0 0 0

-- "the byte number is replaced by that refusal and its place, and the others are still given"
unfoldable pub sized_plan : (macros elements tags : ℕ) → Size → Plan
sized_plan m e t (bytes b) = plan 0 0 m e t b 0 0
sized_plan m e t (unwritten r p) = plan 0 0 m e t 0 (file_number r) p

-- what was measured, in numbers
unfoldable pub told : Measured → Plan
told (takes m e t z) = sized_plan m e t z
told (unread r p) = unread_plan (file_number r) p

-- m7_measure, of a file
unfoldable pub plan_of : (file : List ℕ) → Plan
plan_of s = told (measure s)
