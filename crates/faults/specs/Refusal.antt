-- 02, N11: how many faults may be listed, and the refusals of reading past faults.
use Rattle.std.specs.Prelude.{ℕ}
use Rattle.macros.specs.Refusals.{FileRefusal, file_number}

-- "61, the 257th fault": at most so many are listed
abbrev pub most_faults : ℕ
most_faults = 256

-- "10, 11 and 19 refuse the file as before", with a place; and 61
pub data RecoverRefusal : Type 0 where
  as_before : FileRefusal → (place : ℕ) → RecoverRefusal
  too_many_faults : RecoverRefusal

unfoldable pub recover_number : RecoverRefusal → ℕ
recover_number (as_before r p) = file_number r
recover_number too_many_faults = 61

-- "the place (10 to 19, else 0)" (01)
unfoldable pub recover_place : RecoverRefusal → ℕ
recover_place (as_before r p) = p
recover_place too_many_faults = 0
