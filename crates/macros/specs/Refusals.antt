-- 01, "Who can cause a refusal": each refusal by name, and its number once.
use Rattle.std.specs.Prelude.{ℕ}

-- the host's
pub data HostRefusal : Type 0 where
  bad_memory bad_table bad_state budget_too_large : HostRefusal

-- of whoever sends the line
pub data LineRefusal : Type 0 where
  line_too_long bad_byte bad_control : LineRefusal

-- the numbers of the table writer's refusals
pub data FileRefusal : Type 0 where
  file_too_long zero_byte incomplete bad_class no_unit bad_brace bad_call no_element macro_too_long too_many_macros : FileRefusal

-- the table's at work; the last one is N1's (02)
pub data WorkRefusal : Type 0 where
  budget_used_up new_line_too_long tag_too_long pointer_too_high counter_too_high trace_too_long : WorkRefusal

-- a refusal; the table writer's has a place
pub data Refusal : Type 0 where
  of_host : HostRefusal → Refusal
  of_line : LineRefusal → Refusal
  of_file : FileRefusal → ℕ → Refusal
  of_work : WorkRefusal → Refusal

-- the numbers of the host's refusals
unfoldable pub host_number : HostRefusal → ℕ
host_number bad_memory = 3
host_number bad_table = 1
host_number bad_state = 2
host_number budget_too_large = 4

-- the numbers of the line sender's refusals
unfoldable pub line_number : LineRefusal → ℕ
line_number line_too_long = 21
line_number bad_byte = 22
line_number bad_control = 23

-- the numbers of the table writer's refusals
unfoldable pub file_number : FileRefusal → ℕ
file_number file_too_long = 10
file_number zero_byte = 11
file_number incomplete = 12
file_number bad_class = 13
file_number no_unit = 14
file_number bad_brace = 15
file_number bad_call = 16
file_number no_element = 17
file_number macro_too_long = 18
file_number too_many_macros = 19

-- the numbers of the refusals of the table at work
unfoldable pub work_number : WorkRefusal → ℕ
work_number budget_used_up = 31
work_number new_line_too_long = 32
work_number tag_too_long = 33
work_number pointer_too_high = 34
work_number counter_too_high = 35
work_number trace_too_long = 36

-- "It returns the number, the place (10 to 19, else 0) .."
unfoldable pub number : Refusal → ℕ
number (of_host r) = host_number r
number (of_line r) = line_number r
number (of_file r p) = file_number r
number (of_work r) = work_number r

-- "the place (10 to 19, else 0)"
unfoldable pub place : Refusal → ℕ
place (of_host r) = 0
place (of_line r) = 0
place (of_file r p) = p
place (of_work r) = 0
