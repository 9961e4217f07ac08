-- THE CONTRACT OF m7_recover (02, N11): from the lent bytes at entry, the whole answer and what both written memories then hold.
use Rattle.std.specs.Prelude.{ℕ, ◌≡◌, Bool, ◌&&◌, List, eqb, length}
use Rattle.macros.specs.Refusals.{number, place}
use Rattle.macros.specs.Refusals.Refusal.{of_host}
use Rattle.macros.specs.Refusals.HostRefusal.{bad_memory}
use Rattle.macros.specs.Macro.{pick}
use Rattle.form_table.specs.Form.{table_bytes, form}
use Rattle.faults.specs.Refusal.{recover_number, recover_place}
use Rattle.faults.specs.Recover.{Recovered, recover}
use Rattle.faults.specs.Recover.Recovered.{kept, refused}
use Rattle.form_faults.specs.Form.{faults_bytes, faults_form}
use Rattle.line_answer.specs.declared.Answer.{Answer}
use Rattle.line_answer.specs.Replies.{reply}

-- the memories of a call: the table's and the faults'
pub record Mended : Type 0 where
  pub table : List ℕ
  pub faults : List ℕ

-- what a call answers, and what its memories hold then
pub record Recovering : Type 0 where
  pub answer : Answer
  pub memories : Mended

-- the length is the number of macros kept; a refusal leaves both memories as they were
unfoldable pub of_recovering : Mended → Recovered → Recovering
of_recovering old (kept ms fs) =
    record { answer = reply 0 0 (length ms); memories = record { table = form ms; faults = faults_form fs } }
of_recovering old (refused r) = record { answer = reply (recover_number r) (recover_place r) 0; memories = old }

-- the memories have the sizes that the docs state
unfoldable pub sized_to_recover : Mended → Bool
sized_to_recover m = eqb (length m.table) table_bytes && eqb (length m.faults) faults_bytes

-- m7_recover, of a file and its memories: 3, else what reading the file past its faults gives; what stood in them has no influence
unfoldable pub recovers : (file : List ℕ) → Mended → Recovering
recovers s old =
    pick (sized_to_recover old) (of_recovering old (recover s))
    (record { answer = reply (number (of_host bad_memory)) (place (of_host bad_memory)) 0; memories = old })

-- the answer r, and what the memories hold at exit, are that result
pub record Returned (w : Recovering) (r : Answer) (m : Mended) : Type 0 where
  pub answers : r ≡ w.answer
  pub holds : m ≡ w.memories
