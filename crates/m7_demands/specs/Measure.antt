-- 02, N8, FOR THE ENGINE: m7_measure answers of a file what m7_read and then m7_write of it answer, and what the table's bytes show.
-- The contract of m7_measure is that it answers `plan_of`; that of m7_read, that it answers and leaves `reads`.
-- Edits of must-fail/ that it rules out: read_place_free, written_place_free, tags_shown_as_elements, refused_counted.
use Rattle.std.specs.Prelude.{ℕ, ◌*◌, ◌≤◌, ◌<◌, ◌≡◌, List, length, get_or, take, drop}
use Rattle.macros.specs.Bounds.{most_file_bytes, most_macros}
use Rattle.macros.specs.Formed.{Octets}
use Rattle.form_table.specs.Form.{slot_bytes, table_bytes}
use Rattle.plans.specs.Numbers.{plan_of}
use Rattle.plans.specs.declared.Plan.{Plan}
use Rattle.read_plan.specs.Elements.{slot_elements}
use Rattle.line_answer.specs.declared.Answer.{Answer}
use Rattle.m7.specs.Contract.{Result, Writes, reads}

-- WHAT THE BYTES OF A TABLE SHOW, by the form that m7.h states

-- the slot behind k others
abbrev pub slot_at : (table : List ℕ) → (k : ℕ) → List ℕ
slot_at t k = take slot_bytes (drop (slot_bytes * k) t)

-- "the number of macros in a table is the number of slots whose first byte is not 0" (m7.h): these are the first n
pub record InUse (t : List ℕ) (n : ℕ) : Type 0 where
  pub few : n ≤ most_macros
  pub used : (k : ℕ) → k < n → 0 < get_or (slot_at t k) 0 0
  pub unused : (k : ℕ) → n ≤ k → k < most_macros → get_or (slot_at t k) 0 0 ≡ 0

-- the tags of a slot: byte 1
abbrev pub slot_tags : (slot : List ℕ) → ℕ
slot_tags s = get_or s 1 0

-- the most that f counts in any of the first n slots, 0 without one
pub record MostIn (t : List ℕ) (n : ℕ) (f : List ℕ → ℕ) (v : ℕ) : Type 0 where
  pub no_more : (k : ℕ) → k < n → f (slot_at t k) ≤ v
  pub reached : 0 < n → (k : ℕ) × (k < n) × (f (slot_at t k) ≡ v)
  pub without : n ≡ 0 → v ≡ 0

-- macros, elements and tags of a plan are those of the table bytes t
pub record AsShown (t : List ℕ) (a : Plan) : Type 0 where
  pub macros : InUse t a.macros
  pub elements : MostIn t a.macros slot_elements a.elements
  pub tags : MostIn t a.macros slot_tags a.tags

-- WHAT THE CALLS ANSWER

-- m7_read: "the same number and place", and the macros
pub record AsRead (w : Result) (a : Plan) : Type 0 where
  pub number : a.number ≡ w.answer.number
  pub place : a.place ≡ w.answer.place
  pub macros : a.macros ≡ w.answer.length

-- m7_write: the bytes; "If writing would be refused with 10 or 18, the byte number is replaced by that refusal and its place"
pub record AsWritten (r : Answer) (a : Plan) : Type 0 where
  pub bytes : a.bytes ≡ r.length
  pub number : a.write_number ≡ r.number
  pub place : a.write_place ≡ r.place

-- of a file that reading refuses nothing else is given
pub record NothingElse (a : Plan) : Type 0 where
  pub elements : a.elements ≡ 0
  pub tags : a.tags ≡ 0
  pub bytes : a.bytes ≡ 0
  pub number : a.write_number ≡ 0
  pub place : a.write_place ≡ 0

-- THE LAW: the plan a, beside m7_read's result w and, if that is no refusal, m7_write's answer r of the bytes that it left
pub record Measured (w : Result) (a : Plan) : Type 0 where
  pub read : AsRead w a
  pub refused : (w.answer.number ≡ 0 → ⊥) → NothingElse a
  pub shown : w.answer.number ≡ 0 → AsShown w.memory a
  pub written : w.answer.number ≡ 0 → (out new : List ℕ) (r : Answer) → length out ≡ most_file_bytes → Writes w.memory out r new
      → AsWritten r a

-- of every file s, where m7_read is lent any table's memory of the right size
abbrev pub Measures : Type 0
Measures = (s old : List ℕ) → Octets s → length old ≡ table_bytes → Measured (reads s old) (plan_of s)
