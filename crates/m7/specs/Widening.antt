-- THE CONTRACTS OF m7_widen AND m7_narrow (02, N6): from the lent bytes at entry, the whole answer and what the written memory then holds.
-- They rule out, among others, the edits narrow_42_first (42 comes before 2), narrow_number (42 is answered as 2), widen_number (2 is
-- answered as 1) and no_state_widened (bytes that are no old state are taken).
use Rattle.std.specs.Prelude.{ℕ, ◌≡◌, Bool, true, false, ◌&&◌, List, eqb, length}
use Rattle.macros.specs.Bounds.{old_entry_bytes}
use Rattle.macros.specs.Refusals.Refusal.{of_host}
use Rattle.macros.specs.Refusals.HostRefusal.{bad_memory, bad_state}
use Rattle.lines.specs.State.{State}
use Rattle.m_widths.specs.Widths.{widened, Short}
use Rattle.form_state.specs.Form.{state_bytes, state_form, state_form_by}
use Rattle.form_state.specs.Access.{Holds}
use Rattle.form_old.specs.Refusal.{width_number}
use Rattle.form_old.specs.Refusal.WidthRefusal.{long_entry}
use Rattle.form_old.specs.Old.{old_state_bytes, HoldsOld}
use Rattle.line_answer.specs.declared.Answer.{Answer}
use Rattle.line_answer.specs.Replies.{reply}
use Rattle.m7.specs.Contract.{Result, Gives, refuses, takes}

-- the memories of the old state and of the new one have the sizes that the docs state
unfoldable pub sized_states : (old state : List ℕ) → Bool
sized_states old state = eqb (length old) old_state_bytes && eqb (length state) state_bytes

-- 42 has place 0, and leaves the memory as it was
unfoldable pub refuses_long : List ℕ → Result
refuses_long old = record { answer = reply (width_number long_entry) 0 0; memory = old }

-- m7_widen, of the old state's bytes and the state's memory: the answer r, and the bytes b that the state's memory holds at exit
pub record Widens (old state : List ℕ) (r : Answer) (b : List ℕ) : Type 0 where
  -- 3, a lent memory of another size
  pub other_size : sized_states old state ≡ false → Gives (refuses (of_host bad_memory) state) r b
  -- 2, bytes that are the form of no old state
  pub no_state : sized_states old state ≡ true → ((st : State) → HoldsOld old st → ⊥) → Gives (refuses (of_host bad_state) state) r b
  -- else the same state in the new form
  pub made : sized_states old state ≡ true → (st : State) → HoldsOld old st → Gives (takes 0 (state_form (widened st))) r b

-- m7_narrow, of the state's bytes and the old state's memory: the answer r, and the bytes b that the old state's memory holds at exit
pub record Narrows (state old : List ℕ) (r : Answer) (b : List ℕ) : Type 0 where
  -- 3, a lent memory of another size
  pub other_size : sized_states old state ≡ false → Gives (refuses (of_host bad_memory) old) r b
  -- 2, bytes that are the form of no state, over the whole state before 42 is judged (reading 15)
  pub no_state : sized_states old state ≡ true → ((st : State) → Holds state st → ⊥) → Gives (refuses (of_host bad_state) old) r b
  -- 42, "an entry over 50 on the way back"
  pub too_long : sized_states old state ≡ true → (st : State) → Holds state st → (Short st → ⊥) → Gives (refuses_long old) r b
  -- else the same state in the old form
  pub made : sized_states old state ≡ true → (st : State) → Holds state st → Short st → Gives (takes 0 (state_form_by old_entry_bytes st)) r b
