-- The program holds a table and a state from the file on, whatever the lines are.
use Prim.Native.Nat.{ℕ, zero, suc}
use mathlib.Core.Path.{◌≡◌, refl, subst}
use mathlib.Core.List.{List}
use lib.ListN.{length}
use Rattle.macros.specs.Formed.{Octets}
use Rattle.form_table.specs.Form.{table_bytes}
use Rattle.lines.specs.State.{fresh}
use Rattle.lines.proofs.KeepState.{fresh_in_range}
use Rattle.form_state.specs.Form.{state_form}
use Rattle.line_memory.specs.Memory.{Memories, Feeding}
use Rattle.line_feed.specs.Contract.{Lent}
use Rattle.line_feed.specs.Taking.{SomeTable}
use Rattle.line_answer.specs.declared.Answer.{Answer}
use Rattle.m7.specs.Contract.{Gives, reads}
use Rattle.m7.specs.Feeding.{Feeds}
use Rattle.m7.proofs.Results.{read_is_table}
use Rattle.m7.proofs.FeedResults.{lent_sized}
use Rattle.std.specs.Prelude.{Ok}
use Rattle.program.specs.Parts.{Parts, parts_of}
use Rattle.program.specs.Held.{Sound, Ready}

-- the file
pub ready : (file old : List ℕ) {new : List ℕ} {answer : Answer} → Octets file → length old ≡ table_bytes → Gives (reads file old) answer new → Ready (parts_of answer.number) new
unfolding parts_of Ready
ready file old {new = new} {answer = answer} o l g = by answer.number refl
  where
    by : (n : ℕ) → answer.number ≡ n → Ready (parts_of n) new
    by zero e = read_is_table file old o e l g
    by (suc n) e = tt

pub is_ready : {parts : Parts} {table : List ℕ} → parts ≡ Ok tt → Ready parts table → SomeTable table
unfolding Ready
is_ready {table = table} e r = subst (λ (p : Parts). Ready p table) e r

pub fresh_sound : {table state : List ℕ} → SomeTable table → state ≡ state_form fresh → Sound table state
fresh_sound t e = record { macros = t; in_range = (fresh, record { in_range = fresh_in_range; form = rw e refl }) }

-- a line
pub sound_lent : {table state output trace : List ℕ} → Sound table state → length output ≡ 1054 → length trace ≡ 65536
    → Lent (record { table = table; state = state; output = output; trace = trace })
sound_lent s o t = record { own = record { table = s.macros; state = s.in_range; room = o }; room = t }

pub sound_kept : {f : Feeding} {a : Answer} → Lent f.lent → Feeds (record { feeding = f; answer = a }) → Sound f.left.table f.left.state
sound_kept {f = f} l w =
    let t = l.own.table in
    let s = l.own.state in
    let r = w.fed (lent_sized f.lent l) t.0 t.1 s.0 s.1 in
    record { macros = (_, r.table_holds); in_range = (_, r.state_holds) }
