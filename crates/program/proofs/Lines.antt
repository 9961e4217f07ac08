-- How reading and answering make the lines of a run, and what becomes of the macro file.
use Prim.Native.Nat.{ℕ, zero, suc, ◌+◌, ◌≤◌, ◌<◌}
use mathlib.Core.Path.{◌≡◌, refl, subst, ◌∙◌}
use mathlib.Core.Bool.{true, false}
use mathlib.Core.List.{List, []}
use native.Mathlib.Omega.{arith}
use borrow.Author.Tests.{eq-eqb}
use lib.ListN.{length, take, replicate}
use Rattle.program_in.specs.declared.Reading.{Reading}
use Rattle.program_in.specs.Reading.{LineRead}
use Rattle.lines.specs.State.{fresh}
use Rattle.form_state.specs.Form.{state_form}
use Rattle.line_answer.specs.declared.Answer.{Answer}
use Rattle.m7.specs.Contract.{Gives, freshens, takes}
use Rattle.macros.specs.Macro.{pick}
use Rattle.std.specs.Prelude.{Ok, Err}
use Rattle.program.specs.declared.parts.PartsError.{PartsError}
use Rattle.program.specs.declared.parts.PartsError.TheVariants.{Refused}
use Rattle.program.specs.Parts.{Parts, FileRead, Refuses, PartsRead, parts_of, said_number}
use Rattle.program.specs.Said.{RefusalSaid}
use Rattle.program.specs.Lines.{Standing, Answered, Session, starting, LinesDone, FreshLines}
use Rattle.program.specs.Lines.Session.{none, next}
use Rattle.program.specs.Run.{Follows, Ran}

-- the lines so far, and the reading behind the last of them
pub record Lines (a : Standing) (number : ℕ) (table state block line out : List ℕ) (reading : Reading) (used : ℕ) : Type 0 where
  pub last_block : List ℕ
  pub last_line : List ℕ
  pub last_reading : Reading
  pub session : Session a number (record { table = table; state = state; block = last_block; line = last_line; out = out; reading = last_reading; used = used })
  pub heard : LineRead last_reading last_block last_line reading block line

pub lines_first : {table state block line out block' line' : List ℕ} {r reading : Reading} {number used : ℕ} → number ≡ 1 → used ≡ 0 → r ≡ record { at = 0; size = 0; held = 0; begun = false }
    → LineRead r block line reading block' line' → Lines (starting table state block line out) number table state block' line' out reading used
unfolding starting
lines_first {table = table} {state = state} {block = block} {line = line} {out = out} {r = r} {number = number} {used = used} n u e h =
    record {
      last_block = block;
      last_line = line;
      last_reading = r;
      session = none number (record { table = table; state = state; block = block; line = line; out = out; reading = r; used = used }) n (rw (u, e) refl);
      heard = h;
    }

module _ {a : Standing} {number : ℕ} {table state block line out : List ℕ} {reading : Reading} {used : ℕ} (s : Lines a number table state block line out reading used) where
  pub lines_more : {table' state' block' line' out' : List ℕ} {reading' : Reading} {used' m : ℕ} → reading.begun ≡ true → Answered (take reading.held line) number table state out used table' state' out' used'
      → LineRead reading block line reading' block' line' → m ≡ number + 1 → Lines a m table' state' block' line' out' reading' used'
  lines_more b h r e =
      record { last_block = block; last_line = line; last_reading = reading; session = next _ _ _ _ s.session (record { heard = s.heard; begun = b; answered = h }) e; heard = r }

pub lines_done : {table state block line out table' state' block' line' out' : List ℕ} {number used : ℕ} {reading : Reading} → Lines (starting table state block line out) number table' state' block' line' out' reading used
    → (number < 18446744073709551615 → reading.begun ≡ false) → LinesDone table state block line out table' state' block' line' out'
lines_done {table' = table'} {state' = state'} {out' = out'} {number = number} {used = used} {reading = reading} l f =
    record {
      number = number;
      last = record { table = table'; state = state'; block = l.last_block; line = l.last_line; out = out'; reading = l.last_reading; used = used };
      session = l.session;
      reading = reading;
      heard = l.heard;
      ended = f;
      same_table = refl;
      same_state = refl;
      same_out = refl;
    }

-- THE MACRO FILE

pub file_parts : {old new : List ℕ} (n : ℕ) → FileRead old n new → PartsRead old (parts_of n) new
unfolding parts_of PartsRead Refuses
file_parts zero h = h
file_parts (suc n) h = h

pub parts_table : (n : ℕ) → n < 1 → Ok tt ≡ parts_of n
unfolding parts_of
parts_table zero h = refl
parts_table (suc n) h = absurd (omega arith)

pub parts_refused : (n : ℕ) → 1 ≤ n → Err (Refused n) ≡ parts_of n
unfolding parts_of
parts_refused zero h = absurd (omega arith)
parts_refused (suc n) h = refl

-- THE FRESH STATE

pub fresh_state : {answer : Answer} {state : List ℕ} (old : List ℕ) → length old ≡ 52236 → Gives (freshens old) answer state → state ≡ state_form fresh
unfolding freshens takes pick
fresh_state old h g = g.holds ∙ rw (eq-eqb (length old) 52236 h) refl

pub fresh_lines : {table state table' state' block' line' out' : List ℕ} → state ≡ state_form fresh → LinesDone table state (replicate 65536 0) (replicate 1055 0) (replicate 65536 0) table' state' block' line' out' → FreshLines table table'
fresh_lines {table = table} {table' = table'} {state' = state'} {block' = block'} {line' = line'} {out' = out'} e l =
    record {
      state' = state';
      block' = block';
      line' = line';
      out' = out';
      lines = subst (λ (s : List ℕ). LinesDone table s (replicate 65536 0) (replicate 1055 0) (replicate 65536 0) table' state' block' line' out') e l;
    }

-- THE WHOLE RUN

module _ {table between : List ℕ} {parts : Parts} (z : table ≡ replicate 98304 0) (h : PartsRead table parts between) where
  pub ran_lines : {table' : List ℕ} → parts ≡ Ok tt → FreshLines between table' → Ran table' []
  unfolding Follows
  ran_lines e l = record { parts = parts; between = between; read = subst (λ (t : List ℕ). PartsRead t parts between) z h; follows = rw e (l, refl) }

  pub ran_refused : {e : PartsError} {n l : ℕ} {said : List ℕ} → parts ≡ Err e → n ≡ said_number e → RefusalSaid n l said → l ≡ 0 → Ran between said
  unfolding Follows
  ran_refused e g s k = record { parts = parts; between = between; read = subst (λ (t : List ℕ). PartsRead t parts between) z h; follows = rw (e, ← k, ← g) (s, refl) }
