-- What is due where a line stands, and what follows a pass (01, part 6).
use Rattle.std.specs.Prelude.{ℕ, suc, ◌+◌, ◌*◌, ◌≤◌, ◌<◌, ◌≡◌, Bool, true, false, List, ◌++◌, ◌⊎◌, length, get_or, take, Result, Ok, Err}
use Rattle.macros.specs.Bounds.{most_macros, most_line_bytes, most_trace_bytes}
use Rattle.lines.specs.Line.{is_control}
use Rattle.lines.specs.Trace.{three_lines}
use Rattle.pass_lack.specs.Lacking.{flags_of}
use Rattle.pass_moment.specs.declared.Passed.{Passed}
use Rattle.refusals.specs.declared.WorkError.{WorkError}
use Rattle.line_memory.specs.Memory.{padded}
use Rattle.line_stand.specs.Closed.{closed_flags, OpenBelow}
use Rattle.line_stand.specs.declared.Why.TheVariants.{BudgetUsedUp, AtWork, TraceTooLong}
use Rattle.line_stand.specs.declared.Stand.{Stand}
use Rattle.line_stand.specs.declared.Ended.{Ended}
use Rattle.line_stand.specs.declared.PassesError.{PassesError}
use Rattle.line_stand.specs.declared.Ended.TheVariants.{Done, Control}
use Rattle.line_stand.specs.declared.Due.{Due}
use Rattle.line_stand.specs.declared.Due.TheVariants.{Over as Ending, Pass as PassOf}

-- WHAT IS DUE

-- what ends the line where it stands, t being its text: a control line, or no macro due
abbrev pub OverBy : (t flags : List ℕ) → Stand → Ended → Type 0
OverBy t flags a (Control n p) = (is_control t ≡ true) × (Control n p ≡ Control a.size a.begun)
OverBy t flags a (Done n o p) = (is_control t ≡ false) × OpenBelow flags a.due 0 × (Done n o p ≡ Done a.size a.occurred a.begun)

-- or the pass of the macro k is due, or the budget refuses the line
abbrev pub DueBy : (t flags : List ℕ) → ℕ → Stand → Result Due PassesError → Type 0
DueBy t flags budget a (Ok (Ending e)) = OverBy t flags a e
DueBy t flags budget a (Ok (PassOf k)) = (is_control t ≡ false) × OpenBelow flags a.due (suc k) × (a.begun < budget)
DueBy t flags budget a (Err e) =
    (is_control t ≡ false) × ((k : ℕ) × OpenBelow flags a.due (suc k)) × (budget ≤ a.begun) × (e ≡ record { why = BudgetUsedUp; begun = a.begun })

pub record Dues (t flags : List ℕ) (budget : ℕ) (a : Stand) (r : Result Due PassesError) : Type 0 where
  pub by : DueBy t flags budget a r

-- the trace's memory: its first n bytes are the trace so far, and zeros follow
pub record Open (trace : List ℕ) (n : ℕ) : Type 0 where
  pub size : length trace ≡ most_trace_bytes
  pub inside : n ≤ most_trace_bytes
  pub zeros : trace ≡ padded (take n trace) most_trace_bytes

-- BEHIND A PASS

-- what is written behind a pass: the text, the flags of its bytes, the bytes of closed macros, and the trace
pub record Texts : Type 0 where
  pub text : List ℕ
  pub present : List ℕ
  pub flags : List ℕ
  pub trace : List ℕ

-- what is lent behind a pass over the text of `on`, where the line stands if it had no occurrence; n: the new line's bytes
pub record Followed (tb : List ℕ) (m : Texts) (nw : List ℕ) (traced : Bool) (n : ℕ) (on : Stand) : Type 0 where
  pub text : length m.text ≡ most_line_bytes
  pub new : length nw ≡ most_line_bytes
  pub present : length m.present ≡ 256
  pub within : n ≤ most_line_bytes
  pub size : on.size ≤ most_line_bytes
  pub slot : 1024 * on.due < length tb
  pub flag : on.due < length m.flags
  pub few : on.due < most_macros
  pub trace : traced ≡ true → Open m.trace on.written

-- the lines of the pass
abbrev pub lines_here : Texts → List ℕ → ℕ → Stand → List ℕ
lines_here m nw n on = three_lines (take on.size m.text) (on.due + 1) (take n nw)

-- after a pass with an occurrence, whose lines fit, the new line is the line, a `<` macro is closed, and all open macros are due; w: the trace's bytes then
pub record Again (tb : List ℕ) (count : ℕ) (m m' : Texts) (nw : List ℕ) (traced : Bool) (n : ℕ) (on : Stand) (z : Result Stand PassesError) : Type 0 where
  pub written : ℕ
  pub next : z ≡ Ok (record { size = n; occurred = true; due = count; begun = on.begun; written = written })
  pub line : m'.text ≡ padded (take n nw) (length m.text)
  pub present : m'.present ≡ flags_of (take n nw)
  pub closed : m'.flags ≡ closed_flags m.flags (get_or tb (1024 * on.due) 0) on.due
  pub traces : traced ≡ true → (written ≡ on.written + length (lines_here m nw n on)) × (written ≤ most_trace_bytes)
      × (m'.trace ≡ padded (take on.written m.trace ++ lines_here m nw n on) most_trace_bytes)
  pub untraced : traced ≡ false → (m'.trace ≡ m.trace) × (written ≡ on.written)

-- its lines do not fit
pub record Cut (m m' : Texts) (nw : List ℕ) (traced : Bool) (n : ℕ) (on : Stand) (z : Result Stand PassesError) : Type 0 where
  pub asked : traced ≡ true
  pub next : z ≡ Err (record { why = TraceTooLong; begun = on.begun })
  pub full : most_trace_bytes < on.written + length (lines_here m nw n on)

-- otherwise these are as they were
pub record Still (m m' : Texts) (z₂ z : Result Stand PassesError) : Type 0 where
  pub next : z ≡ z₂
  pub same : m' ≡ m

abbrev pub FollowedWith : List ℕ → ℕ → Texts → Texts → List ℕ → Bool → (had : Bool) → ℕ → Stand → Result Stand PassesError → Type 0
FollowedWith tb count m m' nw traced true n on z = Again tb count m m' nw traced n on z ⊎ Cut m m' nw traced n on z
FollowedWith tb count m m' nw traced false n on z = Still m m' (Ok on) z

-- what follows what a pass comes to
abbrev pub FollowedBy : List ℕ → ℕ → Texts → Texts → List ℕ → Bool → Result Passed WorkError → Stand → Result Stand PassesError → Type 0
FollowedBy tb count m m' nw traced (Ok p) on z = FollowedWith tb count m m' nw traced p.occurred p.size on z
FollowedBy tb count m m' nw traced (Err e) on z = Still m m' (Err (record { why = AtWork e.fault; begun = on.begun })) z

pub record Follows (tb : List ℕ) (count : ℕ) (m m' : Texts) (nw : List ℕ) (traced : Bool) (r : Result Passed WorkError) (on : Stand) (z : Result Stand PassesError) : Type 0 where
  pub by : FollowedBy tb count m m' nw traced r on z
