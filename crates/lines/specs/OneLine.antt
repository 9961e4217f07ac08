-- DEMAND 3 LEAVES NOTHING FREE: its own clauses allow one history of a line and one answer, whatever definition makes them.
use Rattle.std.specs.Prelude.{◌≡◌, List}
use Rattle.macros.specs.Macro.{Table}
use Rattle.lines.specs.State.{State}
use Rattle.lines.specs.Line.{Sent, Line}
use Rattle.lines.specs.Feeding.{Answer}
use Rattle.lines.specs.Demand.{History, LineHolds, Lines}

-- THE LAW: two histories of which the clauses hold, refused ones too, have the same passes and the same end
abbrev pub OneLine : Type 0
OneLine = (ms : Table) (st : State) (sent : Sent) (l k : Line) → History ms st sent l → History ms st sent k → l ≡ k

-- THE LAW: two answers to a line of which the demand holds are the same: kind, passes, table, state and trace
abbrev pub OneAnswer : Type 0
OneAnswer = (ms : Table) (st : State) (sent : Sent) (a b : Answer) → LineHolds ms st sent a → LineHolds ms st sent b → a ≡ b

-- THE LAW: a list of lines has one list of answers of which the demand holds
abbrev pub OneList : Type 0
OneList = (ms : Table) (st : State) (xs : List Sent) (as₁ bs : List Answer) → Lines ms st xs as₁ → Lines ms st xs bs → as₁ ≡ bs
