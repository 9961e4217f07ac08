-- What measuring answers, in the terms of N8.
use Rattle.std.specs.Prelude.{ℕ, Result, Ok, Err}
use Rattle.plans.specs.Measure.{Size, Measured}
use Rattle.plans.specs.Measure.Size.{bytes, unwritten}
use Rattle.plans.specs.Measure.Measured.{takes, unread}
use Rattle.read_scan.specs.Scan.{fault_of}
use Rattle.read_scan.specs.declared.ReadError.{ReadError}
use Rattle.write_file.specs.Slots.{refusal_of}
use Rattle.write_file.specs.declared.WriteError.{WriteError}
use Rattle.read_plan.specs.declared.Measures.{Measures}

-- the bytes of the file written out, or the refusal of writing out
abbrev pub size_meant : Result ℕ WriteError → Size
size_meant (Ok b) = bytes b
size_meant (Err e) = unwritten (refusal_of e.fault) e.place

-- a file that reading takes
abbrev pub took : Measures → Measured
took m = takes m.macros m.elements m.tags (size_meant m.written)

abbrev pub meant : Result Measures ReadError → Measured
meant (Ok m) = took m
meant (Err e) = unread (fault_of e.fault) e.place
