-- The text of a fault: its name, and the line where it has one.
use Rattle.std.specs.Prelude.{ℕ, List, ◌++◌, codes}
use Rattle.std.specs.Fmt.{decimal}
use Rattle.trace_read.specs.declared.fault.TraceFault.{TraceFault}
use Rattle.trace_read.specs.declared.fault.TraceFault.TheVariants.{OutOfMemory, BadNumber, MissingField, Range, TooLong}
use Rattle.trace_read.specs.declared.fault.TraceFault.TheVariants.{TooLarge, Read}

abbrev pub trace_fault_text : TraceFault → List ℕ
trace_fault_text OutOfMemory = codes "OutOfMemory"
trace_fault_text (BadNumber line) = codes "BadNumber line " ++ decimal line
trace_fault_text (MissingField line) = codes "MissingField line " ++ decimal line
trace_fault_text (Range line) = codes "Range line " ++ decimal line
trace_fault_text (TooLong line) = codes "TooLong line " ++ decimal line
trace_fault_text TooLarge = codes "TooLarge"
trace_fault_text Read = codes "Read"
