-- The text of a fault: its name, and the step where it has one.
use Rattle.std.specs.Prelude.{ℕ, List, ◌++◌, codes}
use Rattle.std.specs.Fmt.{decimal}
use Rattle.journal_text.specs.declared.fault.JournalFault.{JournalFault}
use Rattle.journal_text.specs.declared.fault.JournalFault.TheVariants.{OutOfMemory, Header, Line, FalseReply, NotNow}
use Rattle.journal_text.specs.declared.fault.JournalFault.TheVariants.{JournalFull, Read, Unended, TooLarge, Count}

abbrev pub journal_fault_text : JournalFault → List ℕ
journal_fault_text OutOfMemory = codes "OutOfMemory"
journal_fault_text Header = codes "Header"
journal_fault_text (Line step) = codes "Line step " ++ decimal step
journal_fault_text (FalseReply step) = codes "FalseReply step " ++ decimal step
journal_fault_text (NotNow step) = codes "NotNow step " ++ decimal step
journal_fault_text (JournalFull step) = codes "JournalFull step " ++ decimal step
journal_fault_text Read = codes "Read"
journal_fault_text Unended = codes "Unended"
journal_fault_text TooLarge = codes "TooLarge"
journal_fault_text Count = codes "Count"
