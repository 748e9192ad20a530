-- What a failed reading is as a fault of a journal.
use Rattle.journal_text.specs.declared.fault.JournalFault.{JournalFault}
use Rattle.journal_text.specs.declared.fault.JournalFault.TheVariants as journal
use Rattle.streams.specs.declared.ReadAllFault.{ReadAllFault}
use Rattle.streams.specs.declared.ReadAllFault.TheVariants as read

abbrev pub fault_of : ReadAllFault → JournalFault
fault_of read.OutOfMemory = journal.OutOfMemory
fault_of read.TooLarge = journal.TooLarge
fault_of read.Read = journal.Read
