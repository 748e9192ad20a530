-- What a fault of a lower crate is to the program.
use Rattle.streams.specs.declared.WriteFault.{WriteFault}
use Rattle.streams.specs.declared.WriteFault.TheVariants as write
use Rattle.journal_text.specs.declared.fault.JournalFault.{JournalFault}
use Rattle.journal_text.specs.declared.fault.JournalFault.TheVariants as reading
pub use Rattle.debug_commands.specs.declared.fault.DebugFault.{DebugFault}
use Rattle.debug_commands.specs.declared.fault.DebugFault.TheVariants as debug
use Rattle.trace_read.specs.declared.sample_fault.SampleFault.{SampleFault}
use Rattle.trace_read.specs.declared.sample_fault.SampleFault.TheVariants as sample
use Rattle.cachesim.specs.declared.files.FileFault.{FileFault}
use Rattle.cachesim.specs.declared.files.FileFault.TheVariants as file
pub use Rattle.cachesim.specs.declared.fault.Fault.{Fault}
use Rattle.cachesim.specs.declared.fault.Fault.TheVariants.{Debug, Journal, NoFile, OutOfMemory, Trace, Write}

abbrev pub of_write : WriteFault → Fault
of_write write.OutOfMemory = OutOfMemory
of_write write.Write = Write

abbrev pub of_file : FileFault → Fault
of_file file.OutOfMemory = OutOfMemory
of_file file.NoFile = NoFile

abbrev pub of_reading : JournalFault → Fault
of_reading reading.OutOfMemory = OutOfMemory
of_reading other = Journal other

abbrev pub of_debug : DebugFault → Fault
of_debug debug.OutOfMemory = OutOfMemory
of_debug other = Debug other

abbrev pub of_sample : SampleFault → Fault
of_sample (sample.Trace fault) = Trace fault
of_sample sample.Write = Write
