-- The line that reports a fault: `fault: `, its name, and the line or step where it has one. (Defined by this project.)
use Rattle.std.specs.Prelude.{◌⊎◌, ℕ, List, ◌++◌, Option, codes}
use Rattle.std.specs.Io.KnownBytes.{Appends}
use Rattle.streams.specs.Part.{AppendsPart}
use Rattle.streams.specs.Tally.{Exhausts}
use Rattle.streams.specs.declared.retry_budget.TheConstants.{INTERRUPTIONS}
pub use Rattle.streams.specs.declared.tally.Tally.{Tally}
use Rattle.trace_read.specs.FaultText.{trace_fault_text}
use Rattle.journal_text.specs.FaultText.{journal_fault_text}
use Rattle.debug_commands.specs.FaultText.{debug_fault_text}
pub use Rattle.cachesim.specs.declared.fault.Fault.{Fault}
use Rattle.cachesim.specs.declared.fault.Fault.TheVariants.{Actors, Debug, Journal, JournalFull}
use Rattle.cachesim.specs.declared.fault.Fault.TheVariants.{NoFile, OutOfMemory, Trace, Write}

abbrev pub fault_text : Fault → List ℕ
fault_text OutOfMemory = codes "OutOfMemory"
fault_text Actors = codes "Actors"
fault_text (Trace fault) = trace_fault_text fault
fault_text JournalFull = codes "JournalFull"
fault_text NoFile = codes "NoFile"
fault_text (Journal fault) = journal_fault_text fault
fault_text (Debug fault) = debug_fault_text fault
fault_text Write = codes "Write"

abbrev pub fault_line : Fault → List ℕ
fault_line fault = codes "fault: " ++ (fault_text fault ++ codes "\n")

-- All of the line was written, or a beginning of it where a write or a flush failed, by what the output counted before
-- and after.
abbrev pub WritesLine : Tally → Tally → Option (List ℕ) → Option (List ℕ) → List ℕ → Type 0
WritesLine old new before after line =
    Appends before after line ⊎ (Exhausts INTERRUPTIONS old new × AppendsPart before after line)

-- The line of the fault was written, or that of `OutOfMemory` where there was no memory for it.
abbrev pub IsReported : Fault → Tally → Tally → Option (List ℕ) → Option (List ℕ) → Type 0
IsReported fault old new before after =
    WritesLine old new before after (fault_line fault) ⊎ WritesLine old new before after (fault_line OutOfMemory)
