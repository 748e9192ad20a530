-- Which fault is found: that of the trace or the journal, of the arguments, or of the machine.
use Rattle.std.specs.Prelude.{◌≡◌, ◌≢◌, ◌<◌, ◌≤◌, ◌⊎◌, ℕ, false, List, Option, None, Some, IfSome, length}
use Rattle.clap.specs.Words.{Text}
use Rattle.engine_base.specs.History.{Entries}
use Rattle.shell_model.specs.Shell.{Shell, act}
use Rattle.maintenance.specs.EmptyShell.{Config, IsOpened}
use Rattle.step_record.specs.declared.job.Job.{Job}
use Rattle.policies.specs.declared.job_checks.TheConstants.{MAX_ACTORS}
use Rattle.trace_read.specs.TraceText.{fault_within}
use Rattle.trace_read.specs.declared.limits.Limits.{Limits}
use Rattle.trace_read.specs.declared.limits.TheConstants.Limits.{DEFAULT, LONG}
use Rattle.trace_read.specs.declared.fault.TraceFault.{TraceFault}
use Rattle.trace_read.specs.declared.fault.TraceFault.TheVariants as trace
use Rattle.journal_text.specs.Faults.{IsFault}
use Rattle.journal_text.specs.declared.fault.JournalFault.TheVariants as journal
use Rattle.debug_commands.specs.declared.dialogue.TheConstants.{MAX_COMMAND_BYTES}
use Rattle.debug_commands.specs.declared.fault.DebugFault.TheVariants as large
use Rattle.command_line.specs.ParseResult.{IsRefused}
pub use Rattle.command_line.specs.declared.arguments.Arguments.{Arguments}
use Rattle.command_line.specs.declared.arguments.Arguments.TheVariants as asked
use Rattle.cachesim.specs.DebugOutput.{Answering, AnsweringBegun, Debugging, KnownFiles, Replaying}
use Rattle.cachesim.specs.DriveOutput.{Fault, Format, LeavesDrive}
use Rattle.cachesim.specs.SampleOutput.{IsPartSampled}
use Rattle.cachesim.specs.FaultLine.{Tally, IsReported}
use Rattle.cachesim.specs.Outcome.{AsksForSome, AsksHelp}
use Rattle.cachesim.specs.TraceOutput.{AreFaultless}
use Rattle.cachesim.specs.declared.fault.Fault.TheVariants.{Actors, Debug, Journal, JournalFull, NoFile, OutOfMemory}
use Rattle.cachesim.specs.declared.fault.Fault.TheVariants.{Trace, Write}

-- an allocation, a read or a write failed: no rule says when
abbrev pub IsOfMachine : Fault → Type 0
IsOfMachine OutOfMemory = Unit {0}
IsOfMachine Write = Unit {0}
IsOfMachine (Trace trace.OutOfMemory) = Unit {0}
IsOfMachine (Trace trace.Read) = Unit {0}
IsOfMachine (Journal journal.Read) = Unit {0}
IsOfMachine (Debug large.Read) = Unit {0}
IsOfMachine (Debug large.Write) = Unit {0}
IsOfMachine fault = ⊥

-- the bytes are too many for a trace within these limits, or few enough, and this is the fault of the first faulty line
abbrev pub IsTraceFault : Limits → Format → List ℕ → TraceFault → Type 0
IsTraceFault limits format bytes trace.TooLarge = limits.bytes < length bytes
IsTraceFault limits format bytes fault =
    (length bytes ≤ limits.bytes) × (fault_within limits.accesses format bytes ≡ Some fault)

-- the fault is that of the bytes as a trace within these limits, or they are one and P holds of the fault
abbrev pub IsFoundWithin : Limits → Format → (Fault → Type 0) → Fault → List ℕ → Type 0
IsFoundWithin limits format P (Trace fault) bytes = IsTraceFault limits format bytes fault
IsFoundWithin limits format P fault bytes = AreFaultless limits format bytes × P fault

-- the same of a trace that is kept
abbrev pub IsFoundIn : Format → (Fault → Type 0) → Fault → List ℕ → Type 0
IsFoundIn = IsFoundWithin DEFAULT

-- more policies are named than are run at once
abbrev pub IsTooMany : List Job → Fault → Type 0
IsTooMany jobs fault = (fault ≡ Actors) × (MAX_ACTORS < length jobs)

-- the commands are more bytes than are read of them
abbrev pub IsOfCommands : Option (List ℕ) → Fault → Type 0
IsOfCommands commands fault =
    (fault ≡ Debug large.TooLarge) × IfSome commands (λ bytes. MAX_COMMAND_BYTES < length bytes)

-- what is wrong with the bytes as a journal from the opening state on, or with the commands
abbrev pub IsOfReplayFrom : Shell → ℕ → Option (List ℕ) → Fault → List ℕ → Type 0
IsOfReplayFrom opening limit commands (Journal fault) bytes =
    (kept : Entries) × IsFault act opening limit fault bytes kept
IsOfReplayFrom opening limit commands fault bytes = IsOfCommands commands fault

-- so from the empty cache of the configuration on
abbrev pub IsOfReplay : Config → Option (List ℕ) → Fault → List ℕ → Type 0
IsOfReplay config commands fault bytes =
    (opening : Shell) × IsOpened config opening × IsOfReplayFrom opening config.journal_limit commands fault bytes

-- there is no such file, as far as is known, or the fault is found in its bytes
abbrev pub IsFoundInFile : Option (List ℕ) → (Fault → List ℕ → Type 0) → Fault → Type 0
IsFoundInFile file P NoFile = file ≡ None
IsFoundInFile file P fault = IfSome file (P fault)

-- the call of these arguments finds the fault in the bytes of the input or of its file, or in the arguments
abbrev pub IsFound : Arguments → KnownFiles → Option (List ℕ) → Fault → Type 0
IsFound (asked.Run run) files input fault =
    IfSome input (IsFoundWithin run.jobs.limits run.jobs.format (IsTooMany run.jobs.list) fault)
IsFound (asked.Sweep sweep) files input fault =
    IfSome input (IsFoundWithin sweep.jobs.limits sweep.jobs.format (IsTooMany sweep.jobs.list) fault)
IsFound (asked.Intervals intervals) files input fault =
    IfSome input (IsFoundWithin intervals.jobs.limits intervals.jobs.format (IsTooMany intervals.jobs.list) fault)
IsFound (asked.Part part) files input fault = IfSome input (IsFoundWithin part.limits part.format (λ f. ⊥) fault)
IsFound (asked.Compare compare) files input fault =
    IfSome input (IsFoundWithin compare.policies.limits compare.policies.format (λ f. ⊥) fault)
IsFound (asked.Footprint footprint) files input fault =
    IfSome input (IsFoundWithin footprint.limits footprint.format (λ f. ⊥) fault)
IsFound (asked.Sample sample) files input fault = IfSome input (IsFoundWithin LONG sample.format (λ f. ⊥) fault)
IsFound (asked.Drive drive) files input fault = IfSome input (IsFoundIn drive.format (λ f. f ≡ JournalFull) fault)
IsFound (asked.Debug debug) files input fault = IsFoundInFile (files debug.trace)
    (IsFoundIn debug.policies.format (IsOfCommands input)) fault
IsFound (asked.Replay replay) files input fault =
    IsFoundInFile (files replay.journal) (IsOfReplay replay.config input) fault

-- the fault is one of the machine, or found by the call of these arguments
abbrev pub IsDue : Arguments → KnownFiles → Option (List ℕ) → Fault → Type 0
IsDue arguments files input fault = IsOfMachine fault ⊎ IsFound arguments files input fault

-- faults that are found before anything is written
abbrev pub IsBeforeOutput : Fault → Type 0
IsBeforeOutput OutOfMemory = ⊥
IsBeforeOutput (Debug fault) = ⊥
IsBeforeOutput Write = ⊥
IsBeforeOutput fault = Unit {0}

-- What `debug` and `replay` leave at this fault, where `Answered` says that the commands before a line that is too
-- large are answered, `Begun` that a beginning of all answers is written, and `Kept` that the output is as it was.
abbrev pub LeavesAnswers : Type 0 → Type 0 → Fault → Type 0 → Type 0
LeavesAnswers Answered Begun (Debug large.TooLarge) Kept = Answered
LeavesAnswers Answered Begun fault Kept = (IsBeforeOutput fault → Kept) × (Kept ⊎ Begun)

-- What is left at this fault of the arguments' subcommand: a beginning of the sample by `sample`. Those that ask for a
-- text write once, at their end.
abbrev pub Leaves : Arguments → KnownFiles → Fault → Option (List ℕ) → Option (List ℕ) → Option (List ℕ)
    → Type 0 → Type 0
Leaves (asked.Sample sample) files fault input before after Kept = IsPartSampled sample input before after
Leaves (asked.Drive drive) files fault input before after Kept =
    LeavesDrive drive.config drive.workers drive.format fault input before after Kept
Leaves (asked.Debug debug) files fault input before after Kept = LeavesAnswers
    (Debugging (Answering false input before after) debug.policies (files debug.trace))
    (Debugging (AnsweringBegun input before after) debug.policies (files debug.trace)) fault Kept
Leaves (asked.Replay replay) files fault input before after Kept = LeavesAnswers
    (Replaying (Answering false input before after) replay.config (files replay.journal))
    (Replaying (AnsweringBegun input before after) replay.config (files replay.journal)) fault Kept
Leaves arguments files fault input before after Kept = fault ≢ Write → Kept

-- what these arguments ask for ended in the fault
pub record IsEnded (arguments : Arguments) (files : KnownFiles) (fault : Fault) (input before after : Option (List ℕ))
    (Kept : Type 0) : Type 0 where
  pub due : IsDue arguments files input fault
  pub leaves : Leaves arguments files fault input before after Kept

-- The call ended in the fault before it asked for anything: memory did not suffice, or help was not written whole.
abbrev pub IsEndedEarly : List Text → Fault → Type 0 → Type 0
IsEndedEarly words OutOfMemory Kept = Kept
IsEndedEarly words Write Kept = IsRefused words AsksHelp
IsEndedEarly words fault Kept = ⊥

-- A fault ended the call, and its line was written to the fault output, from `silent` to `line`, or that of
-- `OutOfMemory` where there was no memory for it; all of it, or a beginning where the fault output failed, which
-- counted `old` and `new`. `Blames` says of the fault what became of the calls of the input and the output.
pub record EndsInFault (words : List Text) (files : KnownFiles) (old new : Tally)
    (input before after silent line : Option (List ℕ)) (Kept : Type 0) (Blames : Fault → Type 0) : Type 0 where
  pub fault : Fault
  pub reported : IsReported fault old new silent line
  pub ended : AsksForSome words (λ arguments. IsEnded arguments files fault input before after Kept)
      ⊎ IsEndedEarly words fault Kept
  pub blames : Blames fault
