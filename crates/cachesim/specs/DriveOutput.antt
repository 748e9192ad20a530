-- What `drive` writes.
use Rattle.std.specs.Prelude.{◌≡◌, ◌≤◌, ◌⊎◌, ⊤, ℕ, List, [], Option, Result, Err, length}
use Rattle.std.specs.Io.KnownBytes.{Appends}
use Rattle.engine_base.specs.History.{IsLegal, Entries}
pub use Rattle.engine_base.specs.declared.config.Config.{Config}
pub use Rattle.trace_read.specs.declared.format.Format.{Format}
use Rattle.shell_model.specs.Shell.{Step, Reply, Shell, act}
use Rattle.maintenance.specs.EmptyShell.{IsOpened}
use Rattle.journal.specs.Session.{SessionState}
pub use Rattle.workers.specs.declared.driven.Driven.{Driven}
pub use Rattle.workers.specs.declared.run.DriveFault.{DriveFault}
use Rattle.workers.specs.declared.run.DriveFault.TheVariants.{Workers, Held, OutOfMemory, Stopped}
pub use Rattle.workers.specs.declared.run.Cause.{Cause}
use Rattle.workers.specs.declared.run.Cause.TheVariants as cause
use Rattle.cachesim.specs.TraceOutput.{IfFaultless}
use Rattle.cachesim.specs.WorkerReads.{AreOfReadsUpTo, AreWalksOfReads}
pub use Rattle.cachesim.specs.declared.fault.Fault.{Fault}
use Rattle.cachesim.specs.declared.fault.Fault.TheVariants as fault
use Rattle.journal_text.specs.Journal.{journal_of}
use Rattle.journal_text.specs.declared.version.Version.TheVariants.{Two}

-- a session in which no step was made, over an empty cache of the configuration
pub record IsEmptySession (config : Config) (session : SessionState Shell Shell Step Reply) : Type 0 where
  pub opened : IsOpened config session.opening
  pub same : session.engine ≡ session.opening
  pub none : session.kept ≡ []
  pub undone : session.tail ≡ []
  pub limit : session.limit ≡ config.journal_limit

-- The bytes read have no fault, and those written are the journal of steps that the cache of the configuration
-- accepts one after another, each with its reply, from the empty state on. `Walks` holds of the accesses in the bytes
-- read and of the steps, and `Room` of how many these are.
pub record IsJournalOf (Walks : List ℕ → Entries → Type 0) (Room : ℕ → Type 0) (config : Config) (format : Format)
    (input before after : Option (List ℕ)) : Type 0 where
  pub opening : Shell
  pub opened : IsOpened config opening
  pub steps : Entries
  pub legal : IsLegal act opening steps
  pub room : Room (length steps)
  pub walks : IfFaultless format input (λ keys. Walks keys steps)
  pub written : Appends before after (journal_of Two steps)

-- The steps are the walks of the accesses, each by the worker whose turn it is, and as many as the limit of the journal
-- at most.
abbrev pub IsDriven : Config → ℕ → Format → Option (List ℕ) → Option (List ℕ) → Option (List ℕ) → Type 0
IsDriven config workers format input before after =
    IsJournalOf (AreWalksOfReads config.stripes workers) (λ n. n ≤ config.journal_limit)
    config format input before after

-- as many steps as the limit of the journal at most, and just as many where a full journal is the cause
abbrev pub IsRoomFor : Cause → ℕ → ℕ → Type 0
IsRoomFor why limit n = (n ≤ limit) × (why ≡ cause.JournalFull → n ≡ limit)

-- Workers were refused steps, the first of them for this cause as far as the steps show it (`IsCauseIn`), and the steps
-- are those that were made up to the refusals.
abbrev pub IsStopped : Cause → Config → ℕ → Format → Option (List ℕ) → Option (List ℕ) → Option (List ℕ) → Type 0
IsStopped why config workers format input before after =
    IsJournalOf (AreOfReadsUpTo why config.journal_limit config.stripes workers) (IsRoomFor why config.journal_limit)
    config format input before after

-- What `drive` leaves at a fault. A run that was stopped is written; all else but a failed write leaves the output as
-- it was, out of memory at least its bytes.
abbrev pub LeavesDrive : Config → ℕ → Format → Fault → Option (List ℕ) → Option (List ℕ) → Option (List ℕ)
    → Type 0 → Type 0
LeavesDrive config workers format fault.JournalFull input before after Kept =
    IsStopped cause.JournalFull config workers format input before after
LeavesDrive config workers format fault.OutOfMemory input before after Kept =
    (after ≡ before) ⊎ IsStopped cause.Memory config workers format input before after
LeavesDrive config workers format fault.Write input before after Kept = ⊤
LeavesDrive config workers format fault input before after Kept = Kept

-- a fault of a run that could begin
abbrev pub IsOfRun : DriveFault → Type 0
IsOfRun (Workers session) = ⊥
IsOfRun (Held worker session) = ⊥
IsOfRun (OutOfMemory session) = Unit {0}
IsOfRun (Stopped driven cause) = Unit {0}

-- the run was stopped for this cause, and its journal is written, which has no more steps than its limit
abbrev pub IsStoppedRun : Result Driven DriveFault → Cause → Option (List ℕ) → Option (List ℕ) → Type 0
IsStoppedRun run why before after = (driven : Driven) × (run ≡ Err (Stopped driven why))
    × (length driven.session.kept ≤ driven.session.limit) × Appends before after (journal_of Two driven.session.kept)

-- what the writing of a run leaves at a fault
abbrev pub LeavesRun : Result Driven DriveFault → Option (List ℕ) → Option (List ℕ) → Fault → Type 0
LeavesRun run before after fault.JournalFull = IsStoppedRun run cause.JournalFull before after
LeavesRun run before after fault.OutOfMemory = (after ≡ before) ⊎ IsStoppedRun run cause.Memory before after
LeavesRun run before after fault.Write = ⊤
LeavesRun run before after fault = ⊥
