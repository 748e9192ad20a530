-- The rest of a round of maintenance, from the phase that its holder is at.
use Rattle.std.specs.Prelude.{◌≡◌, ℕ, ◌<◌, Option, Some, None, [], ◌++◌, length}
use Rattle.engine_base.specs.declared.step.Act.TheVariants.{Look}
use Rattle.engine_base.specs.declared.drain.Phase.TheVariants.{Reads, Writes, Evictions}
use Rattle.engine_base.specs.History.{Entries, tail_after}
use Rattle.journal.specs.Session.{SessionState}
pub use Rattle.journal.specs.declared.fault.SessionFault.{SessionFault}
use Rattle.journal.specs.declared.fault.SessionFault.TheVariants.{OutOfMemory, JournalFull, NotNow}
pub use Rattle.shell_model.specs.declared.holder.Holder.{Holder}
use Rattle.shell_model.specs.Shell.{Phase, Step, Reply, Act, Shell}
use Rattle.quiet_run.specs.declared.round.SettleFault.{SettleFault}
use Rattle.quiet_run.specs.declared.round.SettleFault.TheVariants as fault
use Rattle.shell_model.specs.WalkPlaces.{phase_act}
use Rattle.shell_model.specs.WorkerEntries.{IsUnfinished}
use Rattle.shell_model.specs.Walks.{IsReading, IsWriting, IsEvicting}

abbrev pub ShellSession : Type 0
ShellSession = SessionState Shell Shell Step Reply

-- the entries came to the end of the journal
pub record AddsSteps (IsMade : Entries → Type 0) (old new : ShellSession) : Type 0 where
  pub made : Entries
  pub entered : new.kept ≡ old.kept ++ made
  pub tail : new.tail ≡ tail_after made old.tail
  pub holds : IsMade made

-- the entries of the worker w, from the phase on to the End of its round
abbrev pub IsRestOfRound : ℕ → ℕ → Phase → Entries → Type 0
IsRestOfRound w n Reads es = IsReading w n 0 0 es
IsRestOfRound w n Writes es = IsWriting w n es
IsRestOfRound w n Evictions es = IsEvicting w n es

-- the rest of a holder's round, and nothing where no one holds
abbrev pub IsRest : ℕ → Option Holder → Entries → Type 0
IsRest n None es = es ≡ []
IsRest n (Some h) es = IsRestOfRound h.worker n h.phase es

-- the first entries of such a rest, and not all of it
abbrev pub BeginsRest : ℕ → Option Holder → Entries → Type 0
BeginsRest n o es = IsUnfinished (IsRest n o) es

-- The worker stands at the first act of an access, where no one holds the maintenance, or where it is in the phase of
-- the maintenance that it holds.
abbrev pub IsAtStart : Option Holder → ℕ → Act → Type 0
IsAtStart None w a = (k : ℕ) × (a ≡ Look k)
IsAtStart (Some h) w a = (h.worker ≡ w) × (a ≡ phase_act h.phase)

-- how many steps were made before the fault
abbrev pub steps_before : SettleFault → ℕ
steps_before (fault.OutOfMemory n) = n
steps_before (fault.JournalFull n) = n

-- why a step was refused that the shell takes: it is not that the shell does not, and a full journal is what is named
-- where the journal is full, and only there
abbrev pub IsRefusalCause : SessionFault → ShellSession → Type 0
IsRefusalCause OutOfMemory s = length s.kept < s.limit
IsRefusalCause JournalFull s = length s.kept ≡ s.limit
IsRefusalCause NotNow s = ⊥

abbrev pub cause_of : SettleFault → SessionFault
cause_of (fault.OutOfMemory n) = OutOfMemory
cause_of (fault.JournalFull n) = JournalFull
