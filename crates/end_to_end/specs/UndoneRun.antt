-- A run of workers on threads, and what stands once its last steps are undone.
use Rattle.std.specs.Prelude.{◌≡◌, ◌↔◌, ℕ, ◌-◌, ◌<◌, ◌≤◌, List, [], ◌∷◌, ◌++◌, Option, Some, None, Result, Ok, Err}
use Rattle.std.specs.Prelude.{OnErr, IfSome, get_or, length, take, drop}
use Rattle.engine_base.specs.History.{data_after, Entries, tail_after}
use Rattle.shell_model.specs.Shell.{Step, Reply, Shell, act}
pub use Rattle.journal.specs.declared.fault.BackFault.{BackFault}
use Rattle.journal.specs.declared.fault.BackFault.TheVariants as back
use Rattle.workers.specs.declared.run.DriveFault.{DriveFault}
use Rattle.workers.specs.declared.run.DriveFault.TheVariants as drive
pub use Rattle.workers.specs.declared.run.Cause.{Cause}
use Rattle.shell_model.specs.WorkerEntries.{entries_of}
use Rattle.workers.specs.Runs.{Call, AreWalksUpTo, IsCauseIn, first_cause}
use Rattle.workers.specs.WorkerStates.{Entry, ShellSession}

-- from the state x on, each reply is the one that the definition gives on the steps before it
abbrev pub IsAnswered : Shell → Entries → Type 0
IsAnswered x steps = (before later : Entries) (e : Entry Step Reply) → steps ≡ before ++ e ∷ later
    → act (data_after act x before) e.step ≡ Some (e.reply, data_after act x (before ++ e ∷ []))

-- how many of k steps were undone
abbrev pub undone_of : ℕ → Result (Unit {0}) BackFault → ℕ
undone_of k (Ok done) = k
undone_of k (Err back.PastStart) = 0
undone_of k (Err (back.OutOfMemory undone)) = undone

-- a fault of a run in which no step was made
abbrev pub HasNoSteps : DriveFault → Type 0
HasNoSteps (drive.Stopped driven cause) = ⊥
HasNoSteps _ = Unit {0}

-- The run is one list of steps after the old ones. Of these, those of each worker are, in order, the walks of its
-- calls, up to the step that it was refused, where it was; and nobody else made any. The cause is that of the refused
-- worker with the lowest number: a full journal only where it is full, and memory only at a place where it was not.
-- Each reply is the definition's on the steps before it. And once the last steps are undone, the state is the one
-- that the definition gives on the others. The steps that can be redone are those that were undone, and after them
-- the ones that could be before, where no step was made. Where the last k are not all undone, fewer than k are.
pub record IsRewound (n k : ℕ) (pieces : List (List Call)) (cause : Option Cause) (undone : Result (Unit {0}) BackFault)
    (old new : ShellSession) : Type 0 where
  pub run : Entries
  pub refusals : List (Option Cause)
  pub of_each : length refusals ≡ length pieces
  pub first : cause ≡ first_cause refusals
  pub made : (w : ℕ) → w < length pieces
      → AreWalksUpTo (get_or refusals w None) n w (get_or pieces w []) (entries_of w run)
  pub no_other : (w : ℕ) → length pieces ≤ w → entries_of w run ≡ []
  pub refused : (w : ℕ) → IfSome (get_or refusals w None) (IsCauseIn w old.kept run old.limit)
  pub answered : IsAnswered old.opening (old.kept ++ run)
  pub left : new.kept ≡ take (length (old.kept ++ run) - undone_of k undone) (old.kept ++ run)
  pub redo : new.tail
      ≡ drop (length (old.kept ++ run) - undone_of k undone) ((old.kept ++ run) ++ tail_after run old.tail)
  pub state : new.engine ≡ data_after act old.opening new.kept
  pub past : undone ≡ Err back.PastStart ↔ length (old.kept ++ run) < k
  pub fewer : OnErr undone (undone_of k undone < k)
