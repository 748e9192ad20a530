-- When a run of workers ends in a fault, and what each fault leaves.
use Rattle.std.specs.Prelude.{◌≡◌, ◌<◌, ◌≤◌, List, Some, None, length}
pub use Rattle.engine_base.specs.declared.step.Call.{Call}
use Rattle.engine_base.specs.declared.worker.TheConstants.{MAX_WORKERS}
use Rattle.engine_base.specs.History.{IsLegal}
use Rattle.shell_model.specs.Shell.{Step, Reply, Shell, act}
use Rattle.shell_model.specs.ReachableShell.{worker_of}
use Rattle.journal.specs.Session.{SessionState}
use Rattle.workers.specs.Runs.{IsRunUpTo}
use Rattle.workers.specs.declared.run.DriveFault.{DriveFault}
use Rattle.workers.specs.declared.run.DriveFault.TheVariants.{Workers, Held, OutOfMemory, Stopped}

-- a piece for each of 1 to MAX_WORKERS workers, and nobody holds the maintenance
pub record CanRun (pieces : List (List Call)) (x : Shell) : Type 0 where
  pub some : 1 ≤ length pieces
  pub few : length pieces ≤ MAX_WORKERS
  pub free : x.holder ≡ None

-- Each fault holds the session: as it was, or with what the workers made of it, one of whom was refused a step.
abbrev pub LeavesFault : DriveFault → List (List Call) → SessionState Shell Shell Step Reply → Type 0
LeavesFault (Workers s) pieces old = (s ≡ old) × (1 ≤ length pieces → MAX_WORKERS < length pieces)
LeavesFault (Held w s) pieces old = (s ≡ old) × (1 ≤ length pieces) × (length pieces ≤ MAX_WORKERS)
    × (worker_of old.engine.holder ≡ Some w)
LeavesFault (OutOfMemory s) pieces old = (s ≡ old) × CanRun pieces old.engine
LeavesFault (Stopped d cause) pieces old =
    CanRun pieces old.engine × IsLegal act d.session.opening d.session.kept
    × IsRunUpTo (Some cause) old.engine.config.stripes pieces old d.session × (d.earlier ≡ length old.kept)
