-- When each fault comes, and the value that it gives back.
use Rattle.std.specs.Prelude.{ℕ, ◌<◌, ◌≤◌}
use Rattle.engine_base.specs.declared.worker.TheConstants.{MAX_WORKERS}
use Rattle.turn_book.specs.declared.book.TheConstants.{MAX_TURNS}
use Rattle.turn_book.specs.declared.fault.OpenFault.{OpenFault}
use Rattle.turn_book.specs.declared.fault.OpenFault.TheVariants.{OutOfMemory, Workers, Turns}

abbrev pub value_in : {T : Type 0} → OpenFault T → T
value_in (OutOfMemory x) = x
value_in (Workers x) = x
value_in (Turns x) = x

-- the number of workers is looked at first, and memory last
abbrev pub IsOpenCause : {T : Type 0} → OpenFault T → ℕ → ℕ → Type 0
IsOpenCause (Workers x) workers turns = 1 ≤ workers → MAX_WORKERS < workers
IsOpenCause (Turns x) workers turns = (1 ≤ workers) × (workers ≤ MAX_WORKERS) × (1 ≤ turns → MAX_TURNS < turns)
IsOpenCause (OutOfMemory x) workers turns = (1 ≤ workers) × (workers ≤ MAX_WORKERS) × (1 ≤ turns) × (turns ≤ MAX_TURNS)
