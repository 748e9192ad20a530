-- Runs of several jobs over a trace.
use Rattle.std.specs.Prelude.{◌≡◌, ℕ, ◌+◌, List, Result, OnOk, length, map}
use Rattle.std.specs.List.{All}
use Rattle.sweeps.specs.Taking.{AreNext, Job, Task}

-- a run of each job made the first n accesses, in intervals of the same length
pub record HaveRun {R : Type 0} (job_of : R → Job) (Has : ℕ → List ℕ → ℕ → R → Type 0) (task : Task) (trace : List ℕ) (n : ℕ)
    (runs : List R) : Type 0 where
  pub jobs : map job_of runs ≡ task.jobs
  pub each : All (Has task.every trace n) runs

-- where this comes out well, the keys were taken too
abbrev pub IsTaken : {K E : Type 0} → (Task → List ℕ → ℕ → K → Type 0) → List ℕ → K → Result (Unit {0}) E → K → Type 0
IsTaken HasTaken keys old result new = (task : Task) (trace : List ℕ) (n : ℕ) → AreNext trace n keys → HasTaken task trace n old
    → OnOk result (HasTaken task trace (n + length keys) new)
