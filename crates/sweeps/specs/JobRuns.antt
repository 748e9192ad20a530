-- What a run of a job has of a trace whose accesses come in pieces.
use Rattle.std.specs.Prelude.{◌≡◌, ℕ, List}
use Rattle.policies.specs.AnyPolicy.{outcomes_on}
use Rattle.sweeps.specs.CurrentInterval.{IsCurrent}
use Rattle.sweeps.specs.Intervals.{first_intervals}
use Rattle.sweeps.specs.Runs.{HaveRun}
pub use Rattle.sweeps.specs.Taking.{Task}
pub use Rattle.sweeps.specs.declared.job_run.JobRun.{JobRun}
pub use Rattle.sweeps.specs.declared.job_runs.JobRuns.{JobRuns}

-- its cache made the first n accesses of the trace, in intervals of this length, and it has the rows of those over
pub record HasRun (every : ℕ) (trace : List ℕ) (n : ℕ) (run : JobRun) : Type 0 where
  pub done : ℕ
  pub current : IsCurrent run.job every trace done n run.cache run.current
  pub rows : run.rows.items ≡ first_intervals run.job every (outcomes_on run.job trace) done

-- a run of each job made the first n accesses
abbrev pub HaveRunJobs : Task → List ℕ → ℕ → JobRuns → Type 0
HaveRunJobs task trace n all = HaveRun (λ run. run.job) HasRun task trace n all.runs.items
