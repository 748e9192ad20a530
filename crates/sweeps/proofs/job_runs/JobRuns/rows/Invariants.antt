use Rattle.std.proofs.Common.{◌≡◌, ℕ, List, length, take}
use Rattle.std.specs.List.{flat_map}
use Rattle.sweeps.specs.Intervals.{intervals_on}
use Rattle.sweeps.specs.JobRuns.{HaveRunJobs}
use Rattle.sweeps.specs.Taking.{Task}
use Rattle.sweeps.proofs.job_runs.JobRuns.rows.Given as goal

abbrev pub invariant-loop-i : goal.invariant-loop-i
invariant-loop-i l = (task : Task) (trace : List ℕ) → HaveRunJobs task trace (length trace) l.self
    → l.rows.items ≡ flat_map (λ j. intervals_on j task.every trace) (take l.i task.jobs)
