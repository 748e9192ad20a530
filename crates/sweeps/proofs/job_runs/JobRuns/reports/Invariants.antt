use Rattle.std.proofs.Common.{◌≡◌, ℕ, List, length, map, take}
use Rattle.policies.specs.Reports.{report_on}
use Rattle.sweeps.specs.JobRuns.{HaveRunJobs}
use Rattle.sweeps.specs.Taking.{Task}
use Rattle.sweeps.proofs.job_runs.JobRuns.reports.Given as goal

abbrev pub invariant-loop-i : goal.invariant-loop-i
invariant-loop-i l = (task : Task) (trace : List ℕ) → HaveRunJobs task trace (length trace) l.self
    → l.reports.items ≡ map (λ j. report_on j trace) (take l.i task.jobs)
