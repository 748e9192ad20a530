use Rattle.std.proofs.Common.{◌≡◌, ℕ, List, map, take}
use Rattle.std.specs.List.{All}
use Rattle.sweeps.specs.Taking.{RunsOver}
use Rattle.sweeps.proofs.runs.open_runs.Given as goal

abbrev pub invariant-loop-job : goal.invariant-loop-job
invariant-loop-job g l = (map g.R.Run.job_of l.runs.items ≡ take l.job-index l.jobs)
    × ((other : List ℕ) → All (RunsOver l.trace other) l.jobs → All (g.R.Run.has_run l.every other 0) l.runs.items)
