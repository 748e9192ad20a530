use Rattle.std.proofs.Common.{◌≡◌, ◌≤◌, take}
use Rattle.sweeps.specs.Sweep.{demand_jobs}
use Rattle.sweeps.proofs.prepared_trace.demand_jobs.Given as goal

abbrev pub invariant-loop-job : goal.invariant-loop-job
invariant-loop-job l = (l.count ≡ demand_jobs (take l.job-index l.jobs)) × (l.count ≤ l.job-index)
