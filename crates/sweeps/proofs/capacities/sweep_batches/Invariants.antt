use Rattle.std.proofs.Common.{◌≡◌, ◌≤◌, take}
use Rattle.sweeps.specs.Sweep.{gated_jobs}
use Rattle.sweeps.proofs.capacities.sweep_batches.Given as goal

abbrev pub invariant-loop-job : goal.invariant-loop-job
invariant-loop-job l = (l.gated ≡ gated_jobs (take l.job-index l.jobs)) × (l.gated ≤ l.job-index)
