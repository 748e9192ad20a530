use Rattle.std.proofs.Common.{◌≡◌, take}
use Rattle.sweeps.specs.Sweep.{jobs_over}
use Rattle.sweeps.proofs.capacities.jobs_over.Given as goal

abbrev pub invariant-loop-job : goal.invariant-loop-job
invariant-loop-job l = l.rows.items ≡ jobs_over (take l.job-index l.jobs) l.capacities
