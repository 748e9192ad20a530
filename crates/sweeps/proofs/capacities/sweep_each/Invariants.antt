use Rattle.std.proofs.Common.{◌≡◌, drop}
use Rattle.sweeps.specs.Sweep.{first_config_fault}
use Rattle.sweeps.proofs.capacities.sweep_each.Given as goal

abbrev pub invariant-loop-job : goal.invariant-loop-job
invariant-loop-job g l = first_config_fault (drop l.job-index l.jobs) l.capacities ≡ first_config_fault l.jobs l.capacities
