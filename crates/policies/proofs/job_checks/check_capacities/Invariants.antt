use Rattle.std.proofs.Common.{◌≡◌, drop, map}
use Rattle.policies.specs.FaultyJobs.{at_capacity, faulty_from, faulty_in}
use Rattle.policies.proofs.job_checks.check_capacities.Given as goal

abbrev pub invariant-loop-index : goal.invariant-loop-index
invariant-loop-index l = faulty_from l.index (map (at_capacity l.job) (drop l.index l.capacities)) ≡ faulty_in (map (at_capacity l.job) l.capacities)
