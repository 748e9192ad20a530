use Rattle.std.proofs.Common.{◌≡◌, drop}
use Rattle.policies.specs.FaultyJobs.{faulty_from, faulty_in}
use Rattle.policies.proofs.job_checks.check_jobs.Given as goal

abbrev pub invariant-loop-index : goal.invariant-loop-index
invariant-loop-index l = faulty_from l.index (drop l.index l.jobs) ≡ faulty_in l.jobs
