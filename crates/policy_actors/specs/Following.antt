-- Which jobs can be run over a trace that is not kept.
use Rattle.std.specs.Prelude.{◌≡◌, ◌≤◌, ℕ, true}
pub use Rattle.step_record.specs.declared.job.Job.{Job}
use Rattle.engine_base.specs.declared.limits.TheConstants.{MAX_ACCESSES}
use Rattle.policies.specs.Design.{knows_trace}

-- The job can be run over a trace of at most so many accesses: a policy that has to know the whole trace notes them
-- all, so they are no more than those of a trace that is kept.
abbrev pub CanFollow : ℕ → Job → Type 0
CanFollow most job = knows_trace job.policy ≡ true → most ≤ MAX_ACCESSES
