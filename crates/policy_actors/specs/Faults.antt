-- Which fault comes of actors, and where none is due.
use Rattle.std.specs.Prelude.{ℕ, cond, nat_le, Option, Some, List, length}
use Rattle.engine_base.specs.Config.{is_from_one}
use Rattle.engine_base.specs.declared.limits.TheConstants.{MAX_BATCH}
pub use Rattle.step_record.specs.declared.job.Job.{Job}
use Rattle.policies.specs.FaultyJobs.{faulty_in}
use Rattle.policies.specs.declared.actor_fault.ActorFault.{ActorFault}
use Rattle.policies.specs.declared.actor_fault.ActorFault.TheVariants.{Batch, Actors}
use Rattle.policies.specs.declared.job_checks.TheConstants.{MAX_ACTORS}

-- the size of a batch is looked at first, then the number of jobs, and then their configurations
abbrev pub actor_fault : ℕ → List Job → Option ActorFault
actor_fault batch jobs =
    cond (is_from_one MAX_BATCH batch)
    (cond (nat_le (length jobs) MAX_ACTORS) (faulty_in jobs) (Some Actors))
    (Some Batch)
