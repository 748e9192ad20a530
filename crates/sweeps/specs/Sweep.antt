-- Several jobs at the same capacities.
use Rattle.std.specs.Int.{div_ceil}
use Rattle.std.specs.List.{Any}
use Rattle.std.specs.Option.{option_or}
use Rattle.std.specs.Prelude.{◌≡◌, ℕ, ◌+◌, ◌*◌, All, Ok, Bool, true, false, if◌then◌else◌, cond, nat_le, Option, Some}
use Rattle.std.specs.Prelude.{None, List, [], ◌∷◌, ◌++◌, count_by, length, map}
use Rattle.engine_base.specs.Config.{config_fault}
use Rattle.step_record.specs.declared.job.Job.{Job}
use Rattle.step_record.specs.declared.job.Policy.{Policy}
use Rattle.step_record.specs.declared.job.Policy.TheVariants.{Lru}
use Rattle.engine_base.specs.declared.limits.TheConstants.{MAX_BATCH}
use Rattle.policies.specs.declared.job_checks.TheConstants.{MAX_ACTORS}
pub use Rattle.policies.specs.declared.actor_fault.ActorFault.{ActorFault}
use Rattle.policies.specs.declared.actor_fault.ActorFault.TheVariants.{Actors}
use Rattle.policies.specs.Design.{design_of}
use Rattle.policies.specs.declared.design.Design.{Design}
use Rattle.policies.specs.declared.design.Design.TheVariants.{Demand}
use Rattle.policies.specs.FaultyJobs.{at_capacity, faulty_in}

-- `Config::check` accepts the configuration of each job
abbrev pub AreAccepted : List Job → Type 0
AreAccepted jobs = All (λ job. config_fault job.config ≡ Ok tt) jobs

-- the first job at each of the capacities, then the second, and so on
abbrev pub jobs_over : List Job → List ℕ → List Job
jobs_over [] capacities = []
jobs_over (job ∷ jobs) capacities = map (at_capacity job) capacities ++ jobs_over jobs capacities

-- the fault of the first job that has one at these capacities
abbrev pub first_config_fault : List Job → List ℕ → Option ActorFault
first_config_fault [] capacities = None
first_config_fault (job ∷ jobs) capacities =
    option_or (faulty_in (map (at_capacity job) capacities)) (first_config_fault jobs capacities)

-- the number of jobs is looked at first, and then their configurations
abbrev pub sweep_fault : List Job → List ℕ → Option ActorFault
sweep_fault jobs capacities = cond (nat_le (length jobs) MAX_ACTORS) (first_config_fault jobs capacities) (Some Actors)

-- one of the jobs is of the policy
abbrev pub AsksFor : Policy → List Job → Type 0
AsksFor policy jobs = Any (λ job. job.policy ≡ policy) jobs

-- how many of the jobs are of policies that keep each missed key
abbrev pub is_demand : Design → Bool
is_demand (Demand p) = true
is_demand _ = false

abbrev pub demand_jobs : List Job → ℕ
demand_jobs jobs = count_by (λ job. is_demand (design_of job)) jobs

-- ---- the gate of a sweep

-- a report of Lru makes no access one by one, and that of each other policy does
abbrev pub is_gated_policy : Policy → Bool
is_gated_policy Lru = false
is_gated_policy _ = true

abbrev pub gated_jobs : List Job → ℕ
gated_jobs [] = 0
gated_jobs (job ∷ jobs) = (if is_gated_policy job.policy then 1 else 0) + gated_jobs jobs

-- the batches of the trace, for each report at each capacity
abbrev pub gated_batches : List Job → ℕ → ℕ → ℕ
gated_batches jobs capacities accesses = gated_jobs jobs * capacities * div_ceil accesses MAX_BATCH
