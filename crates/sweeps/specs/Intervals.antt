-- A trace cut into intervals, and what a job makes of each.
use Rattle.std.specs.Int.{div_ceil}
use Rattle.std.specs.Prelude.{ℕ, zero, suc, ◌+◌, ◌-◌, ◌*◌, ◌<◌, ◌≤◌, cond, nat_le, Option, Some}
use Rattle.std.specs.Prelude.{List, [], ◌∷◌, ◌++◌, length, take, drop}
pub use Rattle.step_record.specs.declared.job.Job.{Job}
pub use Rattle.engine_base.specs.declared.outcome.Outcome.{Outcome}
pub use Rattle.engine_base.specs.declared.stats.Stats.{Stats}
use Rattle.engine_base.specs.Stats.{stats_of}
use Rattle.policies.specs.declared.actor_fault.ActorFault.{ActorFault}
use Rattle.policies.specs.declared.actor_fault.ActorFault.TheVariants.{Actors}
use Rattle.policies.specs.declared.job_checks.TheConstants.{MAX_ACTORS}
use Rattle.policies.specs.AnyPolicy.{outcomes_on}
use Rattle.policies.specs.FaultyJobs.{faulty_in}
use Rattle.policies.specs.Reports.{report_of}
pub use Rattle.policies.specs.declared.report.Interval.{Interval}

-- ---- the definition

-- the outcomes of an interval after `before` accesses, which are counted from 1
abbrev pub interval_behind : Job → ℕ → List Outcome → Interval
interval_behind job before outcomes = record {
  first = before + 1;
  last = before + length outcomes;
  report = report_of job (stats_of outcomes);
}

-- interval i, counted from 0: so many of the outcomes, or those that are left
abbrev pub interval_at : Job → ℕ → List Outcome → ℕ → Interval
interval_at job every outcomes i = interval_behind job (i * every) (take every (drop (i * every) outcomes))

-- the first n intervals
abbrev pub first_intervals : Job → ℕ → List Outcome → ℕ → List Interval
first_intervals job every outcomes zero = []
first_intervals job every outcomes (suc n) =
    first_intervals job every outcomes n ++ interval_at job every outcomes n ∷ []

-- those of the job over the whole trace: as many as it takes to cover the accesses
unfoldable pub intervals_on : Job → ℕ → List ℕ → List Interval
intervals_on job every trace = first_intervals job every (outcomes_on job trace) (div_ceil (length trace) every)

-- the number of jobs is looked at first, and then their configurations
abbrev pub intervals_fault : List Job → Option ActorFault
intervals_fault jobs = cond (nat_le (length jobs) MAX_ACTORS) (faulty_in jobs) (Some Actors)

-- ---- between two counts of all accesses

abbrev pub stats_between : Stats → Stats → Stats
stats_between before after = record {
  accesses = after.accesses - before.accesses;
  hits = after.hits - before.hits;
  misses = after.misses - before.misses;
  evictions = after.evictions - before.evictions;
  rejections = after.rejections - before.rejections;
}

abbrev pub between : Job → Stats → Stats → Interval
between job before after = record {
  first = before.accesses + 1;
  last = after.accesses;
  report = report_of job (stats_between before after);
}

-- at least one access was counted more, and no count fell
pub record IsLater (before after : Stats) : Type 0 where
  pub accesses : before.accesses < after.accesses
  pub hits : before.hits ≤ after.hits
  pub misses : before.misses ≤ after.misses
  pub evictions : before.evictions ≤ after.evictions
  pub rejections : before.rejections ≤ after.rejections
