-- What a run of a job has of a trace whose accesses it makes in turn.
use Rattle.std.specs.Prelude.{◌≡◌, ◌≤◌, ℕ, ◌*◌, ◌-◌, List, length, take}
use Rattle.std.specs.List.{flat_map}
use Rattle.engine_base.specs.declared.limits.TheConstants.{MAX_STEPS}
use Rattle.policies.specs.declared.any_policy.AnyPolicy.{AnyPolicy}
use Rattle.policies.specs.AnyPolicy.{Job, HasAccessed, outcomes_on}
use Rattle.sweeps.specs.CurrentInterval.{IsCurrent}
use Rattle.sweeps.specs.Intervals.{Interval, first_intervals}
pub use Rattle.policy_comparison.specs.CacheAccess.{StandsAt}
use Rattle.policy_comparison.specs.QueueRows.{queue_rows}
pub use Rattle.policy_comparison.specs.LeftKeys.{AreLeft}
use Rattle.sweeps.specs.Runs.{HaveRun}
pub use Rattle.sweeps.specs.Taking.{Task}
pub use Rattle.policy_comparison.specs.declared.queue_run.QueueRun.{QueueRun}
pub use Rattle.policy_comparison.specs.declared.queue_runs.QueueRuns.{QueueRuns}

-- its cache made the first n accesses of the trace, in intervals of this length: it has the rows of those that are over,
-- and how many keys left each queue since then
pub record HasQueueRows (every : ℕ) (trace : List ℕ) (n : ℕ) (run : QueueRun) : Type 0 where
  pub done : ℕ
  pub current : IsCurrent run.job every trace done n run.cache run.current
  pub left : AreLeft run.job trace (done * every) n run.left.items
  pub rows : run.rows.items
      ≡ flat_map (queue_rows run.job trace) (first_intervals run.job every (outcomes_on run.job trace) done)

-- so of some trace in which the key comes next
pub record CanAccess (key : ℕ) (run : QueueRun) : Type 0 where
  pub every : ℕ
  pub trace : List ℕ
  pub place : ℕ
  pub next : StandsAt trace place key
  pub few : length trace ≤ MAX_STEPS
  pub has : HasQueueRows every trace place run

-- the cache of the job made the interval's accesses last, and so many keys left each queue by them
pub record EndsInterval (job : Job) (trace : List ℕ) (i : Interval) (left : List ℕ) (cache : AnyPolicy) : Type 0 where
  pub within : i.last ≤ length trace
  pub stands : HasAccessed job trace (take i.last trace) cache
  pub departed : AreLeft job trace (i.first - 1) i.last left

-- a run of each job made the first n accesses
abbrev pub HaveQueueRows : Task → List ℕ → ℕ → QueueRuns → Type 0
HaveQueueRows task trace n all = HaveRun (λ run. run.job) HasQueueRows task trace n all.runs.items
