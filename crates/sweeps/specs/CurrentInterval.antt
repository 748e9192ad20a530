-- The interval that is not over, of a trace whose first accesses were made.
use Rattle.std.specs.Prelude.{◌≡◌, ◌≤◌, ◌<◌, ℕ, suc, ◌+◌, ◌*◌, Option, Some, None, IfSome, List, length, take}
use Rattle.engine_base.specs.Stats.{stats_of}
pub use Rattle.policies.specs.declared.any_policy.AnyPolicy.{AnyPolicy}
use Rattle.policies.specs.AnyPolicy.{HasAccessed, outcomes_on}
use Rattle.sweeps.specs.Intervals.{Interval, Job, interval_at}
pub use Rattle.sweeps.specs.declared.current_interval.CurrentInterval.{CurrentInterval}

-- so many intervals are over once the cache of the job made the first n accesses, and this is the next one, with what
-- was counted before it
pub record IsCurrent (job : Job) (every : ℕ) (trace : List ℕ) (done n : ℕ) (cache : AnyPolicy)
    (current : CurrentInterval) : Type 0 where
  pub size : current.every ≡ every
  pub used : current.used < every
  pub place : n ≡ done * every + current.used
  pub before : current.before ≡ stats_of (take (done * every) (outcomes_on job trace))
  pub within : n ≤ length trace
  pub stands : HasAccessed job trace (take n trace) cache

-- and then those up to m, all of this interval
pub record AreMade (job : Job) (every : ℕ) (trace : List ℕ) (done n m : ℕ) (cache : AnyPolicy)
    (interval : CurrentInterval) : Type 0 where
  pub old : AnyPolicy
  pub current : IsCurrent job every trace done n old interval
  pub fits : m + interval.used ≤ n + every
  pub within : m ≤ length trace
  pub stands : HasAccessed job trace (take m trace) cache

-- it is the interval behind so many, and ends at access n
pub record IsIntervalTo (job : Job) (every : ℕ) (trace : List ℕ) (done n : ℕ) (i : Interval) : Type 0 where
  pub is : i ≡ interval_at job every (outcomes_on job trace) done
  pub last : i.last ≡ n

-- how many intervals are over, where so many were, and then this one, if there is one
abbrev pub over_with : ℕ → Option Interval → ℕ
over_with done None = done
over_with done (Some i) = suc done

-- that interval is over once the first m accesses were made, if there is one, and this is the next one
pub record IsAdvanced (job : Job) (every : ℕ) (trace : List ℕ) (done m : ℕ) (cache : AnyPolicy)
    (ended : Option Interval) (next : CurrentInterval) : Type 0 where
  pub over : IfSome ended (IsIntervalTo job every trace done m)
  pub current : IsCurrent job every trace (over_with done ended) m cache next
