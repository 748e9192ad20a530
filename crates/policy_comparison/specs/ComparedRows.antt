-- What was counted of the first accesses of two policies, with a row for each interval that is over.
use Rattle.std.specs.Prelude.{◌≡◌, ◌≤◌, ◌<◌, ℕ, ◌+◌, ◌*◌, Bool, List, length, drop, take}
use Rattle.engine_base.specs.declared.limits.TheConstants.{MAX_STEPS}
use Rattle.policy_comparison.specs.CacheAccess.{StandsAt}
use Rattle.policy_comparison.specs.Comparison.{counts_of}
use Rattle.policy_comparison.specs.ComparedIntervals.{first_compared}
pub use Rattle.policy_comparison.specs.declared.compared_rows.ComparedRows.{ComparedRows}

-- how many intervals are over
abbrev pub rows_in : ComparedRows → ℕ
rows_in c = length c.rows.items

-- the first n accesses are counted, in intervals of this length
pub record HasCut (every : ℕ) (hits : List (Bool × Bool)) (n : ℕ) (c : ComparedRows) : Type 0 where
  pub size : c.every ≡ every
  pub some : 1 ≤ every
  pub within : n ≤ length hits
  pub counts : c.counts ≡ counts_of (take n hits)
  pub interval : c.interval ≡ counts_of (take c.interval.accesses (drop (rows_in c * every) hits))
  pub rows : c.rows.items ≡ first_compared every hits (rows_in c)
  pub place : n ≡ rows_in c * every + c.interval.accesses

-- some of them in an interval that is not over
pub record HasCounted (every : ℕ) (hits : List (Bool × Bool)) (n : ℕ) (c : ComparedRows) : Type 0 where
  pub cut : HasCut every hits n c
  pub few : c.interval.accesses < c.every

-- they end an interval, which has fewer accesses than another only where it is the last one
pub record EndsRow (every : ℕ) (hits : List (Bool × Bool)) (n : ℕ) (c : ComparedRows) : Type 0 where
  pub cut : HasCut every hits n c
  pub end : take c.interval.accesses (drop (rows_in c * every) hits) ≡ take every (drop (rows_in c * every) hits)

-- some accesses of the interval that is not over are counted, and no more than of all
pub record HasBegun (c : ComparedRows) : Type 0 where
  pub some : 1 ≤ c.interval.accesses
  pub part : c.interval.accesses ≤ c.counts.accesses

-- one more of some accesses can be counted
pub record CanCount (hit : Bool × Bool) (c : ComparedRows) : Type 0 where
  pub every : ℕ
  pub hits : List (Bool × Bool)
  pub place : ℕ
  pub next : StandsAt hits place hit
  pub few : length hits ≤ MAX_STEPS
  pub counted : HasCounted every hits place c

-- all of some accesses are counted
pub record HasCountedAll (c : ComparedRows) : Type 0 where
  pub every : ℕ
  pub hits : List (Bool × Bool)
  pub counted : HasCounted every hits (length hits) c
