-- One access of a cache.
use Rattle.std.specs.Prelude.{◌≡◌, ℕ, ◌<◌, ◌≤◌, List, length, get_or, take}
use Rattle.engine_base.specs.declared.limits.TheConstants.{MAX_STEPS}
pub use Rattle.policies.specs.declared.any_policy.AnyPolicy.{AnyPolicy}
use Rattle.policies.specs.AnyPolicy.{Job, HasAccessed}

-- x is element n of the list, counted from 0
pub record StandsAt {X : Type 0} (xs : List X) (n : ℕ) (x : X) : Type 0 where
  pub within : n < length xs
  pub same : (d : X) → get_or xs n d ≡ x

-- the cache of some job made the accesses of some trace before one to the key
pub record IsReadyFor (key : ℕ) (cache : AnyPolicy) : Type 0 where
  pub job : Job
  pub trace : List ℕ
  pub place : ℕ
  pub next : StandsAt trace place key
  pub few : length trace ≤ MAX_STEPS
  pub stands : HasAccessed job trace (take place trace) cache
