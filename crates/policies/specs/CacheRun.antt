-- What a run has of the accesses while batches come.
use Rattle.std.specs.Prelude.{⊤, ◌≡◌, ℕ, ◌+◌, ◌≤◌, true, List, length}
pub use Rattle.step_record.specs.declared.job.Job.{Job}
use Rattle.engine_base.specs.declared.limits.TheConstants.{MAX_ACCESSES}
use Rattle.policies.specs.Design.{knows_trace}
use Rattle.policies.specs.AnyPolicy.{HasAccessed}
use Rattle.policies.specs.Accesses.{IsNext}
use Rattle.policies.specs.declared.cache_run.CacheRun.{CacheRun}
use Rattle.policies.specs.declared.cache_run.CacheRun.TheVariants.{Cache, Narrow, NextUses, OutOfMemory}
use Rattle.policies.specs.declared.any_policy.AnyPolicy.TheVariants.{Demand}

-- a cache made these accesses of the trace, or they are those whose next uses are found for a policy that has to know
-- the whole trace, or there was no memory for them
abbrev pub HasTaken : Job → List ℕ → List ℕ → CacheRun → Type 0
HasTaken job trace done (Cache d) = HasAccessed job trace done d
HasTaken job trace done (Narrow d) = HasAccessed job trace done (Demand d)
HasTaken job trace done (NextUses found) = (knows_trace job.policy ≡ true) × (found ≡ done)
HasTaken job trace done OutOfMemory = ⊤

-- these keys can be its next accesses
abbrev pub CanTake : List ℕ → CacheRun → Type 0
CanTake keys (Cache d) = IsNext keys d
CanTake keys (Narrow d) = IsNext keys (Demand d)
CanTake keys (NextUses found) = length found + length keys ≤ MAX_ACCESSES
CanTake keys OutOfMemory = ⊤
