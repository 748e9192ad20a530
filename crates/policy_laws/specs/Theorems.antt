-- The policies beside Belady's optimal policy, and larger capacities.
use Rattle.std.specs.Prelude.{◌≡◌, ℕ, ◌≤◌, List}
use Rattle.step_record.specs.declared.job.Policy.TheVariants.{Lru, Clairvoyant}
pub use Rattle.policies.specs.declared.any_policy.AnyPolicy.{AnyPolicy}
use Rattle.policies.specs.AnyPolicy.{Job, HasAccessed, stats_in, stats_on}

-- Over every trace, no policy has more hits than Belady's optimal policy at the same capacity.
abbrev pub NoPolicyBeatsBelady : Type 0
NoPolicyBeatsBelady = (j optimal : Job) (trace : List ℕ) → optimal.policy ≡ Clairvoyant
    → optimal.config.capacity ≡ j.config.capacity → (stats_on j trace).hits ≤ (stats_on optimal trace).hits

-- So it is at each place of a trace, for two caches that made the same accesses.
abbrev pub BeladyLeads : Type 0
BeladyLeads = (j optimal : Job) (trace keys : List ℕ) (d e : AnyPolicy) → HasAccessed j trace keys d
    → HasAccessed optimal trace keys e → optimal.policy ≡ Clairvoyant
    → optimal.config.capacity ≡ j.config.capacity → (stats_in d).hits ≤ (stats_in e).hits

-- The hits of Belady's optimal policy grow with the capacity.
abbrev pub OptimalHitsGrow : Type 0
OptimalHitsGrow = (small large : Job) (trace : List ℕ) → small.policy ≡ Clairvoyant → large.policy ≡ Clairvoyant
    → small.config.capacity ≤ large.config.capacity → (stats_on small trace).hits ≤ (stats_on large trace).hits

-- So do the hits of Lru, whose residents at a capacity are among those at each larger one. (Mattson, Gecsei, Slutz and
-- Traiger 1970.)
abbrev pub LruHitsGrow : Type 0
LruHitsGrow = (small large : Job) (trace : List ℕ) → small.policy ≡ Lru → large.policy ≡ Lru
    → small.config.capacity ≤ large.config.capacity → (stats_on small trace).hits ≤ (stats_on large trace).hits
