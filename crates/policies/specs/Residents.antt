-- What every policy keeps of its residents, and what follows for its statistics.
use Rattle.std.specs.Prelude.{◌≡◌, ◌⊎◌, ℕ, ◌+◌, ◌≤◌, true, eqb, Some, List, length, count_by}
use Rattle.engine_base.specs.Keys.{has_key}
use Rattle.engine_base.specs.Stats.{is_hit}
pub use Rattle.step_record.specs.declared.job.Job.{Job}
use Rattle.policies.specs.AnyPolicy.{AnyPolicy, Outcome, HasAccessed, any_residents, stats_in, stats_on}
use Rattle.policies.specs.AnyStep.{any_act}

-- A cache of any policy never holds more keys than its capacity.
abbrev pub ResidentsFit : Type 0
ResidentsFit = (j : Job) (trace keys : List ℕ) (d : AnyPolicy) → HasAccessed j trace keys d
    → length (any_residents d) ≤ j.config.capacity

-- No key is resident twice.
abbrev pub ResidentsDistinct : Type 0
ResidentsDistinct = (j : Job) (trace keys : List ℕ) (d : AnyPolicy) (k : ℕ) → HasAccessed j trace keys d
    → count_by (eqb k) (any_residents d) ≤ 1

-- The residents are the misses minus the evictions: a miss brings its key in and an eviction takes one out. (A rejected
-- key counts as both.)
abbrev pub ResidentsCounted : Type 0
ResidentsCounted = (j : Job) (trace keys : List ℕ) (d : AnyPolicy) → HasAccessed j trace keys d
    → length (any_residents d) + (stats_in d).evictions ≡ (stats_in d).misses

-- An access is a hit exactly where its key is resident.
abbrev pub HitsAreResidents : Type 0
HitsAreResidents = (j : Job) (trace keys : List ℕ) (d : AnyPolicy) (k : ℕ) (o : Outcome) (e : AnyPolicy)
    → HasAccessed j trace keys d → any_act d k ≡ Some (o, e) → is_hit o ≡ has_key k (any_residents d)

-- The one key that an access may bring in is its own.
abbrev pub FetchesOnDemand : Type 0
FetchesOnDemand = (j : Job) (trace keys : List ℕ) (d : AnyPolicy) (k : ℕ) (o : Outcome) (e : AnyPolicy) (x : ℕ)
    → HasAccessed j trace keys d → any_act d k ≡ Some (o, e) → has_key x (any_residents e) ≡ true
    → (x ≡ k) ⊎ (has_key x (any_residents d) ≡ true)

-- Each access of a trace is a hit or a miss.
abbrev pub StatsAddUp : Type 0
StatsAddUp = (j : Job) (trace : List ℕ) → ((stats_on j trace).accesses ≡ length trace)
    × ((stats_on j trace).hits + (stats_on j trace).misses ≡ length trace)

-- The misses minus the evictions are at most the capacity: that many keys are resident at the end.
abbrev pub MissesFit : Type 0
MissesFit = (j : Job) (trace : List ℕ)
    → (stats_on j trace).misses ≤ (stats_on j trace).evictions + j.config.capacity
