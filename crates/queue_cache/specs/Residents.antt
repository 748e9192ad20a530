-- What the cache keeps of its residents, and when undoing an access takes memory.
use Rattle.std.specs.Prelude.{◌≡◌, ℕ, ◌≤◌, true, Option, Ok, List}
use Rattle.engine_base.specs.Config.{config_fault}
use Rattle.engine_base.specs.declared.outcome.Outcome.TheVariants.{Hit}
use Rattle.engine_base.specs.Machine.{Machine, KeepsKeys}
use Rattle.engine_base.specs.Stats.{is_eviction}
use Rattle.segments.specs.Queues.{residents_in}
use Rattle.replacement.specs.Counts.{Item, queue_occurrences}
use Rattle.queue_cache.specs.Climber.{AreClimbRules}
use Rattle.queue_cache.specs.AdaptiveWindow.{IsAdaptive}
use Rattle.queue_cache.specs.AdaptiveCache.{Config, AdaptiveCacheState, empty_cache, cache_access, cache_record_of, cache_asks}

-- the keys that are cached
abbrev pub cache_residents : AdaptiveCacheState → List ℕ
cache_residents d = residents_in d.window.queues

-- a state of a cache of capacity c
pub record IsCache (c : ℕ) (d : AdaptiveCacheState) : Type 0 where
  pub rules : AreClimbRules d.rules
  pub capacity : d.rules.capacity ≡ c
  pub window : IsAdaptive d.rules d.window
  pub nodeless : (i : Item) → 1 ≤ queue_occurrences i d.window.queues → i.node ≡ 0

-- the engine of a configuration, whose period may be chosen, as a machine over keys
abbrev pub adaptive_machine : Config → Option ℕ → Machine
adaptive_machine c period = record {
  State = AdaptiveCacheState;
  start = empty_cache c period;
  access = cache_access;
  residents = cache_residents;
  IsState = IsCache c.capacity;
}

-- It keeps its residents: they fit, each once; an access is a hit exactly where its key is resident, and no other comes in.
abbrev pub CacheKeeps : Type 0
CacheKeeps = (c : Config) (period : Option ℕ) → config_fault c ≡ Ok tt → KeepsKeys c.capacity (adaptive_machine c period)

-- Undoing a hit takes no memory.
abbrev pub CacheHitsAskNothing : Type 0
CacheHitsAskNothing = (k : ℕ) (d : AdaptiveCacheState) → (cache_access k d).0 ≡ Hit → cache_asks (cache_record_of k d) → ⊥

-- Undoing an access takes memory only where a key left in it.
abbrev pub CacheAsksWhereOneLeft : Type 0
CacheAsksWhereOneLeft = (c k : ℕ) (d : AdaptiveCacheState) → IsCache c d → cache_asks (cache_record_of k d)
    → is_eviction (cache_access k d).0 ≡ true
