-- What the stack distances say about Lru at every capacity.
use Rattle.std.specs.Prelude.{◌≡◌, ℕ, ◌≤◌, List}
use Rattle.engine_base.specs.Stats.{is_hit}
use Rattle.queue_cache.specs.Lru.{lru}
use Rattle.queue_cache.specs.declared.design.QueueSetup.{QueueSetup}
use Rattle.queue_cache.specs.QueueCache.{outcome_after, state_after}
use Rattle.queue_cache.specs.Distances.{distance, is_within, hits_within, stats_within}

-- An access is a hit of Lru exactly where its distance is at most the capacity.
abbrev pub LruHits : Type 0
LruHits = (s : QueueSetup) (keys : List ℕ) (k : ℕ) → s.design ≡ lru → 1 ≤ s.config.capacity
    → is_hit (outcome_after s keys k) ≡ is_within s.config.capacity (distance keys k)

-- So what a cache of Lru counts over a trace follows from the distances of its accesses.
abbrev pub LruCounts : Type 0
LruCounts = (s : QueueSetup) (keys : List ℕ) → s.design ≡ lru → 1 ≤ s.config.capacity
    → (state_after s keys).stats ≡ stats_within s.config.capacity keys

-- A larger capacity has no fewer hits.
abbrev pub HitsGrow : Type 0
HitsGrow = (c d : ℕ) (keys : List ℕ) → c ≤ d → hits_within c keys ≤ hits_within d keys
