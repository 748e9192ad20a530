-- The stack distances of a list of accesses, and what Lru counts by them (Mattson, Gecsei, Slutz and Traiger 1970).
use Rattle.std.specs.Prelude.{ℕ, suc, ◌-◌, min, nat_le, Bool, false, if◌then◌else◌, Option, Some, None}
use Rattle.std.specs.Prelude.{List, [], ◌∷◌, ◌++◌, length, count_by}
use Rattle.engine_base.specs.Keys.{has_key}
use Rattle.engine_base.specs.declared.stats.Stats.{Stats}
use Rattle.queue_cache.specs.Lru.{distinct_keys, keys_since}

-- The distance of an access to k after the accesses xs: how many distinct keys were accessed since the last access to
-- k, k itself included. A first access has none.
abbrev pub distance : List ℕ → ℕ → Option ℕ
distance xs k = if has_key k xs then Some (suc (length (distinct_keys (keys_since k xs)))) else None

-- the distances of the accesses in order, after those that are past
abbrev pub distances_after : List ℕ → List ℕ → List (Option ℕ)
distances_after past [] = []
distances_after past (k ∷ ks) = distance past k ∷ distances_after (past ++ k ∷ []) ks

-- the distances of the accesses of a trace
abbrev pub distances : List ℕ → List (Option ℕ)
distances keys = distances_after [] keys

-- there is a distance, and it is at most c
abbrev pub is_within : ℕ → Option ℕ → Bool
is_within c None = false
is_within c (Some d) = nat_le d c

-- how many accesses of a trace have a distance of at most c
abbrev pub hits_within : ℕ → List ℕ → ℕ
hits_within c keys = count_by (is_within c) (distances keys)

-- What is counted of n accesses: each miss brings a key in, and all but those that are held at the end were evicted.
abbrev pub stats_by : ℕ → ℕ → ℕ → Stats
stats_by n hits held = record {
  accesses = n;
  hits = hits;
  misses = n - hits;
  evictions = n - hits - held;
  rejections = 0;
}

-- what Lru counts at capacity c, by the distances and the number of distinct keys
abbrev pub stats_within : ℕ → List ℕ → Stats
stats_within c keys = stats_by (length keys) (hits_within c keys) (min c (length (distinct_keys keys)))
