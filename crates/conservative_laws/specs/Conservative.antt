-- Conservative caches: few misses in a stretch of few keys.
use Rattle.std.specs.Prelude.{ℕ, ◌+◌, ◌≤◌, List, length, take, drop}
use Rattle.policies.specs.AnyPolicy.{Job, stats_on}
use Rattle.queue_cache.specs.Lru.{distinct_keys}

-- how many of the accesses below place i are misses of the job
abbrev pub misses_on : Job → List ℕ → ℕ → ℕ
misses_on j t i = (stats_on j (take i t)).misses

-- the accesses of the trace t from place i to before place n
abbrev pub stretch : List ℕ → ℕ → ℕ → List ℕ
stretch t i n = drop i (take n t)

-- A cache of capacity c, by how many of the accesses below each place of t it missed, is conservative: in any stretch
-- of accesses to at most c distinct keys it misses at most c times. (Young 1994.)
abbrev pub IsConservative : ℕ → List ℕ → (ℕ → ℕ) → Type 0
IsConservative c t misses = (i n : ℕ) → i ≤ n → n ≤ length t → length (distinct_keys (stretch t i n)) ≤ c
    → misses n ≤ misses i + c

-- It starts empty and evicts nothing before it is full: as long as it has missed at most c times, it has missed no more
-- often than there were distinct keys.
abbrev pub FillsFirst : ℕ → List ℕ → (ℕ → ℕ) → Type 0
FillsFirst c t misses = (n : ℕ) → n ≤ length t → misses n ≤ c → misses n ≤ length (distinct_keys (take n t))
