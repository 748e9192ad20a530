-- Two caches that made the same accesses, and which accesses of the last piece hit.
use Rattle.std.specs.Prelude.{◌≡◌, ℕ, ◌+◌, ◌<◌, ◌≤◌, false, List, [], ◌∷◌, length, slice_index_or, take}
use Rattle.policies.specs.declared.any_policy.AnyPolicy.{AnyPolicy}
use Rattle.policies.specs.AnyPolicy.{Job, HasAccessed, outcomes_on}
use Rattle.sweeps.specs.Taking.{AreNext}
use Rattle.policy_comparison.specs.declared.pair.NotedCache.{NotedCache}
pub use Rattle.policy_comparison.specs.declared.pair.Pair.{Pair}
use Rattle.policy_comparison.specs.Part.{is_hit_at}

-- the jobs are two, of which P holds
abbrev pub AreTwo : List Job → (Job → Job → Type 0) → Type 0
AreTwo (first ∷ second ∷ []) P = P first second
AreTwo jobs P = ⊥

-- ---- one cache

-- the cache of a job made the first n accesses
abbrev pub HasRun : Job → List ℕ → ℕ → AnyPolicy → Type 0
HasRun job trace n cache = HasAccessed job trace (take n trace) cache

-- the cache of a job made so many accesses behind the first n, and the flags say which of them hit
pub record HasNoted (job : Job) (trace : List ℕ) (n size : ℕ) (noted : NotedCache) : Type 0 where
  pub run : HasRun job trace (n + size) noted.cache
  pub long : size ≤ length noted.hits.items
  pub hits : (i : ℕ) → i < size → slice_index_or noted.hits.items i false ≡ is_hit_at (outcomes_on job trace) (n + i + 1)

-- whichever job the cache is of, it made the accesses to the keys
pub record HasMade (keys : List ℕ) (old new : NotedCache) : Type 0 where
  pub noted : (job : Job) (trace : List ℕ) (n : ℕ) → AreNext trace n keys → HasRun job trace n old.cache
      → HasNoted job trace n (length keys) new

-- ---- both caches

-- those of two jobs made the first n accesses
pub record HavePaired (first second : Job) (trace : List ℕ) (n : ℕ) (pair : Pair) : Type 0 where
  pub one : HasRun first trace n pair.first.cache
  pub other : HasRun second trace n pair.second.cache

-- those of two jobs made so many accesses behind the first n, and their flags say which of them hit
pub record HaveNoted (first second : Job) (trace : List ℕ) (n size : ℕ) (pair : Pair) : Type 0 where
  pub one : HasNoted first trace n size pair.first
  pub other : HasNoted second trace n size pair.second
