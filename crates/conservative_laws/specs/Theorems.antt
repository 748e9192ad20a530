-- Conservative caches compete with every strategy. Lru, FIFO and CLOCK are conservative, and no policy that does not
-- know the trace competes better.
use Rattle.std.specs.Prelude.{◌≡◌, ◌⊎◌, ℕ, suc, ◌+◌, ◌-◌, ◌*◌, ◌<◌, ◌≤◌, true, false, List, length, slice_index}
use Rattle.engine_base.specs.Keys.{has_key}
use Rattle.step_record.specs.declared.job.Policy.TheVariants.{Lru, Fifo, Clock}
use Rattle.policies.specs.AnyPolicy.{Job, stats_on}
use Rattle.policies.specs.Design.{Policy, knows_trace}
use Rattle.policy_laws.specs.Strategy.{IsStrategy, strategy_misses}
use Rattle.conservative_laws.specs.Conservative.{misses_on, IsConservative, FillsFirst}

-- a strategy that never bypasses the cache: each accessed key is resident after its access
abbrev pub NeverBypasses : List ℕ → (ℕ → List ℕ) → Type 0
NeverBypasses t residents = (i : ℕ) → i < length t → has_key (slice_index t i) (residents (suc i)) ≡ true

-- ---- every conservative cache, by its residents before each place

-- Its misses are at most (c + 1) / (c + 1 - h) times those of any strategy of capacity h, and c more. The strategy may
-- know the whole trace and may bypass the cache. (After Sleator and Tarjan 1985.)
abbrev pub ConservativeCompetes : Type 0
ConservativeCompetes = (c h : ℕ) (t : List ℕ) (cache strategy : ℕ → List ℕ) (n : ℕ)
    → IsConservative c t (strategy_misses t cache) → IsStrategy h t strategy → n ≤ length t
    → (c + 1 - h) * strategy_misses t cache n ≤ (c + 1) * strategy_misses t strategy n + (c + 1 - h) * c

-- Where the strategy never bypasses the cache, the factor is c / (c + 1 - h). (Sleator and Tarjan 1985.)
abbrev pub ConservativeCompetesWithoutBypass : Type 0
ConservativeCompetesWithoutBypass = (c h : ℕ) (t : List ℕ) (cache strategy : ℕ → List ℕ) (n : ℕ)
    → IsConservative c t (strategy_misses t cache) → IsStrategy h t strategy → NeverBypasses t strategy → n ≤ length t
    → (c + 1 - h) * strategy_misses t cache n ≤ c * strategy_misses t strategy n + (c + 1 - h) * c

-- One that fills up first needs no constant, since both caches start empty.
abbrev pub FillingCompetes : Type 0
FillingCompetes = (c h : ℕ) (t : List ℕ) (cache strategy : ℕ → List ℕ) (n : ℕ)
    → IsConservative c t (strategy_misses t cache) → FillsFirst c t (strategy_misses t cache) → IsStrategy h t strategy
    → n ≤ length t → (c + 1 - h) * strategy_misses t cache n ≤ (c + 1) * strategy_misses t strategy n

abbrev pub FillingCompetesWithoutBypass : Type 0
FillingCompetesWithoutBypass = (c h : ℕ) (t : List ℕ) (cache strategy : ℕ → List ℕ) (n : ℕ)
    → IsConservative c t (strategy_misses t cache) → FillsFirst c t (strategy_misses t cache) → IsStrategy h t strategy
    → NeverBypasses t strategy → n ≤ length t
    → (c + 1 - h) * strategy_misses t cache n ≤ c * strategy_misses t strategy n

-- ---- Lru, FIFO and CLOCK, as they run, over every trace

abbrev pub IsLruFifoOrClock : Policy → Type 0
IsLruFifoOrClock p = (p ≡ Lru) ⊎ (p ≡ Fifo) ⊎ (p ≡ Clock)

abbrev pub LruFifoClockAreConservative : Type 0
LruFifoClockAreConservative = (j : Job) (trace : List ℕ) → IsLruFifoOrClock j.policy
    → IsConservative j.config.capacity trace (misses_on j trace)

-- They compete with every strategy at each place of a trace. No constant is added.
abbrev pub LruFifoClockCompete : Type 0
LruFifoClockCompete = (j : Job) (trace : List ℕ) (h : ℕ) (residents : ℕ → List ℕ) (n : ℕ)
    → IsLruFifoOrClock j.policy → IsStrategy h trace residents → n ≤ length trace
    → (j.config.capacity + 1 - h) * misses_on j trace n
    ≤ (j.config.capacity + 1) * strategy_misses trace residents n

abbrev pub LruFifoClockCompeteWithoutBypass : Type 0
LruFifoClockCompeteWithoutBypass = (j : Job) (trace : List ℕ) (h : ℕ) (residents : ℕ → List ℕ) (n : ℕ)
    → IsLruFifoOrClock j.policy → IsStrategy h trace residents → NeverBypasses trace residents → n ≤ length trace
    → (j.config.capacity + 1 - h) * misses_on j trace n ≤ j.config.capacity * strategy_misses trace residents n

-- With a capacity of at least 2 h - 1, each has at most twice the misses of any strategy of capacity h.
abbrev pub LruFifoClockTwiceAsLarge : Type 0
LruFifoClockTwiceAsLarge = (j : Job) (trace : List ℕ) (h : ℕ) (residents : ℕ → List ℕ) (n : ℕ)
    → IsLruFifoOrClock j.policy → 2 * h ≤ j.config.capacity + 1 → IsStrategy h trace residents → n ≤ length trace
    → misses_on j trace n ≤ 2 * strategy_misses trace residents n

-- So they compete with every policy, Belady's optimal policy too.
abbrev pub LruFifoClockCompeteWithAny : Type 0
LruFifoClockCompeteWithAny = (j other : Job) (trace : List ℕ) → IsLruFifoOrClock j.policy
    → (j.config.capacity + 1 - other.config.capacity) * (stats_on j trace).misses
    ≤ (j.config.capacity + 1) * (stats_on other trace).misses

-- a trace on which the job has at least n misses, and a strategy of capacity h that has as few as the bound allows, up
-- to a constant
pub record IsWorstFor (j : Job) (h n : ℕ) (trace : List ℕ) (residents : ℕ → List ℕ) : Type 0 where
  pub strategy : IsStrategy h trace residents
  pub many : n ≤ (stats_on j trace).misses
  pub few : (j.config.capacity + 1) * strategy_misses trace residents (length trace)
      ≤ (j.config.capacity + 1 - h) * (stats_on j trace).misses + (j.config.capacity + 1) * (j.config.capacity + 1)

-- The factor is exact, and no policy has a smaller one but that which knows the trace: there are such traces for every
-- n. (After Sleator and Tarjan 1985.)
abbrev pub NoFactorIsSmaller : Type 0
NoFactorIsSmaller = (j : Job) (h n : ℕ) → knows_trace j.policy ≡ false → h ≤ j.config.capacity + 1
    → (trace : List ℕ) × (residents : ℕ → List ℕ) × IsWorstFor j h n trace residents
