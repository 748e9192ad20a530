-- Belady's policy is optimal: no strategy of the same capacity has more hits.
use Rattle.std.specs.Prelude.{◌≡◌, ℕ, ◌≤◌, List, length, count_by}
use Rattle.engine_base.specs.Stats.{is_hit}
use Rattle.clairvoyant.specs.Belady.{belady_residents, belady_outcomes}
use Rattle.policy_laws.specs.Strategy.{IsStrategy, strategy_hits}

-- the hits of Belady's policy at capacity c among the accesses below place i
abbrev pub belady_hits : ℕ → List ℕ → ℕ → ℕ
belady_hits c t i = count_by is_hit (belady_outcomes c t i)

-- At each place of every trace, no strategy of capacity c has had more hits than Belady's policy.
abbrev pub BeladyIsOptimal : Type 0
BeladyIsOptimal = (c : ℕ) (t : List ℕ) (residents : ℕ → List ℕ) (i : ℕ) → IsStrategy c t residents → i ≤ length t
    → strategy_hits t residents i ≤ belady_hits c t i

-- Belady's policy is itself a strategy of that capacity, and its hits are those of the strategy.
abbrev pub BeladyIsStrategy : Type 0
BeladyIsStrategy = (c : ℕ) (t : List ℕ) → IsStrategy c t (belady_residents c t)
    × ((i : ℕ) → strategy_hits t (belady_residents c t) i ≡ belady_hits c t i)

-- A larger capacity has no fewer hits.
abbrev pub BeladyHitsGrow : Type 0
BeladyHitsGrow = (c d : ℕ) (t : List ℕ) (i : ℕ) → c ≤ d → i ≤ length t → belady_hits c t i ≤ belady_hits d t i
