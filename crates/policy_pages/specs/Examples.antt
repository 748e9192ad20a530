-- What the worked examples of the policies are made of. Their outcomes and states are by an independent program. Between
-- them the traces tell the rules from a hundred and twenty-six others that differ in a number, a comparison, a queue or an
-- order.
use Rattle.std.specs.Prelude.{ℕ, List, [], ◌∷◌}
use Rattle.engine_base.specs.Stats.{stats_of}
pub use Rattle.engine_base.specs.declared.outcome.Outcome.{Outcome}
use Rattle.engine_base.specs.declared.stats.Stats.{Stats}
use Rattle.engine_base.specs.Machine.{state_after_all, outcomes_of_all}
use Rattle.policy_pages.specs.CountedKeys.{CountedKey}

-- ---- the keys 1, 2, 3, 1, 4 and 2 at capacity 3

-- the counts after accesses to them
abbrev pub example_counts : {S : Type 0} → (ℕ → ℕ → S → Outcome × S) → S → Stats
example_counts act start = stats_of (outcomes_of_all (act 3) start (1 ∷ 2 ∷ 3 ∷ 1 ∷ 4 ∷ 2 ∷ []))

abbrev pub counts_with : ℕ → ℕ → ℕ → Stats
counts_with hits misses evictions =
    record { accesses = 6; hits = hits; misses = misses; evictions = evictions; rejections = 0 }

-- ---- outcomes and states

-- the outcomes of accesses to the keys, and the state after them
abbrev pub run_of : {S : Type 0} → (ℕ → S → Outcome × S) → S → List ℕ → List Outcome × S
run_of act start keys = (outcomes_of_all act start keys, state_after_all act start keys)

abbrev pub counted : ℕ → ℕ → CountedKey
counted key count = record { key = key; count = count }
