-- Worked examples.
use Rattle.std.specs.Prelude.{◌≡◌, [], ◌∷◌}
use Rattle.engine_base.specs.declared.outcome.Outcome.TheVariants.{Hit, Kept, Evicted}
use Rattle.policy_pages.specs.Examples.{example_counts, counts_with, run_of, counted}
use Rattle.policy_pages.specs.Sieve.{sieve_act, empty_sieve}

pub record WorkedExamples : Type 0 where
  -- the keys 1, 2, 3, 1, 4 and 2 at capacity 3
  pub counts : example_counts sieve_act empty_sieve ≡ counts_with 1 5 2
  -- the hand wraps where 7 leaves, which is the newest, and again in passing all keys before 2 leaves
  pub run : run_of (sieve_act 4) empty_sieve
      (2 ∷ 8 ∷ 1 ∷ 2 ∷ 4 ∷ 8 ∷ 4 ∷ 7 ∷ 8 ∷ 8 ∷ 3 ∷ 2 ∷ 4 ∷ 3 ∷ 5 ∷ 8 ∷ 6 ∷ []) ≡ (
        Kept ∷ Kept ∷ Kept ∷ Hit ∷ Kept ∷ Hit ∷ Hit ∷ Evicted 1 ∷ Hit ∷ Hit ∷ Evicted 7 ∷ Hit ∷ Hit ∷ Hit ∷ Evicted 2 ∷ Hit
            ∷ Evicted 4 ∷ [],
        record { passed = counted 8 0 ∷ []; ahead = counted 3 0 ∷ counted 5 0 ∷ counted 6 0 ∷ [] },
      )
