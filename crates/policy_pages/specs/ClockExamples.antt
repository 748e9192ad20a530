-- Worked examples.
use Rattle.std.specs.Prelude.{◌≡◌, [], ◌∷◌}
use Rattle.engine_base.specs.declared.outcome.Outcome.TheVariants.{Hit, Kept, Evicted}
use Rattle.engine_base.specs.Machine.{outcomes_of_all}
use Rattle.policy_pages.specs.Examples.{example_counts, counts_with, run_of, counted}
use Rattle.policy_pages.specs.Clock.{clock_act}

pub record WorkedExamples : Type 0 where
  -- the keys 1, 2, 3, 1, 4 and 2 at capacity 3
  pub counts : example_counts clock_act [] ≡ counts_with 2 4 1
  pub turns : outcomes_of_all (clock_act 3) [] (1 ∷ 2 ∷ 1 ∷ 3 ∷ 4 ∷ 2 ∷ 1 ∷ [])
      ≡ Kept ∷ Kept ∷ Hit ∷ Kept ∷ Evicted 1 ∷ Hit ∷ Evicted 3 ∷ []
  -- the first eviction turns all keys, the last one alone
  pub run : run_of (clock_act 4) [] (4 ∷ 5 ∷ 1 ∷ 4 ∷ 7 ∷ 8 ∷ 1 ∷ 9 ∷ 2 ∷ []) ≡ (
    Kept ∷ Kept ∷ Kept ∷ Hit ∷ Kept ∷ Evicted 4 ∷ Hit ∷ Evicted 5 ∷ Evicted 7 ∷ [],
    counted 8 1 ∷ counted 9 1 ∷ counted 1 0 ∷ counted 2 1 ∷ [],
  )
