-- Worked examples.
use Rattle.std.specs.Prelude.{◌≡◌, ℕ, List, [], ◌∷◌}
use Rattle.engine_base.specs.PartSize.{part_size}
use Rattle.engine_base.specs.declared.outcome.Outcome.TheVariants.{Hit, Kept, Evicted}
use Rattle.policy_pages.specs.Examples.{Outcome, example_counts, counts_with, run_of, counted}
use Rattle.policy_pages.specs.S3Fifo.{S3FifoState, s3_fifo_act, empty_s3_fifo, s3_fifo_main_size}

abbrev pub small_trace : List ℕ
small_trace =
    1 ∷ 3 ∷ 3 ∷ 2 ∷ 1 ∷ 3 ∷ 13 ∷ 7 ∷ 8 ∷ 2 ∷ 10 ∷ 2 ∷ 1 ∷ 5 ∷ 12 ∷ 2 ∷ 9 ∷ 9 ∷ 1 ∷ 4 ∷ 1 ∷ 2 ∷ 1 ∷ 8 ∷ 2 ∷ 11 ∷ 5 ∷ 1
    ∷ 1 ∷ 1 ∷ 6 ∷ 4 ∷ 2 ∷ 6 ∷ 3 ∷ 6 ∷ 4 ∷ 4 ∷ 3 ∷ 3 ∷ 12 ∷ 10 ∷ 3 ∷ 11 ∷ []

abbrev pub small_outcomes : List Outcome
small_outcomes =
    Kept ∷ Kept ∷ Hit ∷ Kept ∷ Hit ∷ Hit ∷ Kept ∷ Kept ∷ Evicted 1 ∷ Hit ∷ Evicted 2 ∷ Evicted 13 ∷ Evicted 7
    ∷ Evicted 8 ∷ Evicted 10 ∷ Hit ∷ Evicted 5 ∷ Hit ∷ Hit ∷ Evicted 12 ∷ Hit ∷ Hit ∷ Hit ∷ Evicted 9 ∷ Hit
    ∷ Evicted 4 ∷ Evicted 11 ∷ Hit ∷ Hit ∷ Hit ∷ Evicted 8 ∷ Evicted 6 ∷ Hit ∷ Evicted 5 ∷ Hit ∷ Hit ∷ Hit ∷ Hit ∷ Hit
    ∷ Hit ∷ Evicted 6 ∷ Evicted 1 ∷ Hit ∷ Evicted 10 ∷ []

abbrev pub small_state : S3FifoState
small_state = record {
  small = [];
  main = counted 4 0 ∷ counted 12 0 ∷ counted 3 1 ∷ counted 2 0 ∷ counted 11 0 ∷ [];
  ghost = 9 ∷ 10 ∷ [];
}

-- here the small queue has two keys, and main can be over its size while it has one
abbrev pub large_trace : List ℕ
large_trace =
    4 ∷ 5 ∷ 5 ∷ 5 ∷ 6 ∷ 6 ∷ 7 ∷ 8 ∷ 8 ∷ 8 ∷ 11 ∷ 12 ∷ 12 ∷ 12 ∷ 13 ∷ 14 ∷ 16 ∷ 17 ∷ 18 ∷ 18 ∷ 18 ∷ 19 ∷ 20 ∷ 20 ∷ 20
    ∷ 21 ∷ 26 ∷ 6 ∷ 11 ∷ 11 ∷ 2 ∷ 30 ∷ 31 ∷ 23 ∷ 10 ∷ 9 ∷ 2 ∷ 1 ∷ 7 ∷ 28 ∷ 13 ∷ 14 ∷ 2 ∷ 17 ∷ 19 ∷ 33 ∷ 16 ∷ 21 ∷ 4
    ∷ 23 ∷ 30 ∷ 27 ∷ 9 ∷ 10 ∷ 33 ∷ []

abbrev pub large_outcomes : List Outcome
large_outcomes =
    Kept ∷ Kept ∷ Hit ∷ Hit ∷ Kept ∷ Hit ∷ Kept ∷ Kept ∷ Hit ∷ Hit ∷ Kept ∷ Kept ∷ Hit ∷ Hit ∷ Kept ∷ Kept ∷ Kept
    ∷ Kept ∷ Kept ∷ Hit ∷ Hit ∷ Kept ∷ Kept ∷ Hit ∷ Hit ∷ Kept ∷ Kept ∷ Hit ∷ Hit ∷ Hit ∷ Kept ∷ Kept ∷ Kept ∷ Kept
    ∷ Kept ∷ Evicted 4 ∷ Hit ∷ Evicted 7 ∷ Evicted 13 ∷ Evicted 14 ∷ Evicted 16 ∷ Evicted 17 ∷ Hit ∷ Evicted 19
    ∷ Evicted 21 ∷ Evicted 26 ∷ Evicted 30 ∷ Evicted 31 ∷ Evicted 23 ∷ Evicted 10 ∷ Evicted 9 ∷ Evicted 1 ∷ Evicted 28
    ∷ Evicted 33 ∷ Evicted 7 ∷ []

abbrev pub large_state : S3FifoState
large_state = record {
  small = counted 27 0 ∷ [];
  main = counted 13 0 ∷ counted 14 0 ∷ counted 18 2 ∷ counted 17 0 ∷ counted 20 2 ∷ counted 19 0 ∷ counted 2 2
      ∷ counted 16 0 ∷ counted 21 0 ∷ counted 4 0 ∷ counted 23 0 ∷ counted 30 0 ∷ counted 9 0 ∷ counted 10 0
      ∷ counted 5 1 ∷ counted 6 1 ∷ counted 8 1 ∷ counted 11 1 ∷ counted 12 1 ∷ counted 33 0 ∷ [];
  ghost = 26 ∷ 31 ∷ 1 ∷ 28 ∷ [];
}

pub record WorkedExamples : Type 0 where
  -- the keys 1, 2, 3, 1, 4 and 2 at capacity 3
  pub counts : example_counts (s3_fifo_act 1) empty_s3_fifo ≡ counts_with 2 4 1
  pub sizes : (part_size 10 9 ≡ 1) × (part_size 10 29 ≡ 2) × (part_size 50 202 ≡ 101) × (s3_fifo_main_size 2 29 ≡ 27)
  pub small : run_of (s3_fifo_act 1 5) empty_s3_fifo small_trace ≡ (small_outcomes, small_state)
  pub large : run_of (s3_fifo_act 2 21) empty_s3_fifo large_trace ≡ (large_outcomes, large_state)
