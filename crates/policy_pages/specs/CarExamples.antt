-- Worked examples.
use Rattle.std.specs.Prelude.{◌≡◌, ℕ, List, [], ◌∷◌}
use Rattle.engine_base.specs.declared.outcome.Outcome.TheVariants.{Kept, Hit, Evicted}
use Rattle.policy_pages.specs.Examples.{Outcome, example_counts, counts_with, run_of, counted}
use Rattle.policy_pages.specs.Car.{CarState, empty_car, car_act}

abbrev pub small_trace : List ℕ
small_trace =
    4 ∷ 4 ∷ 3 ∷ 9 ∷ 2 ∷ 2 ∷ 3 ∷ 8 ∷ 3 ∷ 1 ∷ 7 ∷ 2 ∷ 1 ∷ 4 ∷ 1 ∷ 6 ∷ 9 ∷ 9 ∷ 3 ∷ 1 ∷ 3 ∷ 1 ∷ []

abbrev pub small_outcomes : List Outcome
small_outcomes =
    Kept ∷ Hit ∷ Kept ∷ Kept ∷ Evicted 3 ∷ Hit ∷ Evicted 9 ∷ Evicted 4 ∷ Hit ∷ Evicted 8 ∷ Evicted 1
    ∷ Hit ∷ Evicted 7 ∷ Evicted 1 ∷ Evicted 3 ∷ Evicted 2 ∷ Evicted 6 ∷ Hit ∷ Evicted 4 ∷ Hit ∷ Hit ∷ Hit ∷ []

abbrev pub small_state : CarState
small_state = record {
  t1 = counted 3 1 ∷ [];
  t2 = counted 1 1 ∷ counted 9 0 ∷ [];
  b1 = 7 ∷ 6 ∷ [];
  b2 = 4 ∷ [];
  p = 0;
}

abbrev pub large_trace : List ℕ
large_trace =
    12 ∷ 9 ∷ 7 ∷ 6 ∷ 3 ∷ 3 ∷ 4 ∷ 7 ∷ 9 ∷ 1 ∷ 3 ∷ 10 ∷ 11 ∷ 7 ∷ 3 ∷ 7 ∷ 3 ∷ 6 ∷ 1 ∷ 1 ∷ 8 ∷ 11 ∷ 6 ∷ 10 ∷ 4 ∷ 9
    ∷ 4 ∷ 1 ∷ 10 ∷ 12 ∷ 13 ∷ 5 ∷ 6 ∷ 3 ∷ 1 ∷ 2 ∷ 7 ∷ 2 ∷ 10 ∷ 1 ∷ 10 ∷ 9 ∷ 7 ∷ 1 ∷ 13 ∷ []

abbrev pub large_outcomes : List Outcome
large_outcomes =
    Kept ∷ Kept ∷ Kept ∷ Kept ∷ Kept ∷ Hit ∷ Evicted 12 ∷ Hit ∷ Hit ∷ Evicted 6 ∷ Hit ∷ Evicted 4 ∷ Evicted 1
    ∷ Hit ∷ Hit ∷ Hit ∷ Hit ∷ Evicted 10 ∷ Evicted 11 ∷ Hit ∷ Evicted 9 ∷ Evicted 6 ∷ Evicted 7 ∷ Evicted 3
    ∷ Evicted 11 ∷ Evicted 1 ∷ Hit ∷ Evicted 6 ∷ Hit ∷ Evicted 9 ∷ Evicted 1 ∷ Evicted 8 ∷ Evicted 12
    ∷ Evicted 13 ∷ Evicted 5 ∷ Evicted 3 ∷ Evicted 2 ∷ Evicted 7 ∷ Hit ∷ Hit ∷ Hit ∷ Evicted 4 ∷ Evicted 6 ∷ Hit
    ∷ Evicted 2 ∷ []

abbrev pub large_state : CarState
large_state = record {
  t1 = [];
  t2 = counted 10 0 ∷ counted 9 0 ∷ counted 7 0 ∷ counted 1 0 ∷ counted 13 0 ∷ [];
  b1 = 5 ∷ 3 ∷ [];
  b2 = 4 ∷ 6 ∷ 2 ∷ [];
  p = 2;
}

pub record WorkedExamples : Type 0 where
  -- the keys 1, 2, 3, 1, 4 and 2 at capacity 3
  pub counts : example_counts car_act empty_car ≡ counts_with 1 5 2
  pub small : run_of (car_act 3) empty_car small_trace ≡ (small_outcomes, small_state)
  pub large : run_of (car_act 5) empty_car large_trace ≡ (large_outcomes, large_state)
