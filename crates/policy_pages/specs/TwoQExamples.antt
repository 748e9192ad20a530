-- Worked examples.
use Rattle.std.specs.Prelude.{◌≡◌, ℕ, List, [], ◌∷◌}
use Rattle.engine_base.specs.declared.outcome.Outcome.TheVariants.{Kept, Hit, Evicted}
use Rattle.policy_pages.specs.Examples.{Outcome, example_counts, counts_with, run_of}
use Rattle.policy_pages.specs.TwoQ.{TwoQSizes, TwoQState, empty_two_q, two_q_act}

abbrev pub sizes : ℕ → ℕ → TwoQSizes
sizes kin kout = record { kin = kin; kout = kout }

abbrev pub small_trace : List ℕ
small_trace =
    6 ∷ 4 ∷ 1 ∷ 5 ∷ 6 ∷ 3 ∷ 1 ∷ 7 ∷ []

abbrev pub small_outcomes : List Outcome
small_outcomes =
    Kept ∷ Kept ∷ Kept ∷ Evicted 6 ∷ Evicted 4 ∷ Evicted 1 ∷ Evicted 5 ∷ Evicted 6 ∷ []

abbrev pub large_trace : List ℕ
large_trace =
    5 ∷ 15 ∷ 12 ∷ 8 ∷ 6 ∷ 17 ∷ 3 ∷ 1 ∷ 10 ∷ 13 ∷ 5 ∷ 4 ∷ 14 ∷ 12 ∷ 9 ∷ 17 ∷ 6 ∷ 15 ∷ 7 ∷ 3 ∷ 13 ∷ 5 ∷ 9 ∷ 4 ∷ []

abbrev pub large_outcomes : List Outcome
large_outcomes =
    Kept ∷ Kept ∷ Kept ∷ Kept ∷ Kept ∷ Kept ∷ Kept ∷ Kept ∷ Kept ∷ Evicted 5 ∷ Evicted 15 ∷ Evicted 12
    ∷ Evicted 8 ∷ Evicted 6 ∷ Evicted 17 ∷ Evicted 3 ∷ Evicted 1 ∷ Evicted 10 ∷ Evicted 13 ∷ Evicted 4
    ∷ Evicted 14 ∷ Hit ∷ Hit ∷ Evicted 12 ∷ []

abbrev pub large_state : TwoQState
large_state = record { a1in = 9 ∷ 7 ∷ []; a1out = 1 ∷ 10 ∷ 14 ∷ []; am = 17 ∷ 6 ∷ 15 ∷ 3 ∷ 13 ∷ 5 ∷ 4 ∷ [] }

pub record WorkedExamples : Type 0 where
  -- the keys 1, 2, 3, 1, 4 and 2 at capacity 3
  pub counts : example_counts (two_q_act (sizes 1 1)) empty_two_q ≡ counts_with 2 4 1
  pub small : run_of (two_q_act (sizes 1 1) 3) empty_two_q small_trace
      ≡ (small_outcomes, record { a1in = 3 ∷ 7 ∷ []; a1out = 5 ∷ []; am = 1 ∷ [] })
  pub large : run_of (two_q_act (sizes 2 4) 9) empty_two_q large_trace ≡ (large_outcomes, large_state)
