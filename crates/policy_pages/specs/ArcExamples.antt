-- Worked examples.
use Rattle.std.specs.Prelude.{◌≡◌, ℕ, List, [], ◌∷◌}
use Rattle.engine_base.specs.declared.outcome.Outcome.TheVariants.{Kept, Hit, Evicted}
use Rattle.policy_pages.specs.Examples.{Outcome, example_counts, counts_with, run_of}
use Rattle.policy_pages.specs.Arc.{ArcState, InB1, InB2, empty_arc, arc_act, arc_target}

abbrev pub small_trace : List ℕ
small_trace =
    9 ∷ 9 ∷ 5 ∷ 6 ∷ 3 ∷ 1 ∷ 6 ∷ 4 ∷ 4 ∷ 8 ∷ 3 ∷ 2 ∷ 9 ∷ 6 ∷ 5 ∷ 5 ∷ 9 ∷ 3 ∷ 4 ∷ 7 ∷ 8 ∷ 3 ∷ []

abbrev pub small_outcomes : List Outcome
small_outcomes =
    Kept ∷ Hit ∷ Kept ∷ Kept ∷ Evicted 5 ∷ Evicted 6 ∷ Evicted 3 ∷ Evicted 9 ∷ Hit ∷ Evicted 6 ∷ Evicted 4
    ∷ Evicted 3 ∷ Evicted 1 ∷ Evicted 8 ∷ Evicted 6 ∷ Hit ∷ Hit ∷ Evicted 2 ∷ Evicted 5 ∷ Evicted 9 ∷ Evicted 7
    ∷ Hit ∷ []

abbrev pub large_trace : List ℕ
large_trace =
    10 ∷ 1 ∷ 11 ∷ 3 ∷ 9 ∷ 8 ∷ 5 ∷ 12 ∷ 8 ∷ 11 ∷ 2 ∷ 6 ∷ 4 ∷ 2 ∷ 5 ∷ 4 ∷ 1 ∷ 15 ∷ 7 ∷ 1 ∷ 8 ∷ 9 ∷ 13 ∷ 2 ∷ 15
    ∷ 10 ∷ 7 ∷ 12 ∷ 13 ∷ 5 ∷ 2 ∷ 3 ∷ 15 ∷ 4 ∷ 11 ∷ 8 ∷ 7 ∷ 9 ∷ 10 ∷ 6 ∷ 14 ∷ []

abbrev pub large_outcomes : List Outcome
large_outcomes =
    Kept ∷ Kept ∷ Kept ∷ Kept ∷ Kept ∷ Kept ∷ Kept ∷ Evicted 10 ∷ Hit ∷ Hit ∷ Evicted 1 ∷ Evicted 3 ∷ Evicted 9
    ∷ Hit ∷ Hit ∷ Hit ∷ Evicted 12 ∷ Evicted 6 ∷ Evicted 1 ∷ Evicted 15 ∷ Hit ∷ Evicted 11 ∷ Evicted 2
    ∷ Evicted 7 ∷ Evicted 5 ∷ Evicted 4 ∷ Evicted 1 ∷ Evicted 8 ∷ Hit ∷ Evicted 9 ∷ Hit ∷ Evicted 15 ∷ Evicted 7
    ∷ Evicted 12 ∷ Evicted 10 ∷ Evicted 13 ∷ Evicted 5 ∷ Evicted 2 ∷ Evicted 3 ∷ Evicted 15 ∷ Evicted 4 ∷ []

abbrev pub large_state : ArcState
large_state = record {
  t1 = 14 ∷ [];
  t2 = 11 ∷ 8 ∷ 7 ∷ 9 ∷ 10 ∷ 6 ∷ [];
  b1 = [];
  b2 = 12 ∷ 13 ∷ 5 ∷ 2 ∷ 3 ∷ 15 ∷ 4 ∷ [];
  p = 7;
}

-- ghosts of two keys and of five
abbrev pub two_and_five : ArcState
two_and_five = record { t1 = []; t2 = []; b1 = 1 ∷ 2 ∷ []; b2 = 3 ∷ 4 ∷ 5 ∷ 6 ∷ 7 ∷ []; p = 5 }

abbrev pub five_and_two : ArcState
five_and_two = record { t1 = []; t2 = []; b1 = 3 ∷ 4 ∷ 5 ∷ 6 ∷ 7 ∷ []; b2 = 1 ∷ 2 ∷ []; p = 5 }

pub record WorkedExamples : Type 0 where
  -- the target moves by the quotient of the ghosts' lengths
  pub targets : (arc_target 9 InB1 two_and_five ≡ 7) × (arc_target 9 InB2 five_and_two ≡ 3)
  -- the keys 1, 2, 3, 1, 4 and 2 at capacity 3
  pub counts : example_counts arc_act empty_arc ≡ counts_with 1 5 2
  pub small : run_of (arc_act 3) empty_arc small_trace
      ≡ (small_outcomes, record { t1 = 8 ∷ []; t2 = 4 ∷ 3 ∷ []; b1 = 2 ∷ 7 ∷ []; b2 = 9 ∷ []; p = 0 })
  pub large : run_of (arc_act 7) empty_arc large_trace ≡ (large_outcomes, large_state)
