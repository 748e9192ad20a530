-- A trace cut into intervals, and how often two policies hit at the same accesses of each.
use Rattle.std.specs.Int.{div_ceil}
use Rattle.std.specs.Prelude.{◌≡◌, ℕ, zero, suc, ◌+◌, ◌*◌, ◌≤◌, Bool, List, [], ◌∷◌, ◌++◌, codes, drop}
use Rattle.std.specs.Prelude.{flat_map}
use Rattle.std.specs.Prelude.{length, sum_by, take}
use Rattle.policies.specs.AnyPolicy.{Job, outcomes_on}
use Rattle.policy_comparison.specs.Comparison.{Comparison, compared_on, counts_of, hits_beside, pair_row}
pub use Rattle.policy_comparison.specs.declared.compared_rows.ComparedInterval.{ComparedInterval}

-- ---- the definition

-- what is counted of the accesses of an interval after `before` others, which are counted from 1
abbrev pub compared_behind : ℕ → List (Bool × Bool) → ComparedInterval
compared_behind before hits = record { from = before + 1; to = before + length hits; counts = counts_of hits }

-- interval i, counted from 0: so many of the accesses, or those that are left
abbrev pub compared_at : ℕ → List (Bool × Bool) → ℕ → ComparedInterval
compared_at every hits i = compared_behind (i * every) (take every (drop (i * every) hits))

-- the first n intervals
abbrev pub first_compared : ℕ → List (Bool × Bool) → ℕ → List ComparedInterval
first_compared every hits zero = []
first_compared every hits (suc n) = first_compared every hits n ++ compared_at every hits n ∷ []

-- those of two jobs over the whole trace: as many as it takes to cover the accesses
unfoldable pub compared_intervals_on : ℕ → Job → Job → List ℕ → List ComparedInterval
compared_intervals_on every first second trace =
    first_compared every (hits_beside (outcomes_on first trace) (outcomes_on second trace))
    (div_ceil (length trace) every)

-- ---- the rows sum up to the one row

-- the sum of a count over rows
abbrev pub sum_over : (Comparison → ℕ) → List ComparedInterval → ℕ
sum_over count rows = sum_by (λ row. count row.counts) rows

abbrev pub ComparedIntervalsAddUp : Type 0
ComparedIntervalsAddUp = (every : ℕ) (first second : Job) (trace : List ℕ) → 1 ≤ every
    → (sum_over (λ c. c.accesses) (compared_intervals_on every first second trace)
    ≡ (compared_on first second trace).accesses)
    × (sum_over (λ c. c.both) (compared_intervals_on every first second trace) ≡ (compared_on first second trace).both)
    × (sum_over (λ c. c.first_only) (compared_intervals_on every first second trace)
    ≡ (compared_on first second trace).first_only)
    × (sum_over (λ c. c.second_only) (compared_intervals_on every first second trace)
    ≡ (compared_on first second trace).second_only)
    × (sum_over (λ c. c.neither) (compared_intervals_on every first second trace)
    ≡ (compared_on first second trace).neither)

-- ---- what is printed of it

abbrev pub compared_header : List ℕ
compared_header = codes "first,second,capacity,from,to,both,first_only,second_only,neither\n"

abbrev pub compared_row : Job → Job → ComparedInterval → List ℕ
compared_row first second row = pair_row first second
    (row.from ∷ row.to ∷ row.counts.both ∷ row.counts.first_only ∷ row.counts.second_only ∷ row.counts.neither ∷ [])

-- the header, and the rows in their order
abbrev pub compared_intervals_text : Job → Job → List ComparedInterval → List ℕ
compared_intervals_text first second rows = compared_header ++ flat_map (compared_row first second) rows
