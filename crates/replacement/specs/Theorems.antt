-- The plans carry out the table of moves.
use Rattle.std.specs.Prelude.{◌≡◌, ℕ, Bool, Some}
use Rattle.segments.specs.Queues.{Queues, IsDistinct}
use Rattle.replacement.specs.Table.{Rules, Queue, Item, hit_in, eviction, access}
use Rattle.replacement.specs.Plan.{hit_plan, eviction_plan, plan}
use Rattle.replacement.specs.PlanMoves.{queues_after, response_of_plan}

-- a hit
abbrev pub HitsPlanned : Type 0
HitsPlanned = (size : ℕ) (i : Item) (q : Queue) (s : Queues)
    → hit_in size i (Some q) s ≡ queues_after (hit_plan size i q s) s

-- An eviction: that a candidate goes straight to its place, or out, gives the queues, the outcome and the item that
-- left which the table gives by way of probation.
abbrev pub EvictionsPlanned : Type 0
EvictionsPlanned = (r : Rules) (admits : ℕ → ℕ → Bool) (s : Queues) → IsDistinct s
    → eviction r admits s ≡ response_of_plan (eviction_plan r admits s) s

-- an access
abbrev pub AccessesPlanned : Type 0
AccessesPlanned = (r : Rules) (admits : ℕ → ℕ → Bool) (i : Item) (s : Queues) → IsDistinct s
    → access r admits i s ≡ response_of_plan (plan r admits i s) s
