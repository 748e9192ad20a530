use Rattle.std.proofs.Common.{◌≡◌, ◌++◌, map, take}
use Rattle.policies.specs.FaultyJobs.{at_capacity}
use Rattle.sweeps.proofs.capacities.add_rows.Given as goal

abbrev pub invariant-loop-capacity : goal.invariant-loop-capacity
invariant-loop-capacity l = l.rows.items ≡ l.fn.rows.items ++ map (at_capacity l.job) (take l.capacity-index l.capacities)
