use Rattle.std.proofs.Common.{◌≡◌}
use Rattle.policies.specs.declared.any_policy.AnyPolicy.TheVariants.{Queues}
use Rattle.policies.proofs.Stretches.{HasMade}
use Rattle.policies.proofs.access_loops.access_all_by.Given as goal

abbrev pub invariant-loop-i : goal.invariant-loop-i
invariant-loop-i g l =
    (l.cache.setup ≡ l.initial.cache.setup) × HasMade l.keys l.i (Queues l.initial.cache) (Queues l.cache)
