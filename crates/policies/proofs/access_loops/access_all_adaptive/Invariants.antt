use Rattle.policies.specs.declared.any_policy.AnyPolicy.TheVariants.{Adaptive}
use Rattle.policies.proofs.Stretches.{HasMade}
use Rattle.policies.proofs.access_loops.access_all_adaptive.Given as goal

abbrev pub invariant-loop-i : goal.invariant-loop-i
invariant-loop-i l = HasMade l.keys l.i (Adaptive l.initial.cache) (Adaptive l.cache)
