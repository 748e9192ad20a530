use Rattle.policies.proofs.any_policy.AnyPolicy.open_with.Goals as goal

pub returns-in-Some-clause-stands : goal.returns-in-Some-clause-stands
returns-in-Some-clause-stands c = let s = rw c.in-Some.is at c.in_ok-cache.ensures.stands in s.0 c.args.uses.now
