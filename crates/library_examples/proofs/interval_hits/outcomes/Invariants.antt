use Rattle.std.proofs.Common.{◌≡◌, take}
use Rattle.policies.specs.AnyPolicy.{HasAccessed, outcomes_on}
use Rattle.library_examples.proofs.interval_hits.outcomes.Given as goal

abbrev pub invariant-loop-i : goal.invariant-loop-i
invariant-loop-i l = HasAccessed l.job l.trace (take l.i l.trace) l.cache × (l.outcomes.items ≡ take l.i (outcomes_on l.job l.trace))
