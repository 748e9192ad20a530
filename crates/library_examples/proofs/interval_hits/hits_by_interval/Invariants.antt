use Rattle.std.proofs.Common.{ℕ, List, ◌++◌, length}
use Rattle.policies.specs.AnyPolicy.{outcomes_on}
use Rattle.library_examples.specs.IntervalHits.{AreHitsByInterval}
use Rattle.library_examples.proofs.interval_hits.hits_by_interval.Given as goal

-- what is counted, and behind it the hits of the rest, whatever these are
abbrev pub invariant-loop-rest : goal.invariant-loop-rest
invariant-loop-rest l = (later : List ℕ) → AreHitsByInterval l.every l.rest later
    → AreHitsByInterval l.every (outcomes_on l.job l.trace) (l.hits.items ++ later)

abbrev pub decreases-loop-rest : goal.decreases-loop-rest
decreases-loop-rest l = length l.rest
