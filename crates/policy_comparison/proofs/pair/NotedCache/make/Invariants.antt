use Rattle.std.proofs.Common.{◌≡◌, ◌+◌, ℕ, List, length}
use Rattle.policies.specs.AnyPolicy.{Job, outcomes_on}
use Rattle.sweeps.specs.Taking.{AreNext}
use Rattle.policy_comparison.specs.Pair.{HasRun}
use Rattle.policy_comparison.proofs.Walked.{IsNoted}
use Rattle.policy_comparison.proofs.pair.NotedCache.make.Given as goal

abbrev pub invariant-loop-i : goal.invariant-loop-i
invariant-loop-i g l = (length l.noted ≡ length l.keys)
    × ((job : Job) (trace : List ℕ) (n : ℕ) → AreNext trace n l.keys → HasRun job trace n l.fn.self.cache → HasRun job trace (n + l.i) l.cache × IsNoted l.noted (outcomes_on job trace) n l.i)
