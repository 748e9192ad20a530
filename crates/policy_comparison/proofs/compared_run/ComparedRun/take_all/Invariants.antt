use Rattle.std.proofs.Common.{◌+◌, ℕ, List, length}
use Rattle.policies.specs.AnyPolicy.{Job, outcomes_on}
use Rattle.sweeps.specs.Taking.{AreNext}
use Rattle.policy_comparison.specs.Comparison.{hits_beside}
use Rattle.policy_comparison.specs.ComparedRows.{HasCounted}
use Rattle.policy_comparison.specs.ComparedRun.{HasCompared}
use Rattle.policy_comparison.specs.Pair.{HaveNoted}
use Rattle.policy_comparison.proofs.compared_run.ComparedRun.take_all.Given as goal

abbrev pub invariant-loop-i : goal.invariant-loop-i
invariant-loop-i g l = (every : ℕ) (first second : Job) (trace : List ℕ) (n : ℕ) → AreNext trace n l.keys → HasCompared every first second trace n l.fn.self
    → HaveNoted first second trace n (length l.keys) l.self.pair × HasCounted every (hits_beside (outcomes_on first trace) (outcomes_on second trace)) (n + l.i) l.self.counted
