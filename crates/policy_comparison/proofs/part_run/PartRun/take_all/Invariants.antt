use Rattle.std.proofs.Common.{◌≡◌, ◌+◌, ℕ, List, None, length}
use Rattle.policies.specs.AnyPolicy.{Job, outcomes_on}
use Rattle.sweeps.specs.Taking.{AreNext}
use Rattle.policy_comparison.specs.Pair.{HaveNoted}
use Rattle.policy_comparison.specs.Part.{AgreeBelow}
use Rattle.policy_comparison.specs.PartRun.{HasParted}
use Rattle.policy_comparison.proofs.part_run.PartRun.take_all.Given as goal

abbrev pub invariant-loop-i : goal.invariant-loop-i
invariant-loop-i g l = (l.self.found ≡ None) × ((first second : Job) (trace : List ℕ) (n : ℕ) → AreNext trace n l.keys → HasParted first second trace n l.fn.self
    → HaveNoted first second trace n (length l.keys) l.self.pair × (l.self.place ≡ n)
    × AgreeBelow (n + l.i + 1) (outcomes_on first trace) (outcomes_on second trace))
