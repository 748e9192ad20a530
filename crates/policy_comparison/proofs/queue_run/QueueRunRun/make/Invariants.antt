use Rattle.std.proofs.Common.{◌≡◌, ◌+◌, ℕ, List}
use Rattle.sweeps.specs.Taking.{AreNext}
use Rattle.policy_comparison.specs.QueueRun.{HasQueueRows}
use Rattle.policy_comparison.proofs.queue_run.QueueRunRun.make.Given as goal

abbrev pub invariant-loop-i : goal.invariant-loop-i
invariant-loop-i l = (l.self.job ≡ l.initial.self.job)
    × ((every : ℕ) (trace : List ℕ) (n : ℕ) → AreNext trace n l.keys → HasQueueRows every trace n l.initial.self
    → HasQueueRows every trace (n + l.i) l.self)
