use Rattle.std.proofs.Common.{◌≡◌, ◌≤◌, ◌+◌, ◌-◌, ℕ, List, length}
use Rattle.sweeps.specs.Taking.{AreNext}
use Rattle.sweeps.specs.JobRuns.{HasRun}
use Rattle.sweeps.proofs.job_run.JobRunRun.make.Given as goal

abbrev pub invariant-pieces : goal.invariant-pieces
invariant-pieces l = (l.at ≤ length l.keys) × (l.self.job ≡ l.initial.self.job)
    × ((every : ℕ) (trace : List ℕ) (n : ℕ) → AreNext trace n l.keys → HasRun every trace n l.initial.self → HasRun every trace (n + l.at) l.self)

abbrev pub decreases-pieces : goal.decreases-pieces
decreases-pieces l = length l.keys - l.at
