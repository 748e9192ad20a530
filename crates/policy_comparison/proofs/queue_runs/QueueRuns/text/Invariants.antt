use Rattle.std.proofs.Common.{◌≡◌, ◌++◌, ℕ, List, length, take}
use Rattle.std.specs.List.{flat_map}
use Rattle.policy_comparison.specs.QueueRows.{queue_rows_on, queues_header}
use Rattle.policy_comparison.specs.QueueRun.{HaveQueueRows, Task}
use Rattle.policy_comparison.proofs.queue_runs.QueueRuns.text.Given as goal

abbrev pub invariant-loop-i : goal.invariant-loop-i
invariant-loop-i l = (task : Task) (trace : List ℕ) → HaveQueueRows task trace (length trace) l.self
    → l.text.items ≡ queues_header ++ flat_map (λ j. queue_rows_on task.every j trace) (take l.i task.jobs)
