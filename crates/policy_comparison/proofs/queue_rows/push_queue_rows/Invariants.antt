use Rattle.std.proofs.Common.{◌≡◌, ◌++◌, drop, get_or}
use Rattle.policy_comparison.specs.QueueRows.{rows_from}
use Rattle.policy_comparison.proofs.queue_rows.push_queue_rows.Given as goal

abbrev pub invariant-loop-i : goal.invariant-loop-i
invariant-loop-i l =
    l.text.items ++ rows_from l.interval (λ row. get_or l.left row 0) l.i (drop l.i l.queues)
    ≡ l.initial.text.items ++ rows_from l.interval (λ row. get_or l.left row 0) 0 l.queues
