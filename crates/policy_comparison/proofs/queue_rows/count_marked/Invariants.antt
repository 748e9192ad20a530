use Rattle.std.proofs.Common.{◌≡◌, ◌≤◌, take, count_by}
use Rattle.policy_comparison.specs.QueueRows.{is_marked}
use Rattle.policy_comparison.proofs.queue_rows.count_marked.Given as goal

abbrev pub invariant-loop-key : goal.invariant-loop-key
invariant-loop-key l = (l.marked ≡ count_by is_marked (take l.key-index l.keys)) × (l.marked ≤ l.key-index)
