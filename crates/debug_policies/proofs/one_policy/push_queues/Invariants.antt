use Rattle.std.proofs.Common.{◌≡◌, ◌++◌, take}
use Rattle.std.specs.List.{flat_map}
use Rattle.debug_policies.specs.Inside.{queue_line}
use Rattle.debug_policies.proofs.one_policy.push_queues.Given as goal

abbrev pub invariant-loop-queue : goal.invariant-loop-queue
invariant-loop-queue l =
    l.text.items ≡ l.initial.text.items ++ flat_map (queue_line l.label l.job) (take l.queue-index l.queues)
