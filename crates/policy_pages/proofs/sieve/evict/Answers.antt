use Rattle.std.proofs.Common.{◌≤◌, length, arith}
use Rattle.queue_table.specs.QueueTable.{queues}
use Rattle.policy_pages.proofs.SievePlan.{pass-stops}
use Rattle.policy_pages.proofs.Leavers.{absent-run}
use Rattle.policy_pages.proofs.sieve.evict.Goals as goal

pub evict_late-requires-clause-stopped : goal.evict_late-requires-clause-stopped
evict_late-requires-clause-stopped g c = λ t.
    let a = queues c.run-early.new.self in
    let some : 1 ≤ length (a c.args.ahead) = omega (arith, c.len.ensures, c.if-len-gt0.true) in
    pass-stops c.args.capacity c.args.ahead (queues c.args.table.now) a c.run-early.result c.run-early.ensures.run c.run-early.ensures.made.after some c.if-early-capacity.true

pub evict_late-requires-clause-absent : goal.evict_late-requires-clause-absent
evict_late-requires-clause-absent g c = search (arith, absent-run)

pub evict_late-requires-else-len-gt0-clause-absent : goal.evict_late-requires-else-len-gt0-clause-absent
evict_late-requires-else-len-gt0-clause-absent g c = search (arith, absent-run)
