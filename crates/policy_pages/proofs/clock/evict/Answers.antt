use Rattle.std.proofs.Common.{arith, None, refl}
use Rattle.queue_table.specs.QueueTable.{queues}
use Rattle.queue_table.specs.Moves.{leaving, no_run, goes}
use Rattle.queue_table.proofs.Carried.{no-run}
use Rattle.policy_pages.specs.ClockPlan.{clock_eviction_plan}
use Rattle.policy_pages.proofs.Leavers.{absent-run}
use Rattle.policy_pages.proofs.clock.evict.Goals as goal

pub renew_oldest-requires-clause-absent : goal.renew_oldest-requires-clause-absent
renew_oldest-requires-clause-absent g c = search (arith, absent-run)

pub returns : goal.returns
returns g c =
    c.evicted.ensures (clock_eviction_plan c.args.capacity c.args.own_number (queues c.args.table.now)).early no_run (leaving 0 None) (goes 0 1) _ _ _ _ _ _ c.run-early.ensures.run refl
    c.run-early.ensures.made (no-run (queues c.run-early.new.self)) c.renew_oldest.ensures.left c.renew_oldest.ensures.out c.renew_oldest.ensures.own
