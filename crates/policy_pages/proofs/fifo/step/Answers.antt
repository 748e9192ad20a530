use Rattle.std.proofs.Common.{None, refl, arith}
use Rattle.std.proofs.lemmas.Bool.{lt-ltb, le-ltb}
use Rattle.queue_table.specs.QueueTable.{queues}
use Rattle.queue_table.specs.Moves.{item_of, leaving, no_run, stays, goes}
use Rattle.queue_table.proofs.Carried.{no-run}
use Rattle.policy_pages.specs.Plans.{leaver_plan}
use Rattle.policy_pages.specs.FifoPlan.{QUEUE, fifo_plan}
use Rattle.policy_pages.proofs.Plans.{by-plan, still-none, hit-plan, join-plan, full-plan}
use Rattle.policy_pages.proofs.fifo.step.Goals as goal

pub join_apart-own-requires-clause-absent : goal.join_apart-own-requires-clause-absent
join_apart-own-requires-clause-absent g c = still-none _ _ _ c.reserve.ensures.queues c.in-None.ensures.absent

pub renew_oldest-requires-clause-absent : goal.renew_oldest-requires-clause-absent
renew_oldest-requires-clause-absent g c = still-none _ _ _ c.reserve.ensures.queues c.in-None.ensures.absent

pub returns-in-Some-clause-accessed : goal.returns-in-Some-clause-accessed
returns-in-Some-clause-accessed g c =
    let s = queues c.args.table.now in
    by-plan (fifo_plan c.args.capacity (g.K.KeyName.key c.args.key) c.args.own_number) _ _ _ _ _ _ _ refl
    (hit-plan (item_of (g.K.KeyName.key c.args.key)) s _ stays (goes QUEUE 0) c.args.own_number _ _ c.in-Some.ensures.stands)
    (c.hit.ensures stays (item_of (g.K.KeyName.key c.args.key)) s s (rw c.key.ensures at (c.unmoved.ensures s)))

pub returns-then-len-capacity-clause-accessed : goal.returns-then-len-capacity-clause-accessed
returns-then-len-capacity-clause-accessed g c =
    let none = still-none _ _ _ c.reserve.ensures.queues c.in-None.ensures.absent in
    by-plan (fifo_plan c.args.capacity (g.K.KeyName.key c.args.key) c.args.own_number) _ _ _ _ _ _ _ c.reserve.ensures.queues
    (join-plan (item_of (g.K.KeyName.key c.args.key)) (queues c.reserve.new.self) _ stays (goes QUEUE 0) c.args.own_number _ none (lt-ltb _ _ (omega (arith, c.len.ensures, c.if-len-capacity.true))))
    (c.kept.ensures (goes QUEUE 0) _ _ _ c.join_apart-own.ensures.own)

pub returns-else-len-capacity-clause-accessed : goal.returns-else-len-capacity-clause-accessed
returns-else-len-capacity-clause-accessed g c =
    let s = queues c.reserve.new.self in
    let none = still-none _ _ _ c.reserve.ensures.queues c.in-None.ensures.absent in
    by-plan (fifo_plan c.args.capacity (g.K.KeyName.key c.args.key) c.args.own_number) _ _ _ _ _ _ _ c.reserve.ensures.queues
    (full-plan (item_of (g.K.KeyName.key c.args.key)) s _ stays (goes QUEUE 0) c.args.own_number (leaver_plan no_run no_run (leaving QUEUE None) (goes QUEUE 0) c.args.own_number) none (le-ltb _ _ (omega (arith, c.len.ensures, c.if-len-capacity.false))))
    (c.evicted.ensures no_run no_run (leaving QUEUE None) (goes QUEUE 0) (item_of (g.K.KeyName.key c.args.key)) s s s _ _ refl refl (no-run s) (no-run s)
    c.renew_oldest.ensures.left c.renew_oldest.ensures.out c.renew_oldest.ensures.own)
