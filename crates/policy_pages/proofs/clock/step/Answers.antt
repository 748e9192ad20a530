use Rattle.std.proofs.Common.{refl, arith}
use Rattle.std.proofs.lemmas.Bool.{lt-ltb, le-ltb}
use Rattle.queue_table.specs.QueueTable.{queues}
use Rattle.queue_table.specs.Moves.{item_of, counts, goes}
use Rattle.policy_pages.specs.ClockPlan.{clock_plan, clock_eviction_plan}
use Rattle.policy_pages.proofs.Plans.{by-plan, still-none, hit-plan, join-plan, full-plan}
use Rattle.policy_pages.proofs.clock.step.Goals as goal

pub join_apart-own-requires-clause-absent : goal.join_apart-own-requires-clause-absent
join_apart-own-requires-clause-absent g c = still-none _ _ _ c.reserve.ensures.queues c.in-None.ensures.absent

pub evict-requires-clause-absent : goal.evict-requires-clause-absent
evict-requires-clause-absent g c = still-none _ _ _ c.reserve.ensures.queues c.in-None.ensures.absent

pub returns-in-Some-clause-accessed : goal.returns-in-Some-clause-accessed
returns-in-Some-clause-accessed g c =
    by-plan (clock_plan c.args.capacity (g.K.KeyName.key c.args.key) c.args.own_number) _ _ _ _ _ _ _ refl
    (hit-plan (item_of (g.K.KeyName.key c.args.key)) (queues c.args.table.now) _ (counts 1) (goes 0 1) c.args.own_number _ _ c.in-Some.ensures.stands)
    (c.hit.ensures (counts 1) _ _ _ c.recount-own.ensures.own)

pub returns-then-len-capacity-clause-accessed : goal.returns-then-len-capacity-clause-accessed
returns-then-len-capacity-clause-accessed g c =
    let none = still-none _ _ _ c.reserve.ensures.queues c.in-None.ensures.absent in
    by-plan (clock_plan c.args.capacity (g.K.KeyName.key c.args.key) c.args.own_number) _ _ _ _ _ _ _ c.reserve.ensures.queues
    (join-plan (item_of (g.K.KeyName.key c.args.key)) (queues c.reserve.new.self) _ (counts 1) (goes 0 1) c.args.own_number _ none (lt-ltb _ _ (omega (arith, c.len.ensures, c.if-len-capacity.true))))
    (c.kept.ensures (goes 0 1) _ _ _ c.join_apart-own.ensures.own)

pub returns-else-len-capacity-clause-accessed : goal.returns-else-len-capacity-clause-accessed
returns-else-len-capacity-clause-accessed g c =
    let none = still-none _ _ _ c.reserve.ensures.queues c.in-None.ensures.absent in
    by-plan (clock_plan c.args.capacity (g.K.KeyName.key c.args.key) c.args.own_number) _ _ _ _ _ _ _ c.reserve.ensures.queues
    (full-plan (item_of (g.K.KeyName.key c.args.key)) (queues c.reserve.new.self) _ (counts 1) (goes 0 1) c.args.own_number (clock_eviction_plan c.args.capacity c.args.own_number (queues c.reserve.new.self)) none (le-ltb _ _ (omega (arith, c.len.ensures, c.if-len-capacity.false)))) c.evict.ensures
