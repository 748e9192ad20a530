use Rattle.std.proofs.Common.{sym, ◌∙◌, refl}
use Rattle.queue_table.specs.QueueTable.{queues}
use Rattle.queue_table.specs.Moves.{item_of, counts, goes}
use Rattle.policy_pages.specs.SievePlan.{sieve_plan, sieve_eviction_plan}
use Rattle.policy_pages.proofs.Plans.{by-plan, still-none, hit-plan, join-plan, full-plan}
use Rattle.policy_pages.proofs.sieve.step.Goals as goal

pub join_apart-own-requires-clause-absent : goal.join_apart-own-requires-clause-absent
join_apart-own-requires-clause-absent g c = still-none _ _ _ c.reserve.ensures.queues c.in-None.ensures.absent

pub evict-requires-clause-absent : goal.evict-requires-clause-absent
evict-requires-clause-absent g c = still-none _ _ _ c.reserve.ensures.queues c.in-None.ensures.absent

pub returns-in-Some-clause-accessed : goal.returns-in-Some-clause-accessed
returns-in-Some-clause-accessed g c =
    by-plan (sieve_plan c.args.capacity (g.K.KeyName.key c.args.key) c.args.own_number) _ _ _ _ _ _ _ refl
    (hit-plan (item_of (g.K.KeyName.key c.args.key)) (queues c.args.table.now) _ (counts 1) (goes c.args.own_number 0) c.args.own_number _ _ c.in-Some.ensures.stands)
    (c.hit.ensures (counts 1) _ _ _ c.recount-own.ensures.own)

pub returns-then-has_room-clause-accessed : goal.returns-then-has_room-clause-accessed
returns-then-has_room-clause-accessed g c =
    let none = still-none _ _ _ c.reserve.ensures.queues c.in-None.ensures.absent in
    by-plan (sieve_plan c.args.capacity (g.K.KeyName.key c.args.key) c.args.own_number) _ _ _ _ _ _ _ c.reserve.ensures.queues
    (join-plan (item_of (g.K.KeyName.key c.args.key)) (queues c.reserve.new.self) _ (counts 1) (goes c.args.own_number 0) c.args.own_number _ none (sym c.has_room.ensures ∙ c.if-has_room.true))
    (c.kept.ensures (goes c.args.own_number 0) _ _ _ c.join_apart-own.ensures.own)

pub returns-else-has_room-clause-accessed : goal.returns-else-has_room-clause-accessed
returns-else-has_room-clause-accessed g c =
    let none = still-none _ _ _ c.reserve.ensures.queues c.in-None.ensures.absent in
    by-plan (sieve_plan c.args.capacity (g.K.KeyName.key c.args.key) c.args.own_number) _ _ _ _ _ _ _ c.reserve.ensures.queues
    (full-plan (item_of (g.K.KeyName.key c.args.key)) (queues c.reserve.new.self) _ (counts 1) (goes c.args.own_number 0) c.args.own_number (sieve_eviction_plan c.args.capacity c.args.own_number (queues c.reserve.new.self)) none (sym c.has_room.ensures ∙ c.if-has_room.false)) c.evict.ensures
