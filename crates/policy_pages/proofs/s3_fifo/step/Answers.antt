use Rattle.std.proofs.Common.{false, ◌∙◌, sym, subst, arith}
use Rattle.queue_table.specs.Queues.{Queues}
use Rattle.queue_table.specs.QueueTable.{queues}
use Rattle.policy_pages.specs.S3Fifo.{hit_count, IsS3Fifo}
use Rattle.queue_table.specs.Moves.{item_of, counts}
use Rattle.queue_table.specs.Undoing.{IsOwn}
use Rattle.policy_pages.specs.S3FifoPlan.{SMALL, MAIN, GHOST, s3_fifo_of, plan_at}
use Rattle.policy_pages.proofs.MissedKey.{new-outside}
use Rattle.policy_pages.proofs.Plans.{found-accessed, new-accessed}
use Rattle.policy_pages.proofs.s3_fifo.step.Goals as goal

pub returns-then-is_resident-clause-accessed : goal.returns-then-is_resident-clause-accessed
returns-then-is_resident-clause-accessed g c =
    let s : Queues = queues c.args.table.now in
    let u : Queues = queues c.recount-own.new.self in
    let own = subst (λ n. IsOwn (counts n) (item_of (g.K.KeyName.key c.args.key)) s u c.recount-own.result) c.one_hit_more.ensures c.recount-own.ensures.own in
    found-accessed (λ at. plan_at c.args.part c.args.capacity c.args.own_number at s) (item_of (g.K.KeyName.key c.args.key)) c.args.own_number s u _ _ c.in-Some.ensures.stands
    (rw (sym c.is_resident.ensures ∙ c.if-is_resident.true) (c.hit.ensures (counts (hit_count c.in-Some.found.count)) (item_of (g.K.KeyName.key c.args.key)) s u own))

pub miss-requires-clause-state : goal.miss-requires-clause-state
miss-requires-clause-state g c = subst (λ s. IsS3Fifo c.args.part c.args.capacity (s3_fifo_of s)) (sym c.in_ok-reserve.ensures.queues) c.requires.state

pub miss-requires-clause-outside : goal.miss-requires-clause-outside
miss-requires-clause-outside g c = new-outside false (item_of (g.K.KeyName.key c.args.key)) SMALL MAIN GHOST _ _ (omega arith) (omega arith) (omega arith) c.in_ok-reserve.ensures.queues c.in_default.ensures.absent c.in_ok-reserve.ensures.room

pub returns-in_default-clause-accessed : goal.returns-in_default-clause-accessed
returns-in_default-clause-accessed g c =
    new-accessed (plan_at c.args.part c.args.capacity c.args.own_number) (item_of (g.K.KeyName.key c.args.key)) c.args.own_number _ _ _ _ c.in_ok-reserve.ensures.queues c.in_default.ensures.absent c.miss.ensures
