use Rattle.std.proofs.Common.{false, arith}
use Rattle.std.proofs.lemmas.Bool.{eq-eqb}
use Rattle.queue_table.specs.QueueTable.{queues}
use Rattle.queue_table.specs.Moves.{item_of, stays, goes}
use Rattle.policy_pages.specs.TwoQPlan.{A1IN, A1OUT, AM, plan_at}
use Rattle.policy_pages.proofs.MissedKey.{new-outside}
use Rattle.policy_pages.proofs.Plans.{found-accessed, new-accessed}
use Rattle.policy_pages.proofs.two_q.step.Goals as goal

pub returns-then-found-eq-AM-clause-accessed : goal.returns-then-found-eq-AM-clause-accessed
returns-then-found-eq-AM-clause-accessed g c =
    let s = queues c.args.table.now in
    found-accessed (λ at. plan_at c.args.sizes c.args.capacity c.args.own_number at s) (item_of (g.K.KeyName.key c.args.key)) c.args.own_number s _ _ _ c.in-Some.ensures.stands
    (rw (eq-eqb c.in-Some.found.queue AM c.if-found-eq-AM.true) (c.hit.ensures (goes AM 0) (item_of (g.K.KeyName.key c.args.key)) s _ c.send.ensures.own))

pub returns-then-found-eq-A1IN-clause-accessed : goal.returns-then-found-eq-A1IN-clause-accessed
returns-then-found-eq-A1IN-clause-accessed g c =
    let s = queues c.args.table.now in
    found-accessed (λ at. plan_at c.args.sizes c.args.capacity c.args.own_number at s) (item_of (g.K.KeyName.key c.args.key)) c.args.own_number s _ _ _ c.in-Some.ensures.stands
    (rw c.if-found-eq-A1IN.true (c.hit-then-found-eq-A1IN.ensures stays (item_of (g.K.KeyName.key c.args.key)) s s (rw c.key.ensures at (c.unmoved.ensures s))))

pub miss-requires : goal.miss-requires
miss-requires g c = record {
  outside = new-outside false (item_of (g.K.KeyName.key c.args.key)) A1IN AM A1OUT _ _ (omega arith) (omega arith) (omega arith) c.in_ok-reserve.ensures.queues c.in_default.ensures.absent c.in_ok-reserve.ensures.room;
}

pub returns-in_default-clause-accessed : goal.returns-in_default-clause-accessed
returns-in_default-clause-accessed g c =
    new-accessed (plan_at c.args.sizes c.args.capacity c.args.own_number) (item_of (g.K.KeyName.key c.args.key)) c.args.own_number _ _ _ _ c.in_ok-reserve.ensures.queues c.in_default.ensures.absent c.miss.ensures
