use Rattle.std.proofs.Common.{arith, ◌+◌, ◌≤◌, ◌∙◌, sym, subst, length}
use Rattle.queue_table.specs.Queues.{Queues}
use Rattle.queue_table.specs.QueueTable.{queues}
use Rattle.queue_table.specs.Moves.{item_of, counts}
use Rattle.policy_pages.proofs.Plans.{still-none, found-accessed, new-accessed}
use Rattle.policy_pages.proofs.QueueView.{length-counted}
use Rattle.policy_pages.specs.CarPlan.{T1, T2, plan_at}
use Rattle.policy_pages.proofs.CarPlan.{off-ghost}
use Rattle.policy_pages.proofs.car.step.Goals as goal

pub new_key-requires-clause-fits : goal.new_key-requires-clause-fits
new_key-requires-clause-fits g c =
    let s : Queues = queues c.args.table.now in
    subst (λ (u : Queues). length (u T1) + length (u T2) ≤ c.args.capacity) (sym c.in_ok-reserve.ensures.queues) (omega (arith, c.requires.state.fits, length-counted (s T1), length-counted (s T2)))

pub new_key-requires-clause-absent : goal.new_key-requires-clause-absent
new_key-requires-clause-absent g c = still-none _ _ _ c.in_ok-reserve.ensures.queues c.in_default.ensures.absent

pub returns-in_default-clause-accessed : goal.returns-in_default-clause-accessed
returns-in_default-clause-accessed g c =
    new-accessed (plan_at c.args.capacity c.args.own_number) (item_of (g.K.KeyName.key c.args.key)) c.args.own_number _ _ _ _ c.in_ok-reserve.ensures.queues c.in_default.ensures.absent c.new_key.ensures

pub returns-then-is_resident-clause-accessed : goal.returns-then-is_resident-clause-accessed
returns-then-is_resident-clause-accessed g c =
    let s = queues c.args.table.now in
    found-accessed (λ at. plan_at c.args.capacity c.args.own_number at s) (item_of (g.K.KeyName.key c.args.key)) c.args.own_number s _ _ _ c.in-Some.ensures.stands
    (rw (sym c.is_resident.ensures ∙ c.if-is_resident.true) (c.hit.ensures (counts 1) (item_of (g.K.KeyName.key c.args.key)) s _ c.recount.ensures.own))

pub recalled-requires-clause-few : goal.recalled-requires-clause-few
recalled-requires-clause-few g c =
    let s = queues c.args.table.now in
    omega (arith, c.requires.few, c.requires.state.fits, length-counted (s T1))

pub recalled-requires-clause-t1 : goal.recalled-requires-clause-t1
recalled-requires-clause-t1 g c = (off-ghost (g.K.KeyName.key c.args.key) c.in-Some.found.queue c.in-Some.found.count _ c.tabled.ensures c.in-Some.ensures.stands (sym c.is_resident.ensures ∙ c.if-is_resident.false)).0

pub recalled-requires-clause-t2 : goal.recalled-requires-clause-t2
recalled-requires-clause-t2 g c = (off-ghost (g.K.KeyName.key c.args.key) c.in-Some.found.queue c.in-Some.found.count _ c.tabled.ensures c.in-Some.ensures.stands (sym c.is_resident.ensures ∙ c.if-is_resident.false)).1

pub returns-clause-accessed : goal.returns-clause-accessed
returns-clause-accessed g c =
    let s = queues c.args.table.now in
    found-accessed (λ at. plan_at c.args.capacity c.args.own_number at s) (item_of (g.K.KeyName.key c.args.key)) c.args.own_number s _ _ _ c.in-Some.ensures.stands
    (rw (sym c.is_resident.ensures ∙ c.if-is_resident.false) c.recalled.ensures)
