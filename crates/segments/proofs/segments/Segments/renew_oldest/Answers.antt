use Rattle.std.proofs.Common.{None, Some}
use Rattle.queue_table.specs.QueueTable.{queues}
use Rattle.segments.specs.Queues.{queues_after_push, queues_after_pop}
use Rattle.segments.proofs.NamedQueues.{AreMade, absent-below, renewed}
use Rattle.segments.proofs.segments.Segments.renew_oldest.Goals as goal
use Rattle.segments.proofs.segments.Segments.renew_oldest.Goals.{After-queue_place}

made : (c : goal.After-queue_place) → AreMade record { item = c.in-Some.oldest.item; from = Some c.queue_place.result; to = None } record { item = c.args.item; from = None; to = Some c.args.queue }
    (queues_after_push c.args.queue c.args.item (queues_after_pop c.args.queue c.args.self.now.lists)) (queues_after_pop c.args.queue c.args.self.now.lists) c.args.self.now.lists (queues c.renew-place.new.self)
made c =
    renewed _ _ _ c.self.view_is c.self.invariant c.distinct.ensures _ _ _ _ c.in-Some.ensures.entry c.renew-place.ensures.place c.queue_place.ensures
    c.args.queue _ c.number.ensures.number c.in-Some.ensures.first c.args.item _ _ c.number-2.ensures.number c.requires.absent c.renew-place.ensures.queues

pub renew-place-requires-clause-absent : goal.renew-place-requires-clause-absent
renew-place-requires-clause-absent c = absent-below _ _ _ c.self.view_is c.self.invariant c.args.item c.requires.absent

pub invariant_of-self : goal.invariant_of-self
invariant_of-self c = (made (goal.at.invariant_of-self c).After-queue_place).put_made.kept

pub returns-clause-lists : goal.returns-clause-lists
returns-clause-lists c = (made (goal.at.returns-clause-lists c).After-queue_place).put_made.lists

pub returns-clause-out : goal.returns-clause-out
returns-clause-out c = (made (goal.at.returns-clause-out c).After-queue_place).out_recorded

pub returns-clause-put : goal.returns-clause-put
returns-clause-put c = (made (goal.at.returns-clause-put c).After-queue_place).put_made.recorded
