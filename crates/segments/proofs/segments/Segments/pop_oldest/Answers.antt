use Rattle.std.proofs.Common.{None, Some}
use Rattle.queue_table.specs.QueueTable.{queues}
use Rattle.segments.specs.Queues.{queues_after_pop}
use Rattle.segments.proofs.NamedQueues.{IsMade, popped}
use Rattle.segments.proofs.segments.Segments.pop_oldest.Goals as goal
use Rattle.segments.proofs.segments.Segments.pop_oldest.Goals.{After-queue_place}

made : (c : goal.After-queue_place) → IsMade record { item = c.in-Some.oldest.item; from = Some c.queue_place.result; to = None } (queues_after_pop c.args.queue c.args.self.now.lists) c.args.self.now.lists (queues c.remove-place.new.self)
made c =
    popped _ _ _ c.self.view_is c.self.invariant c.distinct.ensures _ _ _ _ c.in-Some.ensures.entry c.remove-place.ensures.place c.queue_place.ensures _
    c.args.queue _ c.number.ensures.number c.in-Some.ensures.first c.remove-place.ensures.queues

pub invariant_of-self : goal.invariant_of-self
invariant_of-self c = (made (goal.at.invariant_of-self c).After-queue_place).kept

pub returns-clause-lists : goal.returns-clause-lists
returns-clause-lists c = (made (goal.at.returns-clause-lists c).After-queue_place).lists

pub returns-clause-record : goal.returns-clause-record
returns-clause-record c = (made (goal.at.returns-clause-record c).After-queue_place).recorded
