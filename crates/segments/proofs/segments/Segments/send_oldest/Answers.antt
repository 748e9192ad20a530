use Rattle.std.proofs.Common.{Some}
use Rattle.queue_table.specs.QueueTable.{queues}
use Rattle.segments.specs.Queues.{queues_after_move}
use Rattle.segments.proofs.NamedQueues.{IsMade, sent}
use Rattle.segments.proofs.segments.Segments.send_oldest.Goals as goal
use Rattle.segments.proofs.segments.Segments.send_oldest.Goals.{After-queue_place}

made : (c : goal.After-queue_place) → IsMade record { item = c.in-Some.oldest.item; from = Some c.queue_place.result; to = Some c.args.to } (queues_after_move c.in-Some.oldest.item c.args.to c.args.self.now.lists) c.args.self.now.lists (queues c.send-place.new.self)
made c =
    sent _ _ _ c.self.view_is c.self.invariant c.distinct.ensures _ _ _ _ c.in-Some.ensures.entry c.send-place.ensures.place c.queue_place.ensures _
    c.args.to _ c.number-2.ensures.number c.send-place.ensures.queues

pub invariant_of-self : goal.invariant_of-self
invariant_of-self c = (made (goal.at.invariant_of-self c).After-queue_place).kept

pub returns-clause-lists : goal.returns-clause-lists
returns-clause-lists c = (made (goal.at.returns-clause-lists c).After-queue_place).lists

pub returns-clause-record : goal.returns-clause-record
returns-clause-record c = (made (goal.at.returns-clause-record c).After-queue_place).recorded
