use Rattle.std.proofs.Common.{rules, Some}
use Rattle.queue_table.specs.QueueTable.{queues}
use Rattle.segments.specs.Queues.{queues_after_move}
use Rattle.segments.proofs.NamedQueues.{IsMade, holding-is, missing-is, sent}
use Rattle.segments.proofs.segments.Segments.move_recent.Goals as goal
use Rattle.segments.proofs.segments.Segments.move_recent.Goals.{After-queue_place}

made : (c : goal.After-queue_place) → IsMade record { item = c.args.item; from = Some c.queue_place.result; to = Some c.args.queue } (queues_after_move c.args.item c.args.queue c.args.self.now.lists) c.args.self.now.lists (queues c.send-place.new.self)
made c =
    sent _ _ _ c.self.view_is c.self.invariant c.find.ensures.distinct _ _ _ _ c.in-Some.ensures.entry c.send-place.ensures.place c.queue_place.ensures _
    c.args.queue _ c.number.ensures.number c.send-place.ensures.queues

pub invariant_of-self : goal.invariant_of-self
invariant_of-self c = (made (goal.at.invariant_of-self c).After-queue_place).kept

pub returns-in_default-clause-absent : goal.returns-in_default-clause-absent
returns-in_default-clause-absent c =
    let none = missing-is _ _ _ c.self.view_is c.self.invariant c.find.ensures.distinct c.args.item c.in_default.ensures.missing in
    search rules

pub returns-clause-absent : goal.returns-clause-absent
returns-clause-absent c =
    let some = holding-is _ _ _ c.self.view_is c.self.invariant c.find.ensures.distinct c.args.item _ c.in-Some.ensures.queue in
    search rules

pub returns-clause-lists : goal.returns-clause-lists
returns-clause-lists c = (made (goal.at.returns-clause-lists c).After-queue_place).lists

pub returns-clause-record : goal.returns-clause-record
returns-clause-record c = (made (goal.at.returns-clause-record c).After-queue_place).recorded
