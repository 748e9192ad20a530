use Rattle.std.proofs.Common.{rules, None, Some, sym}
use Rattle.queue_table.specs.QueueTable.{queues}
use Rattle.segments.specs.Queues.{queues_without}
use Rattle.segments.proofs.QueueLists.{taken-unplaced}
use Rattle.segments.proofs.NamedQueues.{IsMade, holding-is, missing-is, taken}
use Rattle.segments.proofs.segments.Segments.take_out.Goals as goal
use Rattle.segments.proofs.segments.Segments.take_out.Goals.{After-queue_place}

made : (c : goal.After-queue_place) → IsMade record { item = c.args.item; from = Some c.queue_place.result; to = None } (queues_without c.args.item c.args.self.now.lists) c.args.self.now.lists (queues c.remove-place.new.self)
made c =
    taken _ _ _ c.self.view_is c.self.invariant c.find.ensures.distinct _ _ _ _ c.in_ok-found.ensures.entry c.remove-place.ensures.place c.queue_place.ensures _
    c.remove-place.ensures.queues

pub invariant_of-self : goal.invariant_of-self
invariant_of-self c = (made (goal.at.invariant_of-self c).After-queue_place).kept

pub returns-in_err-found-clause-absent : goal.returns-in_err-found-clause-absent
returns-in_err-found-clause-absent c =
    let none = missing-is _ _ _ c.self.view_is c.self.invariant c.find.ensures.distinct c.args.item c.in_err-found.ensures.missing in
    search rules

pub returns-in_err-found-clause-lists : goal.returns-in_err-found-clause-lists
returns-in_err-found-clause-lists c =
    sym (taken-unplaced c.args.item c.args.self.now.lists (missing-is _ _ _ c.self.view_is c.self.invariant c.find.ensures.distinct c.args.item c.in_err-found.ensures.missing))

pub returns-clause-absent : goal.returns-clause-absent
returns-clause-absent c =
    let some = holding-is _ _ _ c.self.view_is c.self.invariant c.find.ensures.distinct c.args.item _ c.in_ok-found.ensures.queue in
    search rules

pub returns-clause-lists : goal.returns-clause-lists
returns-clause-lists c = (made (goal.at.returns-clause-lists c).After-queue_place).lists

pub returns-clause-record : goal.returns-clause-record
returns-clause-record c = (made (goal.at.returns-clause-record c).After-queue_place).recorded
