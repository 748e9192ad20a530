use Rattle.std.proofs.Common.{None, Some}
use Rattle.queue_table.specs.QueueTable.{queues}
use Rattle.segments.specs.Queues.{queues_after_push}
use Rattle.segments.proofs.NamedQueues.{IsMade, absent-below, pushed}
use Rattle.segments.proofs.segments.Segments.push_recent.Goals as goal
use Rattle.segments.proofs.segments.Segments.push_recent.Goals.{After-push}

made : (c : goal.After-push) → IsMade record { item = c.args.item; from = None; to = Some c.args.queue } (queues_after_push c.args.queue c.args.item c.args.self.now.lists) c.args.self.now.lists (queues c.push.new.self)
made c = pushed _ _ _ c.self.view_is c.self.invariant c.push.ensures.distinct c.args.queue c.args.item _ _ c.number.ensures.number c.requires.absent c.push.ensures.queues

pub push-requires-clause-absent : goal.push-requires-clause-absent
push-requires-clause-absent c = absent-below _ _ _ c.self.view_is c.self.invariant c.args.item c.requires.absent

pub invariant_of-self : goal.invariant_of-self
invariant_of-self c = (made (goal.at.invariant_of-self c).After-push).kept

pub returns-clause-lists : goal.returns-clause-lists
returns-clause-lists c = (made (goal.at.returns-clause-lists c).After-push).lists

pub returns-clause-record : goal.returns-clause-record
returns-clause-record c = (made (goal.at.returns-clause-record c).After-push).recorded
