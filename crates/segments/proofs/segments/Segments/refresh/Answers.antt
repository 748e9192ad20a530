use Rattle.std.proofs.lemmas.Bool.Decides.{nat_tests}
use Rattle.std.proofs.Common.{arith, rules, Some, ◌∙◌, ap, sym}
use Rattle.queue_table.specs.QueueTable.{queues}
use Rattle.segments.specs.Queues.{Queue, queues_after_move}
use Rattle.segments.proofs.NamedQueues.{IsMade, distinct-shown, holding-is, missing-is, sent}
use Rattle.segments.proofs.segments.Segments.refresh.Goals as goal
use Rattle.segments.proofs.segments.Segments.refresh.Goals.{After-queue_place}

made : (c : goal.After-queue_place) → IsMade record { item = c.args.item; from = Some c.queue_place.result; to = Some c.queue_after_hit-to.result } (queues_after_move c.args.item c.queue_after_hit-to.result c.args.self.now.lists) c.args.self.now.lists (queues c.send-place.new.self)
made c =
    sent _ _ _ c.self.view_is c.self.invariant c.find.ensures.distinct _ _ _ _ c.in-Some.ensures.entry c.send-place.ensures.place c.queue_place.ensures _
    c.queue_after_hit-to.result _ c.number.ensures.number c.send-place.ensures.queues

pub invariant_of-self : goal.invariant_of-self
invariant_of-self c = (made (goal.at.invariant_of-self c).After-queue_place).kept

pub returns-in_default-clause-absent : goal.returns-in_default-clause-absent
returns-in_default-clause-absent c =
    let none = missing-is _ _ _ c.self.view_is c.self.invariant c.find.ensures.distinct c.args.item c.in_default.ensures.missing in
    search rules

pub returns-in_default-clause-distinct : goal.returns-in_default-clause-distinct
returns-in_default-clause-distinct c = distinct-shown _ _ _ c.self.view_is c.self.invariant c.find.ensures.distinct

pub returns-clause-absent : goal.returns-clause-absent
returns-clause-absent c =
    let some = holding-is _ _ _ c.self.view_is c.self.invariant c.find.ensures.distinct c.args.item _ c.in-Some.ensures.queue in
    search rules

pub returns-clause-place : goal.returns-clause-place
returns-clause-place c =
    holding-is _ _ _ c.self.view_is c.self.invariant c.find.ensures.distinct c.args.item _ c.in-Some.ensures.queue ∙ ap (λ (x : Queue). Some x) (sym c.name-from.ensures)

pub returns-clause-lists : goal.returns-clause-lists
returns-clause-lists c = (made (goal.at.returns-clause-lists c).After-queue_place).lists ∙ ap (λ (q : Queue). queues_after_move c.args.item q c.args.self.now.lists) c.queue_after_hit-to.ensures

pub returns-clause-record : goal.returns-clause-record
returns-clause-record c = grind (arith, nat_tests, made (goal.at.returns-clause-record c).After-queue_place)

pub returns-clause-distinct : goal.returns-clause-distinct
returns-clause-distinct c = distinct-shown _ _ _ c.self.view_is c.self.invariant c.find.ensures.distinct
