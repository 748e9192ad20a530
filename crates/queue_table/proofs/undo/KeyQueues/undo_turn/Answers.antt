use Rattle.std.proofs.Common.{◌∙◌, ◌+◌, List, None, ap, sym, subst}
use Rattle.queue_table.specs.Entries.{entry}
use Rattle.queue_table.specs.Queues.{after_removal, after_return}
use Rattle.queue_table.specs.QueueTable.{queues}
use Rattle.queue_table.specs.Undoing.{turned_back, before_turn}
use Rattle.queue_table.specs.Tabled.{Slot, Entry, HasKeys}
use Rattle.queue_table.proofs.Laws.{keys-back, newest-node}
use Rattle.queue_table.proofs.undo.KeyQueues.undo_turn.Goals as goal

pub invariant_of-self : goal.invariant_of-self
invariant_of-self c =
    subst HasKeys (sym (c.send_to.ensures.queues ∙ ap (λ (e : Entry). after_return c.args.from None (entry e.item (c.in-Some.newest.count + c.args.less)) (after_removal e.item (queues c.self.inside.table))) c.in-Some.ensures.entry))
    (keys-back c.args.from None (entry c.in-Some.newest.item (c.in-Some.newest.count + c.args.less)) (queues c.self.inside.table) (newest-node c.in-Some.newest (queues c.self.inside.table c.args.to) (c.self.invariant c.args.to) c.in-Some.ensures.last) c.self.invariant)

pub returns : goal.returns
returns c =
    c.send_to.ensures.queues
    ∙ ap (λ (e : Entry). after_return c.args.from None (entry e.item (c.in-Some.newest.count + c.args.less)) (after_removal e.item (queues c.self.inside.table))) c.in-Some.ensures.entry
    ∙ sym (ap (λ o. turned_back c.args.from c.args.less o (queues c.self.inside.table)) c.in-Some.ensures.last)
    ∙ ap (λ (x : List Slot). before_turn c.args.from c.args.to c.args.less (queues x)) c.self.view_is
