use Rattle.std.proofs.Common.{◌∙◌, List, Option, refl, ap, sym, subst}
use Rattle.queue_table.specs.Entries.{Item, entry}
use Rattle.queue_table.specs.Queues.{after_removal, after_return}
use Rattle.queue_table.specs.QueueTable.{queues}
use Rattle.queue_table.specs.Moves.{item_of}
use Rattle.queue_table.specs.Undoing.{item_in}
use Rattle.queue_table.specs.Tabled.{Slot, HasKeys}
use Rattle.queue_table.proofs.Laws.{keys-back}
use Rattle.queue_table.proofs.undo.KeyQueues.put_back.Goals as goal

pub invariant_of-self : goal.invariant_of-self
invariant_of-self c =
    subst HasKeys (sym c.put_back.ensures.queues) (keys-back c.args.queue _ (entry (item_of c.args.key) c.args.count) (queues c.self.inside.table) refl c.self.invariant)

pub returns-clause-queues : goal.returns-clause-queues
returns-clause-queues c =
    c.put_back.ensures.queues
    ∙ ap (λ (o : Option Item). after_return c.args.queue o (entry (item_of c.args.key) c.args.count) (after_removal (item_of c.args.key) (queues c.self.inside.table))) c.item_in.ensures
    ∙ ap (λ (x : List Slot). after_return c.args.queue (item_in c.args.older) (entry (item_of c.args.key) c.args.count) (after_removal (item_of c.args.key) (queues x))) c.self.view_is
