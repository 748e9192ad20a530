use Rattle.std.proofs.Common.{◌∙◌, List, ap, sym}
use Rattle.queue_table.specs.declared.slot.Slot.{Slot}
use Rattle.queue_table.specs.QueueTable.{queues}
use Rattle.queue_table.specs.Moves.{item_of, standing}
use Rattle.queue_table.proofs.Laws.{tabled-in, held-standing}
use Rattle.queue_table.proofs.key_queues.KeyQueues.find.Goals as goal

pub returns-clause-stands : goal.returns-clause-stands
returns-clause-stands g c =
    let f = c.in_ok-found.ensures in
    let is = c.item.ensures ∙ g.met.K.KeyName.item_is c.args.key in
    ap (λ (x : List Slot). standing (item_of (g.K.KeyName.key c.args.key)) (queues x)) (sym c.self.view_is)
    ∙ held-standing _ (item_of (g.K.KeyName.key c.args.key)) _ _ c.self.inside.table (tabled-in c.self.inside.table c.self.invariant f.distinct) record { used = f.used; entry = rw is at f.entry } (rw is at f.queue)
