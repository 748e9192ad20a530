use Rattle.std.proofs.Common.{map, ◌∙◌, ap, List}
use Rattle.queue_table.specs.Queues.{QUEUES, items_below}
use Rattle.queue_table.specs.Ring.{Slot, lists}
use Rattle.queue_table.proofs.Kept.{items-few, all-items}
use Rattle.queue_table.proofs.queue_table.QueueTable.count.Goals as goal

pub items-requires : goal.items-requires
items-requires g c = items-few (map g.K.Slot.RingSlot.shown c.self.inside.slots.items) _ _ c.self.invariant

pub returns : goal.returns
returns g c = c.items.ensures ∙ (all-items (map g.K.Slot.RingSlot.shown c.self.inside.slots.items) _ _ c.self.invariant ∙ ap (λ (s : List Slot). items_below QUEUES (lists s)) c.self.view_is)
