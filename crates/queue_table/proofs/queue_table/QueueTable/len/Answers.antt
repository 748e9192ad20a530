use Rattle.std.proofs.Common.{map, ◌∙◌, ap, List, length}
use Rattle.queue_table.specs.Ring.{Slot, lists}
use Rattle.queue_table.proofs.Kept.{length-queue}
use Rattle.queue_table.proofs.queue_table.QueueTable.len.Goals as goal

pub returns : goal.returns
returns g c = c.of.ensures ∙ (length-queue (map g.K.Slot.RingSlot.shown c.self.inside.slots.items) _ _ c.args.queue c.self.invariant c.requires ∙ ap (λ (s : List Slot). length (lists s c.args.queue)) c.self.view_is)
