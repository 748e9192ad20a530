use Rattle.std.proofs.Common.{map, List, subst}
use Rattle.queue_table.specs.Queues.{IsDistinct}
use Rattle.queue_table.specs.Ring.{Slot, lists}
use Rattle.queue_table.proofs.Kept.{distinct-in}
use Rattle.queue_table.proofs.queue_table.QueueTable.distinct.Goals as goal

pub returns : goal.returns
returns g c = subst (λ (s : List Slot). IsDistinct (lists s)) c.self.view_is (distinct-in (map g.K.Slot.RingSlot.shown c.self.inside.slots.items) _ _ c.self.invariant)
