use Rattle.std.proofs.Common.{◌∙◌, sym}
use Rattle.queue_table.specs.Ring.{Slot}
use Rattle.queue_table.proofs.SlotWrites.{shown-at}
use Rattle.queue_table.proofs.slot.queue_of.Goals as goal

pub returns : goal.returns
returns g c = shown-at g.S.RingSlot.shown (λ (s : Slot). s.queue) c.args.slots.now c.args.at _ _ c.requires c.index-slots-at.is ∙ sym c.queue.ensures
