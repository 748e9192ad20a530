use Rattle.queue_table.specs.Entries.{entry}
use Rattle.queue_table.specs.Ring.{Slot}
use Rattle.queue_table.proofs.SlotWrites.{shown-at}
use Rattle.queue_table.proofs.slot.entry_of.Goals as goal

pub returns : goal.returns
returns g c =
    rw (c.item.ensures, c.count.ensures) (shown-at g.S.RingSlot.shown (λ (s : Slot). entry s.item s.count) c.args.slots.now c.args.at _ _ c.requires c.index-slots-at.is)
