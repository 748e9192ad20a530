use Rattle.std.proofs.Common.{◌∙◌, ap, sym}
use Rattle.queue_table.specs.Entries.{Entry, entry}
use Rattle.queue_table.specs.Ring.{Slot}
use Rattle.queue_table.proofs.SlotWrites.{shown-at}
use Rattle.queue_table.proofs.slot.item_of.Goals as goal

pub returns : goal.returns
returns g c =
    ap (λ (e : Entry). e.item) (shown-at g.S.RingSlot.shown (λ (s : Slot). entry s.item s.count) c.args.slots.now c.args.at _ _ c.requires c.index-slots-at.is) ∙ sym c.item.ensures
