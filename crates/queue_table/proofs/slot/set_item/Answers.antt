use Rattle.std.proofs.Common.{◌∙◌, ap, map, set, sym}
use Rattle.queue_table.specs.Entries.{Entry, entry}
use Rattle.queue_table.specs.Ring.{Slot}
use Rattle.queue_table.proofs.SlotWrites.{shown-set, shown-kept, shown-at}
use Rattle.queue_table.proofs.slot.set_item.Goals as goal

pub returns : goal.returns
returns g c =
    let there = shown-at g.K.Slot.RingSlot.shown (λ (s : Slot). entry s.item s.count) c.args.slots.now c.args.at c.index-slots-at.result (entry record { key = 0; node = 0 } 0) c.requires c.index-slots-at.is ∙ ap (λ x. entry (g.K.Slot.RingSlot.shown x).item (g.K.Slot.RingSlot.shown x).count) c.index-slots-at.is in
    record {
      newers = shown-kept g.K.Slot.RingSlot.shown (λ (s : Slot). s.newer) c.args.slots.now c.args.at _ c.index-slots-at.result (ap (λ (s : Slot). s.newer) c.put_in.ensures);
      olders = shown-kept g.K.Slot.RingSlot.shown (λ (s : Slot). s.older) c.args.slots.now c.args.at _ c.index-slots-at.result (ap (λ (s : Slot). s.older) c.put_in.ensures);
      entries = shown-set g.K.Slot.RingSlot.shown (λ (s : Slot). entry s.item s.count) c.args.slots.now c.args.at _ ∙ (ap (λ (s : Slot). set (map (λ (s : Slot). entry s.item s.count) (map g.K.Slot.RingSlot.shown c.args.slots.now)) c.args.at (entry s.item s.count)) c.put_in.ensures ∙ ap (λ (e : Entry). set (map (λ (s : Slot). entry s.item s.count) (map g.K.Slot.RingSlot.shown c.args.slots.now)) c.args.at (entry (g.K.TableItem.item c.args.to) e.count)) (sym there));
      tags = shown-kept g.K.Slot.RingSlot.shown (λ (s : Slot). s.queue) c.args.slots.now c.args.at _ c.index-slots-at.result (ap (λ (s : Slot). s.queue) c.put_in.ensures);
    }
