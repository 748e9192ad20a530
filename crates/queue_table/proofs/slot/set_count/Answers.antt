use Rattle.std.proofs.Common.{◌∙◌, ap, map, set, sym}
use Rattle.queue_table.specs.Entries.{Entry, entry}
use Rattle.queue_table.specs.Ring.{Slot}
use Rattle.queue_table.proofs.SlotWrites.{shown-set, shown-kept, shown-at}
use Rattle.queue_table.proofs.slot.set_count.Goals as goal

pub returns : goal.returns
returns g c =
    let there = shown-at g.S.RingSlot.shown (λ (s : Slot). entry s.item s.count) c.args.slots.now c.args.at c.index-slots-at.result (entry record { key = 0; node = 0 } 0) c.requires c.index-slots-at.is ∙ ap (λ x. entry (g.S.RingSlot.shown x).item (g.S.RingSlot.shown x).count) c.index-slots-at.is in
    record {
      newers = shown-kept g.S.RingSlot.shown (λ (s : Slot). s.newer) c.args.slots.now c.args.at _ c.index-slots-at.result (ap (λ (s : Slot). s.newer) c.set_count.ensures);
      olders = shown-kept g.S.RingSlot.shown (λ (s : Slot). s.older) c.args.slots.now c.args.at _ c.index-slots-at.result (ap (λ (s : Slot). s.older) c.set_count.ensures);
      entries = shown-set g.S.RingSlot.shown (λ (s : Slot). entry s.item s.count) c.args.slots.now c.args.at _ ∙ (ap (λ (s : Slot). set (map (λ (s : Slot). entry s.item s.count) (map g.S.RingSlot.shown c.args.slots.now)) c.args.at (entry s.item s.count)) c.set_count.ensures ∙ ap (λ (e : Entry). set (map (λ (s : Slot). entry s.item s.count) (map g.S.RingSlot.shown c.args.slots.now)) c.args.at (entry e.item c.args.to)) (sym there));
      tags = shown-kept g.S.RingSlot.shown (λ (s : Slot). s.queue) c.args.slots.now c.args.at _ c.index-slots-at.result (ap (λ (s : Slot). s.queue) c.set_count.ensures);
    }
