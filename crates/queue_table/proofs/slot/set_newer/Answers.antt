use Rattle.std.proofs.Common.{◌∙◌, ap, map, set}
use Rattle.queue_table.specs.Entries.{entry}
use Rattle.queue_table.specs.Ring.{Slot}
use Rattle.queue_table.proofs.SlotWrites.{shown-set, shown-kept}
use Rattle.queue_table.proofs.slot.set_newer.Goals as goal

pub returns-clause-newers : goal.returns-clause-newers
returns-clause-newers g c = shown-set g.S.RingSlot.shown (λ (s : Slot). s.newer) c.args.slots.now c.args.at _ ∙ ap (λ (s : Slot). set (map (λ (s : Slot). s.newer) (map g.S.RingSlot.shown c.args.slots.now)) c.args.at ((λ (s : Slot). s.newer) s)) c.set_newer.ensures

pub returns-clause-olders : goal.returns-clause-olders
returns-clause-olders g c = shown-kept g.S.RingSlot.shown (λ (s : Slot). s.older) c.args.slots.now c.args.at _ c.index-slots-at.result (ap (λ (s : Slot). s.older) c.set_newer.ensures)

pub returns-clause-only : goal.returns-clause-only
returns-clause-only g c = record {
  entries = shown-kept g.S.RingSlot.shown (λ (s : Slot). entry s.item s.count) c.args.slots.now c.args.at _ c.index-slots-at.result (ap (λ (s : Slot). entry s.item s.count) c.set_newer.ensures);
  tags = shown-kept g.S.RingSlot.shown (λ (s : Slot). s.queue) c.args.slots.now c.args.at _ c.index-slots-at.result (ap (λ (s : Slot). s.queue) c.set_newer.ensures);
}
