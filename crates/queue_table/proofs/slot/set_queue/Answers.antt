use Rattle.std.proofs.Common.{◌∙◌, ap, map, set}
use Rattle.queue_table.specs.Entries.{entry}
use Rattle.queue_table.specs.Ring.{Slot}
use Rattle.queue_table.proofs.SlotWrites.{shown-set, shown-kept}
use Rattle.queue_table.proofs.slot.set_queue.Goals as goal

pub returns-clause-newers : goal.returns-clause-newers
returns-clause-newers g c = shown-kept g.S.RingSlot.shown (λ (s : Slot). s.newer) c.args.slots.now c.args.at _ c.index-slots-at.result (ap (λ (s : Slot). s.newer) c.set_queue.ensures)

pub returns-clause-olders : goal.returns-clause-olders
returns-clause-olders g c = shown-kept g.S.RingSlot.shown (λ (s : Slot). s.older) c.args.slots.now c.args.at _ c.index-slots-at.result (ap (λ (s : Slot). s.older) c.set_queue.ensures)

pub returns-clause-entries : goal.returns-clause-entries
returns-clause-entries g c = shown-kept g.S.RingSlot.shown (λ (s : Slot). entry s.item s.count) c.args.slots.now c.args.at _ c.index-slots-at.result (ap (λ (s : Slot). entry s.item s.count) c.set_queue.ensures)

pub returns-clause-tags : goal.returns-clause-tags
returns-clause-tags g c = shown-set g.S.RingSlot.shown (λ (s : Slot). s.queue) c.args.slots.now c.args.at _ ∙ ap (λ (s : Slot). set (map (λ (s : Slot). s.queue) (map g.S.RingSlot.shown c.args.slots.now)) c.args.at ((λ (s : Slot). s.queue) s)) c.set_queue.ensures
