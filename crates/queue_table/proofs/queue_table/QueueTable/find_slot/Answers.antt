use Rattle.std.proofs.lemmas.Bool.Decides.{nat_tests}
use Rattle.std.proofs.Common.{map, ap, sym, ◌≡◌, List, None, subst, arith}
use Rattle.std.proofs.lemmas.List.{length-map}
use Rattle.queue_table.specs.Index.{IsFound, IsIndexed}
use Rattle.queue_table.specs.Ring.{Slot, entries, slot_item, count, used, order_of, lists}
use Rattle.queue_table.specs.Queues.{queue_holding, IsDistinct}
use Rattle.queue_table.specs.QueueTable.{IsInSlots, IsSlotOf}
use Rattle.queue_table.proofs.Holding.{slot-found, slot-missing}
use Rattle.queue_table.proofs.Kept.{distinct-in, used-slot}
use Rattle.queue_table.proofs.queue_table.QueueTable.find_slot.Given as given
use Rattle.queue_table.proofs.queue_table.QueueTable.find_slot.Goals as goal
use Rattle.queue_table.proofs.queue_table.QueueTable.find_slot.Goals.{After-deref, After-find}

-- slots and index hold together
held-there : (g : given.Over) (c : goal.After-deref g) → IsInSlots (map g.K.Slot.RingSlot.shown c.self.inside.slots.items) c.self.inside.index (order_of (map g.K.Slot.RingSlot.shown c.self.inside.slots.items))
held-there g c = c.self.invariant.held (grind (arith, nat_tests, length-map c.self.inside.slots.items g.K.Slot.RingSlot.shown))

found-there : (g : given.Over) (c : goal.After-find g) → IsInSlots (map g.K.Slot.RingSlot.shown c.self.inside.slots.items) c.self.inside.index (order_of (map g.K.Slot.RingSlot.shown c.self.inside.slots.items))
    → IsFound c.args.item (slot_item (entries (map g.K.Slot.RingSlot.shown c.self.inside.slots.items))) (λ k. count k (used (order_of (map g.K.Slot.RingSlot.shown c.self.inside.slots.items)))) c.find.result
found-there g c h =
    subst (λ s. IsFound c.args.item (slot_item (entries (map g.K.Slot.RingSlot.shown s))) (λ k. count k (used (order_of (map g.K.Slot.RingSlot.shown c.self.inside.slots.items)))) c.find.result) c.deref.ensures.value
    (c.find.ensures (λ k. count k (used (order_of (map g.K.Slot.RingSlot.shown c.self.inside.slots.items)))) (subst (λ s. IsIndexed c.self.inside.index (slot_item (entries (map g.K.Slot.RingSlot.shown s))) (λ k. count k (used (order_of (map g.K.Slot.RingSlot.shown c.self.inside.slots.items))))) (sym c.deref.ensures.value) h.indexed))

pub find-requires : goal.find-requires
find-requires g c =
    let h = held-there g (goal.at.find-requires g c).After-deref in
    record {
      item_of = slot_item (entries (map g.K.Slot.RingSlot.shown c.self.inside.slots.items));
      used = λ k. count k (used (order_of (map g.K.Slot.RingSlot.shown c.self.inside.slots.items)));
      indexed = h.indexed;
      within = λ k u. rw (ap (map g.K.Slot.RingSlot.shown) c.deref.ensures.value) (used-slot (map g.K.Slot.RingSlot.shown c.self.inside.slots.items) k h.queued u).1;
    }

pub returns-in-0-clause-missing : goal.returns-in-0-clause-missing
returns-in-0-clause-missing g c =
    let at = goal.at.returns-in-0-clause-missing g c in
    subst (λ (s : List Slot). queue_holding c.args.item (lists s) ≡ None) c.self.view_is (slot-missing (map g.K.Slot.RingSlot.shown c.self.inside.slots.items) c.args.item c.find.result (found-there g at.After-find (held-there g at.After-deref)) c.in-0.is)

pub returns-in_default-clause-there : goal.returns-in_default-clause-there
returns-in_default-clause-there g c =
    let at = goal.at.returns-in_default-clause-there g c in
    let h = held-there g at.After-deref in
    subst (IsSlotOf c.find.result c.args.item) c.self.view_is (slot-found (map g.K.Slot.RingSlot.shown c.self.inside.slots.items) c.args.item c.find.result (found-there g at.After-find h) h.queued (omega arith))

pub returns-in-0-clause-distinct : goal.returns-in-0-clause-distinct
returns-in-0-clause-distinct g c = subst (λ (s : List Slot). IsDistinct (lists s)) c.self.view_is (distinct-in (map g.K.Slot.RingSlot.shown c.self.inside.slots.items) _ _ c.self.invariant)

pub returns-in_default-clause-distinct : goal.returns-in_default-clause-distinct
returns-in_default-clause-distinct g c = subst (λ (s : List Slot). IsDistinct (lists s)) c.self.view_is (distinct-in (map g.K.Slot.RingSlot.shown c.self.inside.slots.items) _ _ c.self.invariant)

pub returns-then-is_empty-clause-distinct : goal.returns-then-is_empty-clause-distinct
returns-then-is_empty-clause-distinct g c = subst (λ (s : List Slot). IsDistinct (lists s)) c.self.view_is (distinct-in (map g.K.Slot.RingSlot.shown c.self.inside.slots.items) _ _ c.self.invariant)
