use Rattle.std.proofs.lemmas.Bool.Decides.{nat_tests}
use Rattle.std.proofs.Common.{◌≡◌, ◌∙◌, ap, List, map, suc, arith}
use Rattle.queue_table.specs.Entries.{items_of}
use Rattle.queue_table.specs.Ring.{Slot, entries, newers, slot_item, walk, lists}
use Rattle.queue_table.proofs.Kept.{listed, some-slots}
use Rattle.queue_table.proofs.queue_table.QueueTable.list.Goals as goal

pub returns : goal.returns
returns g c =
    let e : map (λ k. slot_item (entries (map g.K.Slot.RingSlot.shown c.deref.result.now)) k) (walk (newers (map g.K.Slot.RingSlot.shown c.deref.result.now)) (suc c.args.queue) c.of.result) ≡ items_of (lists c.args.self.now c.args.queue) =
    rw (ap (map g.K.Slot.RingSlot.shown) c.deref.ensures.value, c.of.ensures) (listed (map g.K.Slot.RingSlot.shown c.self.inside.slots.items) c.self.inside.index c.self.inside.lengths c.args.queue c.requires c.self.invariant) ∙ ap (λ (s : List Slot). items_of (lists s c.args.queue)) c.self.view_is in
    rw e at c.items_in.ensures

pub items_in-requires-clause-ring : goal.items_in-requires-clause-ring
items_in-requires-clause-ring g c some = grind (arith, nat_tests, some-slots)
