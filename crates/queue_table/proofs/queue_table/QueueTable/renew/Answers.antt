use Rattle.std.proofs.Common.{ap, map, inr, ◌≡◌, ◌∙◌, ◌<◌, ◌++◌, sym, subst, arith, List, suc, length, take, drop, refl, Some}
use Rattle.std.proofs.lemmas.List.{length-map}
use Rattle.queue_table.specs.Entries.{Item, entry}
use Rattle.queue_table.specs.Queues.{after_removal, place_in}
use Rattle.queue_table.specs.Ring.{Slot, entries, slot_item, count, used, order_of, order_without, sent, lists, IsSent}
use Rattle.queue_table.specs.QueueTable.{IsCounted, IsIndexOf, IsKept}
use Rattle.queue_table.proofs.QueueLists.{absent, still-absent}
use Rattle.queue_table.proofs.Kept.{known, on_view}
use Rattle.queue_table.proofs.Growing.{leaves, lacks}
use Rattle.queue_table.proofs.Moving.{IsLoose, with-item, used-loose, can-leave, can-go, in-index, recent-after, spare-same, others-stay, joins, kept-after}
use Rattle.queue_table.proofs.queue_table.QueueTable.renew.Given as given
use Rattle.queue_table.proofs.queue_table.QueueTable.renew.Goals as goal
use Rattle.queue_table.proofs.queue_table.QueueTable.renew.Goals.{After-deref_mut-slots, After-remove, After-set_item}

-- the slots are borrowed as they are
lent : (g : given.Over) (c : goal.After-deref_mut-slots g) → map g.K.Slot.RingSlot.shown c.deref_mut-slots.result.now ≡ c.args.self.now
lent g c = ap (map g.K.Slot.RingSlot.shown) c.deref_mut-slots.ensures.value ∙ c.self.view_is

loose : (g : given.Over) (c : goal.After-deref_mut-slots g) → IsLoose c.args.self.now c.self.inside.index c.self.inside.lengths c.args.at (after_removal (slot_item (entries c.args.self.now) c.args.at) (lists c.args.self.now))
loose g c = used-loose _ _ _ (subst (λ (s : List Slot). IsKept s c.self.inside.index c.self.inside.lengths) c.self.view_is c.self.invariant) c.args.at c.requires.used

-- the item that is read of it
itself : (g : given.Over) (c : goal.After-deref_mut-slots g) (i : Item) → slot_item (entries (map g.K.Slot.RingSlot.shown c.deref_mut-slots.result.now)) c.args.at ≡ i → slot_item (entries c.args.self.now) c.args.at ≡ i
itself g c i read = ap (λ (s : List Slot). slot_item (entries s) c.args.at) (sym (ap (map g.K.Slot.RingSlot.shown) c.deref_mut-slots.ensures.value ∙ c.self.view_is)) ∙ read

-- the slot leaves the index, and goes to its place with another item
without : (g : given.Over) (c : goal.After-remove g) → slot_item (entries c.args.self.now) c.args.at ≡ c.item_of-old.result → IsIndexOf c.self.inside.index (entries c.args.self.now) (used (order_of c.args.self.now)) → IsIndexOf c.remove.new.self (entries c.args.self.now) (used (order_without c.args.at (order_of c.args.self.now)))
without g c i x =
    c.remove.ensures.indexed (slot_item (entries c.args.self.now)) (λ j. count j (used (order_of c.args.self.now))) _ x
    (leaves c.args.self.now (order_of c.args.self.now) c.args.at _ _ i refl c.requires.used)

moved : (g : given.Over) (c : goal.After-set_item g) → c.args.at < length c.args.self.now → IsSent c.args.at c.args.queue c.slot_behind.result (entry (g.K.TableItem.item c.args.item) c.args.count) c.args.self.now (map g.K.Slot.RingSlot.shown (take c.self.inside.slots.len (c.set_item.new.slots ++ drop (length c.set_item.new.slots) c.self.inside.slots.items)))
moved g c within =
    let e = ap (map g.K.Slot.RingSlot.shown) c.deref_mut-slots.ensures.value ∙ c.self.view_is in
    on_view g.K.Slot.RingSlot.shown (IsSent c.args.at c.args.queue c.slot_behind.result (entry (g.K.TableItem.item c.args.item) c.args.count)) _ _ _ _ _ (omega arith) e
    (with-item _ _ _ _ _ _ _ _ (rw e within) c.send.ensures c.set_item.ensures)

pub leave-from-requires-clause-slot : goal.leave-from-requires-clause-slot
leave-from-requires-clause-slot g c =
    let a = (goal.at.leave-from-requires-clause-slot g c).After-deref_mut-slots in
    rw (lent g a) (can-leave _ _ _ (loose g a).kept c.args.at c.requires.used)

pub item_of-old-requires : goal.item_of-old-requires
item_of-old-requires g c = let a = (goal.at.item_of-old-requires g c).After-deref_mut-slots in rw (lent g a) (loose g a).within

pub remove-requires : goal.remove-requires
remove-requires g c =
    let at = goal.at.remove-requires g c in
    known _ _ c.args.at _ (itself g at.After-deref_mut-slots _ c.item_of-old.ensures) (loose g at.After-deref_mut-slots).held c.requires.used

pub insert-requires-clause-at : goal.insert-requires-clause-at
insert-requires-clause-at g c = rw c.remove.ensures.bits (in-index _ _ _ _ _ (loose g (goal.at.insert-requires-clause-at g c).After-deref_mut-slots))

pub insert-requires-clause-absent : goal.insert-requires-clause-absent
insert-requires-clause-absent g c =
    let at = goal.at.insert-requires-clause-absent g c in
    lacks c.args.self.now _ (order_of c.args.self.now) c.args.at (without g at.After-remove (itself g at.After-deref_mut-slots _ c.item_of-old.ensures) (loose g at.After-deref_mut-slots).held.indexed)

pub send-requires-clause-place : goal.send-requires-clause-place
send-requires-clause-place g c =
    let a = (goal.at.send-requires-clause-place g c).After-deref_mut-slots in
    rw (lent g a) (can-go _ _ _ _ _ (loose g a) (suc c.args.queue) c.slot_behind.result (inr c.slot_behind.ensures))

pub invariant_of-self : goal.invariant_of-self
invariant_of-self g c =
    let at = goal.at.invariant_of-self g c in
    let i = slot_item (entries c.args.self.now) c.args.at in
    let l = loose g at.After-deref_mut-slots in
    let m = moved g at.After-set_item l.within in
    kept-after _ _ _ _ _ _ _ _ _ l m c.insert.new.self c.leave-from.new.lengths (still-absent (g.K.TableItem.item c.args.item) i (lists c.args.self.now) (absent (g.K.TableItem.item c.args.item) (lists c.args.self.now) c.requires.absent))
    (c.insert.ensures.indexed (slot_item (entries c.args.self.now)) _ _ _ (without g at.After-remove (itself g at.After-deref_mut-slots _ c.item_of-old.ensures) l.held.indexed) (rw c.item.ensures (joins _ _ _ _ _ _ _ _ _ l m)))
    (subst (λ (s : List Slot). IsCounted c.leave-from.new.lengths (sent c.args.at (suc c.args.queue) c.slot_behind.result (order_of s))) (lent g at.After-deref_mut-slots) (c.leave-from.ensures.counted (suc c.args.queue) c.slot_behind.result c.section.ensures))
    (c.insert.ensures.bits ∙ c.remove.ensures.bits)

pub returns-clause-place : goal.returns-clause-place
returns-clause-place g c = subst (λ (s : List Slot). Some c.leave-from.result ≡ place_in (slot_item (entries s) c.args.at) (lists s)) (ap (map g.K.Slot.RingSlot.shown) c.deref_mut-slots.ensures.value ∙ c.self.view_is) c.leave-from.ensures.place

pub returns-clause-spare : goal.returns-clause-spare
returns-clause-spare g c = let at = goal.at.returns-clause-spare g c in let l = loose g at.After-deref_mut-slots in spare-same _ _ _ _ _ _ _ _ _ l (moved g at.After-set_item l.within) c.requires.used

pub returns-clause-queues : goal.returns-clause-queues
returns-clause-queues g c = let at = goal.at.returns-clause-queues g c in let l = loose g at.After-deref_mut-slots in recent-after _ _ _ _ _ _ _ _ _ l (moved g at.After-set_item l.within) c.slot_behind.ensures

pub returns-clause-others : goal.returns-clause-others
returns-clause-others g c = let at = goal.at.returns-clause-others g c in let l = loose g at.After-deref_mut-slots in others-stay _ _ _ _ _ _ _ _ _ l (moved g at.After-set_item l.within)

pub set_item-requires : goal.set_item-requires
set_item-requires g c =
    let a = (goal.at.set_item-requires g c).After-deref_mut-slots in
    let within = (loose g a).within in
    let e = ap length (lent g a) in
    omega (arith, within, e, length-map c.send.new.slots g.K.Slot.RingSlot.shown, length-map c.deref_mut-slots.result.now g.K.Slot.RingSlot.shown)
