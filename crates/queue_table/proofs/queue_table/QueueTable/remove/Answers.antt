use Rattle.std.proofs.Common.{ap, map, ◌≡◌, ◌∙◌, ◌++◌, sym, subst, arith, refl, List, Some, length, take, drop, inr}
use Rattle.queue_table.specs.Entries.{Item}
use Rattle.queue_table.specs.Queues.{after_removal, place_in}
use Rattle.queue_table.specs.Ring.{Slot, entries, slot_item, count, used, order_of, sent, lists, IsFreed}
use Rattle.queue_table.specs.QueueTable.{IsCounted, IsKept}
use Rattle.queue_table.proofs.Kept.{known, on_view}
use Rattle.queue_table.proofs.Growing.{leaves}
use Rattle.queue_table.proofs.Moving.{IsLoose, used-loose, can-leave, can-go, lists-left, used-left, spare-left, others-left, kept-left}
use Rattle.queue_table.proofs.queue_table.QueueTable.remove.Given as given
use Rattle.queue_table.proofs.queue_table.QueueTable.remove.Goals as goal
use Rattle.queue_table.proofs.queue_table.QueueTable.remove.Goals.{After-deref_mut-slots, After-release}

-- the slots are borrowed as they are
lent : (g : given.Over) (c : goal.After-deref_mut-slots g) → map g.K.Slot.RingSlot.shown c.deref_mut-slots.result.now ≡ c.args.self.now
lent g c = ap (map g.K.Slot.RingSlot.shown) c.deref_mut-slots.ensures.value ∙ c.self.view_is

loose : (g : given.Over) (c : goal.After-deref_mut-slots g) → IsLoose c.args.self.now c.self.inside.index c.self.inside.lengths c.args.at (after_removal (slot_item (entries c.args.self.now) c.args.at) (lists c.args.self.now))
loose g c = used-loose _ _ _ (subst (λ (s : List Slot). IsKept s c.self.inside.index c.self.inside.lengths) c.self.view_is c.self.invariant) c.args.at c.requires.used

-- and the slot goes to the free ones
freed : (g : given.Over) (c : goal.After-release g) → IsFreed c.args.at c.args.self.now (map g.K.Slot.RingSlot.shown (take c.self.inside.slots.len (c.release.new.slots ++ drop (length c.release.new.slots) c.self.inside.slots.items)))
freed g c = on_view g.K.Slot.RingSlot.shown (IsFreed c.args.at) _ _ _ _ _ (omega arith) (ap (map g.K.Slot.RingSlot.shown) c.deref_mut-slots.ensures.value ∙ c.self.view_is) c.release.ensures

pub leave-from-requires-clause-slot : goal.leave-from-requires-clause-slot
leave-from-requires-clause-slot g c =
    let a = (goal.at.leave-from-requires-clause-slot g c).After-deref_mut-slots in
    rw (lent g a) (can-leave _ _ _ (loose g a).kept c.args.at c.requires.used)

pub item_of-old-requires : goal.item_of-old-requires
item_of-old-requires g c = let a = (goal.at.item_of-old-requires g c).After-deref_mut-slots in rw (lent g a) (loose g a).within

-- the item that is read of it
itself : (g : given.Over) (c : goal.After-deref_mut-slots g) (i : Item) → slot_item (entries (map g.K.Slot.RingSlot.shown c.deref_mut-slots.result.now)) c.args.at ≡ i → slot_item (entries c.args.self.now) c.args.at ≡ i
itself g c i read = ap (λ (s : List Slot). slot_item (entries s) c.args.at) (sym (ap (map g.K.Slot.RingSlot.shown) c.deref_mut-slots.ensures.value ∙ c.self.view_is)) ∙ read

pub remove-requires : goal.remove-requires
remove-requires g c =
    let at = goal.at.remove-requires g c in
    known _ _ c.args.at _ (itself g at.After-deref_mut-slots _ c.item_of-old.ensures) (loose g at.After-deref_mut-slots).held c.requires.used

pub release-requires : goal.release-requires
release-requires g c = let a = (goal.at.release-requires g c).After-deref_mut-slots in rw (lent g a) (can-go _ _ _ _ _ (loose g a) 0 1 (inr refl))

pub invariant_of-self : goal.invariant_of-self
invariant_of-self g c =
    let at = goal.at.invariant_of-self g c in
    let l = loose g at.After-deref_mut-slots in
    let m = freed g at.After-release in
    let e = lent g at.After-deref_mut-slots in
    kept-left _ _ _ _ _ _ l m c.remove.new.self c.leave-from.new.lengths
    (c.remove.ensures.indexed (slot_item (entries c.args.self.now)) (λ j. count j (used (order_of c.args.self.now))) _ l.held.indexed
    (leaves c.args.self.now (order_of c.args.self.now) c.args.at _ _ (itself g at.After-deref_mut-slots _ c.item_of-old.ensures) (used-left _ _ _ _ _ _ l m) c.requires.used))
    (subst (λ (s : List Slot). IsCounted c.leave-from.new.lengths (sent c.args.at 0 1 (order_of s))) e (c.leave-from.ensures.counted 0 1 refl)) c.remove.ensures.bits

pub returns-clause-place : goal.returns-clause-place
returns-clause-place g c = subst (λ (s : List Slot). Some c.leave-from.result ≡ place_in (slot_item (entries s) c.args.at) (lists s)) (ap (map g.K.Slot.RingSlot.shown) c.deref_mut-slots.ensures.value ∙ c.self.view_is) c.leave-from.ensures.place

pub returns-clause-spare : goal.returns-clause-spare
returns-clause-spare g c = let at = goal.at.returns-clause-spare g c in spare-left _ _ _ _ _ _ (loose g at.After-deref_mut-slots) (freed g at.After-release) c.requires.used

pub returns-clause-queues : goal.returns-clause-queues
returns-clause-queues g c = let at = goal.at.returns-clause-queues g c in lists-left _ _ _ _ _ _ (loose g at.After-deref_mut-slots) (freed g at.After-release)

pub returns-clause-others : goal.returns-clause-others
returns-clause-others g c = let at = goal.at.returns-clause-others g c in others-left _ _ _ _ _ _ (loose g at.After-deref_mut-slots) (freed g at.After-release)
