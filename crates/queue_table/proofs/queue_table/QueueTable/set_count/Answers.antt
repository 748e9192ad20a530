use Rattle.std.proofs.Common.{map, ◌≡◌, ◌∙◌, ◌++◌, ap, subst, arith, List, length, take, drop}
use Rattle.queue_table.specs.Entries.{entry}
use Rattle.queue_table.specs.Queues.{after_removal}
use Rattle.queue_table.specs.Ring.{Slot, entries, slot_item, lists, Order, ChangesOnlyEntry}
use Rattle.queue_table.specs.QueueTable.{IsKept}
use Rattle.queue_table.proofs.Counting.{order-counted, lists-counted, others-counted, kept-counted}
use Rattle.queue_table.proofs.Kept.{on_view}
use Rattle.queue_table.proofs.Moving.{IsLoose, used-loose}
use Rattle.queue_table.proofs.queue_table.QueueTable.set_count.Given as given
use Rattle.queue_table.proofs.queue_table.QueueTable.set_count.Goals as goal
use Rattle.queue_table.proofs.queue_table.QueueTable.set_count.Goals.{After-deref_mut-slots, After-set_count}

-- the slots are borrowed as they are
lent : (g : given.Over) (c : goal.After-deref_mut-slots g) → map g.K.Slot.RingSlot.shown c.deref_mut-slots.result.now ≡ c.args.self.now
lent g c = ap (map g.K.Slot.RingSlot.shown) c.deref_mut-slots.ensures.value ∙ c.self.view_is

loose : (g : given.Over) (c : goal.After-deref_mut-slots g) → IsLoose c.args.self.now c.self.inside.index c.self.inside.lengths c.args.at (after_removal (slot_item (entries c.args.self.now) c.args.at) (lists c.args.self.now))
loose g c = used-loose _ _ _ (subst (λ (s : List Slot). IsKept s c.self.inside.index c.self.inside.lengths) c.self.view_is c.self.invariant) c.args.at c.requires.used

-- and the slot has another count
counted : (g : given.Over) (c : goal.After-set_count g) → ChangesOnlyEntry c.args.at (entry (slot_item (entries c.args.self.now) c.args.at) c.args.count) c.args.self.now (map g.K.Slot.RingSlot.shown (take c.self.inside.slots.len (c.set_count.new.slots ++ drop (length c.set_count.new.slots) c.self.inside.slots.items)))
counted g c = on_view g.K.Slot.RingSlot.shown (λ old new. ChangesOnlyEntry c.args.at (entry (slot_item (entries old) c.args.at) c.args.count) old new) _ _ _ _ _ (omega arith) (ap (map g.K.Slot.RingSlot.shown) c.deref_mut-slots.ensures.value ∙ c.self.view_is) c.set_count.ensures

pub set_count-requires : goal.set_count-requires
set_count-requires g c = let a = (goal.at.set_count-requires g c).After-deref_mut-slots in rw (lent g a) (loose g a).within

pub invariant_of-self : goal.invariant_of-self
invariant_of-self g c = let at = goal.at.invariant_of-self g c in kept-counted _ _ _ _ _ _ _ (loose g at.After-deref_mut-slots) c.requires.used (counted g at.After-set_count)

pub returns-clause-queues : goal.returns-clause-queues
returns-clause-queues g c = let at = goal.at.returns-clause-queues g c in lists-counted _ _ _ _ _ _ _ (loose g at.After-deref_mut-slots) c.requires.used (counted g at.After-set_count)

pub returns-clause-spare : goal.returns-clause-spare
returns-clause-spare g c = let at = goal.at.returns-clause-spare g c in ap (λ (o : Order). length (o 0)) (order-counted _ _ _ _ _ _ _ (loose g at.After-deref_mut-slots) c.requires.used (counted g at.After-set_count))

pub returns-clause-others : goal.returns-clause-others
returns-clause-others g c = let at = goal.at.returns-clause-others g c in others-counted _ _ _ _ _ _ _ (loose g at.After-deref_mut-slots) c.requires.used (counted g at.After-set_count)
