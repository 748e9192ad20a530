use Rattle.std.proofs.Common.{ap, map, ◌≡◌, ◌∙◌, ◌++◌, subst, arith, List, suc, length, take, drop, refl, Some}
use Rattle.queue_table.specs.Entries.{entry}
use Rattle.queue_table.specs.Queues.{after_removal, place_in}
use Rattle.queue_table.specs.Ring.{Slot, entries, slot_item, order_of, sent, lists, IsSent}
use Rattle.queue_table.specs.QueueTable.{IsCounted, IsKept}
use Rattle.queue_table.proofs.QueueLists.{absent-taken}
use Rattle.queue_table.proofs.Kept.{on_view}
use Rattle.queue_table.proofs.Moving.{IsLoose, used-loose, can-leave, can-go, recent-after, back-after, spare-same, others-stay, stays, kept-after}
use Rattle.queue_table.proofs.queue_table.QueueTable.shift.Given as given
use Rattle.queue_table.proofs.queue_table.QueueTable.shift.Goals as goal
use Rattle.queue_table.proofs.queue_table.QueueTable.shift.Goals.{After-deref_mut-slots, After-send}

-- the slots are borrowed as they are
lent : (g : given.Over) (c : goal.After-deref_mut-slots g) → map g.K.Slot.RingSlot.shown c.deref_mut-slots.result.now ≡ c.args.self.now
lent g c = ap (map g.K.Slot.RingSlot.shown) c.deref_mut-slots.ensures.value ∙ c.self.view_is

loose : (g : given.Over) (c : goal.After-deref_mut-slots g) → IsLoose c.args.self.now c.self.inside.index c.self.inside.lengths c.args.at (after_removal (slot_item (entries c.args.self.now) c.args.at) (lists c.args.self.now))
loose g c = used-loose _ _ _ (subst (λ (s : List Slot). IsKept s c.self.inside.index c.self.inside.lengths) c.self.view_is c.self.invariant) c.args.at c.requires.used

-- and the slot goes to its place
moved : (g : given.Over) (c : goal.After-send g) → IsSent c.args.at c.args.queue c.args.before (entry (slot_item (entries c.args.self.now) c.args.at) c.args.count) c.args.self.now (map g.K.Slot.RingSlot.shown (take c.self.inside.slots.len (c.send.new.slots ++ drop (length c.send.new.slots) c.self.inside.slots.items)))
moved g c = on_view g.K.Slot.RingSlot.shown (λ old new. IsSent c.args.at c.args.queue c.args.before (entry (slot_item (entries old) c.args.at) c.args.count) old new) _ _ _ _ _ (omega arith) (ap (map g.K.Slot.RingSlot.shown) c.deref_mut-slots.ensures.value ∙ c.self.view_is) c.send.ensures

pub leave-from-requires-clause-slot : goal.leave-from-requires-clause-slot
leave-from-requires-clause-slot g c =
    let a = (goal.at.leave-from-requires-clause-slot g c).After-deref_mut-slots in
    rw (lent g a) (can-leave _ _ _ (loose g a).kept c.args.at c.requires.used)

pub send-requires-clause-place : goal.send-requires-clause-place
send-requires-clause-place g c =
    let a = (goal.at.send-requires-clause-place g c).After-deref_mut-slots in
    rw (lent g a) (can-go _ _ _ _ _ (loose g a) (suc c.args.queue) c.args.before c.requires.place)

pub invariant_of-self : goal.invariant_of-self
invariant_of-self g c =
    let at = goal.at.invariant_of-self g c in
    let l = loose g at.After-deref_mut-slots in
    let m = moved g at.After-send in
    kept-after _ _ _ _ _ _ _ _ _ l m c.self.inside.index c.leave-from.new.lengths (absent-taken (slot_item (entries c.args.self.now) c.args.at) (lists c.args.self.now)) (stays _ _ _ _ _ _ _ _ _ l m c.requires.used refl)
    (subst (λ (s : List Slot). IsCounted c.leave-from.new.lengths (sent c.args.at (suc c.args.queue) c.args.before (order_of s))) (lent g at.After-deref_mut-slots) (c.leave-from.ensures.counted (suc c.args.queue) c.args.before c.section.ensures)) refl

pub returns-clause-place : goal.returns-clause-place
returns-clause-place g c = subst (λ (s : List Slot). Some c.leave-from.result ≡ place_in (slot_item (entries s) c.args.at) (lists s)) (ap (map g.K.Slot.RingSlot.shown) c.deref_mut-slots.ensures.value ∙ c.self.view_is) c.leave-from.ensures.place

pub returns-clause-spare : goal.returns-clause-spare
returns-clause-spare g c = let at = goal.at.returns-clause-spare g c in spare-same _ _ _ _ _ _ _ _ _ (loose g at.After-deref_mut-slots) (moved g at.After-send) c.requires.used

pub returns-clause-recent : goal.returns-clause-recent
returns-clause-recent g c = let at = goal.at.returns-clause-recent g c in recent-after _ _ _ _ _ _ _ _ _ (loose g at.After-deref_mut-slots) (moved g at.After-send)

pub returns-clause-back : goal.returns-clause-back
returns-clause-back g c = let at = goal.at.returns-clause-back g c in back-after _ _ _ _ _ _ _ _ _ (loose g at.After-deref_mut-slots) (moved g at.After-send)

pub returns-clause-others : goal.returns-clause-others
returns-clause-others g c = let at = goal.at.returns-clause-others g c in others-stay _ _ _ _ _ _ _ _ _ (loose g at.After-deref_mut-slots) (moved g at.After-send)
