use Rattle.std.proofs.lemmas.Bool.Decides.{nat_tests}
use Rattle.std.proofs.Common.{ap, map, ◌<◌, ◌≡◌, ◌∙◌, ◌≤◌, ◌++◌, sym, refl, subst, arith, List, suc, length, take, drop}
use Rattle.std.proofs.lemmas.List.{length-map}
use Rattle.queue_table.specs.Entries.{entry}
use Rattle.queue_table.specs.Queues.{IsDistinct}
use Rattle.queue_table.specs.Ring.{Slot, entries, slot_item, count, order_of, lists, IsSent}
use Rattle.queue_table.specs.QueueTable.{IsBehind, IsKept}
use Rattle.queue_table.proofs.QueueLists.{absent}
use Rattle.queue_table.proofs.Calls.{counted-sent, some-counted}
use Rattle.queue_table.proofs.Tables.{section-kept, place-free}
use Rattle.queue_table.proofs.Kept.{some-slots, distinct-in, on_view, section-few as fits}
use Rattle.queue_table.proofs.Growing.{lacks}
use Rattle.queue_table.proofs.Moving.{IsLoose, with-item, free-loose, free-index, can-go, in-index, recent-after, back-after, spare-taken, slots-stay, joins, kept-after}
use Rattle.queue_table.proofs.queue_table.QueueTable.put.Given as given
use Rattle.queue_table.proofs.queue_table.QueueTable.put.Goals as goal
use Rattle.queue_table.proofs.queue_table.QueueTable.put.Goals.{After-deref_mut-slots, After-newest_free-at, After-set_item}

-- the slots are borrowed as they are
lent : (g : given.Over) (c : goal.After-deref_mut-slots g) → map g.K.Slot.RingSlot.shown c.deref_mut-slots.result.now ≡ c.args.self.now
lent g c = ap (map g.K.Slot.RingSlot.shown) c.deref_mut-slots.ensures.value ∙ c.self.view_is

kept : (g : given.Over) (c : goal.After-deref_mut-slots g) → IsKept c.args.self.now c.self.inside.index c.self.inside.lengths
kept g c = subst (λ (s : List Slot). IsKept s c.self.inside.index c.self.inside.lengths) c.self.view_is c.self.invariant

-- the slot that was found is free
free : (g : given.Over) (c : goal.After-newest_free-at g) → 1 ≤ count c.newest_free-at.result (order_of c.args.self.now 0)
free g c = subst (λ (s : List Slot). 1 ≤ count c.newest_free-at.result (order_of s 0)) (ap (map g.K.Slot.RingSlot.shown) c.deref_mut-slots.ensures.value ∙ c.self.view_is) c.newest_free-at.ensures

loose : (g : given.Over) (c : goal.After-newest_free-at g) → IsKept c.args.self.now c.self.inside.index c.self.inside.lengths → IsLoose c.args.self.now c.self.inside.index c.self.inside.lengths c.newest_free-at.result (lists c.args.self.now)
loose g c x = free-loose c.args.self.now c.self.inside.index c.self.inside.lengths x c.newest_free-at.result (free g c)

-- and goes to its place with the item
sent : (g : given.Over) (c : goal.After-set_item g) → c.newest_free-at.result < length c.args.self.now → IsSent c.newest_free-at.result c.args.queue c.args.before (entry (g.K.TableItem.item c.args.item) c.args.count) c.args.self.now (map g.K.Slot.RingSlot.shown (take c.self.inside.slots.len (c.set_item.new.slots ++ drop (length c.set_item.new.slots) c.self.inside.slots.items)))
sent g c within =
    let e = ap (map g.K.Slot.RingSlot.shown) c.deref_mut-slots.ensures.value ∙ c.self.view_is in
    on_view g.K.Slot.RingSlot.shown (IsSent c.newest_free-at.result c.args.queue c.args.before (entry (g.K.TableItem.item c.args.item) c.args.count)) _ _ _ _ _ (omega arith) e
    (with-item _ _ _ _ _ _ _ _ (rw e within) c.send.ensures c.set_item.ensures)

pub newest_free-at-requires : goal.newest_free-at-requires
newest_free-at-requires g c = grind (arith, nat_tests, lent, kept, some-slots c.args.self.now 0 c.requires.room)

pub insert-requires-clause-at : goal.insert-requires-clause-at
insert-requires-clause-at g c =
    let at = goal.at.insert-requires-clause-at g c in
    in-index _ _ _ _ _ (loose g at.After-newest_free-at (kept g at.After-deref_mut-slots))

pub insert-requires-clause-absent : goal.insert-requires-clause-absent
insert-requires-clause-absent g c =
    let at = goal.at.insert-requires-clause-absent g c in
    lacks c.args.self.now _ (order_of c.args.self.now) _ (free-index _ _ _ (kept g at.After-deref_mut-slots) _ (free g at.After-newest_free-at))

pub send-requires-clause-place : goal.send-requires-clause-place
send-requires-clause-place g c =
    let at = goal.at.send-requires-clause-place g c in
    let l = loose g at.After-newest_free-at (kept g at.After-deref_mut-slots) in
    rw (lent g at.After-deref_mut-slots) (can-go _ _ _ _ _ l (suc c.args.queue) c.args.before
    (place-free c.args.self.now (order_of c.args.self.now) l.held.queued c.newest_free-at.result (free g at.After-newest_free-at) c.args.before c.args.queue c.requires.queue c.requires.place))

pub pass-requires-clause-sections : goal.pass-requires-clause-sections
pass-requires-clause-sections g c = let low = c.requires.queue in let s = c.section.ensures in (omega arith, omega (arith, low, s))

pub pass-requires-clause-some : goal.pass-requires-clause-some
pass-requires-clause-some g c = grind (arith, nat_tests, some-counted, kept, free)

pub pass-requires-clause-few : goal.pass-requires-clause-few
pass-requires-clause-few g c = let low = c.requires.queue in let s = c.section.ensures in fits (map g.K.Slot.RingSlot.shown c.self.inside.slots.items) _ _ c.self.invariant c.section.result (omega (arith, low, s))

pub invariant_of-self : goal.invariant_of-self
invariant_of-self g c =
    let at = goal.at.invariant_of-self g c in
    let x = kept g at.After-deref_mut-slots in
    let n = free g at.After-newest_free-at in
    let l = loose g at.After-newest_free-at x in
    let m = sent g at.After-set_item l.within in
    kept-after _ _ _ _ _ _ _ _ _ l m c.insert.new.self c.pass.new.self (absent (g.K.TableItem.item c.args.item) (lists c.args.self.now) c.requires.absent)
    (c.insert.ensures.indexed (slot_item (entries c.args.self.now)) _ _ _ (free-index _ _ _ x _ n) (rw c.item.ensures (joins _ _ _ _ _ _ _ _ _ l m)))
    (counted-sent c.self.inside.lengths c.pass.new.self c.newest_free-at.result (suc c.args.queue) c.args.before 0 0 c.section.result (order_of c.args.self.now) x.counted (omega arith) l.held.queued.linked.once n refl c.section.ensures c.pass.ensures)
    c.insert.ensures.bits

pub returns-clause-distinct : goal.returns-clause-distinct
returns-clause-distinct g c =
    subst (λ (s : List Slot). IsDistinct (lists s)) c.self.view_is (distinct-in (map g.K.Slot.RingSlot.shown c.self.inside.slots.items) _ _ c.self.invariant)

pub returns-clause-spare : goal.returns-clause-spare
returns-clause-spare g c =
    let at = goal.at.returns-clause-spare g c in
    let l = loose g at.After-newest_free-at (kept g at.After-deref_mut-slots) in
    spare-taken _ _ _ _ _ _ _ _ _ l (sent g at.After-set_item l.within) (free g at.After-newest_free-at)

pub returns-clause-recent : goal.returns-clause-recent
returns-clause-recent g c =
    let at = goal.at.returns-clause-recent g c in
    let l = loose g at.After-newest_free-at (kept g at.After-deref_mut-slots) in
    recent-after _ _ _ _ _ _ _ _ _ l (sent g at.After-set_item l.within)

pub returns-clause-back : goal.returns-clause-back
returns-clause-back g c older b =
    let at = goal.at.returns-clause-back g c in
    let l = loose g at.After-newest_free-at (kept g at.After-deref_mut-slots) in
    back-after _ _ _ _ _ _ _ _ _ l (sent g at.After-set_item l.within) older
    (subst (IsBehind c.args.before c.args.queue older (entries c.args.self.now)) (sym (section-kept c.args.self.now (order_of c.args.self.now) l.held.queued c.newest_free-at.result (free g at.After-newest_free-at) c.args.queue c.requires.queue)) b)

pub returns-clause-others : goal.returns-clause-others
returns-clause-others g c =
    let at = goal.at.returns-clause-others g c in
    let l = loose g at.After-newest_free-at (kept g at.After-deref_mut-slots) in
    slots-stay _ _ _ _ _ _ _ _ _ l (sent g at.After-set_item l.within) (free g at.After-newest_free-at)

pub set_item-requires : goal.set_item-requires
set_item-requires g c =
    let at = goal.at.set_item-requires g c in
    let within = (loose g at.After-newest_free-at (kept g at.After-deref_mut-slots)).within in
    let e = ap length (lent g at.After-deref_mut-slots) in
    omega (arith, within, e, length-map c.send.new.slots g.K.Slot.RingSlot.shown, length-map c.deref_mut-slots.result.now g.K.Slot.RingSlot.shown)
