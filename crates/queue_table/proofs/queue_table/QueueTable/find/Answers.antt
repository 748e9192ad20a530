use Rattle.std.proofs.Common.{map, ◌≡◌, ◌<◌, ◌∙◌, List, length, ap, sym}
use Rattle.queue_table.specs.Ring.{Slot, entries, tags, tag_at, slot_entry, order_of}
use Rattle.queue_table.proofs.Calls.{slot-within}
use Rattle.queue_table.proofs.Counting.{found-entry, found-low, found-queue, found-stands}
use Rattle.queue_table.proofs.queue_table.QueueTable.find.Given as given
use Rattle.queue_table.proofs.queue_table.QueueTable.find.Goals as goal
use Rattle.queue_table.proofs.queue_table.QueueTable.find.Goals.{After-deref-slots, After-entry_of-entry, After-queue_of}

-- the slots are borrowed as they are
lent : (g : given.Over) (c : goal.After-deref-slots g) → map g.K.Slot.RingSlot.shown c.deref-slots.result.now ≡ c.args.self.now
lent g c = ap (map g.K.Slot.RingSlot.shown) c.deref-slots.ensures.value ∙ c.self.view_is

within : (g : given.Over) (c : goal.After-deref-slots g) → c.in_ok-at.at < length (map g.K.Slot.RingSlot.shown c.deref-slots.result.now)
within g c =
    let t = c.in_ok-at.ensures.there in
    rw (lent g c) (slot-within c.args.self.now (order_of c.args.self.now) t.queued c.in_ok-at.at t.used)

pub entry_of-entry-requires : goal.entry_of-entry-requires
entry_of-entry-requires g c = within g (goal.at.entry_of-entry-requires g c).After-deref-slots

pub queue_of-requires : goal.queue_of-requires
queue_of-requires g c = within g (goal.at.queue_of-requires g c).After-deref-slots

-- the entry and the queue, as they are read
own : (g : given.Over) (c : goal.After-entry_of-entry g) → slot_entry (entries c.args.self.now) c.in_ok-at.at ≡ c.entry_of-entry.result
own g c = ap (λ (s : List Slot). slot_entry (entries s) c.in_ok-at.at) (sym (ap (map g.K.Slot.RingSlot.shown) c.deref-slots.ensures.value ∙ c.self.view_is)) ∙ c.entry_of-entry.ensures

tag : (g : given.Over) (c : goal.After-queue_of g) → tag_at (tags c.args.self.now) c.in_ok-at.at ≡ c.queue_of.result
tag g c = ap (λ (s : List Slot). tag_at (tags s) c.in_ok-at.at) (sym (ap (map g.K.Slot.RingSlot.shown) c.deref-slots.ensures.value ∙ c.self.view_is)) ∙ c.queue_of.ensures

pub returns-clause-used : goal.returns-clause-used
returns-clause-used g c = c.in_ok-at.ensures.there.used

pub returns-clause-entry : goal.returns-clause-entry
returns-clause-entry g c =
    let at = goal.at.returns-clause-entry g c in
    found-entry c.args.self.now c.in_ok-at.at c.args.item c.entry_of-entry.result c.queue_of.result c.in_ok-at.ensures.there (own g at.After-entry_of-entry) (tag g at.After-queue_of)

pub returns-clause-low : goal.returns-clause-low
returns-clause-low g c =
    let at = goal.at.returns-clause-low g c in
    found-low c.args.self.now c.in_ok-at.at c.args.item c.entry_of-entry.result c.queue_of.result c.in_ok-at.ensures.there (own g at.After-entry_of-entry) (tag g at.After-queue_of)

pub returns-clause-queue : goal.returns-clause-queue
returns-clause-queue g c =
    let at = goal.at.returns-clause-queue g c in
    found-queue c.args.self.now c.in_ok-at.at c.args.item c.entry_of-entry.result c.queue_of.result c.in_ok-at.ensures.there (own g at.After-entry_of-entry) (tag g at.After-queue_of)

pub returns-clause-stands : goal.returns-clause-stands
returns-clause-stands g c =
    let at = goal.at.returns-clause-stands g c in
    found-stands c.args.self.now c.in_ok-at.at c.args.item c.entry_of-entry.result c.queue_of.result c.in_ok-at.ensures.there (own g at.After-entry_of-entry) (tag g at.After-queue_of)
