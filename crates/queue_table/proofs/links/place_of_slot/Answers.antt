use Rattle.std.proofs.Common.{map, ◌≤◌, suc, subst, arith}
use Rattle.std.proofs.lemmas.List.{length-map}
use Rattle.queue_table.specs.Ring.{Slot, order_of, count}
use Rattle.queue_table.proofs.Holding.{used-within, older-within, place-read, tag-stands, tag-low}
use Rattle.queue_table.proofs.links.place_of_slot.Goals as goal

pub older_than-older-requires : goal.older_than-older-requires
older_than-older-requires g c =
    let s = (map g.S.RingSlot.shown c.args.slots.now) in
    let w = used-within s (order_of s) c.requires.queued c.args.at c.requires.used in
    omega (arith, length-map s (λ (x : Slot). x.newer), w)

pub queue_of-requires : goal.queue_of-requires
queue_of-requires g c =
    let s = (map g.S.RingSlot.shown c.args.slots.now) in
    let w = used-within s (order_of s) c.requires.queued c.args.at c.requires.used in
    omega (arith, length-map s (λ (x : Slot). x.newer), w)

pub held_item-requires : goal.held_item-requires
held_item-requires g c =
    let s = (map g.S.RingSlot.shown c.args.slots.now) in
    let n = length-map s (λ (x : Slot). x.newer) in
    let w = older-within s (order_of s) c.requires.queued c.args.at c.requires.used in
    omega (arith, n, w, c.older_than-older.ensures)

pub returns-clause-place : goal.returns-clause-place
returns-clause-place g c =
    let s = (map g.S.RingSlot.shown c.args.slots.now) in
    rw (c.held_item.ensures, ← c.queue_of.ensures, ← c.older_than-older.ensures) (place-read s (order_of s) c.requires.queued c.args.at c.requires.used)

pub returns-clause-queue : goal.returns-clause-queue
returns-clause-queue g c =
    let s = (map g.S.RingSlot.shown c.args.slots.now) in
    subst (λ x. 1 ≤ count c.args.at (order_of s (suc x))) c.queue_of.ensures (tag-stands s (order_of s) c.requires.queued c.args.at c.requires.used)

pub returns-clause-low : goal.returns-clause-low
returns-clause-low g c =
    let s = (map g.S.RingSlot.shown c.args.slots.now) in
    rw (← c.queue_of.ensures) (tag-low s (order_of s) c.requires.queued c.args.at c.requires.used)
