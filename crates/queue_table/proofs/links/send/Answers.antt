use Rattle.std.proofs.lemmas.Bool.Decides.{nat_tests}
use Rattle.std.proofs.Common.{map, ◌≡◌, ◌∙◌, ◌<◌, suc, ap, set, List, ℕ, arith}
use Rattle.std.proofs.lemmas.List.{length-map}
use Rattle.queue_table.specs.Ring.{newers, olders, ring_of, moved_before, SECTIONS, IsRing}
use Rattle.queue_table.proofs.Sending.{place-apart, place-within, whole-ring, order-after, linked-after}
use Rattle.queue_table.proofs.links.send.Goals as goal

pub set_count-requires : goal.set_count-requires
set_count-requires g c = c.requires.place.within

pub move_before-requires : goal.move_before-requires
move_before-requires g c = grind (arith, nat_tests, length-map c.set_count.new.slots g.S.RingSlot.shown, length-map c.args.slots.now g.S.RingSlot.shown, place-within, whole-ring, place-apart)

pub set_queue-requires : goal.set_queue-requires
set_queue-requires g c = let w = c.requires.place.within in omega (arith, w, length-map c.move_before.new.slots g.S.RingSlot.shown, length-map c.set_count.new.slots g.S.RingSlot.shown, length-map c.args.slots.now g.S.RingSlot.shown)

pub returns : goal.returns
returns g c =
    let low = c.requires.queue in
    let s : suc c.args.queue < SECTIONS = omega (arith, low) in
    let x : IsRing (newers (map g.S.RingSlot.shown c.set_queue.new.slots)) (olders (map g.S.RingSlot.shown c.set_queue.new.slots)) (ring_of (newers (map g.S.RingSlot.shown c.set_queue.new.slots))) = rw (c.set_queue.ensures.newers, c.set_queue.ensures.olders) c.move_before.ensures.ring in
    let e : ring_of (newers (map g.S.RingSlot.shown c.set_queue.new.slots)) ≡ moved_before c.args.at c.args.before (ring_of (newers (map g.S.RingSlot.shown c.args.slots.now))) =
    ap ring_of c.set_queue.ensures.newers ∙ (c.move_before.ensures.order ∙ ap (λ (l : List ℕ). moved_before c.args.at c.args.before (ring_of l)) c.set_count.ensures.newers) in
    record {
      low = low;
      linked = linked-after (map g.S.RingSlot.shown c.args.slots.now) c.args.at (suc c.args.queue) c.args.before s c.requires.place (map g.S.RingSlot.shown c.set_queue.new.slots) x e;
      order = order-after (map g.S.RingSlot.shown c.args.slots.now) c.args.at (suc c.args.queue) c.args.before s c.requires.place (map g.S.RingSlot.shown c.set_queue.new.slots) x e;
      entries = c.set_queue.ensures.entries ∙ (c.move_before.ensures.only.entries ∙ c.set_count.ensures.entries);
      tags = c.set_queue.ensures.tags ∙ ap (λ (l : List ℕ). set l c.args.at c.args.queue) (c.move_before.ensures.only.tags ∙ c.set_count.ensures.tags);
    }
