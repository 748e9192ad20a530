use Rattle.std.proofs.Common.{map, ◌<◌, arith}
use Rattle.queue_table.specs.Ring.{SECTIONS}
use Rattle.queue_table.proofs.Sending.{place-apart, place-within, whole-ring, order-after, linked-after}
use Rattle.queue_table.proofs.links.release.Goals as goal

pub move_before-requires : goal.move_before-requires
move_before-requires g c =
    let s : 0 < SECTIONS = omega arith in
    record {
      ring = whole-ring (map g.S.RingSlot.shown c.args.slots.now) c.args.at 0 1 s c.requires;
      at = (omega (arith, c.requires.real), c.requires.within);
      before = place-within (map g.S.RingSlot.shown c.args.slots.now) c.args.at 0 1 s c.requires;
      apart = place-apart (map g.S.RingSlot.shown c.args.slots.now) c.args.at 0 1 s c.requires;
    }

pub returns : goal.returns
returns g c =
    let s : 0 < SECTIONS = omega arith in
    let e = c.move_before.ensures in
    record {
      linked = linked-after (map g.S.RingSlot.shown c.args.slots.now) c.args.at 0 1 s c.requires (map g.S.RingSlot.shown c.move_before.new.slots) e.ring e.order;
      order = order-after (map g.S.RingSlot.shown c.args.slots.now) c.args.at 0 1 s c.requires (map g.S.RingSlot.shown c.move_before.new.slots) e.ring e.order;
      only = e.only;
    }
