use Rattle.std.proofs.Common.{map, arith}
use Rattle.queue_table.specs.Ring.{order_of}
use Rattle.queue_table.proofs.Ends.{newer-in}
use Rattle.queue_table.proofs.links.next_slot.Goals as goal

pub newer_than-requires : goal.newer_than-requires
newer_than-requires g c =
    let s = (map g.S.RingSlot.shown c.args.slots.now) in
    let n = newer-in s (order_of s) c.requires.ring c.args.at c.requires.at in
    omega (arith, c.newer_than-newer.ensures, n)
