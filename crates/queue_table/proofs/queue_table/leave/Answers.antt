use Rattle.std.proofs.Common.{map, suc, arith}
use Rattle.queue_table.specs.Ring.{order_of}
use Rattle.queue_table.proofs.Calls.{counted-sent, some-counted}
use Rattle.queue_table.proofs.queue_table.leave.Goals as goal

pub place_of_slot-from-requires : goal.place_of_slot-from-requires
place_of_slot-from-requires g c = record { queued = c.requires.slot.queued; used = c.requires.slot.used }

pub pass-requires-clause-sections : goal.pass-requires-clause-sections
pass-requires-clause-sections g c = let from = c.place_of_slot-from.ensures.low in let s = c.section.ensures in let to = c.requires.to in (omega (arith, from, s), omega (arith, to))

pub pass-requires-clause-some : goal.pass-requires-clause-some
pass-requires-clause-some g c =
    rw c.section.ensures (some-counted c.args.lengths.now (order_of (map g.S.RingSlot.shown c.args.slots.now)) (suc c.place_of_slot-from.result.queue) c.args.at c.requires.slot.counted (omega (arith, c.place_of_slot-from.ensures.low)) c.place_of_slot-from.ensures.queue)

pub pass-requires-clause-few : goal.pass-requires-clause-few
pass-requires-clause-few g c = let to = c.requires.to in c.requires.slot.few c.args.to (omega (arith, to))

pub returns-clause-counted : goal.returns-clause-counted
returns-clause-counted g c s b e =
    counted-sent c.args.lengths.now c.pass.new.self c.args.at s b (suc c.place_of_slot-from.result.queue) c.section.result c.args.to (order_of (map g.S.RingSlot.shown c.args.slots.now)) c.requires.slot.counted (omega (arith, c.place_of_slot-from.ensures.low)) c.requires.slot.queued.linked.once c.place_of_slot-from.ensures.queue c.section.ensures e c.pass.ensures
