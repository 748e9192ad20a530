use Rattle.std.proofs.Common.{◌≡◌, ◌++◌, map, take}
use Rattle.queue_table.proofs.slot.push_widened.Given as goal

abbrev pub invariant-loop-slot : goal.invariant-loop-slot
invariant-loop-slot g l = l.wide.items ≡ l.initial.wide.items ++ map g.S.RingSlot.shown (take l.slot-index l.slots)
