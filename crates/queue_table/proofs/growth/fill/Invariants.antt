use Rattle.std.proofs.Common.{map, ◌≡◌, ◌-◌}
use Rattle.queue_table.specs.Ring.{FIRST, entries}
use Rattle.queue_table.specs.QueueTable.{from_first, IsIndexOf}
use Rattle.queue_table.proofs.growth.fill.Given as goal

abbrev pub invariant-loop-at : goal.invariant-loop-at
invariant-loop-at g l = record {
  indexed : IsIndexOf l.index (entries (map g.S.RingSlot.shown l.slots)) (from_first (l.at - FIRST));
  bits : l.index.bits ≡ l.initial.index.bits;
}
