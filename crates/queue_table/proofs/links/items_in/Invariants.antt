use Rattle.std.proofs.Common.{◌≡◌, ◌-◌, ◌<◌, ◌≤◌, ◌++◌, map, length, suc}
use Rattle.queue_table.specs.Ring.{entries, newers, slot_item, walk}
use Rattle.queue_table.proofs.links.items_in.Given as goal

abbrev pub invariant-loop-step : goal.invariant-loop-step
invariant-loop-step g l = record {
  within : 1 ≤ l.len → l.at < length (map g.S.RingSlot.shown l.slots);
  whole : l.list.items ++ map (λ k. slot_item (entries (map g.S.RingSlot.shown l.slots)) k) (walk (newers (map g.S.RingSlot.shown l.slots)) l.at (l.len - l.step)) ≡ map (λ k. slot_item (entries (map g.S.RingSlot.shown l.slots)) k) (walk (newers (map g.S.RingSlot.shown l.slots)) (suc l.fn.queue) l.len);
}
