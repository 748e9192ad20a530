use Rattle.std.proofs.Common.{◌-◌, length}
use Rattle.queue_table.proofs.slot_index.SlotIndex.+graft.Given as goal

abbrev pub decreases-graft : goal.decreases-graft
decreases-graft l = length l.self.now.links.items - l.depth
