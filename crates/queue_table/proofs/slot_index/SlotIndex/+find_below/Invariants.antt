use Rattle.std.proofs.Common.{◌-◌, length}
use Rattle.queue_table.proofs.slot_index.SlotIndex.+find_below.Given as goal

abbrev pub decreases-find_below : goal.decreases-find_below
decreases-find_below g l = length l.self.now.links.items - l.depth
