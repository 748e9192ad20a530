use Rattle.std.proofs.Common.{◌-◌, length}
use Rattle.queue_table.proofs.slot_index.SlotIndex.+detach.Given as goal

abbrev pub decreases-detach : goal.decreases-detach
decreases-detach l = length l.self.now.links.items - l.depth
