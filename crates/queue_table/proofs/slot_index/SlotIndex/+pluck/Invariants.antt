use Rattle.std.proofs.Common.{◌^◌, length}
use Rattle.queue_table.specs.Trees.{size}
use Rattle.queue_table.proofs.Trees.{tree_at}
use Rattle.queue_table.proofs.slot_index.SlotIndex.+pluck.Given as goal

abbrev pub decreases-pluck : goal.decreases-pluck
decreases-pluck l = size (tree_at l.self.now.links.items (2 ^ l.self.now.bits) l.place (length l.self.now.links.items))
