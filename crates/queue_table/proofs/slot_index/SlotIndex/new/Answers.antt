use Rattle.std.proofs.lemmas.Grind.{common_steps}
use Rattle.std.proofs.Common.{arith}
use Rattle.queue_table.proofs.Indexing.{empty-mapped}
use Rattle.queue_table.proofs.slot_index.SlotIndex.new.Goals as goal

pub returns-clause-empty : goal.returns-clause-empty
returns-clause-empty c item_of = grind (arith, common_steps, empty-mapped)
