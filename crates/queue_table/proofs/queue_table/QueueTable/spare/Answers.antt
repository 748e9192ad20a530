use Rattle.std.proofs.Common.{◌∙◌, ap, arith, List, length}
use Rattle.queue_table.specs.Ring.{Slot, order_of}
use Rattle.queue_table.proofs.queue_table.QueueTable.spare.Goals as goal

pub returns : goal.returns
returns g c = c.free.ensures ∙ (c.self.invariant.counted 0 (omega arith) ∙ ap (λ (s : List Slot). length (order_of s 0)) c.self.view_is)
