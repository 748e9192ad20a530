use Rattle.std.proofs.Common.{map, ◌≡◌, [], subst, sym, rules}
use Rattle.queue_table.specs.Queues.{IsDistinct}
use Rattle.queue_table.specs.Ring.{lists}
use Rattle.queue_table.proofs.Kept.{none-distinct}
use Rattle.queue_table.proofs.queue_table.QueueTable.for_items.Goals as goal

pub returns-clause-distinct : goal.returns-clause-distinct
returns-clause-distinct g c =
    let none : c.new.result.items ≡ [] = search rules in
    subst (λ s. IsDistinct (lists (map g.K.Slot.RingSlot.shown s))) (sym none) none-distinct
