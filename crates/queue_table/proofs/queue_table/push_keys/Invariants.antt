use Rattle.std.proofs.Common.{◌≡◌, ◌++◌, map, take}
use Rattle.queue_table.proofs.queue_table.push_keys.Given as goal

abbrev pub invariant-loop-item : goal.invariant-loop-item
invariant-loop-item l = l.keys.items ≡ l.initial.keys.items ++ map (λ i. i.key) (take l.item-index l.items)
