use Rattle.std.proofs.Common.{◌≡◌, ◌++◌, map, take}
use Rattle.segments.specs.NamedQueue.{plain_key}
use Rattle.segments.proofs.segment_queues.push_items.Given as goal

abbrev pub invariant-loop-item : goal.invariant-loop-item
invariant-loop-item l = l.keys.items ≡ l.initial.keys.items ++ map plain_key (map (λ i. i.key) (take l.item-index l.items))
