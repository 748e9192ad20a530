use Rattle.std.proofs.Common.{◌≡◌, ◌++◌, map, take}
use Rattle.segments.specs.NamedQueue.{plain_key}
use Rattle.queue_table.specs.Tabled.{keys_of}
use Rattle.demand_cache.proofs.demand_cache.push_plain.Given as goal

abbrev pub invariant-loop-entry : goal.invariant-loop-entry
invariant-loop-entry l = l.keys.items ≡ l.initial.keys.items ++ map plain_key (keys_of (take l.entry-index l.entries))
