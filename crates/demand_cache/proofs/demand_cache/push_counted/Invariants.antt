use Rattle.std.proofs.Common.{◌≡◌, ◌++◌, take}
use Rattle.demand_cache.specs.QueueRow.{numbered_keys}
use Rattle.demand_cache.proofs.demand_cache.push_counted.Given as goal

abbrev pub invariant-loop-entry : goal.invariant-loop-entry
invariant-loop-entry l = l.keys.items ≡ l.initial.keys.items ++ numbered_keys (take l.entry-index l.entries)
