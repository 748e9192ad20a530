use Rattle.std.proofs.Common.{◌≡◌, take}
use Rattle.trace_index.proofs.packed_keys.widened.Given as goal

abbrev pub invariant-loop-key : goal.invariant-loop-key
invariant-loop-key l = l.long.items ≡ take l.key-index l.short.items
