use Rattle.std.proofs.Common.{◌≤◌}
use Rattle.trace_index.proofs.key_places.KeyPlaces.from_end.Given as goal

abbrev pub invariant-loop-i : goal.invariant-loop-i
invariant-loop-i l = l.low ≤ l.i
