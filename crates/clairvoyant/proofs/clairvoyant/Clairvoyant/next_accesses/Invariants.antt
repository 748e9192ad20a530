use Rattle.std.proofs.Common.{◌≡◌, ◌≤◌, length, map}
use Rattle.clairvoyant.specs.NextAccesses.{with_next}
use Rattle.clairvoyant.proofs.clairvoyant.Clairvoyant.next_accesses.Given as goal

abbrev pub invariant-loop-place : goal.invariant-loop-place
invariant-loop-place l = record {
  next : l.next.items ≡ map (with_next l.self-inside.core.uses l.place) l.keys;
  least : l.self-inside.stats.accesses ≤ l.place;
  within : l.place ≤ length l.self-inside.core.uses;
}

abbrev pub decreases-loop-place : goal.decreases-loop-place
decreases-loop-place l = l.place
