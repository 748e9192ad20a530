use Rattle.std.proofs.Common.{◌≡◌, ℕ, ◌<◌, length, get_or}
use Rattle.trace_index.specs.Uses.{last_below, number_of}
use Rattle.trace_index.specs.KeyPlaces.{number_of_key}
use Rattle.trace_index.proofs.previous_use.previous_uses_of.Given as goal

abbrev pub invariant-loop-place : goal.invariant-loop-place
invariant-loop-place l = record {
  long : length l.before.items ≡ length l.keys;
  last : (k : ℕ) → number_of_key l.last k ≡ number_of (last_below l.keys l.place k);
  right : (i : ℕ) → i < l.place → get_or l.before.items i 0 ≡ number_of (last_below l.keys i (get_or l.keys i 0));
}
