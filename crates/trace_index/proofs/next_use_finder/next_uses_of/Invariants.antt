use Rattle.std.proofs.Common.{◌≡◌, ℕ, ◌-◌, ◌<◌, ◌≤◌, length, get_or}
use Rattle.engine_base.specs.declared.limits.TheConstants.{MAX_ACCESSES}
use Rattle.trace_index.specs.Uses.{next, next_from, number_of}
use Rattle.trace_index.specs.PackedKeys.{unpacked}
use Rattle.trace_index.specs.KeyPlaces.{number_of_key}
use Rattle.trace_index.proofs.next_use_finder.next_uses_of.Given as goal

abbrev pub invariant-loop-back : goal.invariant-loop-back
invariant-loop-back l = record {
  len : l.len ≡ length (unpacked l.keys);
  few : l.len ≤ MAX_ACCESSES;
  long : length l.after.items ≡ l.len;
  following : (k : ℕ) → number_of_key l.following k ≡ number_of (next_from (unpacked l.keys) (l.len - l.back) k);
  right : (i : ℕ) → l.len - l.back ≤ i → i < l.len → get_or l.after.items i 0 ≡ number_of (next (unpacked l.keys) i (get_or (unpacked l.keys) i 0));
}
