use Rattle.std.proofs.Common.{◌≡◌, ◌≤◌, length}
use Rattle.engine_base.specs.declared.limits.TheConstants.{MAX_ACCESSES}
use Rattle.queue_cache.specs.Lru.{distinct_keys}
use Rattle.queue_cache.specs.Histogram.{IsHistogram}
use Rattle.queue_cache.proofs.Reading.{IsSummed}
use Rattle.queue_cache.proofs.curve.Curve.of_trace.Given as goal

abbrev pub invariant-loop-place : goal.invariant-loop-place
invariant-loop-place l = record {
  same : l.keys ≡ l.trace;
  few : length l.keys ≤ MAX_ACCESSES;
  counted : IsHistogram l.keys l.place l.histogram;
}

abbrev pub invariant-loop-c : goal.invariant-loop-c
invariant-loop-c l = record {
  same : l.keys ≡ l.trace;
  few : length l.keys ≤ MAX_ACCESSES;
  end : l.c-end ≡ length (distinct_keys l.trace);
  summed : IsSummed l.trace l.hits.items l.sum l.c;
}
