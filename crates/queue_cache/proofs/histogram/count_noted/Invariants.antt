use Rattle.std.proofs.Common.{◌≡◌, ℕ, length}
use Rattle.queue_cache.specs.Histogram.{count_at}
use Rattle.queue_cache.proofs.histogram.count_noted.Given as goal

abbrev pub invariant-loop-place : goal.invariant-loop-place
invariant-loop-place l = (length l.counts.items ≡ length l.initial.counts.items)
    × ((d : ℕ) → count_at l.counts.items l.noted.items d ≡ count_at l.initial.counts.items l.initial.noted.items d)

abbrev pub decreases-loop-place : goal.decreases-loop-place
decreases-loop-place l = length l.noted.items
