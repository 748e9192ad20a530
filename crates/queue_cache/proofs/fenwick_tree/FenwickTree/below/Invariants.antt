use Rattle.std.proofs.Common.{◌≡◌, ℕ, ◌+◌, ◌≤◌}
use Rattle.queue_cache.specs.FenwickTree.{IsFenwickTree}
use Rattle.queue_cache.proofs.fenwick_tree.FenwickTree.below.Given as goal

abbrev pub invariant-loop-end : goal.invariant-loop-end
invariant-loop-end l = (l.end ≤ l.place) × ((total : ℕ → ℕ) → IsFenwickTree total l.self.sums.items → l.sum + total l.end ≡ total l.place)

abbrev pub decreases-loop-end : goal.decreases-loop-end
decreases-loop-end l = l.end
