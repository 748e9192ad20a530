use Rattle.std.proofs.Common.{◌-◌, length}
use Rattle.queue_cache.proofs.FenwickTree.{IsTaken}
use Rattle.queue_cache.proofs.fenwick_tree.FenwickTree.take.Given as goal

abbrev pub invariant-loop-at : goal.invariant-loop-at
invariant-loop-at l = IsTaken l.place l.initial.self.sums.items l.self.sums.items l.at

abbrev pub decreases-loop-at : goal.decreases-loop-at
decreases-loop-at l = length l.initial.self.sums.items - l.at
