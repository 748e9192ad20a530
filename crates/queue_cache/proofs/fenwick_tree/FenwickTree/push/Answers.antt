use Rattle.std.proofs.Common.{rules, ◌≡◌, ◌+◌, ◌-◌, ◌∷◌, ◌++◌, [], length, ap, arith}
use Rattle.queue_cache.specs.FenwickTree.{start_of}
use Rattle.queue_cache.proofs.FenwickTree.{pushed, start-low}
use Rattle.queue_cache.proofs.fenwick_tree.FenwickTree.push.Goals as goal
use Rattle.queue_cache.proofs.fenwick_tree.FenwickTree.push.Goals.{After-len-place}

all : (c : goal.After-len-place) → c.len-place.result ≡ length c.args.self.now.sums.items
all c = omega (arith, c.len-place.ensures)

pub below-requires-2-clause-few : goal.below-requires-2-clause-few
below-requires-2-clause-few c =
    let few = c.requires in let n = c.len-place.result in
    (few.0, few.1, omega (arith, few.1.grows (start_of n) n (start-low n), few.2, ap few.0 (all (goal.at.below-requires-2-clause-few c).After-len-place)))

pub overflow_sub-sum : goal.overflow_sub-sum
overflow_sub-sum c =
    let few = c.requires in let n = c.len-place.result in
    omega (arith, few.1.grows (start_of n) n (start-low n), c.below.ensures few.0 few.1, c.below-2.ensures few.0 few.1)

pub overflow_add-sum : goal.overflow_add-sum
overflow_add-sum c =
    let few = c.requires in
    omega (arith, few.2, c.below.ensures few.0 few.1, ap few.0 (all (goal.at.overflow_add-sum c).After-len-place))

pub returns-clause-tree : goal.returns-clause-tree
returns-clause-tree c = λ total tree next.
    let sums = c.args.self.now.sums.items in let n = c.len-place.result in
    let s = c.below.result - c.below-2.result + c.args.count in
    let e = all (goal.at.returns-clause-tree c).After-len-place in
    let items : c.push.new.self.items ≡ sums ++ s ∷ [] = search rules in
    rw items (pushed total sums tree s (omega (arith, next, c.below.ensures total tree, c.below-2.ensures total tree, ap total e, ap (λ m. total (start_of m)) e, tree.grows (start_of n) n (start-low n))))
