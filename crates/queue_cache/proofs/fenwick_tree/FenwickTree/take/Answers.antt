use Rattle.std.proofs.Common.{◌≡◌, ◌-◌, ◌<◌, ◌≤◌, length, get_or, arith}
use Rattle.std.proofs.lemmas.List.{get_or_read}
use Rattle.queue_cache.proofs.FenwickTree.{next-taken, next-high, some-there, all-taken}
use Rattle.queue_cache.proofs.fenwick_tree.FenwickTree.take.Goals as goal
use Rattle.queue_cache.proofs.fenwick_tree.FenwickTree.take.Goals.{After-index_mut}

within : (c : goal.After-index_mut) → c.loop-at.at < length c.args.self.now.sums.items
within c = omega (arith, c.loop-at-test.true, c.len.ensures, c.loop-at.invariant.long)

read : (c : goal.After-index_mut) → c.index_mut.result.now ≡ get_or c.loop-at.self.sums.items c.loop-at.at 0
read c = get_or_read c.loop-at.self.sums.items _ _ (omega (arith, c.loop-at-test.true, c.len.ensures)) c.index_mut.ensures.value 0

some : (c : goal.After-index_mut) → 1 ≤ c.index_mut.result.now
some c = omega (arith, read c, some-there c.args.place c.args.self.now.sums.items c.loop-at.self.sums.items c.loop-at.at c.loop-at.invariant c.requires.0 c.requires.1 c.requires.2 (within c))

pub overflow_sub-index_mut : goal.overflow_sub-index_mut
overflow_sub-index_mut c = some (goal.at.overflow_sub-index_mut c).After-index_mut

pub loop-at-preserved : goal.loop-at-preserved
loop-at-preserved c = let at = (goal.at.loop-at-preserved c).After-index_mut in
    next-taken c.args.place c.args.self.now.sums.items c.loop-at.self.sums.items c.loop-at.at c.loop-at.invariant (c.index_mut.result.now - 1) (within at) (omega (arith, read at, some at))

pub loop-at-smaller : goal.loop-at-smaller
loop-at-smaller c = omega (arith, next-high c.loop-at.at, within (goal.at.loop-at-smaller c).After-index_mut)

pub returns-clause-tree : goal.returns-clause-tree
returns-clause-tree c = λ total less tree one some.
    all-taken c.args.place c.args.self.now.sums.items c.loop-at.self.sums.items c.loop-at.at c.loop-at.invariant total tree some less one (omega (arith, c.loop-at-test.false, c.len.ensures, c.loop-at.invariant.long))
