use Rattle.std.proofs.Common.{◌≡◌, ◌+◌, ◌-◌, get_or, arith}
use Rattle.std.proofs.lemmas.List.{get_or_read}
use Rattle.std.proofs.lemmas.Nat.{and_le_l}
use Rattle.queue_cache.proofs.FenwickTree.{down}
use Rattle.queue_cache.proofs.fenwick_tree.FenwickTree.below.Goals as goal
use Rattle.queue_cache.proofs.fenwick_tree.FenwickTree.below.Goals.{After-index}

read : (c : goal.After-index) → c.index.result.now ≡ get_or c.args.self.now.sums.items (c.loop-end.end - 1) 0
read c = get_or_read c.args.self.now.sums.items _ _ (omega (arith, c.requires.within, c.loop-end.invariant.0, c.loop-end-test.true)) c.index.ensures 0

pub overflow_add-sum : goal.overflow_add-sum
overflow_add-sum c =
    let sums = c.args.self.now.sums.items in
    let few = c.requires.few in
    let is = down few.0 sums few.1 c.loop-end.end c.loop-end-test.true (omega (arith, c.requires.within, c.loop-end.invariant.0)) in
    omega (arith, read (goal.at.overflow_add-sum c).After-index, is, c.loop-end.invariant.1 few.0 few.1, few.2)

pub loop-end-preserved : goal.loop-end-preserved
loop-end-preserved c = (
  omega (arith, and_le_l c.loop-end.end (c.loop-end.end - 1), c.loop-end.invariant.0),
  λ total tree.
      let is = down total c.args.self.now.sums.items tree c.loop-end.end c.loop-end-test.true (omega (arith, c.requires.within, c.loop-end.invariant.0)) in
      omega (arith, read (goal.at.loop-end-preserved c).After-index, is, c.loop-end.invariant.1 total tree),
)

pub returns : goal.returns
returns c = λ total tree.
    let none : c.loop-end.end ≡ 0 = omega (arith, c.loop-end-test.false) in
    let sum : c.loop-end.sum + total 0 ≡ total c.args.place = rw none at (c.loop-end.invariant.1 total tree) in
    omega (arith, sum, tree.none)
