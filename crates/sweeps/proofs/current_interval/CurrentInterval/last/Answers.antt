use Rattle.std.proofs.Common.{ℕ, None, Some, List, length, refl, arith}
use Rattle.sweeps.specs.CurrentInterval.{AreMade, IsCurrent, IsIntervalTo}
use Rattle.sweeps.proofs.Covers.{covers-part, covers-whole}
use Rattle.sweeps.proofs.Cuts.{all-rows, last-row}
use Rattle.sweeps.proofs.current_interval.CurrentInterval.last.Goals.{Start}
use Rattle.sweeps.proofs.current_interval.CurrentInterval.last.Goals as goal

-- the accesses that were made, and no more
all : (every : ℕ) (trace : List ℕ) (done : ℕ) (c : Start) → IsCurrent c.args.job.now every trace done (length trace) c.args.cache.now c.args.self.now
    → AreMade c.args.job.now every trace done (length trace) (length trace) c.args.cache.now c.args.self.now
all every trace done c current = record {
  old = c.args.cache.now;
  current = current;
  fits = omega (arith, current.used);
  within = current.within;
  stands = current.stands;
}

pub returns-then-self-eq0 : goal.returns-then-self-eq0
returns-then-self-eq0 c = λ every trace done current.
    let whole = covers-whole done every (length trace) (omega (arith, current.used)) (omega (arith, current.place, c.if-self-eq0.true)) in
    (tt, all-rows c.args.job.now every trace done (length trace) None tt (omega (arith, whole)))

pub between-requires : goal.between-requires
between-requires c =
    let (every, trace, done, current) = c.requires in
    (last-row (all every trace done ((goal.at.between-requires c).Start) current) c.stats.result c.stats.ensures refl (omega (arith, current.place, c.if-self-eq0.false))).0

pub returns : goal.returns
returns c = λ every trace done current.
    let row = (last-row (all every trace done ((goal.at.returns c).Start) current) c.stats.result c.stats.ensures refl (omega (arith, current.place, c.if-self-eq0.false))).1 in
    let part = covers-part done every c.args.self.now.used (length trace) (omega (arith, current.used)) (omega (arith, c.if-self-eq0.false))
    (omega (arith, current.used)) current.place in
    let is : IsIntervalTo c.args.job.now every trace done (length trace) c.between.result = rw c.between.ensures row in
    (is, all-rows c.args.job.now every trace done (length trace) (Some c.between.result) is (omega (arith, part)))
