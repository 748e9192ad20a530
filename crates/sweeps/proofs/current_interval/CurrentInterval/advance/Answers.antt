use Rattle.std.proofs.Common.{arith}
use Rattle.sweeps.proofs.Cuts.{ended}
use Rattle.sweeps.proofs.current_interval.CurrentInterval.advance.Goals as goal

pub overflow_add-self : goal.overflow_add-self
overflow_add-self c =
    let (every, trace, done, n, made) = c.requires in omega (arith, made.fits, made.current.size)

pub returns-then-self : goal.returns-then-self
returns-then-self c = λ every trace done n made. record {
  over = tt;
  current = record {
    size = made.current.size;
    used = omega (arith, made.current.size, c.if-self.true);
    place = omega (arith, made.current.place);
    before = made.current.before;
    within = made.within;
    stands = made.stands;
  };
}

pub between-over-requires : goal.between-over-requires
between-over-requires c =
    let (every, trace, done, n, made) = c.requires in
    (ended made c.stats-after.result c.stats-after.ensures (omega (arith, made.current.size, c.if-self.false))).0

pub returns : goal.returns
returns c = λ every trace done n made.
    rw c.between-over.ensures (ended made c.stats-after.result c.stats-after.ensures (omega (arith, made.current.size, c.if-self.false))).1
