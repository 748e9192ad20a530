use Rattle.std.proofs.Common.{◌+◌, ℕ, length}
use Rattle.sweeps.specs.Taking.{Task}
use Rattle.trace_read.specs.Reading.{HasGiven, left_of}
use Rattle.long_traces.specs.Feed.{HasBegun, IsFed}
use Rattle.long_traces.proofs.Fed.{AreWaiting}
use Rattle.long_traces.proofs.feed.read_taken.Given as goal

pub record Taking (Given Fed Wait : ℕ → Type 0) : Type 0 where
  pub place : ℕ
  pub reading : Given place
  pub fed : Fed place
  pub wait : Wait place

abbrev pub invariant-pieces : goal.invariant-pieces
invariant-pieces g l = Taking
    (λ n. HasGiven l.fn.limits l.fn.format (g.R.CountedRead.remaining l.fn.reader) (g.R.CountedRead.remaining l.reader) (g.R.CountedRead.tally l.fn.reader) (g.R.CountedRead.tally l.reader)
    (n + length l.waiting.items) l.reading)
    (λ n. (task : Task) → HasBegun (g.K.Taker.has_taken task) l.fn.taker → IsFed (g.K.Taker.has_taken task) l.fn.format (g.R.CountedRead.remaining l.fn.reader) n l.taker)
    (λ n. AreWaiting l.fn.format (g.R.CountedRead.remaining l.fn.reader) n l.waiting.items)

abbrev pub decreases-pieces : goal.decreases-pieces
decreases-pieces g l = left_of l.reading
