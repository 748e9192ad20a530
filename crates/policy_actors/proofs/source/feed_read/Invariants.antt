use Rattle.std.proofs.Common.{◌+◌, length}
use Rattle.std.specs.Prelude.{IfSome}
use Rattle.trace_read.specs.Reading.{HasGiven, left_of}
use Rattle.policy_actors.proofs.Pieces.{AreWaiting}
use Rattle.policy_actors.proofs.source.feed_read.Given as goal

pub record Feeding (A B : Type 0) : Type 0 where
  pub reading : A
  pub wait : B

abbrev pub invariant-pieces : goal.invariant-pieces
invariant-pieces g l = Feeding
    (HasGiven l.fn.limits l.fn.format (g.R.CountedRead.remaining l.fn.reader) (g.R.CountedRead.remaining l.reader) (g.R.CountedRead.tally l.fn.reader) (g.R.CountedRead.tally l.reader)
    (l.feeder.place + length l.waiting.items) l.reading)
    (IfSome g.S.FedTrace.known (AreWaiting l.feeder.place (l.feeder.place + length l.waiting.items) l.waiting.items))

abbrev pub decreases-pieces : goal.decreases-pieces
decreases-pieces g l = left_of l.reading
