use Rattle.trace_read.specs.Reading.{IsSomeReading, left_of}
use Rattle.trace_tests.proofs.trace_read_tests.all_given.Given as goal

abbrev pub invariant-pieces : goal.invariant-pieces
invariant-pieces g l = IsSomeReading (g.R.CountedRead.remaining l.pieces) (g.R.CountedRead.tally l.pieces) l.reading

abbrev pub decreases-pieces : goal.decreases-pieces
decreases-pieces g l = left_of l.reading
