use Rattle.std.proofs.Common.{◌≡◌, length, take}
use Rattle.std.specs.Prelude.{IfSome}
use Rattle.trace_read.specs.Reading.{HasGiven, left_of}
use Rattle.trace_read.specs.TraceText.{keys_in}
use Rattle.trace_read.proofs.reader.read_trace_within.Given as goal

pub record Keeping (A B : Type 0) : Type 0 where
  pub reading : A
  pub kept : B

abbrev pub invariant-pieces : goal.invariant-pieces
invariant-pieces g l = Keeping
    (HasGiven l.fn.limits l.fn.format (g.R.CountedRead.remaining l.fn.reader) (g.R.CountedRead.remaining l.reader) (g.R.CountedRead.tally l.fn.reader) (g.R.CountedRead.tally l.reader) (length l.all.items) l.reading)
    (IfSome (g.R.CountedRead.remaining l.fn.reader) (λ bytes. l.all.items ≡ take (length l.all.items) (keys_in l.fn.format bytes)))

abbrev pub decreases-pieces : goal.decreases-pieces
decreases-pieces g l = left_of l.reading
