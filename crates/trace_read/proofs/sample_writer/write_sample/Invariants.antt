use Rattle.std.proofs.Common.{◌≡◌, ◌≤◌}
use Rattle.std.specs.Prelude.{IfSome}
use Rattle.streams.specs.Tally.{Spends}
use Rattle.streams.specs.declared.retry_budget.TheConstants.{INTERRUPTIONS}
use Rattle.trace_read.specs.Reading.{HasGiven, left_of}
use Rattle.trace_read.specs.TraceText.{keys_in}
use Rattle.trace_read.specs.declared.limits.TheConstants.Limits.{LONG}
use Rattle.trace_read.proofs.Sampled.{IsSampled}
use Rattle.trace_read.proofs.sample_writer.write_sample.Given as goal

abbrev pub invariant-pieces : goal.invariant-pieces
invariant-pieces g l = record {
  reading : HasGiven LONG l.fn.format (g.R.CountedRead.remaining l.initial.reader) (g.R.CountedRead.remaining l.reader) (g.R.CountedRead.tally l.initial.reader) (g.R.CountedRead.tally l.reader) l.accesses l.reading;
  rule : l.sample.test.rule ≡ l.fn.rule;
  few : l.sample.accesses ≤ l.accesses;
  sampled : IfSome (g.R.CountedRead.remaining l.initial.reader) (λ bytes. IsSampled l.fn.rule.inverse l.fn.rule.seed l.accesses l.sample (g.W.CountedWrite.contents l.initial.writer) (g.W.CountedWrite.contents l.writer) (keys_in l.fn.format bytes));
  spent : Spends INTERRUPTIONS l.budget (g.W.CountedWrite.tally l.initial.writer) (g.W.CountedWrite.tally l.writer);
}

abbrev pub decreases-pieces : goal.decreases-pieces
decreases-pieces g l = left_of l.reading
