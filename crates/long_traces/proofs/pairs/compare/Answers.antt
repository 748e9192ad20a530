use Rattle.std.proofs.lemmas.Option.{IfSome_then}
use Rattle.trace_read.specs.TraceText.{keys_in}
use Rattle.long_traces.proofs.pairs.compare.Goals as goal

pub returns-clause-counts : goal.returns-clause-counts
returns-clause-counts g c = IfSome_then (g.R.CountedRead.remaining c.args.reader.now) c.in_ok-run.ensures.taken (λ b has.
    c.counts.ensures 18446744073709551615 c.args.first.now c.args.second.now (keys_in c.args.format b) has)
