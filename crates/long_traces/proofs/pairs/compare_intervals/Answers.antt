use Rattle.std.proofs.lemmas.Option.{IfSome_then}
use Rattle.trace_read.specs.TraceText.{keys_in}
use Rattle.long_traces.proofs.pairs.compare_intervals.Goals as goal

pub into_rows-requires : goal.into_rows-requires
into_rows-requires g c = (c.args.every, c.args.first.now, c.args.second.now, c.in_ok-run.ensures.some)

pub returns-clause-rows : goal.returns-clause-rows
returns-clause-rows g c = IfSome_then (g.R.CountedRead.remaining c.args.reader.now) c.in_ok-run.ensures.taken (λ b has.
    c.in_ok-into_rows.ensures c.args.every c.args.first.now c.args.second.now (keys_in c.args.format b) has)
