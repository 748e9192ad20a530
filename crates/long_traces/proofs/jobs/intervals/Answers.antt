use Rattle.std.proofs.lemmas.Option.{IfSome_then}
use Rattle.sweeps.specs.Taking.{Task}
use Rattle.trace_read.specs.TraceText.{keys_in}
use Rattle.long_traces.proofs.jobs.intervals.Goals as goal

pub rows-requires : goal.rows-requires
rows-requires g c =
    let task : Task = record { jobs = c.args.jobs.now; every = c.args.every } in (task, c.in_ok-runs.ensures.some)

pub returns-clause-rows : goal.returns-clause-rows
returns-clause-rows g c = IfSome_then (g.R.CountedRead.remaining c.args.reader.now) c.in_ok-runs.ensures.taken (λ b has.
    let task : Task = record { jobs = c.args.jobs.now; every = c.args.every } in c.in_ok-rows.ensures task (keys_in c.args.format b) has)
