use Rattle.std.proofs.Common.{refl, inl}
use Rattle.policies.proofs.Accepted.{accepted}
use Rattle.sweeps.specs.JobRuns.{Task}
use Rattle.sweeps.proofs.interval_rows.rows.Goals as goal

pub open-requires-clause-checked : goal.open-requires-clause-checked
open-requires-clause-checked g c = λ k d lt. accepted 0 c.args.jobs.now k d c.requires.checked lt

pub take_trace-requires-after_bounds : goal.take_trace-requires-after_bounds
take_trace-requires-after_bounds g c κs within =
    let task : Task = record { jobs = c.args.jobs.now; every = c.args.every } in (task, c.in_ok-runs.ensures c.args.trace.now (λ k d lt. inl refl))

pub rows-requires : goal.rows-requires
rows-requires g c =
    let task : Task = record { jobs = c.args.jobs.now; every = c.args.every } in
    (task, record { trace = c.args.trace.now; taken = c.in_ok-take_trace.ensures task (c.in_ok-runs.ensures c.args.trace.now (λ k d lt. inl refl)) })

pub returns : goal.returns
returns g c =
    let task : Task = record { jobs = c.args.jobs.now; every = c.args.every } in
    c.rows.ensures task c.args.trace.now (c.in_ok-take_trace.ensures task (c.in_ok-runs.ensures c.args.trace.now (λ k d lt. inl refl)))
