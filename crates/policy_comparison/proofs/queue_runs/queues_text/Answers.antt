use Rattle.std.proofs.Common.{refl, inl}
use Rattle.policy_comparison.specs.QueueRun.{Task}
use Rattle.policy_comparison.proofs.queue_runs.queues_text.Goals as goal

pub take_trace-requires-after_bounds : goal.take_trace-requires-after_bounds
take_trace-requires-after_bounds g c κs within =
    let task : Task = record { jobs = c.args.jobs.now; every = c.args.every } in (task, c.in_ok-runs.ensures c.args.trace.now (λ k d lt. inl refl))

pub text-requires : goal.text-requires
text-requires g c =
    let task : Task = record { jobs = c.args.jobs.now; every = c.args.every } in
    (task, record { trace = c.args.trace.now; taken = c.in_ok-take_trace.ensures task (c.in_ok-runs.ensures c.args.trace.now (λ k d lt. inl refl)) })

pub returns : goal.returns
returns g c =
    let task : Task = record { jobs = c.args.jobs.now; every = c.args.every } in
    c.text.ensures task c.args.trace.now (c.in_ok-take_trace.ensures task (c.in_ok-runs.ensures c.args.trace.now (λ k d lt. inl refl)))
