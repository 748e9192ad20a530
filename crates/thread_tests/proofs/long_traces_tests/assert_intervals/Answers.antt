use Rattle.long_traces.proofs.Following.{both-run}
use Rattle.thread_tests.proofs.long_traces_tests.assert_intervals.Goals as goal

pub intervals-read-requires-clause-jobs : goal.intervals-read-requires-clause-jobs
intervals-read-requires-clause-jobs g c κs within =
    let most = c.limits.result.accesses in
    both-run most c.in_ok-online_job.field-0 c.in_ok-online_job-2.field-0 (c.in_ok-online_job.ensures most) (c.in_ok-online_job-2.ensures most)
