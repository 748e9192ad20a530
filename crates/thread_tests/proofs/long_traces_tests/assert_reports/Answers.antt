use Rattle.long_traces.proofs.Following.{both-run}
use Rattle.thread_tests.proofs.long_traces_tests.assert_reports.Goals as goal

pub reports-read-requires-clause-jobs : goal.reports-read-requires-clause-jobs
reports-read-requires-clause-jobs g c κs within =
    let most = c.limits.result.accesses in
    both-run most c.in_ok-online_job.field-0 c.in_ok-online_job-2.field-0 (c.in_ok-online_job.ensures most) (c.in_ok-online_job-2.ensures most)
