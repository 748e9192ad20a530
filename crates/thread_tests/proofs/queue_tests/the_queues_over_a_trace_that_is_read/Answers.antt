use Rattle.std.proofs.Common.{[]}
use Rattle.std.proofs.lemmas.List.Elements.{All-cons, All-nil}
use Rattle.long_traces.specs.Feed.{CanRun}
use Rattle.trace_read.specs.declared.limits.TheConstants.Limits.{LONG}
use Rattle.thread_tests.proofs.queue_tests.the_queues_over_a_trace_that_is_read.Goals as goal

pub queues_text-read-requires-clause-jobs : goal.queues_text-read-requires-clause-jobs
queues_text-read-requires-clause-jobs g c κs =
    All-cons (CanRun LONG.accesses) c.in_ok-online_job.field-0 [] (c.in_ok-online_job.ensures LONG.accesses) (All-nil (CanRun LONG.accesses))
