use Rattle.std.proofs.Common.{arith}
use Rattle.policy_actors.proofs.Following.{all_follow}
use Rattle.thread_tests.proofs.reading_tests.assert_reading.Goals as goal

pub run_reading_within-requires-clause-follow : goal.run_reading_within-requires-clause-follow
run_reading_within-requires-clause-follow g c κs within = all_follow _ c.args.jobs.now (omega arith)
