use Rattle.std.proofs.Common.{[], ◌*◌, arith}
use Rattle.sweeps.proofs.Next.{over}
use Rattle.policy_comparison.proofs.Ended.{none-left}
use Rattle.policy_comparison.proofs.queue_run.QueueRunRun.open.Goals as goal

pub returns-clause-begun : goal.returns-clause-begun
returns-clause-begun c = λ other runs. record {
  done = 0;
  current = c.first.ensures c.args.job.now other c.in_ok-cache.cache
      (over c.args.job.now c.args.trace.now other [] c.in_ok-cache.cache runs c.in_ok-cache.ensures.stands);
  left = none-left c.args.job.now other (0 * c.args.every) 0 c.new-left.result.items (omega arith) c.new-left.ensures.items;
  rows = c.new-rows.ensures.items;
}
