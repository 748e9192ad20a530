use Rattle.std.proofs.Common.{[]}
use Rattle.sweeps.proofs.Next.{over}
use Rattle.sweeps.proofs.job_run.JobRunRun.open.Goals as goal

pub returns-clause-begun : goal.returns-clause-begun
returns-clause-begun c = λ other runs. record {
  done = 0;
  current = c.first.ensures c.args.job.now other c.in_ok-cache.cache
      (over c.args.job.now c.args.trace.now other [] c.in_ok-cache.cache runs c.in_ok-cache.ensures.stands);
  rows = c.new.ensures.items;
}
