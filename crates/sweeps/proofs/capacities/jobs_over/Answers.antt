use Rattle.std.proofs.Common.{◌∙◌, sym, arith}
use Rattle.sweeps.proofs.Rows.{more-rows}
use Rattle.sweeps.proofs.capacities.jobs_over.Goals as goal

pub loop-job-preserved : goal.loop-job-preserved
loop-job-preserved c =
    c.in_ok-add_rows.ensures ∙ rw c.loop-job.invariant (sym (more-rows c.args.jobs.now c.args.capacities.now _ c.loop-job.job-index (omega arith)))
