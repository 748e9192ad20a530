use Rattle.std.proofs.Common.{◌∙◌, ap}
use Rattle.policies.specs.Reports.{report_of}
use Rattle.sweeps.proofs.NumberedReports.{numbered-report}
use Rattle.sweeps.proofs.numbered_report.report_by_numbers.Goals as goal

pub returns : goal.returns
returns g c trace are =
    c.of.ensures ∙ ap (report_of c.args.job.now) c.stats.ensures
    ∙ numbered-report c.demand_ignores_names.ensures c.args.job.now c.args.policy c.requires.checked c.requires.policy trace c.as_slice.result.now c.new-cache.result c.access_in_batches.new.cache
    c.new-cache.ensures.queues c.new-cache.ensures.stats (c.as_slice.ensures.numbers ∙ are) c.in_ok-access_in_batches.ensures
