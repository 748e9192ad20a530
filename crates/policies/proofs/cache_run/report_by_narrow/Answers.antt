use Rattle.std.proofs.Common.{ap, ◌∙◌}
use Rattle.policies.specs.declared.any_policy.AnyPolicy.TheVariants.{Demand}
use Rattle.policies.specs.Reports.{report_of}
use Rattle.policies.proofs.cache_run.report_by_narrow.Goals as goal

pub returns : goal.returns
returns c trace s = c.of.ensures ∙ ap (report_of c.args.job.now) (c.stats.ensures ∙ c.any_reports.ensures c.args.job.now trace (Demand c.args.cache) s)
