use Rattle.std.proofs.Common.{◌∙◌, ◌++◌, ◌∷◌, [], List, ℕ, ap, arith, length, subst}
use Rattle.std.proofs.lemmas.List.{take_all}
use Rattle.policies.specs.AnyPolicy.{HasAccessed}
use Rattle.policies.specs.Reports.{report_of}
use Rattle.policies.specs.declared.report.Report.{Report}
use Rattle.policies.proofs.FirstAccesses.{any_reports}
use Rattle.sweeps.proofs.job_run.JobRun.add_report.Goals as goal

pub returns : goal.returns
returns c = λ every trace has.
    let run = c.args.self.now in
    c.in_ok-push.ensures.items
    ∙ ap (λ (r : Report). c.args.reports.now.items ++ r ∷ [])
    (c.of.ensures
    ∙ ap (report_of run.job)
    (c.stats.ensures
    ∙ any_reports run.job trace run.cache
    (subst (λ (l : List ℕ). HasAccessed run.job trace l run.cache) (take_all (length trace) trace (omega arith)) has.current.stands)))
