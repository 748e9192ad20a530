use Rattle.std.proofs.Common.{◌≡◌, IfOk, IfSome, map, subst, rules}
use Rattle.policies.specs.Reports.{report_on}
use Rattle.trace_read.specs.TraceText.{keys_in}
use Rattle.policy_actors.proofs.ReadTo.{of_bytes, with_fault, with_end, without_memory}
use Rattle.policy_actors.proofs.run.run_reading_within.Goals as goal

pub returns-in-Ok-reports-clause-read : goal.returns-in-Ok-reports-clause-read
returns-in-Ok-reports-clause-read g c = with_end _ _ _ _ _ _ _ c.in-Ok.is (search rules)

pub returns-in-Ok-clause-read : goal.returns-in-Ok-clause-read
returns-in-Ok-clause-read g c = without_memory _ _ _ _ _ _ c.in-Ok.is (search rules)

pub returns-clause-read : goal.returns-clause-read
returns-clause-read g c = with_fault _ _ _ _ _ _ c.in-Err.is (search rules)

pub returns-in-Ok-reports-clause-reports : goal.returns-in-Ok-reports-clause-reports
returns-in-Ok-reports-clause-reports g c =
    subst (λ r. IfOk r (λ v. IfSome (g.R.CountedRead.remaining c.args.reader.now) (λ bytes. v.items ≡ map (λ j. report_on j (keys_in c.args.format bytes)) c.args.jobs.now))) c.in-Ok-reports.is
    (of_bytes (λ all v. v.items ≡ map (λ j. report_on j all) c.args.jobs.now) c.args.format _ _ c.run_actors_from-reader.ensures.reports)
