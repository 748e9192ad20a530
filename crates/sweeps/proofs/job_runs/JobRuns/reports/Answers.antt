use Rattle.std.proofs.Common.{◌∙◌, ◌<◌, ap, arith, length, map}
use Rattle.std.proofs.lemmas.List.{take_all}
use Rattle.policies.specs.Reports.{report_on}
use Rattle.sweeps.specs.JobRuns.{JobRun, HasRun}
use Rattle.sweeps.proofs.Each.{has-at, map-more, same-length}
use Rattle.sweeps.proofs.job_runs.JobRuns.reports.Goals as goal

pub loop-i-init : goal.loop-i-init
loop-i-init c = λ task trace have. c.new-reports.ensures.items

pub loop-i-preserved : goal.loop-i-preserved
loop-i-preserved c = λ task trace have.
    let runs = c.args.self.now.runs.items in
    let job_of = λ (run : JobRun). run.job in
    let lt : c.loop-i.i < length runs = omega (arith, c.loop-i-test.true, c.args.self.now.runs.ok.0) in
    map-more job_of HasRun task trace (length trace) runs have c.loop-i.i c.index.result.now lt c.index.ensures (λ j. report_on j trace) c.loop-i.reports.items _
    (c.loop-i.invariant task trace have)
    (c.in_ok-add_report.ensures task.every trace (has-at job_of HasRun task trace (length trace) runs have c.loop-i.i c.index.result.now lt c.index.ensures))

pub returns : goal.returns
returns c = λ task trace have.
    let long = same-length (λ (run : JobRun). run.job) HasRun task trace (length trace) c.args.self.now.runs.items have in
    c.loop-i.invariant task trace have
    ∙ ap (map (λ j. report_on j trace)) (take_all c.loop-i.i task.jobs (omega (arith, long, c.loop-i-test.false, c.args.self.now.runs.ok.0)))
