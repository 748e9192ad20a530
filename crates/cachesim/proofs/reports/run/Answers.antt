use Rattle.std.proofs.Common.{◌≡◌, ◌∙◌, ap, arith, rules, subst, List, None}
use Rattle.std.proofs.lemmas.Option.{IfSome_then}
use Rattle.trace_read.specs.TraceText.{keys_in}
use Rattle.policy_actors.specs.Faults.{Job, actor_fault}
use Rattle.report.specs.Text.{reports_text}
use Rattle.cachesim.specs.TraceOutput.{AreFew, reports_on}
use Rattle.cachesim.proofs.Accepting.{can_follow, can_run}
use Rattle.cachesim.proofs.reports.run.Goals as goal

pub run_reading_within-requires-2-clause-due : goal.run_reading_within-requires-2-clause-due
run_reading_within-requires-2-clause-due g c κs within =
    let can : actor_fault c.args.arguments.now.batch c.as_slice-jobs.result.now ≡ None = can_run c.args.arguments.now c.as_slice-jobs.result.now c.requires.accepted
    c.as_slice-jobs.ensures (omega arith) in
    search rules

pub run_reading_within-requires-2-clause-follow : goal.run_reading_within-requires-2-clause-follow
run_reading_within-requires-2-clause-follow g c κs within =
    can_follow c.args.arguments.now c.as_slice-jobs.result.now c.requires.accepted c.requires.kept c.as_slice-jobs.ensures

pub returns : goal.returns
returns g c =
    let format = c.args.arguments.now.jobs.format in
    let input = g.R.CountedRead.remaining c.args.input.now in
    let jobs = c.as_slice-jobs.ensures in
    let text = c.in_ok-reports_text.ensures ∙ ap reports_text c.as_slice.ensures.value in
    let few : AreFew c.args.arguments.now.jobs.list = subst AreFew jobs (omega arith) in
    let sound = c.in_ok-reports.ensures.read.ok in
    let made = IfSome_then input c.in_ok-reports.ensures.reports (λ bytes is. text ∙ ap reports_text (is ∙ ap (λ (js : List Job). reports_on js (keys_in format bytes)) jobs)) in
    record { text = search (rules, few, sound, made); fault = search rules; reads = search rules; unwritten = search rules }
