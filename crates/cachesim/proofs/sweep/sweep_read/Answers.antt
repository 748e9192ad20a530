use Rattle.std.proofs.Common.{◌∙◌, ap, arith, rules, subst, List}
use Rattle.std.proofs.lemmas.Option.{IfSome_then}
use Rattle.trace_read.specs.TraceText.{keys_in}
use Rattle.report.specs.Text.{reports_text}
use Rattle.cachesim.specs.TraceOutput.{Job, AreFew, reports_on}
use Rattle.cachesim.proofs.Accepting.{swept_rows, sweeps_run}
use Rattle.cachesim.proofs.sweep.sweep_read.Goals as goal

pub reports-reports-requires-clause-jobs : goal.reports-reports-requires-clause-jobs
reports-reports-requires-clause-jobs g c κs within =
    let rows = swept_rows c.args.arguments.now _ _ _ c.as_slice-2.ensures c.as_slice-3.ensures (c.as_slice-4.ensures.value ∙ c.in_ok-each.ensures) in
    sweeps_run c.args.arguments.now c.as_slice-4.result.now c.requires.accepted c.requires.kept rows

pub returns : goal.returns
returns g c =
    let format = c.args.arguments.now.jobs.format in
    let input = g.R.CountedRead.remaining c.args.input.now in
    let rows = swept_rows c.args.arguments.now _ _ _ c.as_slice-2.ensures c.as_slice-3.ensures (c.as_slice-4.ensures.value ∙ c.in_ok-each.ensures) in
    let text = c.in_ok-reports_text.ensures ∙ ap reports_text c.as_slice-5.ensures.value in
    let few : AreFew c.args.arguments.now.jobs.list = subst AreFew c.as_slice.ensures (omega arith) in
    let sound = c.in_ok-reports-2.ensures.read.ok in
    let made = IfSome_then input c.in_ok-reports-2.ensures.reports (λ bytes is. text ∙ ap reports_text (is ∙ ap (λ (js : List Job). reports_on js (keys_in format bytes)) rows)) in
    record { text = search (rules, few, sound, made); fault = search rules; reads = search rules; unwritten = search rules }
