use Rattle.std.proofs.Common.{◌∙◌, ap, sym, subst, map}
use Rattle.std.proofs.lemmas.List.{map-id}
use Rattle.std.proofs.lemmas.Result.{IfOk-weaker}
use Rattle.policies.specs.Reports.{report_on}
use Rattle.sweeps.specs.Sweep.{AreAccepted}
use Rattle.sweeps.proofs.Joined.{each_shown}
use Rattle.sweeps.proofs.Rows.{rows_accepted}
use Rattle.sweeps.proofs.capacities.reports.Goals as goal

pub of-requires : goal.of-requires
of-requires g c =
    subst AreAccepted (sym (c.as_slice-rows.ensures.value ∙ c.in_ok-rows.ensures)) (rows_accepted c.args.jobs.now c.args.capacities.now c.requires)

pub made_by_each-requires-clause-checked : goal.made_by_each-requires-clause-checked
made_by_each-requires-clause-checked g c κs within =
    subst AreAccepted (sym (c.as_slice-rows.ensures.value ∙ c.in_ok-rows.ensures)) (rows_accepted c.args.jobs.now c.args.capacities.now c.requires)

pub returns : goal.returns
returns g c =
    let trace = c.in_ok-prepared.ensures.trace in
    let rows = c.as_slice-rows.ensures.value ∙ c.in_ok-rows.ensures in
    IfOk-weaker c.made_by_each.result _ _ (λ v h.
    sym (map-id v.items)
    ∙ each_shown (λ j. report_on j c.in_ok-prepared.prepared.trace.now) (λ r. r) c.as_slice-rows.result.now v.items h
    ∙ ap (λ t. map (λ j. report_on j t) c.as_slice-rows.result.now) trace
    ∙ ap (map (λ j. report_on j c.args.trace.now)) rows) c.made_by_each.ensures
