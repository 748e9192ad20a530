use Rattle.std.proofs.Common.{◌∙◌, subst, Option}
use Rattle.std.proofs.lemmas.Result.{IfOk-weaker}
use Rattle.policies.specs.declared.actor_fault.ActorFault.{ActorFault}
use Rattle.policies.specs.FaultyJobs.{ReturnsFault}
use Rattle.sweeps.proofs.Rows.{one-fault, one-reports}
use Rattle.sweeps.proofs.capacities.sweep.Goals as goal

pub returns-clause-reports : goal.returns-clause-reports
returns-clause-reports g c =
    IfOk-weaker c.sweep_each.result _ _ (λ v h. h ∙ one-reports c.args.job.now c.args.capacities.now c.args.trace.now) c.sweep_each.ensures.reports

pub returns-clause-fault : goal.returns-clause-fault
returns-clause-fault g c =
    subst (λ (f : Option ActorFault). ReturnsFault f c.sweep_each.result) (one-fault c.args.job.now c.args.capacities.now) c.sweep_each.ensures.fault
