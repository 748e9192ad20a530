use Rattle.std.proofs.lemmas.Grind.{common_steps}
use Rattle.std.proofs.Common.{◌≡◌, Some, true, not, refl, ap, sym, ◌∙◌, arith}
use denote.Enum.Bare.{sameb}
use Rattle.engine_base.specs.declared.drain.Phase.TheVariants as phase
use Rattle.engine_base.specs.contracts.drain.Phase.{the_type}
use Rattle.shell_model.specs.declared.record.Change.{Change}
use Rattle.shell_model.specs.Changes.{Phase, after_change, without_task}
use Rattle.shell_model.specs.Shell.{Reply, Shell, may_write}
use Rattle.maintenance.proofs.Tasks.{held-is, has-task, task-holder, with-oldest, task-replies, task-leaves}
use Rattle.maintenance.proofs.shell_core.ShellCore.drain_write.Goals as goal

may-write : (p : Phase) → not (sameb the_type p phase.Evictions) ≡ true → may_write p ≡ true
may-write phase.Reads e = refl
may-write phase.Writes e = refl
may-write phase.Evictions e = absurd (cc e)

pub take_task-requires : goal.take_task-requires
take_task-requires c =
    let held = held-is c.args.worker c.args.self.now.holder c.in-Some.holder (sym c.held_by.ensures ∙ c.in-Some.is) in
    has-task _ c.in-Some.holder (ap (λ (x : Shell). x.holder) c.in_ok-made.ensures.state ∙ task-holder _ c.args.self.now ∙ held) c.if-holder-eq0.false

pub returns-clause-performed : goal.returns-clause-performed
returns-clause-performed c =
    let x : Shell = c.args.self.now in
    let tasks : c.tasks.result.now ≡ c.args.self.now.writes = c.tasks.ensures ∙ ap (λ (y : Shell). y.writes) c.self.view_is in
    let may : may_write c.in-Some.holder.phase ≡ true = may-write c.in-Some.holder.phase (sym c.ne.ensures ∙ c.if-ne.true) in (
      task-replies c.args.worker c.args.self.now c.in-Some.holder _ _ (sym c.held_by.ensures ∙ c.in-Some.is) may (sym tasks ∙ with-oldest c.tasks.result.now _ c.in-len1-up.len_at_least) c.if-holder-eq0.false
          ∙ ap Some (sym c.in_ok-made.ensures.made),
      c.take_task.ensures ∙ ap without_task c.in_ok-made.ensures.state ∙ task-leaves _ c.in-Some.holder.phase c.args.self.now
          ∙ ap (λ (p : Reply × Change). after_change p.1 c.args.self.now) (sym c.in_ok-made.ensures.made),
    )

pub apply_task-requires-clause-absent : goal.apply_task-requires-clause-absent
apply_task-requires-clause-absent c = grind (arith, common_steps)
