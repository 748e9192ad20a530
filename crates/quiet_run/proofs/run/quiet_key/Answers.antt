use Rattle.std.proofs.Common.{ℕ, Option, ◌++◌, sym, subst}
use Rattle.std.proofs.lemmas.Result.{IfOk-weaker, on_err_weaker}
use Rattle.engine_base.specs.declared.step.Call.TheVariants as call
use Rattle.shell_model.specs.Walks.{IsWalk}
use Rattle.quiet_run.specs.QuietWalks.{with_rounds}
use Rattle.quiet_run.specs.Settle.{Holder, IsAtStart}
use Rattle.quiet_run.proofs.Adding.{adds_known}
use Rattle.quiet_run.proofs.run.quiet_key.Goals as goal

pub finish_walk-requires-clause-place : goal.finish_walk-requires-clause-place
finish_walk-requires-clause-place c =
    subst (λ (o : Option Holder). IsAtStart o c.start-local.result.worker c.start-local.result.act) (sym c.requires.none) (c.args.key, c.start-local.ensures.place.0)

pub returns-clause-ok : goal.returns-clause-ok
returns-clause-ok c =
    IfOk-weaker c.finish_walk.result _ _
    (λ o m. adds_known _ _ _ _ m (λ es h. (subst (λ (v : ℕ). IsWalk v c.args.stripes (call.Read c.args.key) (with_rounds es)) c.first_worker.ensures ((c.start-local.ensures.ahead (with_rounds es)).1 h.0), h.1)))
    c.finish_walk.ensures.ok

pub returns-clause-err : goal.returns-clause-err
returns-clause-err c =
    on_err_weaker c.finish_walk.result
    (λ m. adds_known _ _ _ _ m
    (λ es h. (h.0, h.1, subst (λ (v : ℕ). IsWalk v c.args.stripes (call.Read c.args.key) (with_rounds (es ++ h.0))) c.first_worker.ensures ((c.start-local.ensures.ahead (with_rounds (es ++ h.0))).1 h.2))))
    c.finish_walk.ensures.err
