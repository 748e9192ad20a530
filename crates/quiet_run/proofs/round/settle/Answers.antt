use Rattle.std.proofs.Common.{◌≡◌, ◌-◌, Some, length, option_map, sym, ap, subst, ◌∙◌}
use Rattle.engine_base.specs.History.{Entries}
use Rattle.shell_model.specs.Shell.{Shell}
use Rattle.maintenance.specs.EmptyShell.{holder_parts}
use Rattle.shell_model.specs.NextActs.{IsAheadOf}
use Rattle.quiet_run.specs.QuietWalks.{with_rounds}
use Rattle.quiet_run.specs.Settle.{IsRefusalCause, IsRest}
use Rattle.quiet_run.proofs.Adding.{adds_counted, held_rest, held_start, held_worker}
use Rattle.quiet_run.proofs.round.settle.Goals as goal
use Rattle.quiet_run.proofs.round.settle.Goals.{After-resume-local}

holds : (c : goal.After-resume-local) → option_map holder_parts c.args.session.now.engine.holder ≡ Some (c.in-Some.holder.0, c.in-Some.holder.1, c.in-Some.holder.2)
holds c = ap (λ (x : Shell). option_map holder_parts x.holder) (sym c.engine.ensures.engine) ∙ sym c.holder.ensures ∙ c.in-Some.is

rest : (c : goal.After-resume-local) (es : Entries) → IsAheadOf c.resume-local.result (with_rounds es) → IsRest c.args.session.now.engine.config.stripes c.args.session.now.engine.holder es
rest c es h =
    held_rest c.resume-local.result _ c.args.session.now.engine.holder c.in-Some.holder.0 c.in-Some.holder.1 c.in-Some.holder.2 (holds c) c.resume-local.ensures.same.0
    (c.resume-local.ensures.same.1 ∙ c.stripes-stripes.ensures.stripes ∙ ap (λ (x : Shell). x.config.stripes) c.engine-2.ensures.engine) c.resume-local.ensures.place es h

pub finish_walk-requires-clause-place : goal.finish_walk-requires-clause-place
finish_walk-requires-clause-place c =
    held_start c.resume-local.result c.args.session.now.engine.holder c.in-Some.holder.0 c.in-Some.holder.1 c.in-Some.holder.2 (holds (goal.at.finish_walk-requires-clause-place c).After-resume-local)
    c.resume-local.ensures.same.0 c.resume-local.ensures.place.0

pub returns-in-Ok-clause-ok : goal.returns-in-Ok-clause-ok
returns-in-Ok-clause-ok c =
    adds_counted _ _ _ c.args.session.now c.finish_walk.new.session c.in-Ok.ensures.ok (ap (λ n. n - c.len-before.result) c.len.ensures.len ∙ ap (λ n. length c.finish_walk.new.session.kept - n) c.len-before.ensures.len)
    (λ es h. rest (goal.at.returns-in-Ok-clause-ok c).After-resume-local es h.0)

pub returns-in-Err-clause-err : goal.returns-in-Err-clause-err
returns-in-Err-clause-err c =
    adds_counted _ _ _ c.args.session.now c.finish_walk.new.session c.in-Err.ensures.err
    (c.settle_fault.ensures.steps ∙ ap (λ n. n - c.len-before.result) c.len-in-Err.ensures.len ∙ ap (λ n. length c.finish_walk.new.session.kept - n) c.len-before.ensures.len)
    (λ es h. (h.0, h.1, rest (goal.at.returns-in-Err-clause-err c).After-resume-local _ h.2))

pub returns-in-Err-clause-held : goal.returns-in-Err-clause-held
returns-in-Err-clause-held c =
    let held = held_worker c.args.session.now.engine.holder c.in-Some.holder.0 c.in-Some.holder.1 c.in-Some.holder.2 (holds (goal.at.returns-in-Err-clause-held c).After-resume-local) in
    c.in-Err.ensures.held c.in-Some.holder.0 held ∙ sym held

pub returns-in-Err-clause-cause : goal.returns-in-Err-clause-cause
returns-in-Err-clause-cause c = subst (λ f. IsRefusalCause f c.finish_walk.new.session) (sym c.settle_fault.ensures.cause) c.in-Err.ensures.cause

pub settle_fault-requires : goal.settle_fault-requires
settle_fault-requires c = λ same. subst (λ f. IsRefusalCause f c.finish_walk.new.session) same c.in-Err.ensures.cause
