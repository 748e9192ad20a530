use Rattle.std.proofs.Common.{ℕ, ap, subst, ◌∙◌}
use Rattle.shell_model.specs.Shell.{Shell}
use Rattle.shell_model.specs.ReachableShell.{IsReachable}
use Rattle.quiet_run.specs.Settle.{AddsSteps}
use Rattle.quiet_run.specs.QuietWalks.{AreQuietWalks}
use Rattle.quiet_run.proofs.QuietRuns.{new-session, later-session}
use Rattle.quiet_run.proofs.run.run_quiet.Goals as goal

pub returns-in-Ok-clause-new : goal.returns-in-Ok-clause-new
returns-in-Ok-clause-new c =
    let reached : IsReachable c.args.session.now.engine = subst IsReachable c.engine-2.ensures.engine c.stripes-stripes.ensures.reached in
    let stripes = c.stripes-stripes.ensures.stripes ∙ ap (λ (x : Shell). x.config.stripes) c.engine-2.ensures.engine in
    new-session c.args.keys.now c.access_all-ended.new.outcomes.items c.args.session.now c.access_all-ended.new.session c.engine-2.ensures.sound c.len.ensures.sound reached c.in-Ok.ensures.opening
    (subst (λ (n : ℕ). AddsSteps (AreQuietWalks n c.args.keys.now c.access_all-ended.new.outcomes.items) c.args.session.now c.access_all-ended.new.session) stripes c.in-Ok.ensures.ok)

pub returns-in-Ok-clause-later : goal.returns-in-Ok-clause-later
returns-in-Ok-clause-later c =
    let reached : IsReachable c.args.session.now.engine = subst IsReachable c.engine-2.ensures.engine c.stripes-stripes.ensures.reached in
    let stripes = c.stripes-stripes.ensures.stripes ∙ ap (λ (x : Shell). x.config.stripes) c.engine-2.ensures.engine in
    later-session c.args.keys.now c.access_all-ended.new.outcomes.items c.args.session.now c.access_all-ended.new.session c.engine-2.ensures.sound c.len.ensures.sound reached c.in-Ok.ensures.opening
    (subst (λ (n : ℕ). AddsSteps (AreQuietWalks n c.args.keys.now c.access_all-ended.new.outcomes.items) c.args.session.now c.access_all-ended.new.session) stripes c.in-Ok.ensures.ok)
