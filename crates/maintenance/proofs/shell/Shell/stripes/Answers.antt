use Rattle.std.proofs.Common.{◌≡◌, length, ap, subst, ◌∙◌, sym}
use Rattle.shell_model.specs.Shell.{Shell}
use Rattle.shell_model.specs.ReachableShell.{IsReachable}
use Rattle.shell_model.proofs.Striped.{striped-law, stripes_checked}
use Rattle.maintenance.specs.declared.shell.Shell.TheInside.{Inside}
use Rattle.maintenance.proofs.shell.Shell.stripes.Goals as goal

pub returns-clause-count : goal.returns-clause-count
returns-clause-count c =
    let now : c.self.inside.core ≡ c.args.self.now = c.self.view_is in
    ap (λ (x : Shell). length x.stripes) (sym now) ∙ striped-law c.self.inside.core c.self.invariant
    ∙ ap (λ (x : Inside). x.core.config.stripes) (sym c.self-inside.view_is)

pub returns-clause-range : goal.returns-clause-range
returns-clause-range c = rw (ap (λ (x : Inside). x.core.config.stripes) c.self-inside.view_is) (stripes_checked c.self.inside.core.config c.self.invariant.checked)

pub returns-clause-reached : goal.returns-clause-reached
returns-clause-reached c = subst IsReachable (let now : c.self.inside.core ≡ c.args.self.now = c.self.view_is in now) c.self.invariant
