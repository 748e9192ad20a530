use Rattle.std.proofs.lemmas.Grind.{common_steps}
use Rattle.std.proofs.Common.{ap, sym, ◌∙◌, arith}
use Rattle.shell_model.specs.Shell.{Shell}
use Rattle.shell_model.proofs.Acting.{same-tally}
use Rattle.maintenance.proofs.shell_core.ShellCore.undo.Goals as goal

-- what is undone besides the statistics leaves them
pub uncount-requires : goal.uncount-requires
uncount-requires c =
    let e = ap (λ (x : Shell). x.stats) c.self.view_is
    ∙ (ap (λ (x : Shell). x.stats) c.in-Ok.ensures.ok
    ∙ ap (λ (x : Shell). x.stats) (sym (same-tally c.args.made.change c.args.self.now))) in
    rw e c.requires.fits.stats

pub returns-in-Ok-clause-ok : goal.returns-in-Ok-clause-ok
returns-in-Ok-clause-ok c = grind (arith, common_steps)
