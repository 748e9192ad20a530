use Rattle.std.proofs.Common.{◌≤◌, ap, ◌∙◌, arith}
use Rattle.shell_model.specs.Shell.{Shell}
use Rattle.shell_model.proofs.Bounding.{all-counts}
use Rattle.maintenance.proofs.Turning.{same-stats, same-applied}
use Rattle.maintenance.proofs.shell_core.ShellCore.apply.Goals as goal

pub count-requires : goal.count-requires
count-requires c =
    let made = (rw c.in-Ok-Some.field-0-is at c.in-Ok-Some.ensures.performed).1 in
    let same = ap (λ (x : Shell). x.stats) (c.self-2.view_is ∙ made) ∙ same-stats c.in-Ok-Some.change c.args.self.now in
    rw same (all-counts (λ n. n ≤ 4294967296) c.args.self.now.stats c.requires.counts c.of-counted.result)

pub invariant_of-self : goal.invariant_of-self
invariant_of-self c =
    let made = (rw c.in-Ok-Some.field-0-is at c.in-Ok-Some.ensures.performed).1 in
    let e = ap (λ (x : Shell). x.applied) (c.self-2.view_is ∙ made) ∙ same-applied c.in-Ok-Some.change c.args.self.now in
    let f = ap (λ (x : Shell). x.applied) c.self.view_is in
    (c.self-2.invariant.0, omega (arith, e, f, c.if-self-ge-MAX_STEPS.false), c.self-2.invariant.2, c.self-2.invariant.3)
