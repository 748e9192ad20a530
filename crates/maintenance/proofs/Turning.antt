-- A change leaves the statistics and the count of steps to what comes round it.
use Rattle.std.proofs.Common.{◌≡◌, true, false, refl}
use Rattle.shell_model.specs.declared.record.Change.{Change}
use Rattle.shell_model.specs.declared.record.Change.TheVariants.{Nothing, Applied}
use Rattle.shell_model.specs.Changes.{after_change}
use Rattle.shell_model.specs.Shell.{Shell}

pub same-stats : (c : Change) (x : Shell) → (after_change c x).stats ≡ x.stats
same-stats Nothing x = refl
same-stats (Applied p true i u) x = refl
same-stats (Applied p false i u) x = refl
same-stats c x = refl

pub same-applied : (c : Change) (x : Shell) → (after_change c x).applied ≡ x.applied
same-applied Nothing x = refl
same-applied (Applied p true i u) x = refl
same-applied (Applied p false i u) x = refl
same-applied c x = refl
