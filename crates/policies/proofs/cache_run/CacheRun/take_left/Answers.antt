use Rattle.std.proofs.Common.{sym, subst}
use Rattle.policies.specs.CacheRun.{HasTaken}
use Rattle.policies.proofs.cache_run.CacheRun.take_left.Goals as goal

pub returns-clause-taken : goal.returns-clause-taken
returns-clause-taken c j trace done s = c.widened.ensures j trace done (subst (HasTaken j trace done) (sym c.replace.ensures.value) s)
