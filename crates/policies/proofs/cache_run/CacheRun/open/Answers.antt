use Rattle.policies.proofs.cache_run.CacheRun.open.Goals as goal

pub returns-in-Ok-Some-clause-taken : goal.returns-in-Ok-Some-clause-taken
returns-in-Ok-Some-clause-taken c = (rw c.in-Ok-Some.field-0-is at c.in-Ok-Some.ensures.stands).0
