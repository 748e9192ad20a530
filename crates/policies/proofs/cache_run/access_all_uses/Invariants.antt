use Rattle.policies.proofs.Stretches.{HasMade}
use Rattle.policies.proofs.cache_run.access_all_uses.Given as goal

abbrev pub invariant-loop-i : goal.invariant-loop-i
invariant-loop-i l = HasMade l.uses l.i l.initial.cache l.cache
