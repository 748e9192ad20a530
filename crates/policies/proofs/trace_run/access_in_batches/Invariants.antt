use Rattle.std.proofs.Common.{◌≡◌, ◌*◌, drop}
use Rattle.engine_base.specs.declared.limits.TheConstants.{MAX_BATCH}
use Rattle.policies.proofs.Stretches.{HasMade}
use Rattle.policies.proofs.trace_run.access_in_batches.Given as goal

abbrev pub invariant-loop-number : goal.invariant-loop-number
invariant-loop-number g l =
    (l.rest ≡ drop (l.number * MAX_BATCH) l.keys) × HasMade l.keys (l.number * MAX_BATCH) l.initial.cache l.cache
