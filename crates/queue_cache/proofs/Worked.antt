-- The worked examples, by computation.
use Rattle.std.proofs.Common.{refl}
use Rattle.replacement.specs.Table.{access}
use Rattle.queue_cache.specs.AdaptiveExamples.{WorkedExample, JumpingExample, PeriodsExample}

pub worked : WorkedExample
unfolding access
worked = record { rules = refl; periods = (refl, refl); restarts_at = (refl, refl); counts = refl; state = refl }

pub jumping : JumpingExample
unfolding access
jumping = record { shrunk = refl; counts = refl; grown = refl }

pub periods : PeriodsExample
unfolding access
periods = record { second = refl; third = refl }
